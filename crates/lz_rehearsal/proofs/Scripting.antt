-- Scripts that are read a line at a time.
use Rattle.std.proofs.Common.{◌≡◌, ◌≢◌, ℕ, ◌+◌, ◌-◌, ◌*◌, ◌<◌, ◌≤◌, ◌⊎◌, inl, inr, List, [], ◌∷◌, ◌++◌, length, take, drop, Bool, true, false, nat_lt, Option}
use Rattle.std.proofs.Common.{Some, None, option_map, IfSome, refl, sym, ap, subst, ◌∙◌, arith, append_assoc, length-append}
use Rattle.std.proofs.lemmas.{List.{take-append-drop, drop_more, take_all, length-take, take_rest}, Bool.Decides.{nat_tests}}
use Rattle.memchr.specs.Find.{IsFirstByte, is_byte}
use Rattle.lz_proto.specs.Lines.{has_line_feed, line_feed}
use Rattle.lz_rehearsal.specs.declared.{line.Line.{Line}, script.ScriptFault.{ScriptFault, TheVariants.{Line as BadLine, Read, Memory}}}
use Rattle.lz_rehearsal.specs.{Scripts.{FailsAt, HasNoLine, IsScript, Reads, nothing, more, line_read}, Limits.{most_bytes, most_length, most_lines}}
use Rattle.lz_rehearsal.specs.Scripting.{AddsLine, IsFaultOf, IsLineFault}
use Rattle.lz_slot.proofs.Texts.Cuts.{cut_at, first_cut, lacks_all, lacks_first, stands}

-- one line more
reads_snoc : (front : List ℕ) (lines : List Line) (t : List ℕ) (line : Line) → Reads front lines → has_line_feed t ≡ false → line_read t ≡ Some line
    → Reads (front ++ (t ++ line_feed ∷ [])) (lines ++ line ∷ [])
reads_snoc _ _ t line nothing clear is = more t line [] [] clear is nothing
reads_snoc _ _ t line (more s first rest lines clear_s is_s reads) clear is =
    subst (λ (x : List ℕ). Reads x (first ∷ lines ++ line ∷ [])) (sym (append_assoc s (line_feed ∷ rest) (t ++ line_feed ∷ [])))
    (more s first (rest ++ (t ++ line_feed ∷ [])) (lines ++ line ∷ []) clear_s is_s (reads_snoc rest lines t line reads clear is))

-- Of the text this much is left, and the part before it is these lines.
pub record Leaves (text rest : List ℕ) (lines : List Line) : Type 0 where
  pub front : List ℕ
  pub whole : text ≡ front ++ rest
  pub reads : Reads front lines
  pub few : length lines ≤ most_lines

pub leaves_all : (text : List ℕ) → Leaves text text []
leaves_all text = record { front = []; whole = refl; reads = nothing; few = omega arith }

pub leaves_next : (text rest left : List ℕ) (e : ℕ) (old new : List Line) → Leaves text rest old → IsFirstByte (is_byte 10) rest (Some e)
    → left ≡ drop (e + 1) rest → AddsLine (take e rest) old new → Leaves text left new
leaves_next text rest left e old new h first is adds =
    let cut = cut_at 10 rest e first in
    let joined : h.front ++ rest ≡ (h.front ++ (take e rest ++ line_feed ∷ [])) ++ drop (e + 1) rest =
    ap (λ (x : List ℕ). h.front ++ x) cut ∙ sym (append_assoc h.front (take e rest ++ line_feed ∷ []) (drop (e + 1) rest) ∙ ap (λ (x : List ℕ). h.front ++ x) (append_assoc (take e rest) (line_feed ∷ []) (drop (e + 1) rest))) in
    record {
      front = h.front ++ (take e rest ++ line_feed ∷ []);
      whole = h.whole ∙ joined ∙ ap (λ (x : List ℕ). (h.front ++ (take e rest ++ line_feed ∷ [])) ++ x) (sym is);
      reads = rw adds.added (reads_snoc h.front old (take e rest) adds.line h.reads (lacks_first 10 rest e first) adds.reads);
      few = omega (arith, adds.room, ap (λ (x : List Line). length x) adds.added, length-append old (adds.line ∷ []));
    }

not_empty : (t rest : List ℕ) → t ++ line_feed ∷ rest ≢ []
not_empty [] rest e = cc
not_empty (b ∷ t) rest e = cc

-- the next line doesn't read
pub fails_next : (text rest : List ℕ) (e number : ℕ) (lines : List Line) → Leaves text rest lines → IsFirstByte (is_byte 10) rest (Some e)
    → number ≡ length lines + 1 → (length lines ≡ most_lines) ⊎ (line_read (take e rest) ≡ None) → FailsAt text number
fails_next text rest e number lines h first is why =
    let cut = cut_at 10 rest e first in
    record {
      lines = lines;
      front = h.front;
      rest = rest;
      whole = h.whole;
      reads = h.reads;
      place = omega arith;
      few = h.few;
      some = λ empty. not_empty (take e rest) (drop (e + 1) rest) (sym cut ∙ empty);
      fault = elim why [
        | inl full ↦ inl full
        | inr none ↦ inr (λ t others clear all. ap line_read (sym (first_cut 10 (take e rest) t (drop (e + 1) rest) others (lacks_first 10 rest e first) clear (sym cut ∙ all))) ∙ none)
      ];
    }

-- what is left after a line feed
pub ended_rest : (rest ended : List ℕ) (e : ℕ) → IsFirstByte (is_byte 10) rest (Some e) → ended ≡ drop e rest → take (length ended - 1) (drop 1 ended) ≡ drop (e + 1) rest
ended_rest rest ended e first back = take_rest ended 1 ∙ ap (λ (x : List ℕ). drop 1 x) (back ∙ drop_more rest e 0 first.0.high)

-- a fault at the next line is one of the text
pub fault_told : (text rest : List ℕ) (e : ℕ) (lines : List Line) (fault : ScriptFault) → Leaves text rest lines → IsFirstByte (is_byte 10) rest (Some e)
    → IsLineFault (take e rest) lines fault → IsFaultOf text fault
fault_told text rest e lines (BadLine number) h first why = fails_next text rest e number lines h first why.0 why.1
fault_told text rest e lines Read h first why = absurd why
fault_told text rest e lines Memory h first why = tt

-- the text ends within a line
pub fails_last : (text rest : List ℕ) (number : ℕ) (lines : List Line) → Leaves text rest lines → IsFirstByte (is_byte 10) rest None
    → length rest ≢ 0 → number ≡ length lines + 1 → FailsAt text number
fails_last text rest number lines h none some is =
    let clear = lacks_all 10 rest none in
    record {
      lines = lines;
      front = h.front;
      rest = rest;
      whole = h.whole;
      reads = h.reads;
      place = omega arith;
      few = h.few;
      some = λ empty. some (ap (λ (x : List ℕ). length x) empty);
      fault = inr (λ t others _ all. absurd (let both : true ≡ false = sym (stands 10 t others) ∙ ap has_line_feed (sym all) ∙ clear in cc));
    }

by_length : (t : List ℕ) (line : Line) (far : Bool) → nat_lt most_length (length t) ≡ far → line_read t ≡ Some line → length t ≤ most_length
by_length t line true e is = absurd (let none : line_read t ≡ None = rw e refl in cc)
by_length t line false e is = grind (arith, nat_tests)

-- a line that reads is short
line_short : (t : List ℕ) (line : Line) → line_read t ≡ Some line → length t ≤ most_length
line_short t line is = by_length t line (nat_lt most_length (length t)) refl is

reads_short : (text : List ℕ) (lines : List Line) → Reads text lines → length text ≤ 65 * length lines
reads_short _ _ nothing = omega arith
reads_short _ _ (more t line rest lines clear is reads) =
    omega (arith, length-append t (line_feed ∷ rest), line_short t line is, reads_short rest lines reads)

-- As much of an input as is read tells what the whole tells.

pub taken_text : (left input : Option (List ℕ)) (text start : List ℕ) (limit : ℕ) → left ≡ input → start ≡ [] → limit ≡ most_bytes
    → IfSome (option_map (take limit) left) (λ xs. text ≡ start ++ xs) → IfSome input (λ all. text ≡ take most_bytes all)
taken_text None input text start limit same empty e h = subst (λ (o : Option (List ℕ)). IfSome o (λ all. text ≡ take most_bytes all)) same tt
taken_text (Some bytes) input text start limit same empty e h =
    subst (λ (o : Option (List ℕ)). IfSome o (λ all. text ≡ take most_bytes all)) same (h ∙ ap (λ (x : List ℕ). x ++ take limit bytes) empty ∙ ap (λ (n : ℕ). take n bytes) e)

pub script_whole : (input text : List ℕ) (lines : List Line) → text ≡ take most_bytes input → IsScript text lines → IsScript input lines
script_whole input text lines is h =
    let short : length (take most_bytes input) ≤ 65 * most_lines = omega (arith, reads_short text lines h.reads, h.few, ap (λ (x : List ℕ). length x) is) in
    let all : text ≡ input = is ∙ take_all most_bytes input (omega (arith, length-take most_bytes input)) in
    record { reads = subst (λ (x : List ℕ). Reads x lines) all h.reads; few = h.few }

long_none : (t : List ℕ) → most_length < length t → line_read t ≡ None
long_none t far = let e : nat_lt most_length (length t) ≡ true = grind (arith, nat_tests) in rw e refl

inside_front : (rest tail t others : List ℕ) → length t < length rest → rest ++ tail ≡ t ++ line_feed ∷ others → (left : List ℕ) × (rest ≡ t ++ line_feed ∷ left)
inside_front [] tail t others low all = absurd (omega arith)
inside_front (b ∷ rest) tail [] others low all = (rest, cc)
inside_front (b ∷ rest) tail (c ∷ t) others low all =
    let more = inside_front rest tail t others (omega arith) (cc) in
    let same : b ≡ c = cc in
    (more.0, ap (λ (x : ℕ). x ∷ rest) same ∙ ap (λ (x : List ℕ). c ∷ x) more.1)

by_end : (rest tail t others : List ℕ) (inside : Bool) → nat_lt (length t) (length rest) ≡ inside → most_length < length rest → HasNoLine rest → has_line_feed t ≡ false
    → rest ++ tail ≡ t ++ line_feed ∷ others → line_read t ≡ None
by_end rest tail t others false e far h clear all = long_none t (grind (arith, nat_tests))
by_end rest tail t others true e far h clear all =
    let low : length t < length rest = grind (arith, nat_tests) in
    let parts = inside_front rest tail t others low all in h t parts.0 clear parts.1

no_line_longer : (rest tail : List ℕ) → most_length < length rest → HasNoLine rest → HasNoLine (rest ++ tail)
no_line_longer rest tail far h t others clear all = by_end rest tail t others (nat_lt (length t) (length rest)) refl far h clear all

fails_by : (input text : List ℕ) (number : ℕ) (far : Bool) → nat_lt most_bytes (length input) ≡ far → text ≡ take most_bytes input → FailsAt text number → FailsAt input number
fails_by input text number false e is h =
    let near : length input ≤ most_bytes = grind (arith, nat_tests) in
    subst (λ (x : List ℕ). FailsAt x number) (is ∙ take_all most_bytes input near) h
fails_by input text number true e is h =
    let beyond : most_bytes < length input = grind (arith, nat_tests) in
    let size : length text ≡ most_bytes = ap (λ (x : List ℕ). length x) is ∙ omega (arith, length-take most_bytes input) in
    let far : most_length < length h.rest = omega (arith, size, reads_short h.front h.lines h.reads, h.few, ap (λ (x : List ℕ). length x) h.whole, length-append h.front h.rest) in
    let tail = drop most_bytes input in
    record {
      lines = h.lines;
      front = h.front;
      rest = h.rest ++ tail;
      whole = sym (take-append-drop most_bytes input) ∙ ap (λ (x : List ℕ). x ++ tail) (sym is ∙ h.whole) ∙ append_assoc h.front h.rest tail;
      reads = h.reads;
      place = h.place;
      few = h.few;
      some = λ empty. absurd (omega (arith, far, length-append h.rest tail, ap (λ (x : List ℕ). length x) empty));
      fault = elim h.fault [
        | inl full ↦ inl full
        | inr none ↦ inr (no_line_longer h.rest tail far none)
      ];
    }

pub fails_whole : (input text : List ℕ) (number : ℕ) → text ≡ take most_bytes input → FailsAt text number → FailsAt input number
fails_whole input text number is h = fails_by input text number (nat_lt most_bytes (length input)) refl is h

pub script_known : (left : Option (List ℕ)) (text shown : List ℕ) (lines : List Line) → shown ≡ text → IfSome left (λ input. text ≡ take most_bytes input)
    → IsScript shown lines → IfSome left (λ input. IsScript input lines)
script_known None text shown lines same e h = tt
script_known (Some input) text shown lines same e h = script_whole input shown lines (same ∙ e) h

pub fault_known : (left : Option (List ℕ)) (text shown : List ℕ) (fault : ScriptFault) (number : ℕ) → shown ≡ text → IfSome left (λ input. text ≡ take most_bytes input)
    → IsFaultOf shown fault → fault ≡ BadLine number → IfSome left (λ input. FailsAt input number)
fault_known left text shown Read number same e h is = absurd h
fault_known left text shown Memory number same e h is = absurd (cc)
fault_known None text shown (BadLine other) number same e h is = tt
fault_known (Some input) text shown (BadLine other) number same e h is = let so : other ≡ number = cc in subst (FailsAt input) so (fails_whole input shown other (same ∙ e) h)
