-- A list of keys that is read in pieces.
use Rattle.std.proofs.Common.{◌≡◌, ◌≢◌, inl, inr, ℕ, ◌+◌, ◌-◌, ◌<◌, ◌≤◌, List, [], ◌∷◌, ◌++◌, length, take, drop, false, true, Option, Some, None, refl, sym}
use Rattle.std.proofs.{Common.{ap, subst, ◌∙◌, arith, append_assoc, length-append, decimal}, lemmas.Bool.{cond_both, Decides.{nat_tests}}}
use Rattle.std.proofs.lemmas.{Fmt.{length-decimal-le}, List.{append-nil, drop-drop, length-take, take_rest, Folds.{list_any-append}}}
use Rattle.std.specs.{Prelude.{IfErr, IfOk, IfSome, OnOk, map, option_map, Result, Ok, Err, nat_eq, ◌||◌}, Io.KnownBytes.{Consumes, IsAtEnd}}
use Rattle.memchr.specs.Find.{IsFirstByte, is_byte}
use Rattle.lz_slot.specs.{Rooms.{number_of, room_of}, Texts.{Spells}, declared.format.Format.{Format}, Sets.{members}}
use Rattle.lz_slot.proofs.{Files.ExactBytes.{key_of_format}, Texts.Cuts.{cut_at, first_cut, lacks_more, stands}}
use Rattle.lz_judge.specs.{Places.{IsTable}, declared.places.Places.{Places}}
use Rattle.lz_proto.specs.Lines.{has_line_feed, line_feed, without_return}
use Rattle.lz_resp.specs.Keys.{secret_number}
use Rattle.lz_vault.specs.Makes.{MayBeMembers}
use Rattle.lazyset_file_commands.specs.Lists.{Adds, AddsKey, AddsText, AreApart, AreKeysOf, HasFirstLine, HasNoKey, HasPlaceFor, IsFaultAfter, IsLineFaultOf}
use Rattle.lazyset_file_commands.specs.{Lists.{IsListFaultOf, Lists, Named, keys, texts, NamesKey, TellsAgain, nothing, named_by}, Marks.{marks_of, secret_mark, texts_mark}}
use Rattle.lazyset_file_commands.specs.ListParts.{AreSoFar, EndsWith, FailsAtEnd, FailsIn, GoesOn, HasRead, HasTable, IsLike, IsOpenList, IsUnread, Leaves}
use Rattle.lazyset_file_commands.specs.{ListParts.{Reads, named_in}, declared.list.{KeyList.{KeyList}, ListFault.{ListFault}}}
use Rattle.lazyset_file_commands.specs.declared.{list.ListFault.TheVariants.{Line, Twice, Read, Memory}, lines.Lines.{Lines, TheVariants.{Keys, Texts}}}
use Rattle.lazyset_file_commands.proofs.{Listed.{is_listed, one_more}, AgainLines.{again_fails, fault_after}}
use Rattle.lz_scan_client.{specs.Told.{AreOnce}, proofs.OneEach.{none_told, told_more}}

-- a line that goes on has no line feed where neither part has one
pub clear_both : (line part : List ℕ) → has_line_feed line ≡ false → has_line_feed part ≡ false → has_line_feed (line ++ part) ≡ false
clear_both line part one other = list_any-append (nat_eq 10) line part ∙ (λ i. one i || other i)

-- a first line is no shorter than a beginning without a line feed
longer : (line after first others : List ℕ) → line ++ after ≡ first ++ line_feed ∷ others → has_line_feed line ≡ false → length line ≤ length first
longer [] after first others is clear = omega arith
longer (b ∷ line) after [] others is clear = absurd (let same : b ≡ 10 = cc in let none = (lacks_more 10 b line clear).0 in grind (arith, nat_tests))
longer (b ∷ line) after (c ∷ first) others is clear =
    let rest : line ++ after ≡ first ++ line_feed ∷ others = cc in
    let ih = longer line after first others rest (lacks_more 10 b line clear).1 in
    omega (arith, ih)

-- the text of a key has 21 bytes at most
spelled_short : (text : List ℕ) (k : ℕ) → k ≤ 15999999999999999999 → Spells text k → length text ≤ 21
spelled_short text k fits (inl is) =
    let room : length (decimal (room_of k)) ≤ 2 = length-decimal-le 2 (room_of k) (omega arith) (omega arith) (omega arith) in
    let number : length (decimal (number_of k)) ≤ 18 = length-decimal-le 18 (number_of k) (omega arith) (omega arith) (omega arith) in
    omega (arith, room, number, ap (λ (x : List ℕ). length x) is, length-append (decimal (room_of k)) (58 ∷ decimal (number_of k)))
spelled_short text k fits (inr (none, is)) = grind (arith, nat_tests, decimal, length-decimal-le)

one_less : (line : List ℕ) → length line ≤ length (without_return line) + 1
one_less line = grind (arith, nat_tests, cond_both, length-take)

pub line_short : (format : Format) (line : List ℕ) (k : ℕ) → NamesKey (keys format) line k → length line ≤ 22
line_short format line k names = let short = spelled_short (without_return line) k (key_of_format format k names.0) names.1 in omega (arith, short, one_less line)

pub keys_short : (format : Format) (lines : Lines) → lines ≡ Keys → (line : List ℕ) (k : ℕ) → 22 < length line → NamesKey (named_by format lines) line k → ⊥
keys_short format lines is line k long names =
    let short = line_short format line k (subst (λ (l : Lines). NamesKey (named_by format l) line k) is names) in omega (arith, long, short)

-- no text is empty in which something stands
some_text : (line after : List ℕ) → 0 < length line → line ++ after ≢ []
some_text [] after some is = omega (arith, some)
some_text (b ∷ line) after some is = cc

long_line : (named : Named) (line after : List ℕ) (most : ℕ) → ((l : List ℕ) (k : ℕ) → most < length l → ¬ NamesKey named l k) → has_line_feed line ≡ false → most < length line → HasNoKey named (line ++ after)
long_line named line after most never clear long = (
  some_text line after (omega (arith, long)),
  λ first k (clear_first, (others, is)) names. never first k (omega (arith, long, longer line after first others is clear)) names,
)

only_line : (line rest other : List ℕ) → has_line_feed line ≡ false → HasFirstLine (line ++ line_feed ∷ rest) other → line ≡ other
only_line line rest other clear (clear_other, (others, is)) = first_cut 10 line other rest others clear clear_other is

line_there : (line rest : List ℕ) → line ++ line_feed ∷ rest ≢ []
line_there [] rest is = cc
line_there (b ∷ line) rest is = cc

-- the next line is at fault
line_fails : (named : Named) (text line rest ks : List ℕ) (number : ℕ) (fault : ListFault) → Leaves named text (line ++ line_feed ∷ rest) ks number → has_line_feed line ≡ false
    → IsLineFaultOf named number line ks fault → IsListFaultOf named text fault
line_fails named text line rest ks number (Line place) h clear (is, none, apart) = record {
  above = h.above;
  rest = line ++ line_feed ∷ rest;
  whole = h.whole;
  ks = ks;
  lists = is_listed named h.above ks h.lists apart;
  place = is ∙ h.place;
  fault = (line_there line rest, λ other k first names. none k (subst (λ (l : List ℕ). NamesKey named l k) (sym (only_line line rest other clear first)) names));
}
line_fails named text line rest ks number (Twice place) h clear tells = again_fails named text h.above (line ++ line_feed ∷ rest) ks (Twice place) h.lists h.whole tells
line_fails named text line rest ks number Read h clear why = tt
line_fails named text line rest ks number Memory h clear why = tt

-- lists that are alike name the same
same_named : (old new : KeyList) → IsLike old new → named_in new ≡ named_in old
same_named old new (format, lines) = λ i. named_by (format i) (lines i)

-- the key of a line that names none
pub names_none : (named : Named) (number : ℕ) (line ks : List ℕ) (fault : ListFault) → ((k : ℕ) → ¬ NamesKey named line k) → IsFaultAfter named ks (Line number) fault → IsLineFaultOf named number line ks fault
names_none named number line ks fault none (inl (is, apart)) = subst (IsLineFaultOf named number line ks) (sym is) (refl, none, apart)
names_none named number line ks (Line place) none (inr tells) = absurd tells
names_none named number line ks (Twice place) none (inr tells) = tells
names_none named number line ks Read none (inr tells) = absurd tells
names_none named number line ks Memory none (inr tells) = tt

pub lacks_memory : (named : Named) (number : ℕ) (line ks : List ℕ) (r : Result (Unit {0}) ListFault) → IfErr r (λ fault. fault ≡ Memory) → IfErr r (IsLineFaultOf named number line ks)
lacks_memory named number line ks (Ok done) is = tt
lacks_memory named number line ks (Err fault) is = subst (IsLineFaultOf named number line ks) (sym is) tt

abbrev pub AreTexts : Lines → Type 0
AreTexts Keys = ⊥
AreTexts (Texts secret name) = Unit {0}

-- keys have no table, and texts have one
pub no_table : (lines : Lines) (ks : List ℕ) (seen : Places) → lines ≡ Keys → HasTable lines ks seen
no_table lines ks seen is = subst (λ (l : Lines). HasTable l ks seen) (sym is) tt

pub with_table : (lines : Lines) (ks : List ℕ) (seen : Places) → IsTable (map Some ks) seen → HasTable lines ks seen
with_table Keys ks seen table = tt
with_table (Texts secret name) ks seen table = table

pub has_table : (lines : Lines) (ks : List ℕ) (seen : Places) → AreTexts lines → HasTable lines ks seen → IsTable (map Some ks) seen
has_table Keys ks seen are table = absurd are
has_table (Texts secret name) ks seen are table = table

pub keys_untabled : (lines : Lines) (ks : List ℕ) (seen : Places) (r : Result (Unit {0}) ListFault) → lines ≡ Keys → OnOk r (HasTable lines ks seen)
keys_untabled lines ks seen (Ok done) is = no_table lines ks seen is
keys_untabled lines ks seen (Err fault) is = tt

pub texts_tabled : (lines : Lines) (ks : List ℕ) (seen : Places) (r : Result (Unit {0}) ListFault) → OnOk r (IsTable (map Some ks) seen) → OnOk r (HasTable lines ks seen)
texts_tabled lines ks seen (Ok done) table = with_table lines ks seen table
texts_tabled lines ks seen (Err fault) table = tt

-- a key that was added
pub key_added : (format : Format) (lines : Lines) (line old new : List ℕ) (k : ℕ) (r : Result (Unit {0}) ListFault) → lines ≡ Keys → NamesKey (named_by format lines) line k
    → OnOk r (new ≡ old ++ k ∷ []) → OnOk r (AddsKey (named_by format lines) line old new)
key_added format lines line old new k (Ok done) is names added = record { key = k; names = names; adds = subst (λ (l : Lines). Adds (named_by format l) k old new) (sym is) added }
key_added format lines line old new k (Err fault) is names added = tt

pub text_added : (format : Format) (lines : Lines) (line old new : List ℕ) (k : ℕ) (r : Result (Unit {0}) ListFault) → AreTexts lines → NamesKey (named_by format lines) line k
    → OnOk r (AddsText k old new) → OnOk r (AddsKey (named_by format lines) line old new)
text_added format lines line old new k (Ok done) are names adds = record { key = k; names = names; adds = of_texts lines are }
  where
    of_texts : (lines : Lines) → AreTexts lines → Adds (named_by format lines) k old new
    of_texts Keys are = absurd are
    of_texts (Texts secret name) are = adds
text_added format lines line old new k (Err fault) are names adds = tt

pub was_added : (old new : List ℕ) (k : ℕ) (r : Result (Unit {0}) ListFault) → members old k ≡ false → OnOk r (new ≡ old ++ k ∷ []) → OnOk r (AddsText k old new)
was_added old new k (Ok done) apart added = inr (apart, added)
was_added old new k (Err fault) apart added = tt

-- a line that goes on by the end of it
joined : (line part after : List ℕ) → line ++ ((part ++ line_feed ∷ []) ++ after) ≡ (line ++ part) ++ line_feed ∷ after
joined line part after = ap (λ (x : List ℕ). line ++ x) (append_assoc part (line_feed ∷ []) after) ∙ sym (append_assoc line part (line_feed ∷ after))

place_as : (one other : Format) (its others : Lines) → other ≡ one → others ≡ its → HasPlaceFor one its → HasPlaceFor other others
place_as one other its others same alike place = subst (λ (l : Lines). HasPlaceFor other l) (sym alike) (subst (λ (f : Format). HasPlaceFor f its) (sym same) place)

pub named_as : (format : Format) (lines : Lines) (list : KeyList) → (list.format ≡ format) × (list.lines ≡ lines) → named_in list ≡ named_by format lines
named_as format lines list (one, other) = λ i. named_by (one i) (other i)

-- a whole line was read
pub line_read : (old : KeyList) (part line : List ℕ) (new : KeyList) → IsOpenList old → has_line_feed part ≡ false → line ≡ old.line.items ++ part → AddsKey (named_in old) line old.keys.items new.keys.items
    → IsLike old new → new.line.items ≡ [] → new.number ≡ old.number + 1 → GoesOn old (part ++ line_feed ∷ []) new
line_read old part line new kept clear is adds like empty next = record {
  same = like;
  read = λ text after h.
      let whole : Leaves (named_in old) text (line ++ line_feed ∷ after) old.keys.items old.number =
      subst (λ (r : List ℕ). Leaves (named_in old) text r old.keys.items old.number) (joined old.line.items part after ∙ ap (λ (l : List ℕ). l ++ line_feed ∷ after) (sym is)) h in
      let left : new.line.items ++ after ≡ after = ap (λ (l : List ℕ). l ++ after) empty in
      subst (λ (N : Named). Leaves N text (new.line.items ++ after) new.keys.items new.number) (sym (same_named old new like)) (record {
        above = whole.above ++ (line ++ line_feed ∷ []);
        whole = whole.whole ∙ sym (append_assoc whole.above (line ++ line_feed ∷ []) (new.line.items ++ after) ∙ ap (λ (x : List ℕ). whole.above ++ x) (append_assoc line (line_feed ∷ []) (new.line.items ++ after) ∙ ap (λ (x : List ℕ). line ++ line_feed ∷ x) left));
        lists = one_more (named_in old) whole.above line old.keys.items new.keys.items whole.lists (ap has_line_feed is ∙ clear_both old.line.items part kept.clear clear) adds;
        place = omega (arith, next, whole.place, length-append whole.lists.told (adds.key ∷ []));
      });
}

-- what a list is then
pub line_kept : (old : KeyList) (part line : List ℕ) (new : KeyList) → IsOpenList old → has_line_feed part ≡ false → line ≡ old.line.items ++ part → AddsKey (named_in old) line old.keys.items new.keys.items
    → IsLike old new → new.line.items ≡ [] → HasTable new.lines new.keys.items new.seen → IsOpenList new
line_kept old part line new kept clear is adds like empty seen = record {
  place = place_as old.format new.format old.lines new.lines like.0 like.1 kept.place;
  seen = seen;
  clear = ap has_line_feed empty;
  above = kept.above ++ (line ++ line_feed ∷ []);
  lists = subst (λ (N : Named). Reads N (kept.above ++ (line ++ line_feed ∷ [])) new.keys.items) (sym (same_named old new like))
      (one_more (named_in old) kept.above line old.keys.items new.keys.items kept.lists (ap has_line_feed is ∙ clear_both old.line.items part kept.clear clear) adds);
}

pub line_at_fault : (old : KeyList) (part line : List ℕ) (fault : ListFault) → IsOpenList old → has_line_feed part ≡ false → line ≡ old.line.items ++ part
    → IsLineFaultOf (named_in old) old.number line old.keys.items fault → FailsIn old (part ++ line_feed ∷ []) fault
line_at_fault old part line fault kept clear is why text after h =
    line_fails (named_in old) text line after old.keys.items old.number fault
    (subst (λ (r : List ℕ). Leaves (named_in old) text r old.keys.items old.number) (joined old.line.items part after ∙ ap (λ (l : List ℕ). l ++ line_feed ∷ after) (sym is)) h)
    (ap has_line_feed is ∙ clear_both old.line.items part kept.clear clear) why

pub part_too_long : (old : KeyList) (part line : List ℕ) (most : ℕ) (fault : ListFault) → IsOpenList old → has_line_feed part ≡ false → line ≡ old.line.items ++ part → most < length line
    → ((l : List ℕ) (k : ℕ) → most < length l → ¬ NamesKey (named_in old) l k) → IsFaultAfter (named_in old) old.keys.items (Line old.number) fault → FailsIn old part fault
part_too_long old part line most fault kept clear is long never told text after h =
    fault_after (named_in old) text (old.line.items ++ (part ++ after)) old.keys.items old.number (Line old.number) fault h told (λ apart. record {
      above = h.above;
      rest = line ++ after;
      whole = h.whole ∙ ap (λ (x : List ℕ). h.above ++ x) (sym (append_assoc old.line.items part after) ∙ ap (λ (l : List ℕ). l ++ after) (sym is));
      ks = old.keys.items;
      lists = is_listed (named_in old) h.above old.keys.items h.lists apart;
      place = h.place;
      fault = long_line (named_in old) line after most never (ap has_line_feed is ∙ clear_both old.line.items part kept.clear clear) long;
    })

-- the list ends
pub list_ends : (list : KeyList) → length list.line.items ≡ 0 → AreApart (named_in list) list.keys.items → EndsWith list list.keys.items
list_ends list empty apart text h =
    let none : list.line.items ++ [] ≡ [] = append-nil list.line.items ∙ no_items list.line.items empty in
    subst (λ (x : List ℕ). Lists (named_in list) x list.keys.items) (sym (h.whole ∙ ap (λ (x : List ℕ). h.above ++ x) none ∙ append-nil h.above)) (is_listed (named_in list) h.above list.keys.items h.lists apart)
  where
    no_items : (xs : List ℕ) → length xs ≡ 0 → xs ≡ []
    no_items [] is = refl
    no_items (x ∷ xs) is = absurd (omega arith)

pub ends_again : (list : KeyList) (fault : ListFault) → TellsAgain (named_in list) list.keys.items fault → FailsAtEnd list fault
ends_again list fault tells text h = again_fails (named_in list) text h.above (list.line.items ++ []) list.keys.items fault h.lists h.whole tells

pub list_fails : (list : KeyList) (fault : ListFault) → has_line_feed list.line.items ≡ false → length list.line.items ≢ 0 → IsFaultAfter (named_in list) list.keys.items (Line list.number) fault → FailsAtEnd list fault
list_fails list fault clear some told text h =
    fault_after (named_in list) text (list.line.items ++ []) list.keys.items list.number (Line list.number) fault h told (λ apart. record {
      above = h.above;
      rest = list.line.items ++ [];
      whole = h.whole;
      ks = list.keys.items;
      lists = is_listed (named_in list) h.above list.keys.items h.lists apart;
      place = h.place;
      fault = (
        some_text list.line.items [] (omega (arith, some)),
        λ first k (clear_first, (others, is)) names. absurd (let feed : true ≡ false = sym (stands 10 first others) ∙ ap has_line_feed (sym is) ∙ ap has_line_feed (append-nil list.line.items) ∙ clear in cc),
      );
    })

-- the keys of no lines
abbrev pub first_keys : Lines → List ℕ
first_keys Keys = []
first_keys (Texts secret name) = marks_of (option_map (λ block. block.now) secret)

pub mark_alone : AreOnce (texts_mark ∷ []) (texts_mark ∷ [])
mark_alone = told_more [] [] (texts_mark ∷ []) texts_mark none_told (inr (refl, omega arith, refl))

-- the mark of a secret is another one
apart_from_texts : (k : ℕ) → texts_mark < k → members (texts_mark ∷ []) k ≡ false
apart_from_texts k above = grind (arith, nat_tests, above)

pub both_marks : (block : List ℕ) → AreOnce (marks_of (Some block)) (marks_of (Some block))
both_marks block =
    let mark : ℕ = secret_mark (secret_number block) in
    told_more (texts_mark ∷ []) (texts_mark ∷ []) (texts_mark ∷ mark ∷ []) mark mark_alone (inr (apart_from_texts mark (omega arith), omega arith, refl))

first_marks : (secret : Option (List ℕ)) (name ks : List ℕ) → ks ≡ marks_of secret → AreKeysOf (texts secret name) [] ks
first_marks None name ks is = (subst (AreOnce (marks_of None)) (sym is) mark_alone, ([], is))
first_marks (Some block) name ks is = (subst (AreOnce (marks_of (Some block))) (sym is) (both_marks block), ([], is))

pub all_first : (format : Format) (lines : Lines) (ks : List ℕ) → ks ≡ first_keys lines → AreSoFar (named_by format lines) [] ks
all_first format Keys ks is = sym is
all_first format (Texts secret name) ks is = first_marks (option_map (λ block. block.now) secret) name.now ks is

abbrev pub no_lines : (format : Format) (lines : Lines) (ks : List ℕ) → ks ≡ first_keys lines → Reads (named_by format lines) [] ks
no_lines format lines ks is = record { told = []; spelled = nothing; all = all_first format lines ks is }

-- a list of which nothing was read yet
pub opens : (list : KeyList) → HasPlaceFor list.format list.lines → HasTable list.lines list.keys.items list.seen → list.line.items ≡ [] → list.keys.items ≡ first_keys list.lines → IsOpenList list
opens list place seen empty first = record {
  place = place;
  seen = seen;
  clear = ap has_line_feed empty;
  above = [];
  lists = no_lines list.format list.lines list.keys.items first;
}

pub unread : (list : KeyList) → list.line.items ≡ [] → list.number ≡ 1 → list.keys.items ≡ first_keys list.lines → IsUnread list
unread list empty one first text = record {
  above = [];
  whole = sym (ap (λ (l : List ℕ). l ++ text) empty);
  lists = no_lines list.format list.lines list.keys.items first;
  place = one;
}

pub opens_keys : (list : KeyList) → HasPlaceFor list.format list.lines → list.keys.items ≡ [] → list.line.items ≡ [] → list.lines ≡ Keys → IsOpenList list
opens_keys list place none empty is = opens list place (no_table list.lines list.keys.items list.seen is) empty (none ∙ ap first_keys (sym is))

pub unread_keys : (list : KeyList) → list.keys.items ≡ [] → list.line.items ≡ [] → list.number ≡ 1 → list.lines ≡ Keys → IsUnread list
unread_keys list none empty one is = unread list empty one (none ∙ ap first_keys (sym is))

module _ (list : KeyList) (format : Format) (lines : Lines) (like : (list.format ≡ format) × (list.lines ≡ lines)) (marks : List ℕ) (are : first_keys lines ≡ marks) (before : List ℕ) (none : before ≡ []) where
  with_marks : list.keys.items ≡ before ++ marks → list.keys.items ≡ first_keys list.lines
  with_marks added = added ∙ ap (λ (ks : List ℕ). ks ++ marks) none ∙ sym are ∙ ap first_keys (sym like.1)

  pub opens_texts : HasPlaceFor format lines → IsTable (map Some list.keys.items) list.seen → list.keys.items ≡ before ++ marks → list.line.items ≡ [] → IsOpenList list
  opens_texts place seen added empty = opens list (place_as format list.format lines list.lines like.0 like.1 place) (with_table list.lines list.keys.items list.seen seen) empty (with_marks added)

  pub unread_texts : list.keys.items ≡ before ++ marks → list.line.items ≡ [] → list.number ≡ 1 → IsUnread list
  unread_texts added empty one = unread list empty one (with_marks added)

-- for lack of memory no text is at fault
pub no_memory : (named : Named) (input : Option (List ℕ)) (fault : ListFault) → fault ≡ Memory → IfSome input (λ text. IsListFaultOf named text fault)
no_memory named input fault is = subst (λ (f : ListFault). IfSome input (λ text. IsListFaultOf named text f)) (sym is) (any input)
  where
    any : (given : Option (List ℕ)) → IfSome given (λ text. IsListFaultOf named text Memory)
    any None = tt
    any (Some text) = tt

-- A list within a piece, of which this is left.
pub record Within (first : KeyList) (piece : List ℕ) (list : KeyList) (rest : List ℕ) : Type 0 where
  pub kept : IsOpenList list
  pub same : IsLike first list
  pub read : (text after : List ℕ) → HasRead text first (piece ++ after) → HasRead text list (rest ++ after)

module _ (first : KeyList) (piece : List ℕ) where
  module _ (list : KeyList) (rest : List ℕ) (e : ℕ) (at : IsFirstByte (is_byte 10) rest (Some e)) (h : Within first piece list rest) where
    next : (after : List ℕ) → rest ++ after ≡ (take e rest ++ line_feed ∷ []) ++ (drop (e + 1) rest ++ after)
    next after = ap (λ (x : List ℕ). x ++ after) (cut_at 10 rest e at) ∙ append_assoc (take e rest) (line_feed ∷ drop (e + 1) rest) after ∙ sym (append_assoc (take e rest) (line_feed ∷ []) (drop (e + 1) rest ++ after))

    pub within_next : (new : KeyList) (ended left : List ℕ) → IsOpenList new → GoesOn list (take e rest ++ line_feed ∷ []) new → ended ≡ drop e rest → left ≡ take (length ended - 1) (drop 1 ended) → Within first piece new left
    within_next new ended left kept goes back is = record {
      kept = kept;
      same = (goes.same.0 ∙ h.same.0, goes.same.1 ∙ h.same.1);
      read = λ text after begun.
          subst (λ (r : List ℕ). HasRead text new (r ++ after)) (sym (is ∙ take_rest ended 1 ∙ ap (drop 1) back ∙ drop-drop 1 e rest))
          (goes.read text (drop (e + 1) rest ++ after) (subst (λ (r : List ℕ). HasRead text list r) (next after) (h.read text after begun)));
    }

    pub within_fails : (fault : ListFault) → FailsIn list (take e rest ++ line_feed ∷ []) fault → FailsIn first piece fault
    within_fails fault fails text after begun =
        subst (λ (N : Named). IsListFaultOf N text fault) (same_named first list h.same)
        (fails text (drop (e + 1) rest ++ after) (subst (λ (r : List ℕ). HasRead text list r) (next after) (h.read text after begun)))

  module _ (list : KeyList) (rest : List ℕ) (h : Within first piece list rest) where
    pub last_fails : (r : Result (Unit {0}) ListFault) → IfErr r (FailsIn list rest) → IfErr r (FailsIn first piece)
    last_fails (Ok done) fails = tt
    last_fails (Err fault) fails = λ text after begun. subst (λ (N : Named). IsListFaultOf N text fault) (same_named first list h.same) (fails text after (h.read text after begun))

-- What a reader has left is what comes after the list in its input.
abbrev pub IsLeftOf : KeyList → Option (List ℕ) → List ℕ → Type 0
IsLeftOf list left text = (after : List ℕ) × (left ≡ Some after) × HasRead text list after

pub left_first : (list : KeyList) (input : Option (List ℕ)) → ((text : List ℕ) → HasRead text list text) → IfSome input (IsLeftOf list input)
left_first list input unread = grind (arith, nat_tests)

pub left_more : (old new : KeyList) (piece : List ℕ) (input left more : Option (List ℕ)) → Consumes left more piece → GoesOn old piece new → IfSome input (IsLeftOf old left) → IfSome input (IsLeftOf new more)
left_more old new piece input left more given goes h = grind (arith, nat_tests)

pub left_fails : (named : Named) (list : KeyList) (piece : List ℕ) (fault : ListFault) (input left more : Option (List ℕ)) → named_in list ≡ named → Consumes left more piece → FailsIn list piece fault → IfSome input (IsLeftOf list left)
    → IfSome input (λ text. IsListFaultOf named text fault)
left_fails named list piece fault None left more same given fails h = tt
left_fails named list piece fault (Some text) None more same given fails (after, is, read) = absurd (cc)
left_fails named list piece fault (Some text) (Some xs) None same given fails (after, is, read) = absurd given
left_fails named list piece fault (Some text) (Some xs) (Some ys) same given fails (after, is, read) =
    let all : after ≡ piece ++ ys = cc in subst (λ (N : Named). IsListFaultOf N text fault) same (fails text ys (subst (λ (r : List ℕ). HasRead text list r) all read))

pub left_none : (list : KeyList) (input left more : Option (List ℕ)) → Consumes left more [] → IsAtEnd more → IfSome input (IsLeftOf list left) → IfSome input (λ text. HasRead text list [])
left_none list input left more given ended h = grind (arith, nat_tests)

-- what the end of a list tells of the input
module _ (named : Named) (list : KeyList) (same : named_in list ≡ named) where
  pub input_lists : {A : Type 0} (items : A → List ℕ) (input : Option (List ℕ)) (r : Result A ListFault) → IfSome input (λ text. HasRead text list []) → IfOk r (λ a. EndsWith list (items a))
      → IfOk r (λ a. IfSome input (λ text. Lists named text (items a)))
  input_lists items input r read ends = grind (arith, nat_tests)

  pub input_fails : {A : Type 0} (input : Option (List ℕ)) (r : Result A ListFault) → IfSome input (λ text. HasRead text list []) → IfErr r (FailsAtEnd list)
      → IfErr r (λ fault. IfSome input (λ text. IsListFaultOf named text fault))
  input_fails input r read fails = grind (arith, nat_tests)

pub same_members : (G format : Format) → G ≡ format → {A : Type 0} (items : A → List ℕ) (r : Result A ListFault) → IfOk r (λ a. MayBeMembers G (length (items a)) (items a))
    → IfOk r (λ a. MayBeMembers format (length (items a)) (items a))
same_members G format same items r may = subst (λ (F : Format). IfOk r (λ a. MayBeMembers F (length (items a)) (items a))) same may

-- what is judged of the lines that were read
pub lines_fail : (named : Named) (list : KeyList) (fault : ListFault) (input left : Option (List ℕ)) → named_in list ≡ named → IfSome input (IsLeftOf list left) → IsFaultAfter (named_in list) list.keys.items Read fault
    → IfSome input (λ text. IsListFaultOf named text fault)
lines_fail named list fault None left same h told = tt
lines_fail named list fault (Some text) left same (after, is, read) told =
    subst (λ (N : Named). IsListFaultOf N text fault) same (fault_after (named_in list) text (list.line.items ++ after) list.keys.items list.number Read fault read told (λ apart. tt))
