-- The first line of a list whose key stands in a line above.
use Rattle.std.proofs.Common.{◌≡◌, inl, inr, ℕ, zero, suc, ◌+◌, ◌<◌, List, [], ◌∷◌, ◌++◌, length, take, get_or, false, refl, sym, ap, subst, ◌∙◌, arith}
use Rattle.std.{proofs.{Common.{append_assoc, Some}, lemmas.{List.{length-take-le, take_more}, Map.Keys.{IsDistinct-push}}}, specs.Cmp.{nat_eq_equiv}}
use Rattle.std.specs.{List.{IsDistinct, filter_map}, Prelude.{nat_eq}}
use Rattle.lz_slot.specs.{Sets.{members}, declared.format.Format.{Format}}
use Rattle.lz_scan_client.proofs.OneEach.{unlike}
use Rattle.lz_proto.specs.Lines.{has_line_feed, line_feed}
use Rattle.lazyset_file_commands.specs.Lists.{AreApart, IsFaultAfter, IsFirstAgain, IsListFaultOf, Named, keys, texts, NamesKey, Spelled, nothing, more}
use Rattle.lazyset_file_commands.specs.{Lists.{TellsAgain, named_by}, ListParts.{Leaves, Reads}, declared.list.ListFault.{ListFault}}
use Rattle.lazyset_file_commands.specs.declared.{list.ListFault.TheVariants.{Line, Twice, Read, Memory}, lines.Lines.{Lines, TheVariants.{Keys}}}

-- A text of lines is parted at the line of this index.
record Parted (named : Named) (text ks : List ℕ) (i : ℕ) : Type 0 where
  front : List ℕ
  line : List ℕ
  after : List ℕ
  whole : text ≡ front ++ (line ++ line_feed ∷ after)
  spelled : Spelled named front (take i ks)
  clear : has_line_feed line ≡ false
  names : NamesKey named line (get_or ks i 0)

parted : (named : Named) (text ks : List ℕ) (i : ℕ) → i < length ks → Spelled named text ks → Parted named text ks i
parted named _ _ i lt nothing = absurd (omega (arith, lt))
parted named _ _ zero lt (more line rest k ks clear names spelled) = record { front = []; line = line; after = rest; whole = refl; spelled = nothing; clear = clear; names = names }
parted named _ _ (suc i) lt (more line rest k ks clear names spelled) =
    let h = parted named rest ks i (omega (arith, lt)) spelled in
    record {
      front = line ++ line_feed ∷ h.front;
      line = h.line;
      after = h.after;
      whole = ap (λ (t : List ℕ). line ++ line_feed ∷ t) h.whole ∙ sym (append_assoc line (line_feed ∷ h.front) (h.line ++ line_feed ∷ h.after));
      spelled = more line h.front k (take i ks) clear names h.spelled;
      clear = h.clear;
      names = h.names;
    }

-- so a text that begins with these lines lists no keys
pub again_fails : (named : Named) (text above rest ks : List ℕ) (fault : ListFault) → Reads named above ks → text ≡ above ++ rest → TellsAgain named ks fault → IsListFaultOf named text fault
again_fails named text above rest ks (Line number) lines whole tells = absurd tells
again_fails (keys format) text above rest ks (Twice number) lines whole (i, place, first) =
    let h = parted (keys format) above ks i first.low (subst (Spelled (keys format) above) lines.all lines.spelled) in
    record {
      above = h.front;
      rest = h.line ++ line_feed ∷ (h.after ++ rest);
      whole = whole ∙ ap (λ (t : List ℕ). t ++ rest) h.whole ∙ append_assoc h.front (h.line ++ line_feed ∷ h.after) rest
          ∙ ap (λ (t : List ℕ). h.front ++ t) (append_assoc h.line (line_feed ∷ h.after) rest);
      ks = take i ks;
      lists = record { told = take i ks; spelled = h.spelled; all = (refl, first.apart) };
      place = let size = length-take-le i ks (omega (arith, first.low)) in omega (arith, place, size);
      fault = (h.line, get_or ks i 0, (h.clear, (h.after ++ rest, refl)), h.names, first.again);
    }
again_fails (texts secret name) text above rest ks (Twice number) lines whole tells = absurd tells
again_fails named text above rest ks Read lines whole tells = absurd tells
again_fails named text above rest ks Memory lines whole tells = tt

-- or has the fault that comes after them
pub fault_after : (named : Named) (text rest ks : List ℕ) (number : ℕ) (after fault : ListFault) → Leaves named text rest ks number → IsFaultAfter named ks after fault
    → (AreApart named ks → IsListFaultOf named text after) → IsListFaultOf named text fault
fault_after named text rest ks number after fault h (inl (is, apart)) fails = subst (IsListFaultOf named text) (sym is) (fails apart)
fault_after named text rest ks number after fault h (inr tells) fails = again_fails named text h.above rest ks fault h.lists h.whole tells

-- what the judge tells of lines of keys, and of texts
pub tells_first : (format : Format) (lines : Lines) (ks : List ℕ) (i : ℕ) → lines ≡ Keys → IsFirstAgain ks i → TellsAgain (named_by format lines) ks (Twice (i + 1))
tells_first format lines ks i is first = subst (λ (l : Lines). TellsAgain (named_by format l) ks (Twice (i + 1))) (sym is) (i, refl, first)

pub apart_keys : (format : Format) (lines : Lines) (ks : List ℕ) → lines ≡ Keys → IsDistinct nat_eq ks → AreApart (named_by format lines) ks
apart_keys format lines ks is apart = subst (λ (l : Lines). AreApart (named_by format l) ks) (sym is) apart

-- each key has itself for a key
pub all_kept : (ks : List ℕ) → filter_map Some ks ≡ ks
all_kept [] = refl
all_kept (k ∷ ks) = ap (λ (l : List ℕ). k ∷ l) (all_kept ks)

-- one key more that stands nowhere above
pub one_apart : (ks : List ℕ) (i : ℕ) → i < length ks → IsDistinct nat_eq (take i ks) → members (take i ks) (get_or ks i 0) ≡ false → IsDistinct nat_eq (take (i + 1) ks)
one_apart ks i low apart none =
    subst (IsDistinct nat_eq) (sym (take_more ks i 0 low)) (IsDistinct-push nat_eq_equiv (take i ks) (get_or ks i 0) apart (unlike (take i ks) (get_or ks i 0) none))
