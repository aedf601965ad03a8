-- The head of a file that grows, by its parts.
use Rattle.std.proofs.Common.{◌≡◌, ◌≢◌, ⊎_elim, refl, ℕ, ◌≤◌, List, [], ◌∷◌, ◌++◌, length, get_or, take, drop, sym, ◌∙◌, ap, arith, drop-cons, length-drop}
use Rattle.std.{specs.Prelude.{slice_range, Result, Ok, Err, IfOk, MatchResult}, proofs.lemmas.{List.{get_or-take, drop-take, take-take}, List.Folds.{drop_split}, Nat.{be_bytes_8}}}
use Rattle.byteorder.specs.{Endian.{big_bytes, big_number}, Numbers.{big_number-reads_back}}
use Rattle.lz_slot.{specs.{Limits.{most_slots}, Bytes.{open_byte}}, proofs.Files.ExactBytes.{fits_dropped}}
use Rattle.lz_disk.specs.Images.{AreBytes}
use Rattle.lz_growth.specs.{Growths.{IsRaisable, growing_head}, Heads.{IsHeadFaultOf, IsNamed, growing_name, slots_said}}
use Rattle.lz_growth.specs.declared.head.HeadFault.{HeadFault, TheVariants.{NotMade, WrongMagic, BadCount, WrongLength, Device}}

-- sixteen bytes with an open gate and the name are the head of the number that follows
pub head_of_parts : (head : List ℕ) → length head ≡ 16 → AreBytes head → get_or head 0 0 ≡ open_byte → slice_range head 1 8 ≡ growing_name → head ≡ growing_head (big_number 8 (drop 8 head))
head_of_parts head long bytes gate name =
    let rest : big_bytes 8 (big_number 8 (drop 8 head)) ≡ drop 8 head = be_bytes_8 (drop 8 head) (big_number 8 (drop 8 head)) (omega (arith, long, length-drop 8 head)) (fits_dropped 8 head bytes) (grind arith) in
    let split : head ≡ get_or head 0 0 ∷ slice_range head 1 8 ++ drop 8 head = drop-cons head 0 0 (omega (arith, long)) ∙ ap (λ (l : List ℕ). get_or head 0 0 ∷ l) (drop_split head 1 8 (omega arith)) in
    split ∙ (λ i. gate i ∷ name i ++ sym rest i)

-- What the head of a file that grows says.
module _ (t : List ℕ) (n : ℕ) (head : take 16 t ≡ growing_head n) where
  pub says_number : n ≤ most_slots → slots_said t ≡ n
  says_number few = ap (big_number 8) (sym (drop-take 8 8 t) ∙ ap (drop 8) head) ∙ big_number-reads_back 8 n [] (omega arith)

  pub says_name : 16 ≤ length t → IsNamed t
  says_name long = (
    (long, sym (get_or-take 16 t 0 0 (omega arith)) ∙ ap (λ (l : List ℕ). get_or l 0 0) head),
    sym (ap (take 7) (drop-take 1 15 t) ∙ take-take 7 15 (drop 1 t) (omega arith)) ∙ ap (λ (l : List ℕ). slice_range l 1 8) head,
  )

-- so no fault is told of it
pub no_fault : (t : List ℕ) (n : ℕ) → 1 ≤ n → n ≤ most_slots → IsRaisable t n → (fault : HeadFault) → IsHeadFaultOf t fault → fault ≡ Device
no_fault t n some few grows NotMade is = absurd (is (says_name t n grows.head (omega (arith, grows.long))).0)
no_fault t n some few grows WrongMagic is = absurd (is.1 (says_name t n grows.head (omega (arith, grows.long))).1)
no_fault t n some few grows BadCount is = let said = says_number t n grows.head few in absurd (⊎_elim (λ none. omega (arith, said, none, some)) (λ many. omega (arith, said, many, few)) is.1)
no_fault t n some few grows WrongLength is = let said = says_number t n grows.head few in absurd (omega (arith, said, is.3, grows.long))
no_fault t n some few grows Device is = refl

-- and it has one number of slots
pub one_number : (t : List ℕ) (m n : ℕ) → m ≤ most_slots → n ≤ most_slots → IsRaisable t m → IsRaisable t n → m ≡ n
one_number t m n few_m few_n is_m is_n = sym (says_number t m is_m.head few_m) ∙ says_number t n is_n.head few_n

pub told_number : (t : List ℕ) (r : Result ℕ HeadFault) → MatchResult r (λ n. IsRaisable t n) (IsHeadFaultOf t) → IfOk r (λ n. (1 ≤ n) × (n ≤ most_slots)) → r ≢ Err Device
    → (n : ℕ) → 1 ≤ n → n ≤ most_slots → IsRaisable t n → r ≡ Ok n
told_number t (Ok m) is count other n some few grows = ap (λ (k : ℕ). Ok k) (one_number t m n count.1 few is grows)
told_number t (Err fault) is count other n some few grows = absurd (other (ap (λ (f : HeadFault). Err f) (no_fault t n some few grows fault is)))
