-- How a crash's text is made of the durable one, one position after another.
use Rattle.std.proofs.Common.{◌≡◌, ℕ, suc, ◌+◌, ◌≤◌, ◌<◌, Bool, true, false, List, [], ◌∷◌, ◌++◌, length, get_or, drop, set, replicate, if◌then◌else◌, take}
use Rattle.std.proofs.{Common.{sym, refl, ◌∙◌, ap, arith, append_assoc, drop-cons}, lemmas.List.{get_or-replicate, get_or_default, length-replicate}}
use Rattle.std.proofs.lemmas.List.{length_push, drop_all, take_all, take-append-drop, take_more_set, drop-set-lt, length-set}
use Rattle.lz_disk.{specs.{Images.{is_loose}, Picks.{with_loose, with_first}}, proofs.ByteImages.{read}}

-- the marks of a text's positions are 1 where they are loose
abbrev pub mark : Bool → ℕ
mark true = 1
mark false = 0

chosen_mark : (b : Bool) (z : ℕ) → z ≡ 0 → (if b then 1 else z) ≡ mark b
chosen_mark true z is = refl
chosen_mark false z is = is

pub mark_is : (ranges : List (ℕ × List ℕ)) (n k : ℕ) → k < n → get_or (with_loose ranges 1 0 (replicate n 0)) k 0 ≡ mark (is_loose ranges k)
mark_is ranges n k lt = grind (arith, replicate, length-replicate, read, chosen_mark, get_or, get_or-replicate)

pub marked : (b : Bool) → mark b ≡ 1 → b ≡ true
marked true is = refl
marked false is = absurd (omega arith)

pub unmarked : (b : Bool) → (mark b ≡ 1 → ⊥) → b ≡ false
unmarked true not = absurd (not refl)
unmarked false not = refl

-- up to some position the text is done, and what is still to come is made of the rest
pub record IsMade (still : List ℕ → List ℕ → List ℕ) (whole seen : List ℕ) (at : ℕ) (text : List ℕ) : Type 0 where
  pub here : at ≤ length text
  pub within : at ≤ length seen
  pub same : take at text ++ still (drop at text) (drop at seen) ≡ whole

pub making_begins : (still : List ℕ → List ℕ → List ℕ) (sure seen text : List ℕ) → text ≡ sure → IsMade still (still sure seen) seen 0 text
making_begins still sure seen text is = record { here = omega arith; within = omega arith; same = ap (λ (l : List ℕ). still l seen) is }

drop_here : (xs : List ℕ) (at : ℕ) → at < length xs → drop at xs ≡ get_or xs at 0 ∷ drop (at + 1) xs
drop_here xs at lt = let next : suc at ≡ at + 1 = omega arith in drop-cons xs at 0 lt ∙ ap (λ (n : ℕ). get_or xs at 0 ∷ drop n xs) next

module _ {still : List ℕ → List ℕ → List ℕ} {whole seen : List ℕ} {at : ℕ} {text : List ℕ} (held : IsMade still whole seen at text) where
  pub making_ends : still (drop at text) (drop at seen) ≡ drop at text → text ≡ whole
  making_ends is = sym (take-append-drop at text) ∙ ap (λ (l : List ℕ). take at text ++ l) (sym is) ∙ held.same

  module _ (next : List ℕ → List ℕ → List ℕ) (text' : List ℕ) (lt : at < length seen) where
    abbrev pub byte : ℕ
    byte = get_or seen at 0

    abbrev zs : List ℕ
    zs = drop (at + 1) seen

    -- after the durable end a position that is taken is as read
    pub making_pushes : length text ≤ at → still [] (byte ∷ zs) ≡ byte ∷ next [] zs → text' ≡ text ++ byte ∷ [] → IsMade next whole seen (at + 1) text'
    making_pushes long step is =
        let grown : length text' ≡ length text + 1 = ap length is ∙ length_push text byte in
        record {
          here = omega (arith, held.here);
          within = omega arith;
          same = grind (arith, is, take_all (at + 1) text' (omega arith), drop_all (at + 1) text' (omega arith), append_assoc text (byte ∷ []) (next [] zs), step, take_all at text long, drop_all at text long, drop_here seen at lt, held.same);
        }

    -- up to the durable end each position is as read or stays
    pub making_goes_on : (b : ℕ) → at < length text → still (get_or text at 0 ∷ drop (at + 1) text) (byte ∷ zs) ≡ b ∷ next (drop (at + 1) text) zs → text' ≡ set text at b → IsMade next whole seen (at + 1) text'
    making_goes_on b low step is =
        let kept : length text' ≡ length text = ap length is ∙ length-set text at b in
        record {
          here = omega arith;
          within = omega arith;
          same = grind (arith, is, take_more_set text at b low, drop-set-lt (at + 1) text at b (omega arith), append_assoc (take at text) (b ∷ []) (next (drop (at + 1) text) zs), step, drop_here text at low, drop_here seen at lt, held.same);
        }

-- nothing more is taken
pub none_taken : (ranges : List (ℕ × List ℕ)) (i : ℕ) (sure seen : List ℕ) → with_first ranges 0 i sure seen ≡ sure
none_taken ranges i sure [] = refl
none_taken ranges i sure (b ∷ seen) = refl

-- what is read within a list is there whatever stands after its end
pub read_at : (xs : List ℕ) (i x : ℕ) → i < length xs → x ≡ get_or xs i x → x ≡ get_or xs i 0
read_at xs i x lt is = is ∙ get_or_default xs i x 0 lt
