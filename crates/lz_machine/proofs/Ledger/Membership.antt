-- The rows of a ledger are right about the membership of the trace that is kept.
use Rattle.std.proofs.Common.{◌≡◌, ◌≢◌, ⊎_elim, inl, inr, ℕ, suc, ◌<◌, ◌≤◌, Bool, true, false, not, ◌==◌, ◌&&◌, max, List, [], ◌∷◌, length, Option, Some}
use Rattle.std.proofs.{Common.{MatchOption, refl, sym, ap, ◌∙◌, subst, arith}, lemmas.Bool.{cases_eq, cases_Bool, cases_lt, Decides.{nat_tests, leb_tells}}}
use mathlib.Core.Bool.{false≢true}
use Rattle.lz_slot.{specs.{declared.command.Command.{Command, TheVariants.{Add, Remove}}, Sets.{key_of, Keys, reply, moved}}, proofs.Sets.{after_at}}
use Rattle.lz_list.specs.declared.publishing.Publishing.{Publishing, TheVariants.{Linked as linked, Marked as marked, Halted as halted}}
use Rattle.lz_list.{specs.Traces.{Trace, Begins, member, linking, Lawful, SettledYes, SettledNo}, proofs.Traces.Hindsight.{lawful_begins}}
use Rattle.lz_machine.specs.Ledgers.{Row, IsRight, Moves}
use Rattle.lz_machine.specs.Kept.{upto, changes_key, last_change, IsOpen, MayDrop, kept_keys, publishing, IsChange, RowsFit, IsRowOf}
use Rattle.lz_machine.proofs.Frames.Limbo.{shorter}

pub upto_begins : (n : ℕ) (P : Trace) → Begins (upto n P) P
upto_begins n [] = refl
upto_begins n (e ∷ P) = grind (arith, leb_tells, upto_begins n P)

pub length-upto : (n : ℕ) (P : Trace) → n ≤ length P → length (upto n P) ≡ n
length-upto n [] le = omega arith
length-upto n (e ∷ P) le = elim (leb_tells (suc (length P)) n) [
  | inl t ↦ rw t.0 (omega arith)
  | inr f ↦ rw f.0 (length-upto n P (omega arith))
]

pub upto_all : (n : ℕ) (P : Trace) → length P ≤ n → upto n P ≡ P
upto_all n [] le = refl
upto_all n (e ∷ P) le = grind (arith, nat_tests)

pub upto_more : (j : ℕ) (P : Trace) → j < length P → upto (suc j) P ≡ publishing j P ∷ upto j P
upto_more j [] lt = absurd (omega arith)
upto_more j (e ∷ P) lt = grind (arith, nat_tests, cases_eq, upto_all, upto_more j P)

-- the last change of a key is in the past
pub last_change_past : (k : ℕ) (P : Trace) → last_change k P ≤ length P
last_change_past k [] = omega arith
last_change_past k (e ∷ P) = grind (arith, last_change_past k P)

-- after k's last change nothing moves
keeps_key : (k : ℕ) (e : Publishing) (P : Trace) → changes_key k e ≡ false → (member k (e ∷ P) ≡ member k P) × (linking k (e ∷ P) ≡ linking k P)
keeps_key k e P none = grind (arith, nat_tests)

unchanged : (k : ℕ) (R P : Trace) → Begins R P → last_change k P ≤ length R → (member k P ≡ member k R) × (linking k P ≡ linking k R)
unchanged k R [] to late = (ap (member k) (sym to), ap (linking k) (sym to))
unchanged k R (e ∷ P) (inl here) late = (ap (member k) (sym here), ap (linking k) (sym here))
unchanged k R (e ∷ P) (inr to) late = grind (arith, nat_tests, shorter, keeps_key, unchanged k R P to)

-- what was settled at R isn't open
pub yes_is_kept : (k : ℕ) (R P : Trace) → SettledYes R P k → last_change k P ≤ length R → IsOpen k P → ⊥
yes_is_kept k R P told late open' = grind (arith, unchanged)

pub no_is_kept : (k : ℕ) (R P : Trace) → SettledNo R P k → last_change k P ≤ length R → IsOpen k P → ⊥
no_is_kept k R P told late open' = grind (arith, unchanged)

module _ (n : ℕ) (P : Trace) (drop : Keys) (may : MayDrop n P drop) where
  -- before the last change of k the membership that is kept is that of the trace
  members_before : (k j : ℕ) → n ≤ j → (drop k ≡ true → j < last_change k P) → kept_keys n P drop j k ≡ member k (upto j P)
  members_before k j early free = let at : max n j ≡ j = omega arith in rw at (grind (arith, nat_tests, free))

  -- so it is where an answer is settled
  yes_members : (k j : ℕ) → n ≤ j → j ≤ length P → SettledYes (upto j P) P k → kept_keys n P drop j k ≡ true
  yes_members k j early late told = grind (arith, members_before, cases_lt, yes_is_kept, length-upto)

  no_members : (k j : ℕ) → n ≤ j → j ≤ length P → SettledNo (upto j P) P k → kept_keys n P drop j k ≡ false
  no_members k j early late told = members_before k j early (λ is. elim (cases_lt j (last_change k P)) [
    | inl before ↦ before
    | inr past ↦ absurd (no_is_kept k (upto j P) P told (omega (arith, length-upto j P)) (may.open_change k is))
  ]) ∙ told.no_member

  -- a change isn't past the last one
  change_before : (k j : ℕ) (Q : Trace) → j < length Q → changes_key k (publishing j Q) ≡ true → j < last_change k Q
  change_before k j [] lt is = absurd (omega arith)
  change_before k j (e ∷ Q) lt is = grind (arith, nat_tests, cases_eq, change_before k j Q)

  pub row_is_right : (r : Row) → IsRowOf n P r → IsRight (kept_keys n P drop) r
  row_is_right r h = elim (cases_Bool r.changes) [
    | inl does ↦
        let c = h.changing does in
        let at : reply r.command (kept_keys n P drop r.position (key_of r.command)) ≡ true =
        ap (reply r.command) (members_before (key_of r.command) r.position h.early (λ _. change_before (key_of r.command) r.position P c.within c.changed)) ∙ c.was in
        record {
          answer = ⊎_elim (λ none. subst (λ (o : Option Bool). MatchOption o (Unit {0}) (λ a. reply r.command (kept_keys n P drop r.position (key_of r.command)) ≡ a))
              (sym none) tt) (λ some. subst (λ (o : Option Bool). MatchOption o (Unit {0}) (λ a. reply r.command (kept_keys n P drop r.position (key_of r.command)) ≡ a))
              (sym some) at) c.answer;
          quiet = λ none. absurd (false≢true (sym none ∙ does));
        }
    | inr none ↦ ⊎_elim
        (λ told. right_from true told.answer told.leaves (yes_members (key_of r.command) r.position h.early h.late told.settled_yes))
        (λ told. right_from false told.answer told.leaves (no_members (key_of r.command) r.position h.early h.late told.settled_no))
        (h.quiet none)
  ]
    where
      right_from : (was : Bool) → r.answer ≡ Some (reply r.command was) → moved (key_of r.command) r.command was ≡ was → kept_keys n P drop r.position (key_of r.command) ≡ was → IsRight (kept_keys n P drop) r
      right_from was answer leaves is = grind arith

  last_is_change : (k j : ℕ) (Q : Trace) → last_change k Q ≡ suc j → changes_key k (publishing j Q) ≡ true
  last_is_change k j [] is = absurd (omega arith)
  last_is_change k j (e ∷ Q) is = grind (arith, nat_tests, cases_Bool, last_is_change k j Q, last_change_past)

  module _ (j : ℕ) (early : n ≤ j) (late : j < length P) (e : Publishing) (is : publishing j P ≡ e) where
    next : upto (suc j) P ≡ e ∷ upto j P
    next = rw (← is) (upto_more j P late)

    stays : (k : ℕ) → changes_key k e ≡ false → kept_keys n P drop (suc j) k ≡ kept_keys n P drop j k
    stays k none = grind (arith, nat_tests, next, keeps_key, false≢true, last_is_change)

    dropped : (k : ℕ) → drop k ≡ true → last_change k P ≡ suc j → member k (e ∷ upto j P) ≡ not (member k (upto j P)) → kept_keys n P drop (suc j) k ≡ kept_keys n P drop j k
    dropped k does last flips = grind (arith, nat_tests, next)

    becomes : (k : ℕ) → changes_key k e ≡ true → (drop k && (last_change k P == suc j)) ≡ false → kept_keys n P drop (suc j) k ≡ member k (e ∷ upto j P)
    becomes k does kept = members_before k (suc j) (omega arith) (λ d. grind (arith, nat_tests, change_before k j P late (ap (changes_key k) is ∙ does))) ∙ ap (member k) next

  -- the membership moves by the rows of each publishing that is kept
  module _ (L : List Row) (j : ℕ) (early : n ≤ j) (late : j < length P) where
    -- a change of k to v, by a command that does it too
    move_by : (e : Publishing) (k : ℕ) (c : Command) (v : Bool) → publishing j P ≡ e → ((q : ℕ) → k ≢ q → changes_key q e ≡ false) → changes_key k e ≡ true → member k
        (e ∷ upto j P) ≡ v → member k (upto j P) ≡ not v → ((q : ℕ) (b : Bool) → k ≢ q → moved q c b ≡ b) → ((b : Bool) → moved k c b ≡ v) → (gone : Bool) →
        (drop k && (last_change k P == suc j)) ≡ gone → IsChange gone c L → Moves (kept_keys n P drop j) (kept_keys n P drop (suc j)) L
    move_by e k c v is others does becomes_v was_not moves_other moves_k true d fit = grind (arith, nat_tests, cases_eq, dropped, stays)
    move_by e k c v is others does becomes_v was_not moves_other moves_k false d fit = grind (arith, nat_tests, after_at, cases_eq, becomes, stays)

    pub rows_move : (buckets slots : ℕ) → Lawful buckets slots P → (e : Publishing) → publishing j P ≡ e → RowsFit P drop j e L → Moves (kept_keys n P drop j) (kept_keys n P drop (suc j)) L
    rows_move buckets slots law (linked k s p) is fit =
        let may_link = (subst (Lawful buckets slots) (next j early late (linked k s p) is) (lawful_begins buckets slots (upto (suc j) P) P (upto_begins (suc j) P) law)).0 in
        move_by (linked k s p) k (Add k) true is (λ q other. grind (arith, nat_tests)) (grind (arith, nat_tests)) (grind (arith, nat_tests)) may_link.no_member (λ q b other. grind (arith, nat_tests)) (λ b. grind (arith, nat_tests)) (drop k && (last_change k P == suc j)) refl fit
    rows_move buckets slots law (marked k s p) is fit =
        let may_mark = (subst (Lawful buckets slots) (next j early late (marked k s p) is) (lawful_begins buckets slots (upto (suc j) P) P (upto_begins (suc j) P) law)).0 in
        move_by (marked k s p) k (Remove k) false is (λ q other. grind (arith, nat_tests)) (grind (arith, nat_tests)) (grind (arith, nat_tests)) may_mark.0 (λ q b other. grind (arith, nat_tests)) (λ b. grind (arith, nat_tests)) (drop k && (last_change k P == suc j)) refl fit
    rows_move buckets slots law halted is fit = subst (Moves (kept_keys n P drop j) (kept_keys n P drop (suc j))) (sym fit) (λ q. stays j early late halted is q refl)
    rows_move buckets slots law e is fit = subst (Moves (kept_keys n P drop j) (kept_keys n P drop (suc j))) (sym fit) (λ q. stays j early late e is q refl)

  -- before the life began nothing moves
  pub begins_still : (j : ℕ) → j < n → (k : ℕ) → kept_keys n P drop (suc j) k ≡ kept_keys n P drop j k
  begins_still j lt k = grind arith
