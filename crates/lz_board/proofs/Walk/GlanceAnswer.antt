-- What the end of a walk tells to a glance.
use Rattle.std.proofs.Common.{◌≡◌, ◌≢◌, ◌⊎◌, inl, inr, ⊎_elim, ℕ, Bool, true, false, Option, [], ◌∷◌, ◌++◌, Result, Ok, Err, IfOk, IfErr, refl, sym, ap, ◌∙◌}
use Rattle.std.proofs.Common.{subst, arith}
use Rattle.lz_list.specs.declared.{flags.Flags.{Flags}, place.Place.{Place}, walk.Met.{Met, TheVariants.{Absent, Unmarked, Marked}}}
use Rattle.lz_list.specs.{declared.publishing.Publishing.TheVariants.{Halted as halted}, Words.{link_to, place_number}}
use Rattle.lz_list.specs.{Traces.{Trace, Begins, Lawful, is_marked, halt_word, IsNode, SettledNo}, Pinned.{Once, IsQuiet}}
use Rattle.lz_list.proofs.Traces.{Absence.{begins_itself}, Hindsight.{once_begins, absent_since}}
use Rattle.lz_list.proofs.Traces.WalkEnd.{begins_before, marked_was_sure, unsure_node, unmarked_surely}
use Rattle.lz_flush.specs.{declared.need.Need.{Need, TheVariants.{Now, Sync as asks_sync}}, Settling.{may_answer}}
use Rattle.lz_machine.proofs.{Steps.Walk.{once_some}, Frames.Publishing.{halt_stays}}
use Rattle.lz_board.specs.declared.{view.Part.{Part}, answer.{Glance.{Glance, TheVariants.{Yes, No, Unsettled}}, GlanceFault.{GlanceFault}}}
use Rattle.lz_board.specs.{declared.answer.GlanceFault.TheVariants.{Halted, Worn, BusyPass}, Notes.{Extends, Since}}
use Rattle.lz_board.specs.{Glances.{Changes, Between, Glanced, GlancedUnsettled, Glances, IsUnhalted}, Walkers.{MetNode, Ended, sure_or, glance_of, IsGlance}}
use Rattle.lz_board.proofs.{Upkeep.Growth.{begins_of}, Walk.WalkerLemma.{since_trans}}

module _ (buckets slots : ℕ) (P0 P : Trace) (law : Lawful buckets slots P) (quiet : IsQuiet buckets P0 P) (k : ℕ) where
  absent_told : Once P0 P (λ R. SettledNo R R k) → Glanced k P0 P false
  absent_told once = let r = once_some P0 P (λ R. SettledNo R R k) once in record { then = r.0; between = record { from = r.1; upto = r.2 }; settled = r.3 }

  module _ (s : ℕ) (flags : Flags) (mark : Bool) (h : MetNode buckets k s flags mark P0 P) where
    now : Between P0 P P
    now = record { from = once_begins P0 P _ h.stood; upto = begins_itself P }

    its_mark : is_marked s P ≡ mark
    its_mark = sym (ap (λ (f : Flags). f.mark) h.shown) ∙ h.marked

    unsure : IsNode k s P → may_answer flags ≡ asks_sync → GlancedUnsettled k s P0 P
    unsure node asks = record { then = P; between = now; some = node.some; in_slot = node.same; asks = ap may_answer (sym h.shown) ∙ asks }

  unmarked_told : (s : ℕ) (flags : Flags) → MetNode buckets k s flags false P0 P → IsGlance k P0 P (sure_or (may_answer flags) Yes s)
  unmarked_told s flags h = go flags.add_settled refl
    where
      go : (added : Bool) → flags.add_settled ≡ added → IsGlance k P0 P (sure_or (may_answer flags) Yes s)
      go true is =
          let need : may_answer flags ≡ Now = rw (h.marked, is) refl in
          subst (λ (n : Need). IsGlance k P0 P (sure_or n Yes s)) (sym need)
          (record { then = P; between = now s flags false h; settled = unmarked_surely buckets slots P0 k s P law quiet h.stood h.key (its_mark s flags false h) (sym (ap (λ (f : Flags). f.add_settled) h.shown) ∙ is) })
      go false is =
          let need : may_answer flags ≡ asks_sync = rw (h.marked, is) refl in
          subst (λ (n : Need). IsGlance k P0 P (sure_or n Yes s)) (sym need) (unsure s flags false h (unsure_node buckets slots P0 k s P law quiet h.stood h.key (inl (its_mark s flags false h))) need)

  marked_told : (s : ℕ) (flags : Flags) → MetNode buckets k s flags true P0 P → IsGlance k P0 P (sure_or (may_answer flags) No s)
  marked_told s flags h = go flags.remove_settled refl
    where
      go : (removed : Bool) → flags.remove_settled ≡ removed → IsGlance k P0 P (sure_or (may_answer flags) No s)
      go true is =
          let need : may_answer flags ≡ Now = rw (h.marked, is) refl in
          subst (λ (n : Need). IsGlance k P0 P (sure_or n No s)) (sym need)
          (absent_told (marked_was_sure buckets slots P0 k s P law quiet h.stood h.key (its_mark s flags true h) (sym (ap (λ (f : Flags). f.remove_settled) h.shown) ∙ is)))
      go false is =
          let need : may_answer flags ≡ asks_sync = rw (h.marked, is) refl in
          subst (λ (n : Need). IsGlance k P0 P (sure_or n No s)) (sym need) (unsure s flags true h (unsure_node buckets slots P0 k s P law quiet h.stood h.key (inr (sym (ap (λ (f : Flags). f.remove_settled) h.shown) ∙ is))) need)

  -- what the walk met is the glance's answer
  pub told : (pred : Place) (curr : Option ℕ) (met : Met) → Ended buckets k P0 P pred curr met → IsGlance k P0 P (glance_of met)
  told pred curr Absent (between, high) = absent_told (absent_since buckets slots P0 k (place_number pred) (link_to curr) P law quiet between.were between.low high)
  told pred curr (Unmarked s flags) (is, between, h) = unmarked_told s flags h
  told pred curr (Marked s flags) (is, between, h) = marked_told s flags h

pub between_longer : (A P R Q B : Trace) → Begins A P → Begins Q B → Between P R Q → Between A R B
between_longer A P R Q B before after h = record { from = begins_before A P R before h.from; upto = begins_before R Q B h.upto after }

-- it stays so for one who had seen less before and has seen more after
pub glance_longer : (k : ℕ) (A P Q B : Trace) (g : Glance) → Begins A P → Begins Q B → IsGlance k P Q g → IsGlance k A B g
glance_longer k A P Q B Yes before after h = record { then = h.then; between = between_longer A P h.then Q B before after h.between; settled = h.settled }
glance_longer k A P Q B No before after h = record { then = h.then; between = between_longer A P h.then Q B before after h.between; settled = h.settled }
glance_longer k A P Q B (Unsettled s) before after h = record { then = h.then; between = between_longer A P h.then Q B before after h.between; some = h.some; in_slot = h.in_slot; asks = h.asks }

halt_longer : (more P : Trace) → halt_word P ≡ 1 → halt_word (more ++ P) ≡ 1
halt_longer [] P is = is
halt_longer (e ∷ more) P is = halt_stays e (more ++ P) (halt_longer more P is)

-- who has seen the halt still has once it has seen more
pub halt_since : (P Q : Trace) → Extends Q P → halt_word P ≡ 1 → halt_word Q ≡ 1
halt_since P Q since is = ap halt_word since.1 ∙ halt_longer since.0 P is

halt_is : (P : Trace) → IsUnhalted P ⊎ (halt_word P ≡ 1)
halt_is [] = inl refl
halt_is (halted ∷ P) = inr refl
halt_is (e ∷ P) = halt_is P

-- what began a trace without a halt has none
pub unhalted_before : (p : ℕ) (P Q : Trace) → Since p Q P → halt_word Q ≢ 1 → IsUnhalted P
unhalted_before p P Q since un = ⊎_elim (λ (none : IsUnhalted P). none) (λ (is : halt_word P ≡ 1). absurd (un (halt_since P Q (since.0, since.1) is))) (halt_is P)

pub no_changes : (p : ℕ) (P Q : Trace) → Since p Q P → Changes p P Q []
no_changes p P Q since = record { since = since.0; goes_on = since.1; own = since.2 }

-- the rows of a glance that was inside from P to Q
pub rows : (k : ℕ) (before after : Part) (P Q : Trace) → Since before.number P before.known → Since before.number Q P → Since before.number after.known Q
    → (r : Result Glance GlanceFault) → IfOk r (λ g. IsGlance k P Q g) → IfOk r (λ g. IsUnhalted P) → IfErr r (λ f. (f ≡ Halted) × (halt_word Q ≡ 1)) → Glances k r before after
rows k before after P Q a b c r ok un err = go r ok un err
  where
    since : Since before.number after.known before.known
    since = since_trans before.number before.known Q after.known (since_trans before.number before.known P Q a b) c

    same : Changes before.number before.known after.known []
    same = no_changes before.number before.known after.known since

    longer : (g : Glance) → IsGlance k P Q g → IsGlance k before.known after.known g
    longer g h = glance_longer k before.known P Q after.known g (begins_of before.known P (a.0, a.1)) (begins_of Q after.known (c.0, c.1)) h

    unhalted : IsUnhalted P → IsUnhalted before.known
    unhalted none = unhalted_before before.number before.known P a (λ is. omega (arith, none, is))

    go : (r : Result Glance GlanceFault) → IfOk r (λ g. IsGlance k P Q g) → IfOk r (λ g. IsUnhalted P) → IfErr r (λ f. (f ≡ Halted) × (halt_word Q ≡ 1)) → Glances k r before after
    go (Ok Yes) ok un err = (longer Yes ok, same, unhalted un)
    go (Ok No) ok un err = (longer No ok, same, unhalted un)
    go (Ok (Unsettled s)) ok un err = (longer (Unsettled s) ok, same, unhalted un)
    go (Err Halted) ok un err = (halt_since Q after.known (c.0, c.1) err.1, same)
    go (Err Worn) ok un err = absurd cc
    go (Err BusyPass) ok un err = absurd cc
