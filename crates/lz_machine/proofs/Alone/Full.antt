-- Where one actor is alone, a call that is answered full has found each slot to be the node of another key.
use Rattle.std.proofs.Common.{◌≡◌, ◌≢◌, inl, inr, ℕ, zero, suc, ◌≤◌, ◌<◌, not, Bool, true, false, List, [], ◌∷◌, length, Option, Some, None, refl, sym, ap, ◌∙◌}
use Rattle.std.{proofs.{Common.{subst, arith}, lemmas.{Bool.Decides.{nat_tests}, Option.{none-some}, List.{length-map}}}, specs.Prelude.{if◌then◌else◌}}
use Rattle.std.specs.List.{list_all}
use mathlib.Core.Bool.{false≢true}
use Rattle.lz_slot.specs.{declared.command.Command.{Command, TheVariants.{Add, Remove, Has}}, Limits.{most_slots}, Histories.{History}}
use Rattle.lz_disk.specs.Images.{Medium}
use Rattle.lz_vault.specs.declared.vault.Stage.TheVariants.{Opening, Open}
use Rattle.lz_allot.specs.{declared.sight.Sight.{Sight}, Uses.{Use, Free, Limbo, use_of, collect, collect_at, lowest_free, is_free as is_free_use, has_left}}
use Rattle.lz_list.specs.{declared.{walk.Met.TheVariants.{Unmarked, Marked}, place.Place.{Place}}, Words.{Words}, Walks.{Hopped, More, End}}
use Rattle.lz_list.{specs.Traces.{Trace, on, chain_of, key_word, is_marked, member}, proofs.Traces.NodeBits.{node}}
use Rattle.lz_flush.specs.{declared.need.Need.{Need}, Settling.{may_answer}}
use Rattle.lz_machine.specs.declared.{actor.LockPhase.TheVariants.{Nothing}, event.{Outcome.{Outcome}, Reply.TheVariants.{Yes, No, Full}}}
use Rattle.lz_machine.specs.declared.caller.{Sequence.{Sequence, TheVariants.{Adding}}, Progress.{Progress}}
use Rattle.lz_machine.specs.declared.caller.Progress.TheVariants.{Playing, LoadsHalt, Walking, Reserving, SeeingPins, Claiming, Checking, Answering}
use Rattle.lz_machine.specs.{Yards.{Shape, Yard, actor_in, cell_in, stage_in}, Calls.{progress_after, goes_on, hops_on, rests, after_event, changes}}
use Rattle.lz_machine.specs.{Runs.{Caller}, Notes.{Notes}}
use Rattle.lz_machine.specs.SlotsSound.{closes, has_removed_node, IsGateOpened, IsNodeStage, IsOnChain, SlotStands, is_node, is_held, is_out, is_free, is_limbo}
use Rattle.lz_machine.{specs.{CallersSound.{IsLooking}, Sound.{TraceSound, Sound}}, proofs.Alone.{Sights.{HasLeft, no_limbo}, Frame.{IsIdleNow, NoneOpening}}}
use Rattle.lz_machine.proofs.{Alone.Walk.{Finds}, Frames.Uses.{use_map}}

-- each slot surely holds another key
abbrev pub AreOther : Yard → ℕ → Type 0
AreOther y k = (s : ℕ) → s < y.shape.slots → (stage_in y.vault.cells s ≡ Open) × ((cell_in y.vault.cells s).key ≢ k)

-- the passes below n have left all limbo slots
abbrev pub LeftBelow : List Use → ℕ → Type 0
LeftBelow uses n = (b : ℕ) → 1 ≤ b → b < n → HasLeft uses b

-- what an adding knows on its way to asking for a slot, and where it is full
abbrev pub WalkStands : Yard → Trace → Progress → Command → Type 0
WalkStands y P (Walking None look) (Add k) = IsLooking y.shape.buckets k P P look
WalkStands y P (Reserving false) (Add k) = member k P ≡ false
WalkStands y P (Reserving true) (Add k) = (member k P ≡ false) × LeftBelow y.uses (suc y.shape.passes)
WalkStands y P (SeeingPins p) (Add k) = (member k P ≡ false) × LeftBelow y.uses p
WalkStands y P (Answering (Full counts)) (Add k) = AreOther y k
WalkStands y P (Answering (Full counts)) c = ⊥
WalkStands y P _ c = Unit {0}

abbrev pub AddsTo : Progress → ℕ → Type 0
AddsTo (Playing (Adding t) i) s = t ≡ s
AddsTo _ s = ⊥

abbrev pub says_yes : Progress → Bool
says_yes (Answering Yes) = true
says_yes _ = false

-- of an actor's call
abbrev pub IsAdding : Option Caller → ℕ → Type 0
IsAdding None s = ⊥
IsAdding (Some caller) s = AddsTo caller.progress s

abbrev pub is_yes : Option Caller → Bool
is_yes None = false
is_yes (Some caller) = says_yes caller.progress

abbrev pub StandsAlone : Yard → Trace → Option Caller → Type 0
StandsAlone y P None = Unit {0}
StandsAlone y P (Some caller) = WalkStands y P caller.progress caller.command

pub record AloneFull (a : ℕ) (y : Yard) (who : Option Caller) (P : Trace) : Type 0 where
  pub others : (b : ℕ) → b ≢ a → IsIdleNow y b
  -- its pass has left all limbo slots, but one that it has retired
  pub left : is_yes who ≡ false → HasLeft y.uses a
  -- only the slot that it adds to may be at Opening
  pub opening : y.vault.dead ≡ false → (s : ℕ) → stage_in y.vault.cells s ≡ Opening → IsAdding who s
  pub stands : StandsAlone y P who

-- where no slot is found, none is free
none_free : (uses : List Use) (s : ℕ) → lowest_free uses ≡ None → s < length uses → use_of uses s ≡ Free → ⊥
none_free [] s none lt free = omega (arith, lt)
none_free (u ∷ uses) zero none lt free = absurd (grind (arith, nat_tests, none, free, ap is_free_use free))
none_free (u ∷ uses) (suc s) none lt free = none_free uses s (grind (arith, nat_tests, none)) (omega (arith, lt)) free

module _ (n calls : ℕ) (y : Yard) (callers : List (Option Caller)) (disk : Medium) (M : History) (P : Trace) (notes : Notes) (sound : Sound n calls y callers disk M P notes) where
  -- where all hands are empty, and all passes have left, each slot that isn't found free is an unmarked node
  module _ (holds : (b : ℕ) → (actor_in y.actors b).hold ≡ Nothing) (slots : (b : ℕ) → (actor_in y.actors b).slot ≡ None)
      (left : LeftBelow y.uses (suc y.shape.passes)) (nothing : lowest_free (collect y.uses) ≡ None) where
    not_free : (s : ℕ) → s < y.shape.slots → use_of (collect y.uses) s ≡ Free → ⊥
    not_free s lt free = none_free (collect y.uses) s nothing (omega (arith, lt, sound.slots.count, length-map y.uses collect_at)) free

    not_limbo : (s : ℕ) (seen : List Sight) → s < y.shape.slots → use_of y.uses s ≡ Limbo seen → ⊥
    not_limbo s seen lt is = go (list_all has_left seen) refl
      where
        now : use_of (collect y.uses) s ≡ collect_at (Limbo seen)
        now = use_map collect_at y.uses s refl ∙ ap collect_at is

        go : (b : Bool) → list_all has_left seen ≡ b → ⊥
        go true all = not_free s lt (now ∙ ap (λ (b : Bool). if b then Free else Limbo seen) all)
        go false some = no_limbo y.uses y.shape.passes s sound.reuse.sights (λ b low high. left b low (omega (arith, high))) seen (now ∙ ap (λ (b : Bool). if b then Free else Limbo seen) some)

    no_closer : (b : ℕ) → closes y.vault.dead (actor_in y.actors b).hold ≡ true → ⊥
    no_closer b is = false≢true (sym (ap (closes y.vault.dead) (holds b)) ∙ is)

    pub all_nodes : (s : ℕ) → s < y.shape.slots → IsOnChain y.shape y.vault.cells y.uses P s × (is_marked s P ≡ false) × IsGateOpened (stage_in y.vault.cells s)
    all_nodes s lt = go (sound.slots.each s lt)
      where
        of_node : IsOnChain y.shape y.vault.cells y.uses P s → IsNodeStage y.vault.cells y.vault.dead y.actors P s → IsOnChain y.shape y.vault.cells y.uses P s × (is_marked s P ≡ false) × IsGateOpened (stage_in y.vault.cells s)
        of_node chain (inr closed) = absurd (no_closer closed.0 closed.1.closes)
        of_node chain (inl stage) = (chain, stage.0, stage.1)

        go : SlotStands y.shape y.vault.cells y.vault.dead y.uses y.actors P s → IsOnChain y.shape y.vault.cells y.uses P s × (is_marked s P ≡ false) × IsGateOpened (stage_in y.vault.cells s)
        go (is_node chain stage) = of_node chain stage
        go (is_held b slot) = absurd (none-some s (sym (slots b) ∙ slot))
        go (is_out b out) = absurd (false≢true (sym (ap has_removed_node (holds b)) ∙ out.removed))
        go (is_free loose free stage) = absurd (not_free s lt (use_map collect_at y.uses s refl ∙ ap collect_at free))
        go (is_limbo seen loose limbo stage) = absurd (not_limbo s seen lt limbo)

    -- where no gate is opening, they surely hold other keys than one that is no member
    module _ (k : ℕ) (gone : member k P ≡ false) (none_opening : NoneOpening y.vault.cells) where
      opened : (s : ℕ) → IsGateOpened (stage_in y.vault.cells s) → stage_in y.vault.cells s ≡ Open
      opened s (inl opening) = absurd (none_opening s opening)
      opened s (inr is) = is

      pub all_other : AreOther y k
      all_other s lt =
          let own = all_nodes s lt in (
            opened s own.2,
            λ same.
                let word : key_word s P ≡ k = sym own.0.key ∙ same in
                let there : on 0 (chain_of y.shape.buckets k P) (suc s) ≡ true = subst (λ (q : ℕ). on 0 (chain_of y.shape.buckets q P) (suc s) ≡ true) word own.0.there in
                let is : member k P ≡ true = (node y.shape.buckets y.shape.slots k s P sound.trace.lawful there word).is_member ∙ ap not own.1 in
                false≢true (sym gone ∙ is),
          )

-- What follows an event, in words of what an adding knows.
calm_goes : (y : Yard) (P : Trace) (c : Command) (sequence : Sequence) (i : ℕ) → WalkStands y P (goes_on sequence) c → WalkStands y P (after_event c sequence i) c
calm_goes y P c sequence i h = grind arith

pub stands_playing : (y : Yard) (P : Trace) (shape : Shape) (c : Command) (sequence : Sequence) (i : ℕ) → WalkStands y P (goes_on sequence) c → (outcome : Outcome) → WalkStands y P (progress_after shape c (Playing sequence i) outcome) c
stands_playing y P shape c sequence i h outcome = grind (arith, nat_tests, calm_goes)

pub stands_halt : (y : Yard) (P : Trace) (shape : Shape) (c : Command) (outcome : Outcome) → WalkStands y P (progress_after shape c LoadsHalt outcome) c
stands_halt y P shape c outcome = grind arith

pub stands_claim : (y : Yard) (P : Trace) (shape : Shape) (c : Command) (aim : Option ℕ) (pred : Place) (curr : Option ℕ) (outcome : Outcome) → WalkStands y P (progress_after shape c (Claiming aim pred curr) outcome) c
stands_claim y P shape c aim pred curr outcome = grind (arith, nat_tests)

stands_changes : (y : Yard) (P : Trace) (c : Command) (aim curr : Option ℕ) → WalkStands y P (changes c aim curr) c
stands_changes y P c aim curr = grind (arith, nat_tests)

pub stands_check : (y : Yard) (P : Trace) (shape : Shape) (c : Command) (aim curr : Option ℕ) (outcome : Outcome) → WalkStands y P (progress_after shape c (Checking aim curr) outcome) c
stands_check y P shape c aim curr outcome = grind (arith, nat_tests, stands_changes)

stands_rests : (y : Yard) (P : Trace) (c : Command) (s : ℕ) (need : Need) (b : Bool) → WalkStands y P (rests s need (if b then Yes else No)) c
stands_rests y P c s need b = grind (arith, nat_tests)

-- after a load
abbrev pub AsksToAdd : Command → Option ℕ → (ℕ → Type 0) → Type 0
AsksToAdd (Add k) None A = A k
AsksToAdd c aim A = Unit {0}

pub stands_hops : (y : Yard) (P : Trace) (words : Words) (trace : TraceSound y.shape words P) (few : y.shape.slots ≤ most_slots) (c : Command) (aim : Option ℕ) (h : Hopped) → AsksToAdd c aim (λ k. Finds y.shape words P trace few k h) → WalkStands y P (hops_on c aim h) c
stands_hops y P words trace few (Add k) aim (End pred curr (Unmarked s flags)) finds = stands_rests y P (Add k) s (may_answer flags) false
stands_hops y P words trace few (Has k) aim (End pred curr (Marked s flags)) finds = stands_rests y P (Has k) s (may_answer flags) false
stands_hops y P words trace few (Has k) aim (End pred curr (Unmarked s flags)) finds = stands_rests y P (Has k) s (may_answer flags) true
stands_hops y P words trace few (Remove k) aim (End pred curr (Marked s flags)) finds = stands_rests y P (Remove k) s (may_answer flags) false
stands_hops y P words trace few (Add k) None h finds = finds
stands_hops y P words trace few _ None (More look) finds = tt
stands_hops y P words trace few _ _ _ finds = tt
