-- Worked rows: where calls stand that stopped.
use Rattle.lz_vault.specs.declared.vault.Stage.TheVariants as cell
use Rattle.lz_machine.specs.declared.event.Outcome.TheVariants as found
use Rattle.lz_machine.specs.declared.kind.Kind.TheVariants as kind
use Rattle.std.proofs.Common.{◌≡◌, ◌≢◌, ℕ, Bool, true, false, List, [], ◌∷◌, ◌++◌, length, Option, Some, None, is_some, refl, sym, ap, arith, length-append}
use Rattle.std.proofs.lemmas.Option.{none-some, same_Some}
use mathlib.Core.Bool.{false≢true}
use Rattle.lz_slot.specs.declared.{command.Command.TheVariants.{Add}, format.Format.TheVariants.{One}}
use Rattle.lz_list.specs.declared.place.Place.TheVariants.{Bucket}
use Rattle.lz_machine.specs.declared.caller.Progress.{Progress, TheVariants.{Playing, LoadsHalt, Claiming, Checking, Answering}}
use Rattle.lz_machine.specs.declared.{caller.Sequence.TheVariants.{Adding}, event.{Event.TheVariants.{Claim, Sync, WriteOpen}, Reply.TheVariants.{No}}}
use Rattle.lz_machine.specs.{declared.kind.Kind.{Kind}, Orders.{Calling}, Yards.{Yard}}
use Rattle.lz_board.specs.{declared.view.{Note.{Note}, Part.{Part}, What.TheVariants.{Called, Played}}, Notes.{note_by}, Plays.{no_sizes}}
use Rattle.lz_refinement.proofs.CoveredRows.{yard_at}
use Rattle.lz_set.specs.declared.underway.Blocked.TheVariants.{Syncs, Busy, Answers}
use Rattle.lz_set.specs.Stages.{HasPlayed, NoneOf, PlaysOne, StandsAt, StepsUnfailed, StepsWithout, StopsBefore, kind_of_failed, kind_of_step}

-- an adding of 9 in slot 1 that has come so far
abbrev call_at : Progress → Calling
call_at at = record { command = Add 9; buckets = 1; passes = 1; progress = at }

syncs_after_release : StandsAt Syncs (call_at (Playing (Adding 1) 3))
syncs_after_release = (1, refl)

no_sync_before_it : StandsAt Syncs (call_at (Playing (Adding 1) 2)) → ⊥
no_sync_before_it h = let is = h.1 in cc

busy_at_its_claim : StandsAt Busy (call_at (Claiming (Some 1) (Bucket 0) None))
busy_at_its_claim = (Bucket 0, None, refl)

not_busy_once_taken : StandsAt Busy (call_at (Checking (Some 1) None)) → ⊥
not_busy_once_taken h = let is = h.2 in cc

has_its_reply : StandsAt Answers (call_at (Answering No))
has_its_reply = (No, refl)

no_reply_yet : StandsAt Answers (call_at LoadsHalt) → ⊥
no_reply_yet h = false≢true (ap is_some h.1)

-- a Claim that found its node taken
abbrev claim : Note
claim = note_by 1 (Played (Claim (Bucket 0) None) found.Busy) None

-- a pass with these steps
abbrev pass_with : List Note → Part
pass_with steps = record { sizes = no_sizes; number = 1; pin = 1; begun = []; known = []; steps = steps; base = 0; loads = [] }

claimed_since : HasPlayed kind.Claim (pass_with []) (pass_with (claim ∷ []))
claimed_since = (Claim (Bucket 0) None, found.Busy, None, 0, [], refl, refl)

-- an older one doesn't count
claimed_before : HasPlayed kind.Claim (pass_with (claim ∷ [])) (pass_with (claim ∷ [])) → ⊥
claimed_before h = let more = length-append h.4 (claim ∷ []) in let is = ap length h.5 in absurd (omega (arith, more, is))

-- and neither does a step besides
claimed_once : PlaysOne kind.Claim (pass_with []) (pass_with (claim ∷ []))
claimed_once = (Claim (Bucket 0) None, found.Busy, None, 0, refl, refl)

claimed_twice : PlaysOne kind.Claim (pass_with []) (pass_with (claim ∷ claim ∷ [])) → ⊥
claimed_twice h = let is = ap length h.4 in omega (arith, is)

-- a sync, and what a pass has made without one
abbrev sync : Note
sync = note_by 1 (Played (Sync 1) found.Done) None

no_sync : kind_of_step claim.what ≢ Some kind.Sync
no_sync is = let same : kind.Claim ≡ kind.Sync = same_Some kind.Claim kind.Sync is in cc

nothing_since : StepsWithout kind.Sync (pass_with (sync ∷ [])) (pass_with (sync ∷ []))
nothing_since = ([], refl, tt)

synced_before : StepsWithout kind.Sync (pass_with (sync ∷ [])) (pass_with (claim ∷ sync ∷ []))
synced_before = (claim ∷ [], refl, (no_sync, tt))

abbrev newest : List Note → Option Kind
newest [] = None
newest (n ∷ ns) = kind_of_step n.what

synced_since : StepsWithout kind.Sync (pass_with []) (pass_with (sync ∷ [])) → ⊥
synced_since h = go h.0 h.1 h.2
  where
    go : (more : List Note) → sync ∷ [] ≡ more ++ [] → NoneOf kind_of_step kind.Sync more → ⊥
    go [] is none = let same = ap length is in omega (arith, same)
    go (n ∷ ns) is none = none.0 (sym (ap newest is))

-- a call that is made is an Invoke
invoked : NoneOf kind_of_step kind.Invoke (note_by 1 (Called (Add 9) One) None ∷ []) → ⊥
invoked h = h.0 refl

-- a sync that was done may be one that called no device; one that failed called it
done_since : StepsUnfailed kind.Sync (pass_with []) (pass_with (sync ∷ []))
done_since = (sync ∷ [], refl, (none-some kind.Sync, tt))

abbrev failed : Note
failed = note_by 1 (Played (Sync 1) found.Fault) None

failed_before : StepsUnfailed kind.Sync (pass_with (failed ∷ [])) (pass_with (claim ∷ failed ∷ []))
failed_before = (claim ∷ [], refl, (none-some kind.Sync, tt))

abbrev newest_failed : List Note → Option Kind
newest_failed [] = None
newest_failed (n ∷ ns) = kind_of_failed n.what

failed_since : StepsUnfailed kind.Sync (pass_with []) (pass_with (failed ∷ [])) → ⊥
failed_since h = go h.0 h.1 h.2
  where
    go : (more : List Note) → failed ∷ [] ≡ more ++ [] → NoneOf kind_of_failed kind.Sync more → ⊥
    go [] is none = let same = ap length is in omega (arith, same)
    go (n ∷ ns) is none = none.0 (sym (ap newest_failed is))

-- a write that failed is no sync
failed_write : StepsUnfailed kind.Sync (pass_with []) (pass_with (note_by 1 (Played WriteOpen found.Fault) None ∷ []))
failed_write = (note_by 1 (Played WriteOpen found.Fault) None ∷ [], refl, ((λ is. let same : kind.WriteOpen ≡ kind.Sync = same_Some kind.WriteOpen kind.Sync is in cc), tt))

-- a slot whose key was written, before its sync and after it
key_not_synced : StopsBefore (yard_at cell.KeyLoose) Syncs (Sync 0)
key_not_synced = (0, refl, refl)

key_synced : StopsBefore (yard_at cell.Keyed) Syncs (Sync 0) → ⊥
key_synced h = let slot = h.1 in let sure = h.2 in cc

no_such_slot : StopsBefore (yard_at cell.KeyLoose) Syncs (Sync 1) → ⊥
no_such_slot h = let slot = h.1 in let sure = h.2 in cc

no_sync_at_all : StopsBefore (yard_at cell.KeyLoose) Syncs WriteOpen → ⊥
no_sync_at_all h = let slot = h.1 in cc

-- a bucket's head that another has, the node after it, and what is free
abbrev held_by : ℕ → ℕ → Bool → Yard
held_by head node dead =
    let yard = yard_at cell.Keyed in
    record yard { locks = record { heads = head ∷ []; nodes = node ∷ [] }; vault = record yard.vault { dead = dead } }

head_taken : StopsBefore (held_by 2 0 false) Busy (Claim (Bucket 0) None)
head_taken = (Bucket 0, None, refl, refl)

node_taken : StopsBefore (held_by 0 2 false) Busy (Claim (Bucket 0) (Some 0))
node_taken = (Bucket 0, Some 0, refl, refl)

other_taken : StopsBefore (held_by 0 2 false) Busy (Claim (Bucket 0) None) → ⊥
other_taken h = let pred = h.2 in let taken = h.3 in cc

-- over a dead vault a Claim is answered that
taken_and_dead : StopsBefore (held_by 2 2 true) Busy (Claim (Bucket 0) (Some 0)) → ⊥
taken_and_dead h = let pred = h.2 in let taken = h.3 in cc

no_claim : StopsBefore (held_by 2 2 false) Busy (Sync 0) → ⊥
no_claim h = let pred = h.2 in cc

never_for_a_reply : StopsBefore (held_by 2 2 false) Answers (Claim (Bucket 0) None) → ⊥
never_for_a_reply h = h
