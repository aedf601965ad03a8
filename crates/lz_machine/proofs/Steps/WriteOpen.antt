-- WriteOpen keeps the invariant: the gate of the slot that the adder will link is opened.
use Rattle.std.proofs.{Common.{arith, ◌≡◌, ◌≢◌, ℕ, Bool, false, List, ◌∷◌, ◌++◌, Option, Some, refl, sym, ap, subst}, lemmas.Bool.Decides.{nat_tests}}
use Rattle.std.specs.Prelude.{slice_set}
use Rattle.lz_slot.{specs.{declared.command.Command.TheVariants.{Add}, Counted.{set_of_pass}, Histories.{History}}, proofs.Counted.{length-set_of_pass}}
use Rattle.lz_disk.specs.Images.{Medium}
use Rattle.lz_vault.specs.{declared.vault.Stage.TheVariants.{Opening}, Stages.{Cell}, Vaults.{Vaulted, medium_after, opening_call}}
use Rattle.lz_list.specs.declared.{publishing.Publishing.TheVariants.{LinkPrepared as link_prepared}, word.Word.TheVariants.{Link as link_at}}
use Rattle.lz_list.specs.{Words.{set, link_to}, Traces.{Trace}}
use Rattle.lz_machine.specs.declared.{event.Event.TheVariants.{WriteOpen}, actor.{Actor.{Actor}, LockPhase.TheVariants.{GateOpened}}}
use Rattle.lz_machine.specs.{declared.caller.{Sequence.TheVariants.{Adding}, Progress.TheVariants.{Playing}}, Yards.{Yard, actor_at, actor_in, pin_in, cell_in}}
use Rattle.lz_machine.specs.{Table.{with_hold, call_of, yard_done, publishes}, Runs.{Caller, caller_at}, Notes.{Notes}}
use Rattle.lz_machine.specs.{LocksSound.{has_locks, HasLock, RestsOn, LocksSound}, CallersSound.{Relies, view_of, CallerSound}, Sound.{DiskSound, Sound}}
use Rattle.lz_machine.proofs.Frames.{SlotWrite.{opening_done}, OneActor.{moving}, Hand.{same_hand, other_hand}, NodeLocks.{held_locks}}
use Rattle.lz_machine.proofs.{Frames.OpenedGate.{beside_published, h, lt, open_sound, published_sound, ready_published}, Steps.Hop.{call_at, own}}

module _ (n calls : ℕ) (y : Yard) (callers : List (Option Caller)) (disk : Medium) (M : History) (P : Trace) (notes : Notes)
    (sound : Sound n calls y callers disk M P notes) (a i k s : ℕ) (is : caller_at callers a ≡ Some (call_at i (Add k) (Playing (Adding s) 0)))
    (alive : y.vault.dead ≡ false) where
  abbrev x : Actor
  x = with_hold (actor_at y a) GateOpened

  abbrev actors' : List Actor
  actors' = set_of_pass y.actors a x

  abbrev link : ℕ
  link = link_to (actor_in y.actors a).curr

  abbrev P'' : Trace
  P'' = link_prepared s link ∷ P

  -- what is known before
  known : Relies (view_of y.shape y.vault y.actors a) (Add k) (Playing (Adding s) 0) (notes.begun a) P (notes.changed a)
  known = h n calls y callers disk M P notes sound a i k s is

  -- the words first: the adder holds still what it has checked
  linked_yard : Sound n calls (record { shape = y.shape; words = set y.words (link_at s) link; locks = y.locks; vault = y.vault; uses = y.uses; actors = y.actors }) callers disk M P'' notes
  linked_yard = published_sound n calls y callers disk M P notes sound a i k s is

  -- then its hold: it has opened its gate
  mine_now : actor_in actors' a ≡ x
  mine_now = same_hand n calls y callers disk M P notes a (call_at i (Add k) (Playing (Adding s) 0)) is sound x

  -- the others have what they had
  others_now : (b : ℕ) → b ≢ a → actor_in actors' b ≡ actor_in y.actors b
  others_now b other = other_hand n calls y callers disk M P notes a (call_at i (Add k) (Playing (Adding s) 0)) is sound x b other

  -- the adder holds the same locks, and rests on its slot too
  opened_locks : LocksSound y.shape y.locks actors' P''
  opened_locks = held_locks y.shape y.locks y.actors actors' P'' a others_now linked_yard.locks
      (λ q lock. record { locks = ap has_locks known.0; among = (subst (λ (z : Actor). HasLock z q) mine_now lock).among })
      (subst (λ (q : Actor). RestsOn y.shape.buckets q.hold q P'') (sym mine_now) (record {
        own = s;
        slot = known.1.slot;
        beside = beside_published n calls y callers disk M P notes sound a i k s is;
        ready = ready_published n calls y callers disk M P notes sound a i k s is;
      }))

  abbrev cells_open : List Cell
  cells_open = slice_set y.vault.cells s (record { stage = Opening; key = (cell_in y.vault.cells s).key })

  abbrev vault_open : Bool → Vaulted
  vault_open dead = record y.vault { cells = cells_open; dead = dead }

  abbrev medium_open : Medium
  medium_open = medium_after (opening_call y.vault.format s (cell_in y.vault.cells s).key) disk

  -- the disk is as the new cells say
  opened_disk : DiskSound y.shape (vault_open y.vault.dead) medium_open
  opened_disk = opening_done y.shape y.vault disk sound.images alive s (lt n calls y callers disk M P notes sound a i k s is) known.1.stage

  -- the adder goes on to its linking
  opened_mine : CallerSound (record { buckets = y.shape.buckets; passes = y.shape.passes; format = y.vault.format; cells = cells_open; dead = y.vault.dead; actor = x }) (pin_in y.words.pins a) (Some (call_at i (Add k) (Playing (Adding s) 1))) (notes.begun a) P'' (notes.changed a)
  opened_mine = grind (arith, nat_tests, own, linked_yard, known)

  -- all of it
  opened_sound : Sound n calls (record { shape = y.shape; words = set y.words (link_at s) link; locks = y.locks; vault = vault_open y.vault.dead; uses = y.uses; actors = actors' }) (moving callers a (call_at i (Add k) (Playing (Adding s) 0)) (Playing (Adding s) 1)) medium_open M P'' notes
  opened_sound =
      open_sound n calls (record { shape = y.shape; words = set y.words (link_at s) link; locks = y.locks; vault = y.vault; uses = y.uses; actors = y.actors }) callers disk M P'' notes linked_yard a i k s is
      y.vault.dead alive x actors' (length-set_of_pass y.actors a x) mine_now others_now refl refl refl refl
      (Playing (Adding s) 1) refl medium_open opened_disk opened_locks opened_mine

  -- The turn in which the gate is opened.
  pub write_open_keeps : Sound n calls (yard_done y (actor_at y a) a WriteOpen) (moving callers a (call_at i (Add k) (Playing (Adding s) 0)) (Playing (Adding s) 1))
      (medium_after (call_of y (actor_at y a) WriteOpen) disk) M (publishes y (actor_at y a) a WriteOpen ++ P) notes
  write_open_keeps = grind (arith, nat_tests, known, moving, call_at, opened_sound)
