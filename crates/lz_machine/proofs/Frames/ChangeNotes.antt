-- The change that is noted of a pass that is inside is that which was published for it since it went in.
use Rattle.std.proofs.Common.{◌≡◌, ℕ, ◌+◌, ◌≤◌, ◌%◌, ◌==◌, ◌&&◌, if◌then◌else◌, Bool, true, false, List, [], ◌∷◌, ◌++◌, length, Option, Some, None, refl, sym}
use Rattle.std.{proofs.{Common.{◌∙◌, arith}, lemmas.Bool.{cases_eq, Decides.{nat_tests}}}, specs.Prelude.{nat_le}}
use Rattle.lz_slot.{specs.{Counted.{set_of_pass}, declared.command.Command.{Command}}, proofs.Counted.{of_pass_same}}
use Rattle.lz_list.specs.{declared.publishing.Publishing.TheVariants.{Linked as linked, Marked as marked}, Traces.{Trace}}
use Rattle.lz_machine.specs.{declared.{event.Event.{Event, TheVariants.{Link, Mark}}, caller.Progress.{Progress}}, Yards.{Yard, IsInside, actor_at, pin_in}}
use Rattle.lz_machine.specs.{Table.{publishes}, Runs.{Caller}, Notes.{Notes}, Ledgers.{Row}, CallersSound.{View, Relies, IsCaller, is_before_pin, side_of}}
use Rattle.lz_machine.{specs.CallsStand.{own_change}, proofs.Ledger.{Change.{changes_at, changed_same, changed_other}, Parts.{ends_now}}}
use Rattle.lz_machine.proofs.Frames.Outside.{side_even}

-- Of a pass that is inside now the note tells its own change still, where it did before.
abbrev pub IsTold : List ℕ → Trace → (ℕ → Option ℕ) → Trace → (ℕ → Option ℕ) → Type 0
IsTold new P changed Q later = (b n : ℕ) → IsInside (pin_in new b) → n ≤ length P → changed b ≡ own_change b n P → later b ≡ own_change b n Q

-- nothing is published
pub told_same : (new : List ℕ) (P : Trace) (changed : ℕ → Option ℕ) → IsTold new P changed P changed
told_same new P changed b n inside low told = told

-- events that publish a change of their actor's
abbrev pub is_change : Event → Bool
is_change Link = true
is_change Mark = true
is_change _ = false

event_none : (y : Yard) (a : ℕ) (e : Event) (P : Trace) (b n : ℕ) → is_change e ≡ false → own_change b n (publishes y (actor_at y a) a e ++ P) ≡ own_change b n P
event_none y a e P b n quiet = grind arith

-- no change is published
pub told_quiet : (new : List ℕ) (y : Yard) (a : ℕ) (e : Event) (P : Trace) (changed : ℕ → Option ℕ) → is_change e ≡ false → IsTold new P changed (publishes y (actor_at y a) a e ++ P) changed
told_quiet new y a e P changed quiet b n inside low told = told ∙ sym (event_none y a e P b n quiet)

module _ (new : List ℕ) (a : ℕ) (P Q : Trace) (notes : Notes) where
  -- Q is P with a change of a
  abbrev HasChange : Type 0
  HasChange = (b n : ℕ) → own_change b n Q ≡ (if nat_le n (length P) && (a == b) then Some (length P) else own_change b n P)

  told_changed : HasChange → IsTold new P notes.changed Q (changes_at notes a (length P)).changed
  told_changed has b n inside low told = grind (arith, nat_tests, cases_eq, changes_at, changed_same, changed_other)

-- a key is linked, and a node is marked
pub told_link : (new : List ℕ) (y : Yard) (a : ℕ) (P : Trace) (notes : Notes) → IsTold new P notes.changed (publishes y (actor_at y a) a Link ++ P) (changes_at notes a (length P)).changed
told_link new y a P notes = told_changed new a P (publishes y (actor_at y a) a Link ++ P) notes (λ b n. refl)

pub told_mark : (new : List ℕ) (y : Yard) (a : ℕ) (P : Trace) (notes : Notes) → IsTold new P notes.changed (publishes y (actor_at y a) a Mark ++ P) (changes_at notes a (length P)).changed
told_mark new y a P notes = told_changed new a P (publishes y (actor_at y a) a Mark ++ P) notes (λ b n. refl)

-- a call ends, and its pass is outside
pub told_ended : (new : List ℕ) (a : ℕ) (P : Trace) (notes : Notes) (last : List Row) → pin_in new a % 2 ≡ 0 → IsTold new P notes.changed P (ends_now notes a last).changed
told_ended new a P notes last even b n inside low told = grind (arith, nat_tests, cases_eq)

-- it ends as its pass goes out
pub told_out : (pins : List ℕ) (a : ℕ) (P : Trace) (notes : Notes) (last : List Row) → pin_in pins a % 2 ≡ 1 → 1 ≤ a → a ≤ length pins → IsTold (set_of_pass pins a (pin_in pins a + 1)) P notes.changed P (ends_now notes a last).changed
told_out pins a P notes last odd low high = grind (arith, of_pass_same, told_ended)

-- a trace has no change beyond its end
pub none_beyond : (b n : ℕ) (P : Trace) → length P ≤ n → own_change b n P ≡ None
none_beyond b n [] le = refl
none_beyond b n (linked k s p ∷ P) le = grind (arith, nat_tests, none_beyond b n P (omega (arith, le)))
none_beyond b n (marked k s p ∷ P) le = grind (arith, nat_tests, none_beyond b n P (omega (arith, le)))
none_beyond b n (_ ∷ P) le = none_beyond b n P (omega (arith, le))

-- a pass that is outside has changed nothing
side_out : (b : Bool) → side_of b ≡ 0 → b ≡ true
side_out b side = grind (arith, nat_tests)

before_pin : (v : View) (c : Command) (at : Progress) (P0 P : Trace) (changed : Option ℕ) → is_before_pin at ≡ true → Relies v c at P0 P changed → changed ≡ None
before_pin v c at P0 P changed outside h = grind arith

pub none_outside : (v : View) (pin : ℕ) (caller : Option Caller) (P0 P : Trace) (changed : Option ℕ) → pin % 2 ≡ 0 → IsCaller v pin caller P0 P changed → changed ≡ None
none_outside v pin caller P0 P changed even h = grind (arith, nat_tests, before_pin, side_out, side_even)
