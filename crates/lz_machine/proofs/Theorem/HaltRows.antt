-- Worked rows: what may be told after a halt, and how many calls are told of a device that failed. Marks stand newest first.
use Rattle.std.proofs.Common.{◌≡◌, inl, inr, ℕ, true, [], ◌∷◌, Option, Some, None, refl, arith}
use mathlib.Core.Bool.{false≢true}
use Rattle.lz_slot.specs.declared.{command.Command.TheVariants.{Add, Has}, history.Cut.TheVariants.{Halted as cut_halted, Device as cut_device}}
use Rattle.lz_slot.specs.declared.history.{HistoryEvent.TheVariants.{Call, Answer, Refused, Cut, Crash, Opened}, Refusal.TheVariants.{Full, Worn, OldFile}}
use Rattle.lz_slot.specs.Histories.{History}
use Rattle.lz_machine.specs.declared.caller.{Progress.{Progress, TheVariants.{Playing, Answering}}, Sequence.TheVariants.{Adding, Halting}}
use Rattle.lz_machine.specs.{declared.event.Reply.TheVariants.{Halted, Device}, Runs.{Caller}, Halts.{HaltLasts, IsMadeLate, calls_due, told_device}}

-- call 1 was cut off, and call 2 is made then
abbrev halted : History
halted = Call 2 2 (Add 5) ∷ Cut 1 cut_device ∷ Call 1 1 (Add 4) ∷ []

is_late : IsMadeLate halted 2
is_late = inl (refl, refl)

first_in_time : IsMadeLate (Call 1 1 (Add 4) ∷ []) 1 → ⊥
first_in_time (inl now) = false≢true now.1
first_in_time (inr before) = before

lasts : HaltLasts halted
lasts = (tt, (first_in_time, (tt, tt)))

told_halted : HaltLasts (Cut 2 cut_halted ∷ halted)
told_halted = (tt, lasts)

told_worn : HaltLasts (Refused 2 Worn ∷ halted)
told_worn = (tt, lasts)

told_old : HaltLasts (Refused 2 OldFile ∷ halted)
told_old = (tt, lasts)

not_answered : HaltLasts (Answer 2 true ∷ halted) → ⊥
not_answered h = h.0 is_late

not_full : HaltLasts (Refused 2 Full ∷ halted) → ⊥
not_full h = h.0 is_late

not_failed : HaltLasts (Cut 2 cut_device ∷ halted) → ⊥
not_failed h = h.0 is_late

-- a call that was under way may be answered
abbrev under_way : History
under_way = Call 2 2 (Add 5) ∷ Call 1 1 (Add 4) ∷ []

in_time : (i : ℕ) → IsMadeLate under_way i → ⊥
in_time i (inl now) = false≢true now.1
in_time i (inr (inl now)) = false≢true now.1
in_time i (inr (inr before)) = before

answered_after : HaltLasts (Answer 2 true ∷ Cut 1 cut_device ∷ under_way)
answered_after = (in_time 2, (in_time 1, (tt, (tt, tt))))

-- and so may a call of the next life
opened_again : HaltLasts (Answer 3 true ∷ Call 3 1 (Has 4) ∷ Opened [] ∷ Crash ∷ halted)
opened_again = (third_in_time, (tt, (tt, (tt, lasts))))
  where
    third_in_time : IsMadeLate (Call 3 1 (Has 4) ∷ Opened [] ∷ Crash ∷ halted) 3 → ⊥
    third_in_time (inl now) = false≢true now.1
    third_in_time (inr (inl now)) = let other = now.0 in omega (arith, other)
    third_in_time (inr (inr (inl now))) = let other = now.0 in omega (arith, other)
    third_in_time (inr (inr (inr before))) = before

-- of two calls that were cut off, one was told of the device
told_once : told_device (Cut 2 cut_halted ∷ halted) ≡ 1
told_once = refl

none_told_yet : told_device (Opened [] ∷ Crash ∷ halted) ≡ 0
none_told_yet = refl

-- and of these one is to be told
abbrev call_at : Progress → Option Caller
call_at at = Some (record { number = 1; command = Add 4; progress = at })

one_due : calls_due (call_at (Playing (Halting Device) 0) ∷ None ∷ call_at (Playing (Adding 1) 2) ∷ call_at (Answering Halted) ∷ []) ≡ 1
one_due = refl
