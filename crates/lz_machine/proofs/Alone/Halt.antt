-- Halted is answered only where the vault is dead, and worn only at the last pin.
use Rattle.std.proofs.{lemmas.{Bool.Decides.{nat_tests}, Option.{none-some, same_Some}}, Common.{◌≡◌, ℕ, true, Option, Some, subst, arith}}
use Rattle.lz_slot.specs.declared.command.Command.{Command}
use Rattle.lz_list.specs.Traces.{Trace, halt_word}
use Rattle.lz_machine.specs.declared.{event.Reply.{Reply, TheVariants.{Worn as SaysWorn, OldFile as SaysOldFile, Halted, Device}}, caller.Progress.{Progress}}
use Rattle.lz_machine.specs.{declared.caller.Progress.TheVariants.{Answering}, Table.{pin_of, is_old}, Runs.{Caller, run, first_point, reply_at}}
use Rattle.lz_machine.{specs.{CallersSound.{View, Relies, view_of, IsCaller}, Alone.{RefusalsAreRight}}, proofs.Theorem.Reached.{reached_sound, up_at}}
use Rattle.lz_machine.proofs.{Theorem.Timeliness.{worn_there}, Frames.OneActor.{mine}}

-- what is about to be answered
pub replies : (at : Progress) (reply : Reply) → reply_at at ≡ Some reply → at ≡ Answering reply
replies at reply is = grind (arith, nat_tests, same_Some, none-some)

pub halted_word : (v : View) (c : Command) (P0 P : Trace) (changed : Option ℕ) → Relies v c (Answering Halted) P0 P changed → halt_word P ≡ 1
halted_word v c P0 P changed h = grind (arith, nat_tests)

pub device_word : (v : View) (c : Command) (P0 P : Trace) (changed : Option ℕ) → Relies v c (Answering Device) P0 P changed → halt_word P ≡ 1
device_word v c P0 P changed h = grind (arith, nat_tests)

-- a call that is told of an old file adds a key that the file can't hold
pub old_command : (v : View) (c : Command) (P0 P : Trace) (changed : Option ℕ) (at : Progress) → at ≡ Answering SaysOldFile → Relies v c at P0 P changed → is_old v.format c ≡ true
old_command v c P0 P changed at is h = (subst (λ (q : Progress). Relies v c q P0 P changed) is h).2

-- and such a call is told so
pub told_old : (v : View) (pin : ℕ) (caller : Caller) (P0 P : Trace) (changed : Option ℕ) → IsCaller v pin (Some caller) P0 P changed → is_old v.format caller.command ≡ true → reply_at caller.progress ≡ Some SaysOldFile
told_old v pin caller P0 P changed h is = grind arith

-- worn comes only at the last pin, halted and device only of a dead vault, and an old file is told of exactly where a key is
-- added that the file can't hold
pub refusals_are_right : RefusalsAreRight
refusals_are_right start service disk M P a caller reached is may =
    let p = run (first_point start) reached.steps in
    let v = view_of service.yard.shape service.yard.vault service.yard.actors a in
    let there = up_at start p service disk (reached_sound start reached.steps reached.starts reached.runs) reached.state in
    let known = (mine service.yard.shape service.yard.vault service.yard.words.pins service.yard.actors service.callers p.trace there.notes a caller is there.up.sound.callers).stands in
    let relies = λ (reply : Reply) (told : reply_at caller.progress ≡ Some reply). subst (λ (at : Progress). Relies v caller.command at (there.notes.begun a) p.trace (there.notes.changed a)) (replies caller.progress reply told) known.2 in
    let dead = there.up.sound.slots.halted in (
      (λ worn. worn_there start p service disk (reached_sound start reached.steps reached.starts reached.runs) reached.state a caller is (replies caller.progress SaysWorn worn)),
      (λ halted. dead (halted_word v caller.command (there.notes.begun a) p.trace (there.notes.changed a) (relies Halted halted))),
      (λ device. dead (device_word v caller.command (there.notes.begun a) p.trace (there.notes.changed a) (relies Device device))),
      (λ old. old_command v caller.command (there.notes.begun a) p.trace (there.notes.changed a) caller.progress (replies caller.progress SaysOldFile old) known.2),
      told_old v (pin_of service.yard a) caller (there.notes.begun a) p.trace (there.notes.changed a) known,
    )
