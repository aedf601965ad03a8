-- The callers' table, and the calls that stand in it.
use Rattle.std.proofs.{Common.{arith, ◌≡◌, ℕ, false, Option, None, is_some, refl}, lemmas.Bool.Decides.{nat_tests}}
use mathlib.Core.Bool.{false≢true}
use Rattle.lz_slot.specs.declared.command.Command.{Command}
use Rattle.lz_disk.specs.Images.{Medium}
use Rattle.lz_vault.specs.Vaults.{MayFail}
use Rattle.lz_machine.specs.declared.{course.Course.{Course}, event.Event.TheVariants.{Answer}, caller.Progress.{Progress, TheVariants.{Answering}}}
use Rattle.lz_machine.specs.{Yards.{Yard, actor_at}, Calls.{event_at, loaded}, Table.{course, call_on, line_call}, Runs.{Caller, reply_at}}

-- a place without a call is empty
pub none_of : (caller : Option Caller) → is_some caller ≡ false → caller ≡ None
none_of caller empty = grind (arith, nat_tests, false≢true)

-- an answer makes no device call, so that none fails in it
answer_calls_nothing : (k : Course) (y : Yard) (a : ℕ) (disk new : Medium) → MayFail (call_on k y (actor_at y a) Answer) disk new → ⊥
answer_calls_nothing k y a disk new h = grind (arith, nat_tests)

-- a call whose device call fails has no reply yet
pub fault_no_reply : (y : Yard) (a : ℕ) (c : Command) (at : Progress) (disk new : Medium) → MayFail (line_call y a (loaded y.words (event_at y.shape c at))) disk new → reply_at at ≡ None
fault_no_reply y a c (Answering reply) disk new h = absurd (answer_calls_nothing (course y a Answer) y a disk new h)
fault_no_reply y a c at disk new h = refl
