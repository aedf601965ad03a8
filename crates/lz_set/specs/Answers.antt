-- What a call answers.
use Rattle.lz_machine.specs.declared.event.Reply.TheVariants as reply
use Rattle.std.specs.Prelude.{ℕ, Bool, true, false, Result, Ok, Err}
use Rattle.lz_machine.specs.declared.event.Reply.{Reply}
use Rattle.lz_set.specs.declared.fault.Fault.{Fault, TheVariants.{Full, Halted, Worn, Device, OldFile}}

-- the number by which a program tells a fault
abbrev pub fault_number : Fault → ℕ
fault_number (Full counts) = 1
fault_number Halted = 2
fault_number Worn = 3
fault_number Device = 4
fault_number OldFile = 5

-- the machine's reply that an answer stands for
abbrev pub reply_of : Result Bool Fault → Reply
reply_of (Ok true) = reply.Yes
reply_of (Ok false) = reply.No
reply_of (Err (Full counts)) = reply.Full counts
reply_of (Err Halted) = reply.Halted
reply_of (Err Worn) = reply.Worn
reply_of (Err Device) = reply.Device
reply_of (Err OldFile) = reply.OldFile
