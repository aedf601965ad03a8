-- What is written into a slot, as a call of the device.
use Rattle.std.specs.Prelude.{ℕ, List, Option, Some, None}
use Rattle.lz_vault.specs.{Vaults.{DeviceCall, NoCall, WriteAt}, declared.slot_writes.SlotBytes.{SlotBytes, TheVariants.{Gate, Body, Whole}}}

abbrev pub bytes_of : SlotBytes → List ℕ
bytes_of (Gate bytes) = bytes
bytes_of (Body bytes) = bytes
bytes_of (Whole bytes) = bytes

-- the call that writes from there on these bytes, or none
abbrev pub call_of : Option (ℕ × SlotBytes) → DeviceCall
call_of None = NoCall
call_of (Some write) = WriteAt write.0 (bytes_of write.1)
