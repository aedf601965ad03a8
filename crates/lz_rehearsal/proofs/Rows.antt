-- Worked lines of scripts.
use Rattle.std.specs.Prelude.{◌≡◌, refl, codes, None, Some}
use Rattle.lz_slot.specs.declared.command.Command.TheVariants.{Add, Has}
use Rattle.lz_disk.specs.declared.memory.Pick.TheVariants.{Byte, Part}
use Rattle.lz_rehearsal.specs.{declared.line.Line.TheVariants.{Call, Finish, Crash}, Scripts.{line_read}}

-- a key of any room, and both spellings of one in room 0
calls : (line_read (codes "call 1 add 1:0") ≡ Some (Call 1 (Add 1000000000000000000))) × (line_read (codes "call 1 has 0:9") ≡ Some (Call 1 (Has 9)))
    × (line_read (codes "call 1 has 9") ≡ Some (Call 1 (Has 9)))
calls = (refl, refl, refl)

no_calls : (line_read (codes "call 1 add 16:1") ≡ None) × (line_read (codes "call 1 add 05:1") ≡ None) × (line_read (codes "call 1 add 1:007") ≡ None)
no_calls = (refl, refl, refl)

-- actors and counts are no keys
no_rooms : (line_read (codes "call 0:1 add 1") ≡ None) × (line_read (codes "finish 0:1") ≡ None) × (line_read (codes "turn 1 0:2") ≡ None) × (line_read (codes "finish 1") ≡ Some (Finish 1))
no_rooms = (refl, refl, refl, refl)

parts : (line_read (codes "crash part 0") ≡ Some (Crash (Part 0))) × (line_read (codes "crash part 9999") ≡ Some (Crash (Part 9999))) × (line_read (codes "crash a5") ≡ Some (Crash (Byte 0xa5)))
parts = (refl, refl, refl)

no_parts : (line_read (codes "crash part 10000") ≡ None) × (line_read (codes "crash part 01") ≡ None) × (line_read (codes "crash part ") ≡ None) × (line_read (codes "crash part") ≡ None)
no_parts = (refl, refl, refl, refl)
