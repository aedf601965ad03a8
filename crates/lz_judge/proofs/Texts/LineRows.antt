-- Worked lines of histories.
use Rattle.std.specs.Prelude.{◌≡◌, [], ◌∷◌, refl, codes, None, Some}
use Rattle.lz_slot.specs.declared.{command.Command.TheVariants.{Add, Has}, history.{Refusal.TheVariants.{OldFile}, HistoryEvent.TheVariants.{Call, Refused, Opened}}}
use Rattle.lz_judge.specs.{declared.line.Line.TheVariants.{Seen, Other}, LinesRead.{line_read}}

-- a key of any room, and both spellings of one in room 0
calls : (line_read (codes "call 1 2 add 3:17") ≡ Some (Seen (Call 1 2 (Add 3000000000000000017)))) × (line_read (codes "call 1 2 has 0:17") ≡ Some (Seen (Call 1 2 (Has 17))))
    × (line_read (codes "call 1 2 has 17") ≡ Some (Seen (Call 1 2 (Has 17))))
calls = (refl, refl, refl)

no_calls : (line_read (codes "call 1 2 add 16:1") ≡ None) × (line_read (codes "call 1 2 add 05:1") ≡ None) × (line_read (codes "call 0:1 2 add 1") ≡ None)
no_calls = (refl, refl, refl)

old_file : line_read (codes "refused 7 oldfile") ≡ Some (Seen (Refused 7 OldFile))
old_file = refl

-- keys ascend by room, and then by number
opens : (line_read (codes "open 999999999999999999 1:0") ≡ Some (Seen (Opened (999999999999999999 ∷ 1000000000000000000 ∷ [])))) × (line_read (codes "show 5 0:6 1:2") ≡ Some Other)
opens = (refl, refl)

no_opens : (line_read (codes "open 1:0 999999999999999999") ≡ None) × (line_read (codes "open 5 0:5") ≡ None) × (line_read (codes "open 2:1 1:2") ≡ None)
no_opens = (refl, refl, refl)
