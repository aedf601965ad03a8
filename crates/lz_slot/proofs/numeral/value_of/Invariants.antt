use Rattle.lz_slot.proofs.numeral.value_of.Given as goal
use Rattle.std.{proofs.Common.{◌≡◌, ◌≤◌, take}, specs.Str.Parse.{digits_value}}
use Rattle.lz_slot.specs.Numerals.{largest_read}

abbrev pub invariant-loop-digit : goal.invariant-loop-digit
invariant-loop-digit l = record { value : l.number ≡ digits_value 10 (take l.digit-index l.digits); range : l.number ≤ largest_read }
