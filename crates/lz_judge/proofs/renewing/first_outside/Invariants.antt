use Rattle.lz_judge.proofs.renewing.first_outside.Given as goal
use Rattle.std.proofs.Common.{take, All, map}
use Rattle.lz_judge.specs.{Places.{IsTable}, Renewals.{IsWithin}, Surveys.{finding_key, found_keys}}

abbrev pub invariant-loop-finding : goal.invariant-loop-finding
invariant-loop-finding l = IsTable (map finding_key l.others) l.places → All (IsWithin (found_keys l.others)) (take l.finding-index l.findings)
