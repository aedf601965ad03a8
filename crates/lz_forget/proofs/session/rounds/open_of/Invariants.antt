use Rattle.std.proofs.Common.{length, ◌≡◌, ◌++◌}
use Rattle.lz_forget.specs.Sessions.{open_of}
use Rattle.lz_forget.proofs.session.rounds.open_of.Given as goal

abbrev pub invariant-keys : goal.invariant-keys
invariant-keys l = l.its.items ++ open_of l.left l.rest ≡ open_of l.keys l.found

abbrev pub decreases-keys : goal.decreases-keys
decreases-keys l = length l.left
