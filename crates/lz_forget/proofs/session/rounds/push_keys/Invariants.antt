use Rattle.std.proofs.Common.{length, ◌≡◌, ◌++◌}
use Rattle.lz_forget.specs.Sessions.{keys_of}
use Rattle.lz_forget.proofs.session.rounds.push_keys.Given as goal

abbrev pub invariant-requests : goal.invariant-requests
invariant-requests l = l.keys.items ++ keys_of l.rest ≡ l.initial.keys.items ++ keys_of l.requests

abbrev pub decreases-requests : goal.decreases-requests
decreases-requests l = length l.rest
