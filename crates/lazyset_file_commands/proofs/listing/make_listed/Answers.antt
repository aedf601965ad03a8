use Rattle.lazyset_file_commands.proofs.listing.make_listed.Goals as goal
use Rattle.std.proofs.Common.{inr}

pub returns-in-Ok-make_with-clause-any_moment : goal.returns-in-Ok-make_with-clause-any_moment
returns-in-Ok-make_with-clause-any_moment g c = λ honest.
    inr (c.deref.result.now, rw c.deref.ensures.value c.in-Ok.ensures.ok, c.make_with.ensures.any_moment honest)

pub returns-clause-any_moment : goal.returns-clause-any_moment
returns-clause-any_moment g c = λ honest.
    inr (c.deref.result.now, rw c.deref.ensures.value c.in-Ok.ensures.ok, c.make_with.ensures.any_moment honest)
