use Rattle.lz_serve.proofs.asking.grant.Given as goal
use Rattle.std.specs.Prelude.{◌≡◌, ◌≤◌, ◌-◌, Some}
use Rattle.lz_slot.specs.declared.command.Command.{Command}
use Rattle.lz_set.specs.Names.{MayCall}
use Rattle.lz_serve.{specs.Replies.{command_of, most_tries}, proofs.Seats.{AskedUpTo}}

abbrev pub invariant-calls : goal.invariant-calls
invariant-calls g l = record {
  may_call : MayCall g.N.Named.board l.pass;
  asked : (c : Command) → command_of l.fn.question.request ≡ Some c → AskedUpTo g.N.Named.board g.N.Named.format l.fn.question.earlier c l.tries l.fn.pass l.answer l.pass;
  few : l.tries ≤ most_tries;
}

abbrev pub decreases-calls : goal.decreases-calls
decreases-calls g l = most_tries - l.tries
