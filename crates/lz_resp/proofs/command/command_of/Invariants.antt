use Rattle.lz_resp.proofs.command.command_of.Given as goal
use Rattle.std.proofs.Common.{◌≡◌, drop}
use Rattle.lz_resp.specs.Names.{command_of, name_of, named}

abbrev pub invariant-loop-command : goal.invariant-loop-command
invariant-loop-command l = named name_of (drop l.command-index l.command-items) l.argument ≡ command_of l.argument
