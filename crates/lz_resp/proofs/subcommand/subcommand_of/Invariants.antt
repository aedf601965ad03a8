use Rattle.lz_resp.proofs.subcommand.subcommand_of.Given as goal
use Rattle.std.proofs.Common.{◌≡◌, drop}
use Rattle.lz_resp.specs.Names.{named, subcommand_of, subname_of}

abbrev pub invariant-loop-subcommand : goal.invariant-loop-subcommand
invariant-loop-subcommand l = named subname_of (drop l.subcommand-index l.subcommand-items) l.argument ≡ subcommand_of l.fn.command l.argument
