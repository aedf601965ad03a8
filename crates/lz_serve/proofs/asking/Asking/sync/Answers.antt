use Rattle.lz_serve.proofs.asking.Asking.sync.Goals as goal
use Rattle.std.proofs.Common.{sym}
use Rattle.lz_serve.proofs.Askings.{still_played}

pub invariant_of-self : goal.invariant_of-self
invariant_of-self g c =
    let from = c.self.inside in (
      still_played g.N.Named.board g.N.Named.format g.B.Given.parts from.question from.pass c.sync.new.pass from.halted from.call c.in-Some.call.now c.sync.new.call from.tries (sym c.in-Some.ensures.value) c.self.invariant.0
          c.sync.ensures.counts c.sync.ensures.pass,
      tt,
    )
