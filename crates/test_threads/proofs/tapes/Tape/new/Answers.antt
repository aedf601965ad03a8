use Rattle.test_threads.proofs.tapes.Tape.new.Goals as goal
use Rattle.std.proofs.Common.{false, List, ℕ, sym, subst}
use Rattle.test_threads.{specs.Tapes.{IsTape}, proofs.ToldTexts.{begun}}

pub invariant_of-result : goal.invariant_of-result
invariant_of-result g c =
    let b = g.N.Named.board in
    let F = g.N.Named.format in
    subst (λ (sent : List ℕ). IsTape b F c.args.text.now 0 false sent) (sym c.new.ensures.items) (begun b F c.args.text.now)
