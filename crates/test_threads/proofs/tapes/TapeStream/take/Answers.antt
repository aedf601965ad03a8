use Rattle.test_threads.proofs.tapes.TapeStream.take.Goals as goal
use Rattle.std.proofs.Common.{List, ℕ, sym, subst}
use Rattle.test_threads.{specs.Tapes.{IsTape}, proofs.{ToldTexts.{told_on}, tapes.TapeStream.take.Goals.{in-Ok, in-Err}}}

pub invariant_of-self : goal.invariant_of-self
invariant_of-self g c =
    let b = g.N.Named.board in
    let F = g.N.Named.format in
    let t = c.self.inside in
    elim c.match-extend_from_slice.branch [
      | in-Ok w ↦ told_on b F c.args.self.now t.text.now t.sent.items c.args.text.now c.extend_from_slice.new.self.items t.read c.min-count.result t.ended c.self.view_is c.self.invariant c.requires w.in-Ok.ensures.items
      | in-Err w ↦ subst (λ (sent : List ℕ). IsTape b F t.text.now t.read t.ended sent) (sym {A = List ℕ} w.in-Err.ensures.items) c.self.invariant
    ]
