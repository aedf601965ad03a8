use Rattle.lz_allot.proofs.allot.Allot.is_taken.Goals as goal
use Rattle.std.proofs.{Common.{arith}, lemmas.Bool.{false≢true}}
use borrow.Author.Tests.{true-ltb, false-ltb}
use Rattle.lz_allot.proofs.CallEffects.{taken_low, tells_taken}

pub returns-in-Some : goal.returns-in-Some
returns-in-Some c =
    let at = rw (c.deref.ensures.value, c.index.ensures) at c.in-Some.ensures.lookup in
    rw (← c.self.view_is) (tells_taken _ _ _ _ _ _ c.self.invariant c.args.slot c.in-Some.kind.now c.is_taken.result (true-ltb _ _ at.0) at.1 c.is_taken.ensures)

pub returns-in-None : goal.returns-in-None
returns-in-None c =
    let at = rw (c.deref.ensures.value, c.index.ensures) at c.in-None.ensures.lookup in
    let past = false-ltb _ _ at.0 in
    rw (← c.self.view_is) ((λ never. absurd (false≢true never)), λ taken. absurd (omega (arith, past, taken_low _ _ _ _ _ _ c.self.invariant c.args.slot taken)))
