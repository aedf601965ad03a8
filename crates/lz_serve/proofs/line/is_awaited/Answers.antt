use Rattle.lz_serve.proofs.line.is_awaited.Goals as goal
use Rattle.std.proofs.Common.{sym, ◌∙◌, arith}
use mathlib.Core.Bool.{true≢false}
use Rattle.lz_serve.proofs.ReadyLines.{free_all, free_more, free_start, not_free}

pub loop-at-init : goal.loop-at-init
loop-at-init c = free_start _ _ _ c.requires

pub loop-at-preserved : goal.loop-at-preserved
loop-at-preserved c =
    free_more c.args.under.now.items c.loop-at.at c.args.key (omega (arith, c.loop-at-test.true, c.len-at-end.ensures)) (λ is. absurd (true≢false (sym (c.awaits_at.ensures.1 is) ∙ c.if-awaits_at.false))) c.loop-at.invariant

pub returns-clause-free : goal.returns-clause-free
returns-clause-free c = λ _. free_all c.args.under.now.items c.loop-at.at c.args.key (omega (arith, c.loop-at-test.false, c.len-at-end.ensures)) c.loop-at.invariant

pub returns-then-awaits_at-clause-some : goal.returns-then-awaits_at-clause-some
returns-then-awaits_at-clause-some c = λ _. not_free c.args.under.now.items c.loop-at.at c.args.key (c.awaits_at.ensures.0 c.if-awaits_at.true)
