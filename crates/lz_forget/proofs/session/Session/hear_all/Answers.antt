use Rattle.std.proofs.Common.{subst}
use Rattle.lz_forget.specs.Sessions.{HearsOne}
use Rattle.lz_forget.specs.Sessions.HearsAll.{last, more}
use Rattle.lz_forget.proofs.session.Session.hear_all.Goals as goal

pub replies-init : goal.replies-init
replies-init c = λ new h. h

pub replies-preserved : goal.replies-preserved
replies-preserved c =
    let heard = subst (λ whole. HearsOne whole c.replies.self c.hear_one.new.self) c.if-branch.true c.in_ok-hear_one.ensures.heard in
    λ new h. c.replies.invariant new (more c.replies.self c.hear_one.new.self new heard h)

pub returns : goal.returns
returns c =
    let heard = subst (λ whole. HearsOne whole c.replies.self c.hear_one.new.self) c.if-branch.false c.in_ok-hear_one.ensures.heard in
    c.replies.invariant c.hear_one.new.self (last c.replies.self c.hear_one.new.self heard)
