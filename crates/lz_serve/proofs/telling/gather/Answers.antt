use Rattle.lz_serve.proofs.telling.gather.Goals as goal
use Rattle.std.proofs.Common.{◌≡◌, ℕ, ◌∷◌, [], ◌++◌, ◌+◌, suc, List, Some, arith, take, rules, sym, ap, ◌∙◌, subst}
use Rattle.lz_proto.specs.declared.reply.Reply.{Reply}
use Rattle.lz_serve.{specs.{declared.line.Line.{Line}, Lines.{replies_of}}, proofs.LineReplies.{replies_more, replies_none, taken, there}}

pub returns-in_default-clause-none : goal.returns-in_default-clause-none
returns-in_default-clause-none c so few =
    let t = taken c.args.under.now.items c.loop-index.index c.args.count c.loop-index-test.true few in
    let none = sym (c.reply_at.ensures t.line t.is) ∙ c.in_default.is in
    ap (λ (l : List Line). replies_of l) t.first ∙ replies_none (take c.loop-index.index c.args.under.now.items) t.more t.line none

pub loop-index-preserved : goal.loop-index-preserved
loop-index-preserved c =
    let t = there c.args.under.now.items c.loop-index.index (omega (arith, c.loop-index-test.true, c.if-len-count.false, c.len.ensures)) in
    let some = sym (c.reply_at.ensures t.line t.is) ∙ c.in-Some.is in
    let pushed : c.loop-index.replies.items ++ c.in-Some.reply ∷ [] ≡ c.push.new.self.items = search (rules, c.in_ok-push.ensures.items) in
    let all : replies_of (take (suc c.loop-index.index) c.args.under.now.items) ≡ Some c.push.new.self.items =
    ap (λ (l : List Line). replies_of l) t.next ∙ replies_more (take c.loop-index.index c.args.under.now.items) t.line c.loop-index.replies.items c.in-Some.reply c.loop-index.invariant some
    ∙ ap (λ (l : List Reply). Some l) pushed in
    let next : suc c.loop-index.index ≡ c.loop-index.index + 1 = omega arith in
    subst (λ (n : ℕ). replies_of (take n c.args.under.now.items) ≡ Some c.push.new.self.items) next all
