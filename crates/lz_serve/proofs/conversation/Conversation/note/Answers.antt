use Rattle.lz_serve.proofs.conversation.Conversation.note.Goals as goal
use Rattle.std.proofs.Common.{◌≡◌, ◌≤◌, List, Some, length, slice_get, take, rules, sym, ap, subst}
use Rattle.lz_serve.specs.{declared.line.Line.{Line}, Conversations.{Talk}, Lines.{AreReplied, awaited, replied}}
use Rattle.lz_serve.proofs.ReadyLines.{noted_within, ready_noted}

pub count_ready-self-inside-requires-clause-within : goal.count_ready-self-inside-requires-clause-within
count_ready-self-inside-requires-clause-within c =
    let s = c.self.inside in
    let there : slice_get c.self.inside.under.items c.in-Some.at ≡ Some (awaited c.args.request) = cc (c.in-Some.ensures.some.0, c.in-Some.ensures.some.1.1, ap (λ (t : Talk). t.under) c.self.view_is) in
    let put = c.put_reply.ensures (awaited c.args.request) there in
    subst (λ (l : List Line). s.ready ≤ length l) (sym put) (noted_within s.ready s.under.items c.in-Some.at (replied c.args.request c.args.reply) c.self.invariant.1.within)

pub count_ready-self-inside-requires-clause-replied : goal.count_ready-self-inside-requires-clause-replied
count_ready-self-inside-requires-clause-replied c =
    let s = c.self.inside in
    let there : slice_get c.self.inside.under.items c.in-Some.at ≡ Some (awaited c.args.request) = cc (c.in-Some.ensures.some.0, c.in-Some.ensures.some.1.1, ap (λ (t : Talk). t.under) c.self.view_is) in
    let put = c.put_reply.ensures (awaited c.args.request) there in
    subst (λ (l : List Line). AreReplied (take s.ready l)) (sym put) (ready_noted s.ready s.under.items c.in-Some.at c.args.request c.args.reply c.self.invariant.1.replied)

pub returns-clause-noted : goal.returns-clause-noted
returns-clause-noted c so =
    let there : slice_get c.self.inside.under.items c.in-Some.at ≡ Some (awaited c.args.request) = cc (c.in-Some.ensures.some.0, c.in-Some.ensures.some.1.1, ap (λ (t : Talk). t.under) c.self.view_is) in
    let put = c.put_reply.ensures (awaited c.args.request) there in
    (c.in-Some.ensures.some.1, search (rules, put, c.in-Some.ensures.some.0, c.self.view_is))

pub invariant_of-self : goal.invariant_of-self
invariant_of-self c =
    let there : slice_get c.self.inside.under.items c.in-Some.at ≡ Some (awaited c.args.request) = cc (c.in-Some.ensures.some.0, c.in-Some.ensures.some.1.1, ap (λ (t : Talk). t.under) c.self.view_is) in
    let put = c.put_reply.ensures (awaited c.args.request) there in
    (search (rules, put, c.self.invariant.0), c.count_ready-self-inside.ensures)
