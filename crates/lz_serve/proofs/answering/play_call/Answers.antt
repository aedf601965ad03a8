use Rattle.lz_serve.proofs.answering.play_call.Goals as goal
use Rattle.std.proofs.Common.{◌≡◌, IfSome, inl, inr, option_map, refl, rules, sym, subst}
use Rattle.lz_list.{specs.Traces.{Trace, Begins}, proofs.Traces.WalkEnd.{begins_before}}
use Rattle.lz_board.specs.{declared.pass.Pass.{Pass}, Seats.{part}}
use Rattle.lz_serve.specs.Grants.{Posed}
use Rattle.lz_serve.proofs.{Askings.{same_anew, same_made, same_replied, same_told}, Meetings.{reply_seen, some_mapped}, Seats.{grows}}

pub reply-requires-2-clause-seen : goal.reply-requires-2-clause-seen
reply-requires-2-clause-seen g c =
    let q = c.requires.called.question in
    let gr = c.in-Some.granted in
    let told = c.in-Some.ensures.granted in
    let asks = c.requires.called.asks in
    let asked = c.go_on.ensures.same.question in
    let known = (part c.pass.result.now).known in
    let same : gr.question ≡ q = cc in
    let after : Begins (part gr.after).known known =
    subst (λ (p : Pass). Begins (part gr.after).known (part p).known) (sym c.pass.ensures) (subst (λ (p : Pass). Begins (part p).known (part c.meet.new.asking.pass).known) (sym told.1) c.meet.ensures.grows) in
    let from : Begins (part q.before).known (part gr.after).known =
    subst (λ (x : Posed). Begins (part x.before).known (part gr.after).known) same (grows g.N.Named.board g.N.Named.format gr.question.earlier gr.question.before gr.after gr.question.request gr.reply c.reply.ensures.granted) in
    reply_seen c.args.crowd.now (option_map (λ free. (part free.pass).known) c.args.meeting.now) (part q.before).known known (begins_before (part q.before).known (part gr.after).known known from after)
    (some_mapped (λ (t : Trace). Begins t known) (λ free. (part free.pass).known) c.args.meeting.now
    (subst (λ (p : Pass). IfSome c.args.meeting.now (λ free. Begins (part free.pass).known (part p).known)) (sym c.pass.ensures) c.meet.ensures.others)) c.requires.called.knows

pub returns-then-waits-2-clause-waits : goal.returns-then-waits-2-clause-waits
returns-then-waits-2-clause-waits g c = λ is.
    let again = c.in_default-answer.ensures.again refl in
    inl (
      search rules,
      inr (same_made g.N.Named.board g.N.Named.format c.args.crowd.now c.args.asking.now c.go_on.new.self c.answer.new.self c.go_on.ensures.same
          (record { question = again.0; token = c.in_default-answer.ensures.token; more = again.2; answered = (c.still_awaits-earlier.result, c.still_awaits-earlier.ensures, c.in_default-answer.ensures.told) })),
    )

pub returns-else-waits-2-clause-anew : goal.returns-else-waits-2-clause-anew
returns-else-waits-2-clause-anew g c = λ is.
    let again = c.in_default-answer.ensures.again refl in
    same_anew g.N.Named.board g.N.Named.format c.args.crowd.now c.args.crowd.now c.args.asking.now c.go_on.new.self c.answer.new.self c.go_on.ensures.same
    (inl (record { question = again.0; token = c.in_default-answer.ensures.token; more = again.2; answered = (c.still_awaits-earlier.result, c.still_awaits-earlier.ensures, c.in_default-answer.ensures.told) }))

pub returns-then-begin_next-clause-anew : goal.returns-then-begin_next-clause-anew
returns-then-begin_next-clause-anew g c = λ is.
    same_anew g.N.Named.board g.N.Named.format c.args.crowd.now c.begin_next.new.crowd c.args.asking.now c.go_on.new.self c.begin_next.new.asking c.go_on.ensures.same
    (inr ((c.in-Some.granted.reply, c.answer.new.self.pass, (c.still_awaits-earlier.result, c.still_awaits-earlier.ensures, c.in-Some.ensures.told)), search rules, search rules))

pub returns-else-begin_next-clause-replied : goal.returns-else-begin_next-clause-replied
returns-else-begin_next-clause-replied g c = λ is. (
  same_told g.N.Named.board g.N.Named.format c.args.crowd.now c.args.asking.now c.go_on.new.self c.go_on.ensures.same
      (c.in-Some.granted.reply, c.answer.new.self.pass, (c.still_awaits-earlier.result, c.still_awaits-earlier.ensures, c.in-Some.ensures.told)),
  same_replied c.begin_next.new.crowd c.args.asking.now c.go_on.new.self c.go_on.ensures.same (search rules),
)
