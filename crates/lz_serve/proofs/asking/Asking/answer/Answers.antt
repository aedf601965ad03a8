use Rattle.lz_serve.proofs.asking.Asking.answer.Goals as goal
use Rattle.std.proofs.Common.{◌≡◌, ◌+◌, ◌&&◌, Bool, Option, None, Some, true, sym, ap, ◌∙◌, subst}
use Rattle.lz_machine.specs.Orders.{Calling}
use Rattle.lz_board.specs.declared.pass.Pass.{Pass}
use Rattle.lz_serve.{specs.{Askings.{Asked, IsAnsweredWith, IsAnswering, IsResting}, Replies.{SeatAnswers, says_halted}}, proofs.Seats.{seat_told}}
use Rattle.lz_serve.proofs.Askings.{answered, answered_with, answering, asked_again, has_rested, rests_now, told_so, told_to_nobody}
use Rattle.lz_serve.proofs.asking.Asking.answer.Goals.{then-earlier, else-earlier}

pub invariant_of-self : goal.invariant_of-self
invariant_of-self g c =
    let b = g.N.Named.board in
    let F = g.N.Named.format in
    let given = g.B.Given.parts in
    let from = c.self.inside in
    let q = c.in-Some.question in
    let is = answering b F given from.question q from.pass from.halted from.call from.tries (sym c.in-Some.ensures.value) c.self.invariant.0 in
    let begun = sym c.in-Some-take.ensures.value in
    let told = c.answer-answer in
    let so : c.if-earlier.earlier ≡ true → q.earlier ≡ true =
    λ beside. elim c.if-earlier.branch [ then-earlier w ↦ sym w.earlier-earlier.ensures ∙ sym w.earlier-is ∙ beside | else-earlier w ↦ let other = w.earlier-is in let none = w.if-earlier.false in absurd (cc) ] in (
      subst (λ (o : Option Calling). IsAnswering b F given q told.new.pass o (from.tries + 1)) (sym c.take-2.ensures.after)
          (asked_again b F given is begun told.result told.new.pass c.if-earlier.earlier so (answered b F given is begun told.result told.new.pass told.ensures.answers told.ensures.plain)
          (sym c.asks_again.ensures.again ∙ c.if-asks_again.true) told.ensures.pass),
      tt,
    )

pub invariant_of-result : goal.invariant_of-result
invariant_of-result g c =
    let b = g.N.Named.board in
    let F = g.N.Named.format in
    let given = g.B.Given.parts in
    let from = c.self.inside in
    let q = c.in-Some.question in
    let is = answering b F given from.question q from.pass from.halted from.call from.tries (sym c.in-Some.ensures.value) c.self.invariant.0 in
    let told = c.answer-answer in
    let seat = seat_told (answered b F given is (sym c.in-Some-take.ensures.value) told.result told.new.pass told.ensures.answers told.ensures.plain) c.if-earlier.earlier is.asked (sym c.asks_again.ensures.again ∙ c.if-asks_again.false) c.client_reply-reply.ensures in
    subst (λ (p : Pass). SeatAnswers b F q.earlier q.before q.request c.client_reply-reply.result p) (sym c.of.ensures) seat

pub invariant_of-self-2 : goal.invariant_of-self-2
invariant_of-self-2 g c =
    let b = g.N.Named.board in
    let F = g.N.Named.format in
    let given = g.B.Given.parts in
    let from = c.self.inside in
    let is = answering b F given from.question c.in-Some.question from.pass from.halted from.call from.tries (sym c.in-Some.ensures.value) c.self.invariant.0 in
    let told = c.answer-answer in
    let new = told.new.pass in
    let reply = c.client_reply-reply.result in
    let seat = seat_told (answered b F given is (sym c.in-Some-take.ensures.value) told.result new told.ensures.answers told.ensures.plain) c.if-earlier.earlier is.asked (sym c.asks_again.ensures.again ∙ c.if-asks_again.false) c.client_reply-reply.ensures in
    let rests = rests_now b F given seat told.ensures.pass is.calm in
    let halted = c.says_halted-self-inside.result in
    let call = c.take-2.new.self in (
      has_rested b F given c.take.new.self new halted call from.tries c.take.ensures.after
          (subst (λ (h : Bool). IsResting b given new h call) (sym c.says_halted-self-inside.ensures)
          (subst (λ (o : Option Calling). IsResting b given new (says_halted reply) o) (sym c.take-2.ensures.after) rests)),
      tt,
    )

pub returns-then-asks_again-clause-told : goal.returns-then-asks_again-clause-told
returns-then-asks_again-clause-told g c =
    let b = g.N.Named.board in
    let F = g.N.Named.format in
    let given = g.B.Given.parts in
    let from = c.self.inside in
    let q = c.in-Some.question in
    let asks = sym c.in-Some.ensures.value in
    let is = answering b F given from.question q from.pass from.halted from.call from.tries asks c.self.invariant.0 in
    let told = c.answer-answer in
    let beside = c.if-earlier.earlier in
    let asked : Asked = record { question = from.question; token = from.token; pass = from.pass; halted = from.halted; call = from.call; tries = from.tries; stage = from.stage } in
    subst (λ (a : Asked). IsAnsweredWith b F c.args.earlier a None told.new.pass) c.self.view_is
    (answered_with b F given is asked c.args.earlier beside told.result told.new.pass None asks (answered b F given is (sym c.in-Some-take.ensures.value) told.result told.new.pass told.ensures.answers told.ensures.plain)
    (elim c.if-earlier.branch [
      | then-earlier w ↦ w.earlier-is ∙ w.earlier-earlier.ensures ∙ sym (ap (λ (e : Bool). e && q.earlier) w.if-earlier.true)
      | else-earlier w ↦ w.earlier-is ∙ w.if-earlier.false ∙ sym (ap (λ (e : Bool). e && q.earlier) w.if-earlier.false)
    ])
    (told_to_nobody b from.tries beside told.result (sym c.asks_again.ensures.again ∙ c.if-asks_again.true)))

pub returns-clause-told : goal.returns-clause-told
returns-clause-told g c =
    let b = g.N.Named.board in
    let F = g.N.Named.format in
    let given = g.B.Given.parts in
    let from = c.self.inside in
    let q = c.in-Some.question in
    let asks = sym c.in-Some.ensures.value in
    let is = answering b F given from.question q from.pass from.halted from.call from.tries asks c.self.invariant.0 in
    let told = c.answer-answer in
    let beside = c.if-earlier.earlier in
    let reply = c.client_reply-reply.result in
    let asked : Asked = record { question = from.question; token = from.token; pass = from.pass; halted = from.halted; call = from.call; tries = from.tries; stage = from.stage } in
    subst (λ (a : Asked). IsAnsweredWith b F c.args.earlier a (Some reply) told.new.pass) c.self.view_is
    (answered_with b F given is asked c.args.earlier beside told.result told.new.pass (Some reply) asks (answered b F given is (sym c.in-Some-take.ensures.value) told.result told.new.pass told.ensures.answers told.ensures.plain)
    (elim c.if-earlier.branch [
      | then-earlier w ↦ w.earlier-is ∙ w.earlier-earlier.ensures ∙ sym (ap (λ (e : Bool). e && q.earlier) w.if-earlier.true)
      | else-earlier w ↦ w.earlier-is ∙ w.if-earlier.false ∙ sym (ap (λ (e : Bool). e && q.earlier) w.if-earlier.false)
    ])
    (told_so b from.tries beside told.result reply (sym c.asks_again.ensures.again ∙ c.if-asks_again.false) c.client_reply-reply.ensures))
