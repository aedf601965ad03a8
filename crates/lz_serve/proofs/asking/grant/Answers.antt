use Rattle.lz_serve.proofs.asking.grant.Goals as goal
use Rattle.std.proofs.Common.{◌≡◌, Bool, false, Some, Result, refl, sym, ◌∙◌, subst, arith}
use Rattle.lz_slot.specs.declared.{command.Command.{Command}, format.Format.{Format}}
use Rattle.lz_proto.specs.declared.request.Request.{Request}
use Rattle.lz_board.specs.{declared.pass.Pass.{Pass}, Seats.{BoardId}}
use Rattle.lz_set.specs.declared.fault.Fault.{Fault}
use Rattle.lz_serve.{specs.Replies.{IsCallAnswered, SeatAnswers, command_of}, proofs.Seats.{asked_more, seat_told}}

-- a request asks for one command
of_asked : (b : BoardId) (F : Format) (request : Request) (d : Command) (answer : Result Bool Fault) (old new : Pass) → command_of request ≡ Some d → IsCallAnswered b F d answer old new
    → (c : Command) → command_of request ≡ Some c → IsCallAnswered b F c answer old new
of_asked b F request d answer old new is answered c asked = let same : d ≡ c = cc in subst (λ (e : Command). IsCallAnswered b F e answer old new) same answered

pub calls-init : goal.calls-init
calls-init g c = record {
  may_call = c.call-answer.ensures.pass;
  asked = λ d asked. record {
    middle = c.args.pass.now;
    before = refl;
    last =
        of_asked g.N.Named.board g.N.Named.format c.args.question.request c.command.result c.call-answer.result c.args.pass.now c.call-answer.new.pass c.command.ensures
        (record { sized = c.requires.may_call.0.2.sized; call = c.call-answer.ensures.answers; plain = c.call-answer.ensures.plain }) d asked;
  };
  few = omega arith;
}

pub calls-preserved : goal.calls-preserved
calls-preserved g c =
    let again = sym c.asks_again.ensures.again ∙ c.calls-test.true in
    let low = c.asks_again.ensures.few c.calls-test.true in
    record {
      may_call = c.call-answer-in-calls.ensures.pass;
      asked = λ d asked.
          asked_more (c.calls.invariant.asked d asked) false (λ is. absurd (cc)) again
          (of_asked g.N.Named.board g.N.Named.format c.args.question.request c.command-in-calls.result c.call-answer-in-calls.result c.calls.pass c.call-answer-in-calls.new.pass c.command-in-calls.ensures
          (record { sized = c.calls.invariant.may_call.0.2.sized; call = c.call-answer-in-calls.ensures.answers; plain = c.call-answer-in-calls.ensures.plain }) d asked);
      few = omega (arith, low);
    }

pub invariant_of-result : goal.invariant_of-result
invariant_of-result g c =
    let b = g.N.Named.board in
    let F = g.N.Named.format in
    let seat = seat_told (c.calls.invariant.asked c.command.result c.command.ensures) false c.command.ensures (sym c.asks_again.ensures.again ∙ c.calls-test.false) c.client_reply-reply.ensures in
    subst (λ (p : Pass). SeatAnswers b F c.args.question.earlier p c.args.question.request c.client_reply-reply.result c.of-after.result.value) (sym c.requires.before)
    (subst (λ (q : Pass). SeatAnswers b F c.args.question.earlier c.args.pass.now c.args.question.request c.client_reply-reply.result q) (sym c.of-after.ensures) seat)
