use Rattle.lz_set.proofs.set.Set.go_on.Goals as goal
use Rattle.std.proofs.Common.{◌≡◌, ◌≢◌, true, Option, Some, None, is_some, refl, sym, ap, ◌∙◌, subst}
use mathlib.Core.Bool.{false≢true}
use Rattle.lz_machine.specs.{declared.event.Reply.{Reply}, Calls.{event_at}, Laws.{hop_of}, Orders.{Calling, shape_with}, Runs.{reply_at}, Table.{is_sure}}
use Rattle.lz_board.specs.Seats.{part}
use Rattle.lz_set.proofs.Plays.{held_unfailed, same_counts, stands_at, stands_before, turned_one, turned_unfailed, walked_unfailed}

some_is : (o : Option Reply) → is_some o ≡ true → (reply : Reply) × (o ≡ Some reply)
some_is None is = absurd (false≢true is)
some_is (Some reply) is = (reply, refl)

none_of : {A : Type 0} (o : Option A) → ((a : A) → o ≢ Some a) → o ≡ None
none_of None none = refl
none_of (Some a) none = absurd (none a refl)

pub walk-requires-clause-counted : goal.walk-requires-clause-counted
walk-requires-clause-counted g c =
    let was = c.requires.counted in
    (was.0, was.1, was.2, c.loop.invariant.counts was.0 was.1 was.2 was.3)

pub returns-then-is_some-clause-counts : goal.returns-then-is_some-clause-counts
returns-then-is_some-clause-counts g c = λ asked format before counts. c.walk.ensures.counts asked format before (c.loop.invariant.counts asked format before counts)

pub returns-then-is_some-clause-stands : goal.returns-then-is_some-clause-stands
returns-then-is_some-clause-stands g c =
    let got : (reply : Reply) × (c.reply.result ≡ Some reply) = some_is c.reply.result (sym c.is_some.ensures ∙ c.if-is_some.true) in
    (got.0, ap (λ (k : Calling). reply_at k.progress) (sym c.call.view_is) ∙ sym c.reply.ensures ∙ got.1)

pub returns-then-is_some-clause-steps : goal.returns-then-is_some-clause-steps
returns-then-is_some-clause-steps g c = walked_unfailed (part c.args.pass.now) (part c.loop.pass) (part c.walk.new.pass) c.loop.invariant.steps c.walk.ensures.steps

pub returns-in-Some-stop_before-clause-counts : goal.returns-in-Some-stop_before-clause-counts
returns-in-Some-stop_before-clause-counts g c = λ asked format before counts.
    same_counts g.N.Named.board c.loop.call (part c.loop.pass) c.call.inside.caller c.walk.new.call (part c.walk.new.pass) c.call.view_is c.walk.ensures.counts asked format before (c.loop.invariant.counts asked format before counts)

pub returns-in-Some-stop_before-clause-stands : goal.returns-in-Some-stop_before-clause-stands
returns-in-Some-stop_before-clause-stands g c = stands_at c.deref.result.now.yard _ c.call.inside.caller c.next-event.result c.next-event.ensures.event (rw c.in-Some-stop_before.is at c.stop_before.ensures.stops)

pub returns-in-Some-stop_before-clause-before : goal.returns-in-Some-stop_before-clause-before
returns-in-Some-stop_before-clause-before g c = λ _.
    stands_before _ _ _ _ c.call.inside.caller c.next-event.result c.keep.ensures c.deref.ensures c.next-event.ensures.event (rw c.in-Some-stop_before.is at c.stop_before.ensures.stops)

pub returns-in-Some-stop_before-clause-steps : goal.returns-in-Some-stop_before-clause-steps
returns-in-Some-stop_before-clause-steps g c = walked_unfailed (part c.args.pass.now) (part c.loop.pass) (part c.walk.new.pass) c.loop.invariant.steps c.walk.ensures.steps

pub turn_on-requires-clause-counted : goal.turn_on-requires-clause-counted
turn_on-requires-clause-counted g c =
    let was = c.requires.counted in (
      was.0,
      was.1,
      was.2,
      same_counts g.N.Named.board c.loop.call (part c.loop.pass) c.call.inside.caller c.walk.new.call (part c.walk.new.pass) c.call.view_is c.walk.ensures.counts was.0 was.1 was.2 (c.loop.invariant.counts was.0 was.1 was.2 was.3),
    )

pub turn_on-requires-clause-event : goal.turn_on-requires-clause-event
turn_on-requires-clause-event g c = c.next-event.ensures.event

pub turn_on-requires-clause-load : goal.turn_on-requires-clause-load
turn_on-requires-clause-load g c = ap hop_of c.next-event.ensures.event ∙ ap (λ (k : Calling). hop_of (event_at (shape_with k) k.command k.progress)) c.call.view_is ∙ c.walk.ensures.loaded

pub loop-preserved : goal.loop-preserved
loop-preserved g c =
    let one = walked_unfailed (part c.args.pass.now) (part c.loop.pass) (part c.walk.new.pass) c.loop.invariant.steps c.walk.ensures.steps in
    record {
      pass = c.turn_on.ensures.pass;
      steps = held_unfailed c.next-event.result (part c.args.pass.now) (part c.walk.new.pass) (part c.turn_on.new.pass) one
          (turned_one _ _ _ _ _ _ _ _ c.next-event.ensures.event c.turn_on.ensures.advanced)
          (λ slot is. turned_unfailed _ _ _ _ _ _ _ c.turn_on.ensures.advanced (c.turn_on.ensures.covered slot is
          (subst (λ l. is_sure l.yard slot ≡ true) (c.deref.ensures ∙ sym c.deref_mut.ensures.value) (c.stop_before.ensures.goes (none_of c.stop_before.result c.in_default.not-Some) slot is))).0);
      counts = λ asked format before counts. c.turn_on.ensures.goes asked format before
          (same_counts g.N.Named.board c.loop.call (part c.loop.pass) c.call.inside.caller c.walk.new.call (part c.walk.new.pass) c.call.view_is c.walk.ensures.counts asked format before (c.loop.invariant.counts asked format before counts));
    }
