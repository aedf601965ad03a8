use Rattle.lz_serve.proofs.desk.Desk.begin_all.Goals as goal
use Rattle.std.proofs.Common.{◌≡◌, option_map, vec_capacity, vec_len, ap, sym, ◌∙◌, subst, arith}
use mathlib.Core.Bool.{true≢false}
use Rattle.lz_list.specs.Traces.{Trace, Begins}
use Rattle.lz_board.specs.{declared.pass.Pass.{Pass}, Seats.{part}}
use Rattle.lz_serve.{specs.{Clients.{HaveSeenIn}, Desks.{IsCalled, Knows}, Askings.{Asked}}, proofs.Desks.{alike_seen, desk_back, desk_begun, know_last}}
use Rattle.lz_serve.proofs.{Joins.{knows_seen}, Meetings.{reply_seen, some_mapped}}

pub begin_next-requires-clause-seen : goal.begin_next-requires-clause-seen
begin_next-requires-clause-seen g c =
    let s = c.passes.self-inside in
    let m = option_map (λ free. (part free.pass).known) s.meeting in
    let last = c.in-Some.free in
    let now = (part c.meet.new.asking.pass).known in
    let grows : Begins (part last.pass).known now = subst (λ (p : Pass). Begins (part p).known now) c.new-asking.ensures.pass.0 c.meet.ensures.grows in
    reply_seen s.crowd m (part last.pass).known now grows (some_mapped (λ (t : Trace). Begins t now) (λ free. (part free.pass).known) s.meeting c.meet.ensures.others)
    (know_last (λ free. (part free.pass).known) s.crowd m s.free.items c.pop.new.self.items last c.in-Some.ensures.items c.passes.invariant.desk.joined.know)

pub invariant_of-self-else-begin_next : goal.invariant_of-self-else-begin_next
invariant_of-self-else-begin_next g c =
    let s = c.passes.self-inside in
    let inv = c.passes.invariant.desk in
    let now = (part c.meet.new.asking.pass).known in
    let b = c.begin_next.new.crowd in
    let last = c.in-Some.free in
    let m = option_map (λ free. (part free.pass).known) s.meeting in
    let after = option_map (λ free. (part free.pass).known) c.meet.new.meeting in
    let grows : Begins (part last.pass).known now = subst (λ (p : Pass). Begins (part p).known now) c.new-asking.ensures.pass.0 c.meet.ensures.grows in
    let seen : HaveSeenIn s.crowd now = reply_seen s.crowd m (part last.pass).known now grows (some_mapped (λ (t : Trace). Begins t now) (λ free. (part free.pass).known) s.meeting c.meet.ensures.others)
    (know_last (λ free. (part free.pass).known) s.crowd m s.free.items c.pop.new.self.items last c.in-Some.ensures.items inv.joined.know) in
    let alike = c.meet.ensures.alike in
    let later : HaveSeenIn b now = c.begin_next.ensures.kept.seen now seen in
    let knows : Knows b after now = knows_seen b after now (some_mapped (λ (t : Trace). t ≡ now) (λ free. (part free.pass).known) c.meet.new.meeting alike) later in
    let split = c.in-Some.ensures.items in
    let fewer = c.in-Some.ensures.cases in
    let room = c.in-Some.ensures.capacity in
    let spare_free = inv.spare_free in
    let spare_calls = inv.spare_calls in
    let back = c.into_free.result in
    let is : back.pass ≡ c.meet.new.asking.pass = c.into_free.ensures.0 ∙ ap (λ (a : Asked). a.pass) (c.begin_next.ensures.rests c.if-begin_next.false) in
    let grown = c.put_free.ensures.spare in
    desk_back (λ free. (part free.pass).known) s.given s.most (vec_capacity s.free)
    (vec_capacity s.calls) s.crowd b s.meeting c.meet.new.meeting s.calls.items s.free.items (vec_len s.free) inv c.begin_next.ensures.kept.awaited
    (alike_seen (λ free. (part free.pass).known) b c.meet.new.meeting now alike later) c.meet.ensures.none
    (vec_capacity c.put_free.new.passes) c.pop.new.self.items c.put_free.new.passes.items last back (vec_len c.pop.new.self)
    (vec_len c.put_free.new.passes) split fewer c.put_free.ensures.items c.put_free.ensures.count
    (omega (arith, room, spare_free, grown)) (subst (λ (p : Pass). Knows b after (part p).known) (sym is) knows)

pub passes-preserved : goal.passes-preserved
passes-preserved g c =
    let s = c.passes.self-inside in
    let inv = c.passes.invariant.desk in
    let now = (part c.meet.new.asking.pass).known in
    let b = c.begin_next.new.crowd in
    let last = c.in-Some.free in
    let m = option_map (λ free. (part free.pass).known) s.meeting in
    let after = option_map (λ free. (part free.pass).known) c.meet.new.meeting in
    let grows : Begins (part last.pass).known now = subst (λ (p : Pass). Begins (part p).known now) c.new-asking.ensures.pass.0 c.meet.ensures.grows in
    let seen : HaveSeenIn s.crowd now = reply_seen s.crowd m (part last.pass).known now grows (some_mapped (λ (t : Trace). Begins t now) (λ free. (part free.pass).known) s.meeting c.meet.ensures.others)
    (know_last (λ free. (part free.pass).known) s.crowd m s.free.items c.pop.new.self.items last c.in-Some.ensures.items inv.joined.know) in
    let alike = c.meet.ensures.alike in
    let later : HaveSeenIn b now = c.begin_next.ensures.kept.seen now seen in
    let knows : Knows b after now = knows_seen b after now (some_mapped (λ (t : Trace). t ≡ now) (λ free. (part free.pass).known) c.meet.new.meeting alike) later in
    let split = c.in-Some.ensures.items in
    let fewer = c.in-Some.ensures.cases in
    let room = c.in-Some.ensures.capacity in
    let spare_free = inv.spare_free in
    let spare_calls = inv.spare_calls in
    let begun = c.begin_next.ensures.begun c.if-begin_next.true in
    let asked = c.begin_next.new.asking in
    let is : IsCalled b after asked = record { question = begun.0; asks = begun.1; awaited = begun.3; knows = subst (λ (p : Pass). Knows b after (part p).known) (sym begun.2) knows } in
    let more = c.push.ensures.capacity in
    let over = c.begin_next.ensures.ends in
    record {
      given = c.passes.invariant.given;
      ends = c.passes.invariant.ends;
      calls = λ ends. absurd (true≢false (sym c.if-begin_next.true ∙ (over (c.passes.invariant.ends ∙ ends)).0));
      within = (let low = c.passes.invariant.within in let more = (c.begin_next.ensures.counted c.if-begin_next.true).most in omega (arith, low, more, c.if-self-eq0.false));
      desk = desk_begun (λ free. (part free.pass).known) s.given s.most (vec_capacity s.free)
          (vec_capacity s.calls) s.crowd b s.meeting c.meet.new.meeting s.calls.items s.free.items (vec_len s.free) inv c.begin_next.ensures.kept.awaited
          (alike_seen (λ free. (part free.pass).known) b c.meet.new.meeting now alike later) c.meet.ensures.none (vec_capacity c.push.new.self) c.pop.new.self.items last
          (vec_len c.pop.new.self) asked c.push.new.self.items split fewer c.in-Ok.ensures.items (omega (arith, more, spare_calls)) is (vec_capacity c.pop.new.self)
          (omega (arith, room, spare_free));
    }
