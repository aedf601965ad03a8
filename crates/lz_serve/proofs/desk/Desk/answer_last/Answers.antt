use Rattle.lz_serve.proofs.desk.Desk.answer_last.Goals as goal
use Rattle.std.proofs.Common.{◌≡◌, ◌+◌, vec_capacity, vec_len, sym, subst}
use Rattle.lz_board.specs.Seats.{part}
use Rattle.lz_serve.{specs.Desks.{Passes, count_of}, proofs.Desks.{count_taken, desk_last, desk_left, taken_seen}}

pub answer_each-requires-clause-seen : goal.answer_each-requires-clause-seen
answer_each-requires-clause-seen g c =
    let s = c.self.inside in
    let first = c.first_of.ensures in
    taken_seen (λ free. (part free.pass).known) s.crowd s.given c.take-meeting.result s.meeting c.first_of.result c.in-Some.free s.calls.items s.free.items c.first_of.new.free.items c.take-meeting.ensures.value c.self.invariant.joined first.same first.first c.in-Some.is

pub invariant_of-self : goal.invariant_of-self
invariant_of-self g c =
    let s = c.self.inside in
    let first = c.first_of.ensures in
    desk_left (λ free. (part free.pass).known) s.given s.most (vec_capacity s.free) (vec_capacity c.first_of.new.free) (vec_capacity s.calls) s.crowd c.take-meeting.result s.meeting c.first_of.result c.take-meeting.new.self s.calls.items s.free.items c.first_of.new.free.items (vec_len s.free)
    (vec_len c.first_of.new.free) c.self.invariant c.take-meeting.ensures.value c.in_default.is first.none c.take-meeting.ensures.after first.first first.count first.spare

pub invariant_of-self-2 : goal.invariant_of-self-2
invariant_of-self-2 g c =
    let s = c.self.inside in
    let first = c.first_of.ensures in
    let rests : vec_len s.free + count_of s.meeting ≡ s.given = subst (λ (p : Passes). p.free ≡ p.given) (sym c.self.view_is) c.requires.rests in
    desk_last (λ free. (part free.pass).known) s.given s.most (vec_capacity s.free) (vec_capacity c.first_of.new.free) (vec_capacity s.calls) s.crowd c.answer_each.new.crowd s.meeting c.first_of.result s.calls.items s.free.items c.first_of.new.free.items (vec_len s.free)
    (vec_len c.first_of.new.free) c.in-Some.free c.answer_each.new.free c.self.invariant rests c.in-Some.is (count_taken (λ free. (part free.pass).known) c.take-meeting.result s.meeting c.first_of.result (vec_len s.free) (vec_len c.first_of.new.free) c.take-meeting.ensures.value first.count)
    first.spare c.answer_each.ensures.seen
