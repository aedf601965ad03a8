use Rattle.lz_serve.proofs.desk.Desk.take_in.Goals as goal
use Rattle.std.proofs.Common.{◌≡◌, ◌+◌, ◌≤◌, ◌<◌, ℕ, vec_capacity, vec_len, sym, subst}
use Rattle.lz_board.specs.Seats.{part}
use Rattle.lz_serve.{specs.Desks.{Passes, count_of}, proofs.Desks.{desk_given}}

pub invariant_of-self : goal.invariant_of-self
invariant_of-self g c =
    let from = c.self.inside in
    let low : from.given < from.most = subst (λ (p : Passes). p.given < p.most) (sym c.self.view_is) c.requires.room in
    let rests : vec_len from.free + count_of from.meeting ≡ from.given = subst (λ (p : Passes). p.free ≡ p.given) (sym c.self.view_is) c.requires.rests in
    let first = c.first_of.ensures in
    let grows : vec_capacity from.free ≤ vec_capacity c.put_free.new.passes = subst (λ (n : ℕ). n ≤ vec_capacity c.put_free.new.passes) first.spare c.put_free.ensures.spare in
    desk_given (λ free. (part free.pass).known) from.given from.most (vec_capacity from.free) (vec_capacity from.calls) (vec_capacity c.put_free.new.passes) from.crowd c.take-meeting.result from.meeting c.first_of.result from.calls.items from.free.items
    c.first_of.new.free.items c.put_free.new.passes.items (vec_len from.free) (vec_len c.first_of.new.free) (vec_len c.put_free.new.passes) c.args.free c.take-meeting.ensures.value c.self.invariant low rests from.free.ok.0 first.same first.first first.none
    first.count c.put_free.ensures.items c.put_free.ensures.count grows
