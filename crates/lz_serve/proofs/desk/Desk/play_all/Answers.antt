use Rattle.lz_serve.proofs.desk.Desk.play_all.Goals as goal
use Rattle.std.proofs.Common.{◌≡◌, ◌<◌, ◌≤◌, ◌+◌, ℕ, All, true, option_map, vec_capacity, vec_len, length, get_or-set_same, ap, sym, ◌∙◌, subst, arith}
use Rattle.lz_board.specs.{declared.pass.Pass.{Pass}, Seats.{part}}
use Rattle.lz_serve.{specs.{Clients.{HaveSeenIn}, Askings.{Asked}, Desks.{AnswersOneOf, Passes}}, proofs.Desks.{desk_answered, desk_rested}}
use Rattle.lz_serve.proofs.{TurnShares.{begun_same, fewer_left, none_left}, Joins.{all_left, begun_none, each_its_own, either_so, knows_met}}
use Rattle.lz_serve.proofs.Meetings.{some_mapped}

pub calls-init : goal.calls-init
calls-init g c =
    let from = c.self.inside in
    let is = c.self.view_is ∙ c.turn_round-tries.ensures in
    record {
      given = ap (λ (p : Passes). p.given) is;
      ends = subst (λ (p : Passes). p.ends ≡ true → (from.ends ≡ true) × All (AnswersOneOf p.calls) from.calls.items) is (λ over. (over, each_its_own from.calls.items));
      within = subst (λ (p : Passes). from.crowd.begun + from.left ≤ p.begun + p.left) is (omega arith);
      desk = c.self.invariant;
    }

pub calls-preserved-in-GoesOn : goal.calls-preserved-in-GoesOn
calls-preserved-in-GoesOn g c =
    let s = c.calls.self-inside in
    let long = s.calls.ok.0 in
    let is = c.in-GoesOn.is in
    record {
      given = c.calls.invariant.given;
      ends = λ over.
          let so = c.calls.invariant.ends over in (
            so.0,
            begun_none c.args.self.now.calls s.calls.items c.in-Some-place_after.at c.index_mut-asking.result.now c.play_call.new.asking (omega (arith, long, c.in-Some-place_after.ensures.0, c.len.ensures)) c.index_mut-asking.ensures.value (c.play_call.ensures.ends (either_so _ so.0))
                (c.play_call.ensures.goes (λ other. absurd (cc))) so.1,
          );
      within = subst (λ (n : ℕ). c.play_call.new.crowd.begun + n ≤ c.args.self.now.begun + c.args.self.now.left) (sym c.saturating_sub-self-inside.ensures)
          (fewer_left s.crowd.begun c.play_call.new.crowd.begun s.left _ c.calls.invariant.within c.play_call.ensures.counted (λ none. c.play_call.ensures.ended (none_left s.ends _ s.left none)));
      desk = desk_answered (λ free. (part free.pass).known) s.given s.most (vec_capacity s.free) (vec_capacity s.calls) s.crowd c.play_call.new.crowd s.meeting c.play_call.new.meeting s.calls.items s.free.items (vec_len s.free) c.calls.invariant.desk c.play_call.ensures.kept
          c.play_call.ensures.met c.play_call.ensures.none c.in-Some-place_after.at c.play_call.new.asking (omega (arith, long, c.in-Some-place_after.ensures.0, c.len.ensures)) (c.play_call.ensures.goes (λ other. absurd (cc)));
    }

pub calls-preserved-in-Waits : goal.calls-preserved-in-Waits
calls-preserved-in-Waits g c =
    let s = c.calls.self-inside in
    let long = s.calls.ok.0 in
    let is = c.in-Waits.is in
    record {
      given = c.calls.invariant.given;
      ends = λ over.
          let so = c.calls.invariant.ends over in (
            so.0,
            begun_none c.args.self.now.calls s.calls.items c.in-Some-place_after.at c.index_mut-asking.result.now c.play_call.new.asking (omega (arith, long, c.in-Some-place_after.ensures.0, c.len.ensures)) c.index_mut-asking.ensures.value (c.play_call.ensures.ends (either_so _ so.0))
                (c.play_call.ensures.goes (λ other. absurd (cc))) so.1,
          );
      within = begun_same _ _ s.left _ c.calls.invariant.within (c.play_call.ensures.uncounted (λ other. absurd (cc)));
      desk = desk_answered (λ free. (part free.pass).known) s.given s.most (vec_capacity s.free) (vec_capacity s.calls) s.crowd c.play_call.new.crowd s.meeting c.play_call.new.meeting s.calls.items s.free.items (vec_len s.free) c.calls.invariant.desk c.play_call.ensures.kept
          c.play_call.ensures.met c.play_call.ensures.none c.in-Some-place_after.at c.play_call.new.asking (omega (arith, long, c.in-Some-place_after.ensures.0, c.len.ensures)) (c.play_call.ensures.goes (λ other. absurd (cc)));
    }

pub calls-preserved : goal.calls-preserved
calls-preserved g c =
    let s = c.calls.self-inside in
    let inv = c.calls.invariant.desk in
    let b = c.play_call.new.crowd in
    let asked = c.play_call.new.asking in
    let after = option_map (λ free. (part free.pass).known) c.play_call.new.meeting in
    let long = s.calls.ok.0 in
    let within : c.in-Some-place_after.at < vec_len s.calls = omega (arith, c.in-Some-place_after.ensures.0, c.len.ensures) in
    let near : c.in-Some-place_after.at < length s.calls.items = omega (arith, within, long) in
    let rests = c.play_call.ensures.rests c.in-Rests.is in
    let left = c.swap_remove.new.self in
    let left_long = left.ok.0 in
    let fewer = c.swap_remove.ensures.len in
    let back = c.into_free-free.result in
    let out = c.swap_remove.result in
    let same : out ≡ asked = c.swap_remove.ensures.value ∙ get_or-set_same s.calls.items c.in-Some-place_after.at asked out near in
    let is : back.pass ≡ asked.pass = c.into_free-free.ensures.0 ∙ ap (λ (a : Asked). a.pass) same in
    let seen : HaveSeenIn b (part back.pass).known = subst (λ (p : Pass). HaveSeenIn b (part p).known) (sym is) rests.1 in
    let spare = inv.spare_free in
    let grown = c.put_free.ensures.spare in
    let spare_calls = inv.spare_calls in
    let kept_room = c.swap_remove.ensures.capacity in
    record {
      given = c.calls.invariant.given;
      ends = λ over.
          let so = c.calls.invariant.ends over in
          (either_so _ so.0, all_left (AnswersOneOf c.args.self.now.calls) s.calls.items left.items c.in-Some-place_after.at (vec_len s.calls) asked long (omega (arith, left_long, fewer)) c.swap_remove.ensures.by_index so.1);
      within = begun_same _ _ s.left _ c.calls.invariant.within (c.play_call.ensures.uncounted (λ other. absurd (cc)));
      desk = desk_rested (λ free. (part free.pass).known) s.given s.most (vec_capacity s.free) (vec_capacity s.calls) s.crowd b s.meeting c.play_call.new.meeting s.calls.items s.free.items (vec_len s.free) inv c.play_call.ensures.kept c.play_call.ensures.met c.play_call.ensures.none
          (vec_capacity c.put_free.new.passes) (vec_capacity left) c.in-Some-place_after.at (vec_len s.calls) asked left.items c.put_free.new.passes.items back (vec_len c.put_free.new.passes) within long (omega (arith, left_long, fewer)) c.swap_remove.ensures.by_index c.put_free.ensures.items
          c.put_free.ensures.count (omega (arith, spare, grown)) (omega (arith, spare_calls, kept_room)) (knows_met b after (part back.pass).known (some_mapped (HaveSeenIn b) (λ free. (part free.pass).known) c.play_call.new.meeting c.play_call.ensures.met) (λ _. seen));
    }
