use Rattle.lazyset_set_commands.proofs.running.run_pass.Goals as goal
use Rattle.std.proofs.Common.{sym}
use Rattle.lz_board.{specs.{Notes.{trace_of}, Seats.{part}}, proofs.Walk.GlanceAnswer.{halt_since}}
use Rattle.lz_serve.proofs.{Halting.{session_halts}, Seats.{seat_session}}
use Rattle.lazyset_set_commands.proofs.Runs.HandedPass.{one_since, one_welcome}

pub returns : goal.returns
returns g c =
    let b = g.N.Named.board in
    let F = g.N.Named.format in
    let looked = c.has_mark-mark.new.pass in
    let left = c.close_with-disk.ensures.left in
    let tells = c.session-ended.ensures in
    let welcome = one_welcome b left.notes c.into_pass-pass.result c.from_mut.result.now c.close_with-disk.new.passes c.from_mut.ensures.value left.seen left.welcome in
    let told = seat_session (λ s. s.pass) b F _ _ c.new-seated.result c.session-ended.new.service
    looked c.into_pass-pass.result c.session-ended.result tells.0 c.new-seated.ensures (sym c.into_pass-pass.ensures.same) tells.2
    in
    let was = one_since (trace_of b.opened left.notes) c.into_pass-pass.result c.from_mut.result.now c.from_mut.ensures.value left.since in
    record {
      begun = c.args.pass;
      fresh = c.requires.new;
      mark = c.has_mark-mark.result;
      looked = looked;
      looks = c.has_mark-mark.ensures.looked;
      done = c.into_pass-pass.result;
      ended = c.session-ended.result;
      status_is = c.status_after.ensures;
      tells = (tells.0, tells.1, told);
      notes = left.notes;
      left = left.left;
      since = was;
      alone = welcome.alone;
      halts = λ is.
          left.left.over (halt_since (part c.into_pass-pass.result).known (trace_of b.opened left.notes) was
          (session_halts b F c.session-ended.result _ _ looked c.into_pass-pass.result tells.0 told is));
    }
