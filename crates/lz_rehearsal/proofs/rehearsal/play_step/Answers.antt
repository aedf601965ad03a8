use Rattle.lz_rehearsal.proofs.rehearsal.play_step.Goals as goal
use Rattle.std.proofs.Common.{ℕ, Err, refl, ap, ◌∙◌}
use Rattle.lz_core.{proofs.Runs.JoinedPlays.{same_fault}, specs.declared.world.PlayFault.TheVariants.{NotNow}}
use Rattle.lz_rehearsal.proofs.Rehearsed.{step_put, stopped}

pub returns-in-Ok-clause-ok : goal.returns-in-Ok-clause-ok
returns-in-Ok-clause-ok c =
    step_put c.put.result c.write_marks-told.result (λ whole. whole.items) c.args.world.now c.args.step c.in-Ok.marks.items c.write_marks-told.new.writer.items c.play.new.self
    c.in-Ok.ensures.ok c.put.ensures.ok (rw (c.new-text.ensures.items, c.as_slice.ensures.value) at c.write_marks-told.ensures)

pub returns-in-Err-clause-not_now : goal.returns-in-Err-clause-not_now
returns-in-Err-clause-not_now c = λ i is.
    let told = same_fault (Err c.in-Err.fault) c.in-Err.fault c.in-Err.fault (NotNow i) refl refl is in
    stopped c.args.world.now c.play.new.self c.args.step i (c.in-Err.ensures.not_now i told)
    (λ one. c.in-Err.ensures.first (told ∙ ap (λ (n : ℕ). Err (NotNow n)) one))
