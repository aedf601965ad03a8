use Rattle.lz_rehearsal.proofs.rehearsal.rehearse.Goals as goal
use Rattle.std.proofs.{Common.{sym}, lemmas.Result.{err_from_is_err_and}}
use Rattle.lz_core.proofs.Runs.JoinedPlays.{same_fault}
use Rattle.lz_rehearsal.specs.declared.rehearsal.RehearsalFault.TheVariants.{Line, Write, Memory}
use Rattle.lz_rehearsal.proofs.Rehearsed.{begins, ends_at, ends_cut_short, ends_within, goes_on}

pub loop-before-init : goal.loop-before-init
loop-before-init g c = record {
  rehearsed = begins c.args.world.now (g.W.Write.contents c.args.writer.now);
}

pub returns-in_err-rehearse_line-clause-line : goal.returns-in_err-rehearse_line-clause-line
returns-in_err-rehearse_line-clause-line g c = λ number is.
    let kept = g.W.Write.contents in
    let p = err_from_is_err_and c.from_residual.result c.from_residual.ensures.1 in
    let told = c.in_err-rehearse_line.ensures.line number (same_fault c.from_residual.result p.0 _ (Line number) p.1 p.2 is) in
    ends_at c.args.world.now c.loop-before.world c.rehearse_line.new.world c.args.lines.now c.loop-before.before number c.index-lines-before.result
    (kept c.args.writer.now) (kept c.loop-before.writer) (kept c.rehearse_line.new.writer) c.loop-before-test.true (sym c.index-lines-before.is)
    c.loop-before.invariant.rehearsed told.0 told.1 told.2 told.3

pub returns-in_err-rehearse_line-clause-write : goal.returns-in_err-rehearse_line-clause-write
returns-in_err-rehearse_line-clause-write g c = λ is.
    let kept = g.W.Write.contents in
    let p = err_from_is_err_and c.from_residual.result c.from_residual.ensures.1 in
    ends_cut_short c.args.world.now c.loop-before.world c.rehearse_line.new.world c.args.lines.now c.loop-before.before c.index-lines-before.result
    (kept c.args.writer.now) (kept c.loop-before.writer) (kept c.rehearse_line.new.writer) c.loop-before-test.true (sym c.index-lines-before.is)
    c.loop-before.invariant.rehearsed (c.in_err-rehearse_line.ensures.write (same_fault c.from_residual.result p.0 _ Write p.1 p.2 is))

pub returns-in_err-rehearse_line-clause-memory : goal.returns-in_err-rehearse_line-clause-memory
returns-in_err-rehearse_line-clause-memory g c = λ is.
    let kept = g.W.Write.contents in
    let p = err_from_is_err_and c.from_residual.result c.from_residual.ensures.1 in
    ends_within c.args.world.now c.loop-before.world c.args.lines.now c.loop-before.before c.index-lines-before.result
    (kept c.args.writer.now) (kept c.loop-before.writer) (kept c.rehearse_line.new.writer) c.loop-before-test.true (sym c.index-lines-before.is)
    c.loop-before.invariant.rehearsed (c.in_err-rehearse_line.ensures.memory (same_fault c.from_residual.result p.0 _ Memory p.1 p.2 is))

pub loop-before-preserved : goal.loop-before-preserved
loop-before-preserved g c =
    let kept = g.W.Write.contents in
    record {
      rehearsed =
          goes_on c.args.world.now c.loop-before.world c.rehearse_line.new.world c.args.lines.now c.loop-before.before c.index-lines-before.result
          (kept c.args.writer.now) (kept c.loop-before.writer) (kept c.rehearse_line.new.writer) c.loop-before-test.true (sym c.index-lines-before.is)
          c.loop-before.invariant.rehearsed c.in_ok-rehearse_line.ensures.done;
    }
