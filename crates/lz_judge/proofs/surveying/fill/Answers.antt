use Rattle.lz_judge.proofs.surveying.fill.Goals as goal
use Rattle.std.proofs.Common.{rules, ◌-◌, length}
use Rattle.lz_judge.proofs.{Surveys.PieceReads.{fill_kept, fill_more}, surveying.fill.Goals.{in-Ok, in-Err+else-ne}}

pub tries-preserved : goal.tries-preserved
tries-preserved g c =
    let left = g.R.Read.remaining in
    let room = length c.tries.buffer - c.tries.count in
    elim c.match-read.branch [
      | in-Ok w ↦ record {
        size = search rules;
        within = search rules;
        given = rw w.count-is (fill_more (left c.args.reader.now) (left c.tries.reader) (left c.read.new.self) c.tries.count room w.in-Ok.more c.tries.buffer c.read.new.buf
            c.tries.invariant.within w.in-Ok.ensures.bound.0 c.tries.invariant.given w.in-Ok.ensures.bytes.0);
      }
      | in-Err+else-ne w ↦ record {
        size = search rules;
        within = search rules;
        given = rw w.count-is (fill_kept (left c.args.reader.now) (left c.tries.reader) (left c.read.new.self) c.tries.count room c.tries.buffer c.read.new.buf
            c.tries.invariant.within c.tries.invariant.given w.in-Err.ensures.bytes);
      }
    ]
