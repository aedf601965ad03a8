use Rattle.lz_judge.proofs.playing.play_lives.Given as goal
use Rattle.std.proofs.Common.{take, reverse}
use Rattle.lz_judge.specs.Plays.{Compared, Played, Ran}

abbrev pub invariant-loop-mark : goal.invariant-loop-mark
invariant-loop-mark l = record {
  played : Played l.places (reverse (take l.mark-index l.marks)) l.play.set l.play.life l.play.wrong_reply l.play.wrong_set;
  compared : Compared l.places (reverse (take l.mark-index l.marks)) l.play.opens l.play.wrong_set;
  ran : Ran l.places l.answers (reverse (take l.mark-index l.marks)) l.play.set l.play.wrong_reply;
}
