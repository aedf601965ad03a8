use Rattle.lz_judge.proofs.playing.Play.new.Goals as goal
use Rattle.std.proofs.Common.{refl}
use Rattle.lz_judge.proofs.{Readings.CallTurn.{played_none}, Lives.WrongAnswer.{compared_none, ran_none}}

pub returns-clause-played : goal.returns-clause-played
returns-clause-played c = λ places. played_none places c.new.result c.new-2.result c.new.ensures.empty c.new-2.ensures.empty

pub returns-clause-ran : goal.returns-clause-ran
returns-clause-ran c = λ places answers. ran_none places answers c.new.result (λ k. rw c.new.ensures.empty refl)

pub returns-clause-compared : goal.returns-clause-compared
returns-clause-compared c = λ places. compared_none places
