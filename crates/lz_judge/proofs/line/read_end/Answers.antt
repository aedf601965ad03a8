use Rattle.lz_judge.proofs.line.read_end.Goals as goal
use Rattle.lz_judge.proofs.Texts.LineWord.{some_words}

pub returns-in-Some-clause-says : goal.returns-in-Some-clause-says
returns-in-Some-clause-says c = rw c.in-Some.is (some_words c.args.line c.in-Some.field-0.now)
