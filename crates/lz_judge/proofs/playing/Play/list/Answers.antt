use Rattle.lz_judge.proofs.playing.Play.list.Goals as goal
use Rattle.std.proofs.Common.{sym}
use Rattle.lz_judge.proofs.Readings.CallTurn.{played_listed, played_unlisted}

pub returns-in_ok-insert-clause-played : goal.returns-in_ok-insert-clause-played
returns-in_ok-insert-clause-played c = λ M actor answers known before.
    played_listed c.args.places.now M c.args.self.now.set c.args.self.now.life c.args.self.now.wrong_reply c.args.self.now.wrong_set before answers c.args.call actor c.in-Some.place.now c.args.command c.insert.new.self known
    (sym c.in-Some.ensures.value) c.in_ok-insert.ensures.updates

pub returns-in_default-clause-played : goal.returns-in_default-clause-played
returns-in_default-clause-played c = λ M actor answers known before.
    played_unlisted c.args.places.now M c.args.self.now.set c.args.self.now.life c.args.self.now.wrong_reply c.args.self.now.wrong_set before c.args.call actor c.args.command (sym c.in_default.ensures.value)
