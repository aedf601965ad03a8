use Rattle.alloc_drills.proofs.rates.take_writer.Goals as goal
use Rattle.std.proofs.lemmas.List.Elements.{All-pop}
use Rattle.lz_set.specs.Names.{MayCall}

pub returns-clause-rest : goal.returns-clause-rest
returns-clause-rest g c = (All-pop (MayCall g.N.Named.board) c.args.passes.now.items c.pop.new.self.items c.pop.result c.pop.ensures.items c.requires.may).0

pub returns-clause-last : goal.returns-clause-last
returns-clause-last g c = (All-pop (MayCall g.N.Named.board) c.args.passes.now.items c.pop.new.self.items c.pop.result c.pop.ensures.items c.requires.may).1
