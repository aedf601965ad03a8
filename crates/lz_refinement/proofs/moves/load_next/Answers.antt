use Rattle.lz_refinement.proofs.moves.load_next.Goals as goal
use Rattle.lz_refinement.proofs.{Vocabulary.{id_of, part, shape_with}, Calls.{CallLoad.{load_place}, CountedMoves.{takes_value, counted_load}}}

pub load-requires-clause-loading : goal.load-requires-clause-loading
load-requires-clause-loading c = load_place (shape_with c.args.caller.now) c.args.caller.now.command c.args.caller.now.progress c.args.word c.requires.event

pub load-requires-clause-takes : goal.load-requires-clause-takes
load-requires-clause-takes c =
    let n = c.requires.counted in
    takes_value (id_of c.args.board.now) n.0 n.1 n.2 c.args.caller.now (part c.args.pass.now) n.3 c.args.word c.requires.event c.args.board.now.walkable (part c.load-value.new.pass).known c.load-value.ensures.shown c.load-value.result c.load-value.ensures.value

pub returns-clause-goes : goal.returns-clause-goes
returns-clause-goes c = λ asked format before C.
    counted_load (id_of c.args.board.now) asked format before c.args.caller.now (part c.args.pass.now) C c.args.word c.requires.event c.args.board.now.walkable (part c.load-value.new.pass).known c.load-value.ensures.shown c.load-value.result c.load-value.ensures.value
    (part c.load-value.new.pass) c.load-value.ensures.part c.load.new.self c.load.ensures
