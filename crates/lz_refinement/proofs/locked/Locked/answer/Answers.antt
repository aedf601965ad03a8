use Rattle.lz_refinement.proofs.locked.Locked.answer.Goals as goal
use Rattle.std.proofs.Common.{◌≢◌, ℕ, List, sym, ap, subst}
use mathlib.Core.Bool.{false≢true}
use Rattle.lz_machine.{specs.declared.event.Event.TheVariants.{Answer, SeePin}, proofs.Theorem.Readiness.{is_invoke}}
use Rattle.lz_refinement.proofs.Vocabulary.{Note, Part, BoardId, IsPenOf, carried, id_of, notes, part}
use Rattle.lz_refinement.proofs.{Calls.CountedMoves.{answers_so, end_shows, next_answer, plain_so, then_idle}, Hold.FoundEvent.{Finds, may, others, played}}
use Rattle.lz_refinement.proofs.{Hold.OneHold.{Stepped, explains, keeps}, locked.Locked.answer.{Given.{Over}, Goals.{After-cut, After-play_joined-arg-3-1}}}
use Rattle.lz_refinement.specs.{Held.{WentOn}, Holds.{IsLocked}}

no_look : (q o : ℕ) → Answer ≢ SeePin q o
no_look q o is = cc

-- what was found, before it is played
finds : (g : Over) (c : After-play_joined-arg-3-1 g) → Finds (id_of c.args.board.now) (notes c.self.inside.pen) (notes c.join.new.pen) c.self.inside.yard.yard (g.D.Disk.device c.self.inside.yard.disk) (part c.args.pass.now) (carried c.join.new.pen) c.args.caller.now Answer
finds g c =
    let n = c.requires.counted in
    others g.N.Named.board (id_of c.args.board.now) c.requires.board (notes c.self.inside.pen) (notes c.join.new.pen) c.self.inside.yard.yard (g.D.Disk.device c.self.inside.yard.disk) (part c.args.pass.now) (carried c.join.new.pen)
    c.self.invariant.1 c.join.ensures.knows c.join.ensures.told c.join.ensures.notes c.join.ensures.carried c.args.caller.now Answer
    (next_answer g.N.Named.board n.0 n.1 n.2 c.args.caller.now (part c.args.pass.now) n.3 c.args._reply c.requires.reply) no_look (λ d is. false≢true (ap is_invoke is))

pub play_joined-turn-requires-clause-hold : goal.play_joined-turn-requires-clause-hold
play_joined-turn-requires-clause-hold g c = (finds g c).hold

pub play_joined-turn-requires-clause-may : goal.play_joined-turn-requires-clause-may
play_joined-turn-requires-clause-may g c = may _ _ _ _ _ _ _ _ _ (finds g c)

found : (g : Over) (c : After-cut g) → Finds (id_of c.args.board.now) (notes c.self.inside.pen) (notes c.join.new.pen) c.self.inside.yard.yard (g.D.Disk.device c.self.inside.yard.disk) (part c.args.pass.now) (carried c.join.new.pen) c.args.caller.now Answer
found g c =
    let n = c.requires.counted in
    others g.N.Named.board (id_of c.args.board.now) c.requires.board (notes c.self.inside.pen) (notes c.join.new.pen) c.self.inside.yard.yard (g.D.Disk.device c.self.inside.yard.disk) (part c.args.pass.now) (carried c.join.new.pen)
    c.self.invariant.1 c.join.ensures.knows c.join.ensures.told c.join.ensures.notes c.join.ensures.carried c.args.caller.now Answer
    (next_answer g.N.Named.board n.0 n.1 n.2 c.args.caller.now (part c.args.pass.now) n.3 c.args._reply c.requires.reply) no_look (λ d is. false≢true (ap is_invoke is))

-- what the hold has played
went : (g : Over) (c : After-cut g) → Stepped g.N.Named.board (notes c.self.inside.pen) (notes c.play_joined-turn.new.pen) c.self.inside.yard.yard c.play_joined-turn.new.yard.yard (g.D.Disk.device c.self.inside.yard.disk) (g.D.Disk.device c.play_joined-turn.new.yard.disk) c.play_joined-turn.result
    × WentOn g.N.Named.board (notes c.self.inside.pen) (notes c.play_joined-turn.new.pen) c.args.caller.now c.play_joined-turn.result (part c.args.pass.now) (carried c.play_joined-turn.new.pen)
went g c =
    let x = c.play_joined-turn in
    let board = id_of c.args.board.now in
    let locked = subst (λ (b : BoardId). IsLocked b (notes c.self.inside.pen) c.self.inside.yard.yard (g.D.Disk.device c.self.inside.yard.disk)) (sym c.requires.board) c.self.invariant.1 in
    subst (λ (b : BoardId). Stepped b (notes c.self.inside.pen) (notes x.new.pen) c.self.inside.yard.yard x.new.yard.yard (g.D.Disk.device c.self.inside.yard.disk) (g.D.Disk.device x.new.yard.disk) x.result
    × WentOn b (notes c.self.inside.pen) (notes x.new.pen) c.args.caller.now x.result (part c.args.pass.now) (carried x.new.pen)) c.requires.board
    (played _ _ _ _ _ _ _ _ _ (found g c) (notes x.new.pen) x.new.yard.yard (g.D.Disk.device x.new.yard.disk) (carried x.new.pen) x.result locked
    c.join.ensures.knows x.ensures.hold x.ensures.moments x.ensures.life x.ensures.device x.ensures.holds x.ensures.turned)

of_board : (g : Over) (c : After-cut g) → IsPenOf g.N.Named.board c.cut.new.pen
of_board g c = subst (λ (b : BoardId). IsPenOf b c.cut.new.pen) c.requires.board c.cut.ensures.pen

pub invariant_of-self : goal.invariant_of-self
invariant_of-self g c =
    keeps g.N.Named.board g.N.Named.format g.N.Named.first _ _ _ _ _ _ _ (went g c).0 c.self.invariant.1 c.cut.new.pen (of_board g c) c.cut.ensures.notes c.self.invariant.2 c.self.invariant.3 (g.met.D.Disk.timely c.self.inside.yard.disk) c.self.invariant.4

pub returns-clause-moments : goal.returns-clause-moments
returns-clause-moments g c =
    rw (← c.self.view_is) (explains g.N.Named.board g.N.Named.format g.N.Named.first _ _ _ _ _ _ _ (went g c).0 c.self.invariant.1 c.cut.new.pen (of_board g c) c.cut.ensures.notes)

-- the same of what the pass has once it was cut off
gone : (g : Over) (c : After-cut g) → WentOn g.N.Named.board c.args.self.now.notes (notes c.cut.new.pen) c.args.caller.now c.play_joined-turn.result (part c.args.pass.now) (part c.cut.new.pass)
gone g c = rw (← c.self.view_is) (subst (λ (q : List Note × Part). WentOn g.N.Named.board (notes c.self.inside.pen) q.0 c.args.caller.now c.play_joined-turn.result (part c.args.pass.now) q.1) (λ i. (sym c.cut.ensures.notes i, sym c.cut.ensures.part i)) (went g c).1)

pub returns-clause-advanced : goal.returns-clause-advanced
returns-clause-advanced g c = (gone g c).advanced

pub returns-clause-shows : goal.returns-clause-shows
returns-clause-shows g c =
    let n = c.requires.counted in
    end_shows g.N.Named.board n.0 n.1 n.2 c.args.caller.now (part c.args.pass.now) n.3 c.args._reply c.requires.reply _ _ c.play_joined-turn.result (part c.cut.new.pass) (gone g c)

pub returns-clause-idle : goal.returns-clause-idle
returns-clause-idle g c =
    let n = c.requires.counted in
    then_idle g.N.Named.board n.0 n.1 n.2 c.args.caller.now (part c.args.pass.now) n.3 c.args._reply c.requires.reply _ _ c.play_joined-turn.result (part c.cut.new.pass) (gone g c)

pub returns-clause-answers : goal.returns-clause-answers
returns-clause-answers g c = λ asked format before same C.
    answers_so g.N.Named.board asked format before c.args.caller.now (part c.args.pass.now) C c.args._reply c.requires.reply _ _ c.play_joined-turn.result (part c.cut.new.pass) (gone g c) same

pub returns-clause-plain : goal.returns-clause-plain
returns-clause-plain g c = λ one asked format before same C.
    plain_so g.N.Named.board asked format before c.args.caller.now (part c.args.pass.now) C c.args._reply c.requires.reply _ _ c.play_joined-turn.result (part c.cut.new.pass) (gone g c) same one
