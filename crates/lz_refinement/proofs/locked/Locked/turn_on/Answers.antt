use Rattle.lz_refinement.proofs.locked.Locked.turn_on.Goals as goal
use Rattle.std.proofs.Common.{◌≡◌, ℕ, List, sym, ap, ◌∙◌, subst}
use Rattle.lz_refinement.proofs.Vocabulary.{Event, hop_of, Note, Part, IsWalkable, BoardId, IsPenOf, carried, id_of, notes, part}
use Rattle.lz_refinement.proofs.{Calls.CountedMoves.{counted_on, is_next, no_end_shows, no_invoke}, Hold.FoundEvent.{Finds, looks, may, others, played}}
use Rattle.lz_refinement.proofs.{Hold.OneHold.{Stepped, explains, keeps}, locked.Locked.turn_on.Given.{Over}}
use Rattle.lz_refinement.proofs.locked.Locked.turn_on.Goals.{After-play_joined-arg-3-1, After-take, in-SeePin, in_default}
use Rattle.lz_refinement.specs.{declared.locked.Locked.TheInside.{Inside}, Held.{SparesDevice, WentOn}, Holds.{IsLocked}}
use Rattle.lz_machine.specs.declared.event.Event.TheVariants.{Sync}

-- what was found, before it is played
finds : (g : Over) (c : After-play_joined-arg-3-1 g) → Finds (id_of c.args.board.now) (notes c.self.inside.pen)
    (notes c.match-event.self-inside.pen) c.match-event.self-inside.yard.yard (g.D.Disk.device c.match-event.self-inside.yard.disk) (part c.args.pass.now)
    (carried c.match-event.self-inside.pen) c.args.caller.now c.match-event.found
finds g c =
    let n = c.requires.counted in
    let next = is_next g.N.Named.board n.0 n.1 n.2 c.args.caller.now (part c.args.pass.now) n.3 c.args.event c.requires.event (ap hop_of (sym c.requires.event) ∙ c.requires.load) in
    (elim c.match-event.branch [
      | in-SeePin w ↦ subst (λ (q : Inside g.row.N.Denot g.row.D.Denot × Event). Finds (id_of c.args.board.now) (notes c.self.inside.pen) (notes q.0.pen) q.0.yard.yard (g.D.Disk.device q.0.yard.disk) (part c.args.pass.now) (carried q.0.pen) c.args.caller.now q.1)
          (λ i. (sym w.self-inside-is i, sym w.found-is i))
          (looks g.N.Named.board (id_of c.args.board.now) c.requires.board (notes c.self.inside.pen) (notes c.join.new.pen) c.self.inside.yard.yard (g.D.Disk.device c.self.inside.yard.disk) (part c.args.pass.now) (carried c.join.new.pen)
          c.self.invariant.1 c.join.ensures.knows c.join.ensures.told c.join.ensures.notes c.join.ensures.carried c.args.caller.now c.args.event next
          (c.requires.pass.2.sized ∙ ap (λ (b : BoardId). b.sizes) (sym c.requires.board)) (notes w.load_pin-value.new.pen) (carried w.load_pin-value.new.pen) w.in-SeePin.seen _ w.load_pin-value.result w.in-SeePin.is
          w.load_pin-value.ensures.told w.load_pin-value.ensures.own w.load_pin-value.ensures.notes w.load_pin-value.ensures.carried)
      | in_default w ↦ subst (λ (q : Inside g.row.N.Denot g.row.D.Denot × Event). Finds (id_of c.args.board.now) (notes c.self.inside.pen) (notes q.0.pen) q.0.yard.yard (g.D.Disk.device q.0.yard.disk) (part c.args.pass.now) (carried q.0.pen) c.args.caller.now q.1)
          (λ i. (sym w.self-inside-is i, sym w.found-is i))
          (others g.N.Named.board (id_of c.args.board.now) c.requires.board (notes c.self.inside.pen) (notes c.join.new.pen) c.self.inside.yard.yard (g.D.Disk.device c.self.inside.yard.disk) (part c.args.pass.now) (carried c.join.new.pen)
          c.self.invariant.1 c.join.ensures.knows c.join.ensures.told c.join.ensures.notes c.join.ensures.carried c.args.caller.now c.args.event next
          w.in_default.not-SeePin (no_invoke g.N.Named.board n.0 n.1 n.2 c.args.caller.now (part c.args.pass.now) n.3 c.args.event c.requires.event))
    ])

pub play_joined-turn-requires-clause-hold : goal.play_joined-turn-requires-clause-hold
play_joined-turn-requires-clause-hold g c = (finds g c).hold

pub play_joined-turn-requires-clause-may : goal.play_joined-turn-requires-clause-may
play_joined-turn-requires-clause-may g c = may _ _ _ _ _ _ _ _ _ (finds g c)

same_yard : (g : Over) (c : After-take g) → c.match-event.self-inside.yard ≡ c.self.inside.yard
same_yard g c = elim c.match-event.branch [
  | in-SeePin w ↦ ap (λ q. q.yard) w.self-inside-is
  | in_default w ↦ ap (λ q. q.yard) w.self-inside-is
]

-- what the hold has played
went : (g : Over) (c : After-take g) → Finds (id_of c.args.board.now) (notes c.self.inside.pen) (notes c.match-event.self-inside.pen) c.match-event.self-inside.yard.yard
    (g.D.Disk.device c.match-event.self-inside.yard.disk) (part c.args.pass.now) (carried c.match-event.self-inside.pen) c.args.caller.now c.match-event.found
    → Stepped g.N.Named.board (notes c.self.inside.pen) (notes c.play_joined-turn.new.pen) c.self.inside.yard.yard c.play_joined-turn.new.yard.yard (g.D.Disk.device c.self.inside.yard.disk) (g.D.Disk.device c.play_joined-turn.new.yard.disk) c.play_joined-turn.result
    × WentOn g.N.Named.board (notes c.self.inside.pen) (notes c.play_joined-turn.new.pen) c.args.caller.now c.play_joined-turn.result (part c.args.pass.now) (carried c.play_joined-turn.new.pen)
went g c found =
    let x = c.play_joined-turn in
    let board = id_of c.args.board.now in
    let locked = subst (λ (b : BoardId). IsLocked b (notes c.self.inside.pen) c.self.inside.yard.yard (g.D.Disk.device c.self.inside.yard.disk)) (sym c.requires.board) c.self.invariant.1 in
    subst (λ (b : BoardId). Stepped b (notes c.self.inside.pen) (notes x.new.pen) c.self.inside.yard.yard x.new.yard.yard (g.D.Disk.device c.self.inside.yard.disk) (g.D.Disk.device x.new.yard.disk) x.result
    × WentOn b (notes c.self.inside.pen) (notes x.new.pen) c.args.caller.now x.result (part c.args.pass.now) (carried x.new.pen)) c.requires.board
    (subst (λ yard. Stepped board (notes c.self.inside.pen) (notes x.new.pen) yard.yard x.new.yard.yard (g.D.Disk.device yard.disk) (g.D.Disk.device x.new.yard.disk) x.result
    × WentOn board (notes c.self.inside.pen) (notes x.new.pen) c.args.caller.now x.result (part c.args.pass.now) (carried x.new.pen)) (same_yard g c)
    (played _ _ _ _ _ _ _ _ _ found (notes x.new.pen) x.new.yard.yard (g.D.Disk.device x.new.yard.disk) (carried x.new.pen) x.result
    (subst (λ yard. IsLocked board (notes c.self.inside.pen) yard.yard (g.D.Disk.device yard.disk)) (sym (same_yard g c)) locked)
    c.join.ensures.knows x.ensures.hold x.ensures.moments x.ensures.life x.ensures.device x.ensures.holds x.ensures.turned))

of_board : (g : Over) (c : After-take g) → IsPenOf g.N.Named.board c.cut.new.pen
of_board g c = subst (λ (b : BoardId). IsPenOf b c.cut.new.pen) c.requires.board c.cut.ensures.pen

pub invariant_of-self : goal.invariant_of-self
invariant_of-self g c =
    keeps g.N.Named.board g.N.Named.format g.N.Named.first _ _ _ _ _ _ _ (went g c (finds g
    (goal.at.invariant_of-self g c).After-play_joined-arg-3-1)).0 c.self.invariant.1 c.cut.new.pen
    (of_board g c) c.cut.ensures.notes c.self.invariant.2 c.self.invariant.3 (g.met.D.Disk.timely c.self.inside.yard.disk) c.self.invariant.4

pub returns-clause-moments : goal.returns-clause-moments
returns-clause-moments g c =
    rw (← c.self.view_is) (explains g.N.Named.board g.N.Named.format g.N.Named.first _ _ _ _ _ _ _ (went g c (finds g (goal.at.returns-clause-moments g c).After-play_joined-arg-3-1)).0 c.self.invariant.1 c.cut.new.pen (of_board g c) c.cut.ensures.notes)

-- the same of what the pass has once it was cut off
gone : (g : Over) (c : After-take g) → Finds (id_of c.args.board.now) (notes c.self.inside.pen) (notes c.match-event.self-inside.pen) c.match-event.self-inside.yard.yard
    (g.D.Disk.device c.match-event.self-inside.yard.disk) (part c.args.pass.now) (carried c.match-event.self-inside.pen) c.args.caller.now c.match-event.found
    → WentOn g.N.Named.board c.args.self.now.notes (notes c.cut.new.pen) c.args.caller.now c.play_joined-turn.result (part c.args.pass.now) (part c.cut.new.pass)
gone g c found = rw (← c.self.view_is) (subst (λ (q : List Note × Part). WentOn g.N.Named.board (notes c.self.inside.pen) q.0 c.args.caller.now c.play_joined-turn.result (part c.args.pass.now) q.1) (λ i. (sym c.cut.ensures.notes i, sym c.cut.ensures.part i)) (went g c found).1)

pub returns-clause-advanced : goal.returns-clause-advanced
returns-clause-advanced g c = (gone g c (finds g (goal.at.returns-clause-advanced g c).After-play_joined-arg-3-1)).advanced

pub returns-clause-shows : goal.returns-clause-shows
returns-clause-shows g c =
    let n = c.requires.counted in
    no_end_shows g.N.Named.board n.0 n.1 n.2 c.args.caller.now (part c.args.pass.now) n.3 _ _ c.play_joined-turn.result (part c.cut.new.pass) (gone g c (finds g (goal.at.returns-clause-shows g c).After-play_joined-arg-3-1)) c.requires.going

pub returns-clause-goes : goal.returns-clause-goes
returns-clause-goes g c = λ asked format before C.
    counted_on g.N.Named.board asked format before c.args.caller.now (part c.args.pass.now) C
    (subst (λ (b : BoardId). IsWalkable b.sizes) c.requires.board c.args.board.now.walkable) _ _ c.play_joined-turn.result (part c.cut.new.pass)
    (gone g c (finds g (goal.at.returns-clause-goes g c).After-play_joined-arg-3-1)).advanced
    (ap hop_of (sym c.requires.event) ∙ c.requires.load) c.requires.going c.take.new.self c.take.ensures

-- a Sync is played as it is
sync_found : (g : Over) (c : After-take g) (slot : ℕ) → c.args.event ≡ Sync slot → c.match-event.found ≡ Sync slot
sync_found g c slot is = elim c.match-event.branch [
  | in-SeePin w ↦ let seen = w.in-SeePin.is in absurd cc
  | in_default w ↦ w.found-is ∙ is
]

pub returns-clause-covered : goal.returns-clause-covered
returns-clause-covered g c =
    let x = c.play_joined-turn in
    rw (← c.self.view_is) (subst (λ yard. SparesDevice yard.yard c.args.event x.result.outcome (g.D.Disk.device yard.disk) (g.D.Disk.device x.new.yard.disk)) (same_yard g c) (λ slot is. x.ensures.covered slot (sync_found g c slot is)))
