use Rattle.lz_refinement.proofs.locked.Locked.begin.Goals as goal
use Rattle.std.proofs.Common.{◌≡◌, ◌≤◌, ◌∷◌, ℕ, List, refl, sym, ap, ◌∙◌, subst}
use Rattle.lz_refinement.proofs.Vocabulary.{largest_key, Outcome, begun_after, Note, Part, trace_of, found_note, BoardId, IsPenOf, carried, id_of, notes, part}
use Rattle.lz_refinement.proofs.{Calls.CountedMoves.{counted_new}, Hold.{Joining.{joined}, OneHold.{Stepped, explains, keeps, stepped_call}}}
use Rattle.lz_refinement.proofs.{Hold.PinSight.{found, own_found}, Moments.HeldMoments.{finds}, locked.Locked.begin.{Given.{Over}, Goals.{After-drop-turn}}}
use Rattle.lz_refinement.specs.{Held.{Began}, Holds.{IsIdle, IsLocked}}

pub play_joined-turn-requires-clause-hold : goal.play_joined-turn-requires-clause-hold
play_joined-turn-requires-clause-hold g c =
    let board = id_of c.args.board.now in
    let hold = joined g.N.Named.board board c.requires.board (notes c.self.inside.pen) (notes c.join.new.pen) c.self.inside.yard.yard (g.D.Disk.device c.self.inside.yard.disk) (part c.args.pass.now) (carried c.join.new.pen)
    c.self.invariant.1 c.join.ensures.knows c.join.ensures.told c.join.ensures.notes c.join.ensures.carried in
    let number = ap (λ (h : Part). h.number) c.join.ensures.carried ∙ sym c.requires.pass.2.number ∙ sym c.join.ensures.same.0 ∙ sym c.number-number.ensures in
    let range = subst (λ (n : ℕ). (1 ≤ n) × (n ≤ board.sizes.passes)) number hold.knows.numbered in
    found board (notes c.join.new.pen) (notes c.load_pin.new.pen) c.self.inside.yard.yard (g.D.Disk.device c.self.inside.yard.disk) (carried c.join.new.pen) (carried c.load_pin.new.pen) hold c.number-number.result c.load_pin.result range
    c.load_pin.ensures.told c.load_pin.ensures.own c.load_pin.ensures.notes c.load_pin.ensures.carried

pub play_joined-turn-requires-clause-may : goal.play_joined-turn-requires-clause-may
play_joined-turn-requires-clause-may g c =
    let number = ap (λ (h : Part). h.number) c.join.ensures.carried ∙ sym c.requires.pass.2.number ∙ sym c.join.ensures.same.0 ∙ sym c.number-number.ensures in
    let found = own_found (notes c.join.new.pen) (notes c.load_pin.new.pen) (carried c.join.new.pen) (carried c.load_pin.new.pen) c.load_pin.result (c.load_pin.ensures.own number)
    (c.load_pin.ensures.notes ∙ ap (λ n. found_note n c.load_pin.result ∷ notes c.join.new.pen) (sym number)) c.load_pin.ensures.carried in
    let idle = subst (λ (x : BoardId × Part). IsIdle x.0.sizes x.1) (λ i. (sym c.requires.board i, sym (c.load_pin.ensures.carried ∙ c.join.ensures.carried) i))
    (record { idle = c.requires.idle.idle; no_loads = c.requires.idle.no_loads; outside = c.requires.idle.outside }) in
    (idle, found, subst (λ n. n ≤ largest_key) (c.rank-key.ensures.value ∙ c.key.ensures) c.rank-key.ensures.range)

-- what the hold has played
made : (g : Over) (c : After-drop-turn g) → Stepped g.N.Named.board (notes c.self.inside.pen) (notes c.play_joined-turn.new.pen) c.self.inside.yard.yard c.play_joined-turn.new.yard.yard (g.D.Disk.device c.self.inside.yard.disk)
    (g.D.Disk.device c.play_joined-turn.new.yard.disk) c.play_joined-turn.result × Began g.N.Named.board g.N.Named.format (notes c.self.inside.pen) (notes c.play_joined-turn.new.pen) c.args.command c.play_joined-turn.result (part c.args.pass.now) (carried c.play_joined-turn.new.pen)
made g c =
    let x = c.play_joined-turn in
    let board = id_of c.args.board.now in
    let ns = notes c.self.inside.pen in
    let y = c.self.inside.yard.yard in
    let dev = g.D.Disk.device c.self.inside.yard.disk in
    let h = part c.args.pass.now in
    let locked = subst (λ (b : BoardId). IsLocked b ns y dev) (sym c.requires.board) c.self.invariant.1 in
    let joint = joined g.N.Named.board board c.requires.board ns (notes c.join.new.pen) y dev h (carried c.join.new.pen) c.self.invariant.1 c.join.ensures.knows c.join.ensures.told c.join.ensures.notes c.join.ensures.carried in
    let number = sym c.requires.pass.2.number ∙ sym c.join.ensures.same.0 ∙ sym c.number-number.ensures in
    let joined_number = ap (λ (q : Part). q.number) c.join.ensures.carried ∙ number in
    let pin = ap (λ (q : Part). q.pin) (sym c.join.ensures.carried) ∙ c.load_pin.ensures.own joined_number in
    let range = subst (λ (n : ℕ). (1 ≤ n) × (n ≤ board.sizes.passes)) joined_number joint.knows.numbered in
    let hold = found board (notes c.join.new.pen) (notes c.load_pin.new.pen) y dev (carried c.join.new.pen) (carried c.load_pin.new.pen) joint c.number-number.result c.load_pin.result range c.load_pin.ensures.told c.load_pin.ensures.own c.load_pin.ensures.notes c.load_pin.ensures.carried in
    let comes = finds board c.number-number.result c.load_pin.result ns (notes c.join.new.pen) (notes c.load_pin.new.pen) c.join.ensures.notes c.load_pin.ensures.notes in
    subst (λ (b : BoardId). Stepped b ns (notes x.new.pen) y x.new.yard.yard dev (g.D.Disk.device x.new.yard.disk) x.result × Began b g.N.Named.format ns (notes x.new.pen) c.args.command x.result h (carried x.new.pen)) c.requires.board
    (stepped_call board g.N.Named.format ns (notes c.load_pin.new.pen) (notes x.new.pen) y x.new.yard.yard dev (g.D.Disk.device x.new.yard.disk) h (carried c.load_pin.new.pen) (carried x.new.pen) (trace_of board.opened ns) locked c.join.ensures.knows comes hold
    (c.load_pin.ensures.carried ∙ c.join.ensures.carried) x.ensures.hold x.ensures.moments x.ensures.life
    c.args.command x.result (x.ensures.began c.args.command refl) c.self.invariant.3.format c.requires.idle.no_loads (notes c.join.new.pen) c.number-number.result c.load_pin.result c.join.ensures.notes c.load_pin.ensures.notes number pin x.ensures.holds)

of_board : (g : Over) (c : After-drop-turn g) → IsPenOf g.N.Named.board c.cut.new.pen
of_board g c = subst (λ (b : BoardId). IsPenOf b c.cut.new.pen) c.requires.board c.cut.ensures.pen

pub invariant_of-self : goal.invariant_of-self
invariant_of-self g c =
    keeps g.N.Named.board g.N.Named.format g.N.Named.first _ _ _ _ _ _ _ (made g c).0 c.self.invariant.1 c.cut.new.pen (of_board g c) c.cut.ensures.notes c.self.invariant.2 c.self.invariant.3 (g.met.D.Disk.timely c.self.inside.yard.disk) c.self.invariant.4

pub returns-clause-moments : goal.returns-clause-moments
returns-clause-moments g c =
    rw (← c.self.view_is) (explains g.N.Named.board g.N.Named.format g.N.Named.first _ _ _ _ _ _ _ (made g c).0 c.self.invariant.1 c.cut.new.pen (of_board g c) c.cut.ensures.notes)

-- the same of what the pass has once it was cut off
began : (g : Over) (c : After-drop-turn g) → Began g.N.Named.board g.N.Named.format c.args.self.now.notes (notes c.cut.new.pen) c.args.command c.play_joined-turn.result (part c.args.pass.now) (part c.cut.new.pass)
began g c = rw (← c.self.view_is) (subst (λ (q : List Note × Part). Began g.N.Named.board g.N.Named.format (notes c.self.inside.pen) q.0 c.args.command c.play_joined-turn.result (part c.args.pass.now) q.1) (λ i. (sym c.cut.ensures.notes i, sym c.cut.ensures.part i)) (made g c).1)

pub returns-clause-shows : goal.returns-clause-shows
returns-clause-shows g c = (began g c).shows

pub returns-clause-holds : goal.returns-clause-holds
returns-clause-holds g c = (began g c).holds

pub returns-clause-counts : goal.returns-clause-counts
returns-clause-counts g c =
    let b = began g c in
    counted_new g.N.Named.board c.args.command g.N.Named.format (part c.args.pass.now) g.N.Named.board.opened _ _ (part c.cut.new.pass) c.requires.pass.2.sized c.requires.idle b.opened b.holds c.play_joined-turn.result.outcome b.outcome
    c.args.buckets c.args.passes c.requires.buckets.0 c.requires.passes.0 c.begun.result c.begun.ensures

pub returns-clause-caller : goal.returns-clause-caller
returns-clause-caller g c =
    subst (λ (o : Outcome). c.begun.result ≡ record { command = c.args.command; buckets = c.args.buckets; passes = c.args.passes; progress = begun_after o }) (began g c).outcome c.begun.ensures
