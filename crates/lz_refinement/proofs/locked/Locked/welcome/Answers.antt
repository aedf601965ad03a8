use Rattle.lz_refinement.proofs.locked.Locked.welcome.Goals as goal
use Rattle.std.proofs.Common.{◌≡◌, ◌∙◌, sym, subst}
use Rattle.lz_refinement.proofs.{Vocabulary.{Part, Extends, steps_of, trace_of, Knows, BoardId, id_of, notes, part}, Marks.OwnCalls.{tells_own}}
use Rattle.lz_refinement.{proofs.Sessions.SoleNotes.{tells_alone}, specs.{OwnCalls.{TellsOwn}, Sessions.{TellsAlone}}}

pub returns-clause-since : goal.returns-clause-since
returns-clause-since g c =
    let b = g.N.Named.board in
    let knows = subst (λ (b : BoardId). Knows b.sizes b.opened (notes c.self.inside.pen) (part c.args.pass.now)) c.requires.board c.join.ensures.knows in
    subst (λ v. Extends (trace_of b.opened v.notes) (part c.args.pass.now).known) c.self.view_is (knows.since.0, knows.since.1)

pub returns-clause-noted : goal.returns-clause-noted
returns-clause-noted g c =
    let ns = notes c.self.inside.pen in
    subst (λ v. steps_of (part c.cut.new.pass).number v.notes ≡ (part c.cut.new.pass).steps) c.self.view_is
    (subst (λ (h : Part). steps_of h.number ns ≡ h.steps) (sym (c.cut.ensures.part ∙ c.join.ensures.carried)) c.join.ensures.knows.noted)

pub returns-clause-own : goal.returns-clause-own
returns-clause-own g c =
    subst (λ v. TellsOwn g.N.Named.board v.notes (part c.cut.new.pass)) c.self.view_is
    (tells_own g.N.Named.board (notes c.self.inside.pen) (part c.args.pass.now) (part c.cut.new.pass) (trace_of (id_of c.args.board.now).opened (notes c.self.inside.pen)) c.join.ensures.knows.noted (c.cut.ensures.part ∙ c.join.ensures.carried))

pub returns-clause-alone : goal.returns-clause-alone
returns-clause-alone g c =
    let b = g.N.Named.board in
    let ns = notes c.self.inside.pen in
    let knows = subst (λ (b : BoardId). Knows b.sizes b.opened ns (part c.args.pass.now)) c.requires.board c.join.ensures.knows in
    λ one. subst (λ v. TellsAlone b v.notes (part c.cut.new.pass)) c.self.view_is
    (subst (TellsAlone b ns) (sym (c.cut.ensures.part ∙ c.join.ensures.carried))
    (tells_alone b ns c.self.inside.yard.yard (g.D.Disk.device c.self.inside.yard.disk) c.self.invariant.1 (part c.args.pass.now) knows one (trace_of (id_of c.args.board.now).opened ns)))
