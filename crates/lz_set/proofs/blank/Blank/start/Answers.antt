use Rattle.lz_set.proofs.blank.Blank.start.Goals as goal
use Rattle.std.proofs.Common.{◌≡◌, [], List, sym, ap, ◌∙◌, subst}
use Rattle.lz_board.specs.{declared.view.Note.{Note}, Seats.{BoardId, id_of}}
use Rattle.lz_refinement.specs.{Holds.{IsLocked}, Lives.{LivesOn}, Moments.{LeftSince}}

pub new-locked-requires-clause-yard : goal.new-locked-requires-clause-yard
new-locked-requires-clause-yard g c =
    let named : id_of c.self.inside.board ≡ g.N.Named.board = ap (λ v. v.board) c.self.view_is ∙ c.requires.board in
    let dev = g.D.Disk.device c.self.inside.yard.disk in
    subst (λ (ns : List Note). IsLocked g.N.Named.board ns c.self.inside.yard.yard dev) (sym c.self.invariant.notes)
    (subst (λ (b : BoardId). IsLocked b [] c.self.inside.yard.yard dev) named c.self.invariant.locked)

pub new-locked-requires-clause-left : goal.new-locked-requires-clause-left
new-locked-requires-clause-left g c =
    subst (λ (ns : List Note). LeftSince g.N.Named.board g.N.Named.first ns (g.D.Disk.device c.self.inside.yard.disk)) (sym c.self.invariant.notes)
    (subst (λ disk. LeftSince g.N.Named.board g.N.Named.first [] (g.D.Disk.device disk)) (sym (ap (λ v. v.disk) c.self.view_is)) c.requires.since)

pub new-locked-requires-clause-life : goal.new-locked-requires-clause-life
new-locked-requires-clause-life g c =
    subst (λ (ns : List Note). LivesOn g.N.Named.format g.N.Named.first ns c.self.inside.yard.yard (g.D.Disk.device c.self.inside.yard.disk)) (sym c.self.invariant.notes)
    (subst (λ v. LivesOn g.N.Named.format g.N.Named.first [] v.yard (g.D.Disk.device v.disk)) (sym c.self.view_is) c.requires.life)
