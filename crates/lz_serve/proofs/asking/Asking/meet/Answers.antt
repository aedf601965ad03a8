use Rattle.lz_serve.proofs.asking.Asking.meet.Goals as goal
use Rattle.std.proofs.Common.{ap, ◌∙◌}
use Rattle.lz_serve.{specs.Askings.{Asked}, proofs.{Askings.{has_rested, resting}, Meetings.{sees_calm, sees_halt}}}

pub meet-requires : goal.meet-requires
meet-requires g c =
    let from = c.self.inside in
    let none = ap (λ (a : Asked). a.question) c.self.view_is ∙ c.requires.rests in
    let rest = resting g.N.Named.board g.N.Named.format g.B.Given.parts from.question from.pass from.halted from.call from.tries none c.self.invariant.0 in
    rest.may_call

pub invariant_of-self : goal.invariant_of-self
invariant_of-self g c =
    let from = c.self.inside in
    let new = c.meet.new.other in
    let b = g.N.Named.board in
    let F = g.N.Named.format in
    let given = g.B.Given.parts in
    let none = ap (λ (a : Asked). a.question) c.self.view_is ∙ c.requires.rests in
    let rest = resting b F given from.question from.pass from.halted from.call from.tries none c.self.invariant.0 in
    let more = c.meet.ensures.met in (
      has_rested b F given from.question new from.halted from.call from.tries none
          (record {
            may_call = c.meet.ensures.other;
            seen = λ told. sees_halt from.pass new more (rest.seen told);
            calm = λ told all. sees_calm from.pass new more (rest.calm told all);
            none = rest.none;
          }),
      c.self.invariant.1,
    )
