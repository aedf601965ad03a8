use Rattle.test_threads.proofs.boards.publish.Goals as goal
use Rattle.std.proofs.Common.{◌∷◌, ◌%◌, ap, ◌∙◌, arith, rules}
use Rattle.lz_board.{specs.{declared.view.Part.{Part}, Notes.{trace_of}, Seats.{id_of, notes, carried}}, proofs.Upkeep.Splice.{trace_splice}}

pub returns-clause-trace : goal.returns-clause-trace
returns-clause-trace c =
    let opened = (id_of c.args.board.now).opened in
    ap (trace_of opened) (c.cut.ensures.notes ∙ c.note.ensures.notes)
    ∙ ap (λ P. c.args.store.publishing ∷ P) (trace_splice opened (carried c.load_pin.new.pen).number (carried c.load_pin.new.pen).loads (notes c.load_pin.new.pen) ∙ ap (trace_of opened) c.load_pin.ensures.notes ∙ ap (trace_of opened) c.join.ensures.notes)

pub note-requires-clause-may : goal.note-requires-clause-may
note-requires-clause-may c = record {
  by = search rules;
  step = search rules;
  pin = search rules;
  inside = λ inside.
      let same = ap (λ (h : Part). h.pin) (c.load_pin.ensures.carried ∙ c.join.ensures.carried) in
      let even = c.requires.outside in absurd (omega (arith, same, even, inside));
  lawful = search rules;
  made = search rules;
  prepares = search rules;
}

pub returns-clause-outside : goal.returns-clause-outside
returns-clause-outside c = ap (λ (h : Part). h.pin % 2) (c.cut.ensures.part ∙ c.note.ensures.carried) ∙ ap (λ (h : Part). h.pin % 2) (c.load_pin.ensures.carried ∙ c.join.ensures.carried) ∙ c.requires.outside
