use Rattle.test_threads.proofs.meeting.close_with_both.Goals as goal
use Rattle.std.proofs.{Common.{[], ◌∷◌}, lemmas.List.Elements.{All-cons, All-nil}}
use Rattle.lz_board.specs.{declared.pass.Pass.{Pass}, Seats.{IsOf}}

pub close_with-requires : goal.close_with-requires
close_with-requires g c =
    let is_of = λ (p : Pass). IsOf g.N.Named.board p in
    let one = All-cons is_of c.args.second [] c.requires.second.0 (All-nil is_of) in
    record { passes = All-cons is_of c.args.first (c.args.second ∷ []) c.requires.first.0 one }
