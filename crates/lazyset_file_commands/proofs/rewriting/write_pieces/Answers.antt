use Rattle.lazyset_file_commands.proofs.rewriting.write_pieces.Goals as goal
use Rattle.std.proofs.Common.{rules, ◌≡◌, ◌+◌, ℕ, IsTrue, length, drop, take, length-append, length-take, length-drop, subst, sym, ◌∙◌, arith}
use Rattle.lazyset_file_commands.{specs.Rewritings.{IsRewrittenTo}, proofs.Rewritten.{keeps_then}}

pub loop-done-preserved : goal.loop-done-preserved
loop-done-preserved g c =
    let count = c.min-count.result in
    let size = length-take count c.loop-done.piece in
    let room = c.loop-done.invariant.room in
    let whole : length (take count c.loop-done.piece) ≡ count = omega (arith, size, room) in
    let keeps = c.loop-done.invariant.keeps in
    record {
      range = search rules;
      room = omega (arith, length-append c.write_piece.new.piece (drop count c.loop-done.piece), length-drop count c.loop-done.piece, size, room, c.write_piece.auto.piece);
      keeps =
          keeps_then _ _ (g.D.Disk.device c.args.disk.now) (g.D.Disk.device c.loop-done.disk) (g.D.Disk.device c.write_piece.new.disk) (λ honest on. keeps.bytewise honest ∙ on)
          keeps c.in_ok-write_piece.ensures.keeps;
      written = λ honest.
          let more = c.in_ok-write_piece.ensures.written (subst IsTrue (sym keeps.honest) honest) (g.D.Disk.device c.args.disk.now).medium (c.loop-done.invariant.written honest) in
          subst (λ (n : ℕ). IsRewrittenTo (g.D.Disk.device c.args.disk.now).medium (c.loop-done.done + n) (g.D.Disk.device c.write_piece.new.disk).medium) whole more;
      calls = let before = c.loop-done.invariant.calls in let two = c.in_ok-write_piece.ensures.calls in omega (arith, before, two);
    }
