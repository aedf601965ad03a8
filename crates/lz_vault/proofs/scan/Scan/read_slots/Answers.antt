use Rattle.lz_vault.proofs.scan.Scan.read_slots.Goals as goal
use Rattle.std.proofs.Common.{rules, ◌∙◌, sym, subst, ◌+◌, ◌*◌, ◌/◌, ◌≤◌, ℕ, List, length, length-append, drop, take, arith}
use Rattle.std.proofs.lemmas.{List.{length-take, length-drop}, Result.{err_from_is_err_and}}
use Rattle.lz_slot.specs.{Bytes.{slot_at}, declared.format.Format.{Format}}
use Rattle.lz_vault.{specs.Scans.{AreNoted, IsFresh, StopsAt}, proofs.{Openings.{read_before, reads_then}, Scanning.{stops_more}}}

pub returns-in_err-read_piece-clause-scan : goal.returns-in_err-read_piece-clause-scan
returns-in_err-read_piece-clause-scan g c = λ honest before.
    let p = err_from_is_err_and c.from_residual.result c.from_residual.ensures.1 in
    let piece = take (16 * c.min-count.result) c.loop-done.piece in
    let cells = c.loop-done.self.cells in
    let now = c.read_piece.new.self in
    let fault = c.in_err-read_piece.field-0.0 in
    let size = length-take (16 * c.min-count.result) c.loop-done.piece in
    let limit = length cells + length piece / 16 in
    let below : limit ≤ c.args.slots = omega (arith, size) in
    let went = read_before _ _ (λ (t : List ℕ). AreNoted (slot_at t) cells → AreNoted (slot_at t) now.cells × StopsAt (slot_at t) limit now fault)
    c.loop-done.invariant.reads c.in_err-read_piece.ensures.scan honest (c.loop-done.invariant.scan honest before) in
    rw (p.1, p.2) (went.0, stops_more _ limit c.args.slots now fault below went.1)

pub loop-done-preserved : goal.loop-done-preserved
loop-done-preserved g c =
    let size = length-take (16 * c.min-count.result) c.loop-done.piece in
    let now = c.read_piece.new.self in
    let was = c.loop-done.self in
    let same = c.loop-done.invariant.format in
    record {
      range = search rules;
      room = omega (arith, length-append c.read_piece.new.piece (drop (16 * c.min-count.result) c.loop-done.piece), length-drop (16 * c.min-count.result) c.loop-done.piece, size, c.loop-done.invariant.room, c.read_piece.auto.piece);
      format = c.in_ok-read_piece.ensures.format ∙ same;
      count = omega (arith, size, c.in_ok-read_piece.ensures.count, c.loop-done.invariant.count);
      fresh = λ before. subst (λ (f : Format). IsFresh f now) same (c.in_ok-read_piece.ensures.fresh (subst (λ (f : Format). IsFresh f was) (sym same) (c.loop-done.invariant.fresh before)));
      reads = reads_then _ _ _ c.loop-done.invariant.reads c.in_ok-read_piece.ensures.reads;
      calls = omega (arith, c.loop-done.invariant.calls, c.read_piece.ensures.calls);
      scan = λ honest before.
          (read_before _ _ (λ (t : List ℕ). AreNoted (slot_at t) was.cells → AreNoted (slot_at t) now.cells × Unit {0})
          c.loop-done.invariant.reads c.in_ok-read_piece.ensures.scan honest (c.loop-done.invariant.scan honest before)).0;
    }

pub returns-in_err-read_piece-clause-fresh : goal.returns-in_err-read_piece-clause-fresh
returns-in_err-read_piece-clause-fresh g c = λ before.
    let same = c.loop-done.invariant.format in
    subst (λ (f : Format). IsFresh f c.read_piece.new.self) same (c.read_piece.ensures.fresh (subst (λ (f : Format). IsFresh f c.loop-done.self) (sym same) (c.loop-done.invariant.fresh before)))
