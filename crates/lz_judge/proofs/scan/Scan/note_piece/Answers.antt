use Rattle.lz_judge.proofs.scan.Scan.note_piece.Goals as goal
use Rattle.std.proofs.Common.{◌≡◌, ℕ, ◌+◌, ◌*◌, ap, sym, ◌∙◌, subst, arith, add_assoc, slice_range}
use Rattle.lz_slot.specs.{declared.format.Format.{Format}, Bytes.{slot_at, slot_read}}
use Rattle.lz_judge.{specs.Scans.{Scanned}, proofs.Surveys.PieceReads.{slot_in_piece}}

pub loop-index-preserved : goal.loop-index-preserved
loop-index-preserved c = λ t format piece before.
    let index = c.loop-index.index in
    let at : c.new-slot.result ≡ c.args.first + index = c.new-slot.ensures in
    let slot = slot_in_piece t c.args.first index c.args.piece.now piece (omega arith) in
    let bytes : slot_at t (c.args.first + index) ≡ c.read_slot.result =
    ap (λ (F : Format). slot_read F (slice_range t (16 + 16 * (c.args.first + index)) (32 + 16 * (c.args.first + index)))) (sym format)
    ∙ ap (slot_read c.args.format) (slot ∙ sym c.copy_from_slice.ensures.after) ∙ sym c.read_slot.ensures in
    let then = c.in_ok-note.ensures (slot_at t) (ap (slot_at t) at ∙ bytes)
    (subst (λ (n : ℕ). Scanned (slot_at t) n c.loop-index.self) (sym at) (c.loop-index.invariant t format piece before)) in
    subst (λ (n : ℕ). Scanned (slot_at t) n c.note.new.self) (ap (λ (n : ℕ). n + 1) at ∙ add_assoc c.args.first index 1) then
