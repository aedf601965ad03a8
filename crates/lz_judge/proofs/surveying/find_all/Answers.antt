use Rattle.lz_judge.proofs.surveying.find_all.Goals as goal
use Rattle.std.proofs.Common.{◌≡◌, ℕ, ◌+◌, ◌-◌, ◌/◌, ◌++◌, List, [], take, drop, length, ap, sym, ◌∙◌, subst, arith, take_all, append-nil, length-drop}
use Rattle.std.proofs.Common.{length-take-le, take-append-drop}
use Rattle.lz_slot.specs.Bytes.{slot_at}
use Rattle.lz_judge.specs.Scans.{Scanned}

pub returns : goal.returns
returns c =
    let t = c.args.bytes.now in
    let size : length (drop 16 t) ≡ length t - 16 = length-drop 16 t in
    let piece : take (length t - 16) (drop 16 t) ≡ drop 16 t = take_all (length t - 16) (drop 16 t) (omega (arith, size)) in
    let whole : t ≡ (take 16 t ++ take (length t - 16) (drop 16 t)) ++ [] =
    sym (append-nil (take 16 t ++ take (length t - 16) (drop 16 t)) ∙ ap (λ (l : List ℕ). take 16 t ++ l) piece ∙ take-append-drop 16 t) in
    let count : 0 + length (take (length t - 16) (drop 16 t)) / 16 ≡ c.args.header.slots = omega (arith, ap length piece, size, c.requires.file) in
    let scanned = c.in_ok-note_piece.ensures t c.requires.format (record { front = take 16 t; rest = []; whole = whole; size = length-take-le 16 t (omega (arith, c.requires.file)) }) (c.new-scan.ensures (slot_at t)) in
    c.findings.ensures (slot_at t) c.args.header.slots (subst (λ (n : ℕ). Scanned (slot_at t) n c.note_piece.new.self) count scanned)
