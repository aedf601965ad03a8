use Rattle.lazyset_set_commands.proofs.found.found_in.Goals as goal
use Rattle.std.proofs.Common.{rules, ◌≡◌, ◌∙◌, ◌+◌, ◌*◌, IsTrue, ap, arith, drop, length, length-append, length-drop, length-take, refl, subst, sym, take}
use Rattle.std.specs.Prelude.{slice_range}
use Rattle.lz_slot.specs.{Bytes.{slot_at}, declared.format.Format.{Format}}
use Rattle.lz_disk.{specs.Images.{Medium}, proofs.Moments.{quiet}}
use Rattle.lz_vault.{specs.Scans.{SaysPiece}, proofs.{Openings.{call_reads, reads_then}, Scanning.{piece_says}}}
use Rattle.lazyset_set_commands.specs.Founds.{found_below}

pub loop-done-init : goal.loop-done-init
loop-done-init g c = record {
  range = search rules;
  room = search rules;
  reads = record { honest = refl; medium = λ honest. refl; time = λ honest. quiet _ _ (g.met.D.Disk.timely c.args.disk.now honest) (λ t image. image); faults = omega arith };
  found = λ honest. refl;
}

pub loop-done-preserved : goal.loop-done-preserved
loop-done-preserved g c =
    let count = c.min-count.result in
    let done = c.loop-done.done in
    let front = take (16 * count) c.loop-done.piece in
    let buffer = c.read.new.buffer in
    let long : length buffer ≡ 16 * count = omega (arith, length-take (16 * count) c.loop-done.piece, c.loop-done.invariant.room, c.read.auto.buffer) in
    record {
      range = search rules;
      room = omega (arith, length-append buffer (drop (16 * count) c.loop-done.piece), length-drop (16 * count) c.loop-done.piece, long, c.loop-done.invariant.room);
      reads = reads_then _ _ _ c.loop-done.invariant.reads (call_reads _ _ _ (g.met.D.Disk.timely c.loop-done.disk) c.in_default.ensures.call c.in_default.ensures.medium);
      found = λ honest.
          let t = (g.D.Disk.device c.args.disk.now).medium.seen in
          let still : IsTrue (g.D.Disk.device c.loop-done.disk).honest = subst IsTrue (sym c.loop-done.invariant.reads.honest) honest in
          let bytes = subst (λ (m : Medium). buffer ≡ slice_range m.seen (16 + 16 * done) (16 + 16 * done + length front)) (c.loop-done.invariant.reads.medium honest) (c.in_default.ensures.bytes still) in
          let fits = c.requires.file honest in
          let says = subst (λ (f : Format). SaysPiece f (slot_at t) done buffer) (sym (c.requires.format honest)) (piece_says t buffer done done (length front) refl c.read.auto.buffer (omega (arith, fits, long, c.read.auto.buffer)) bytes) in
          c.with_piece-found.ensures (slot_at t) done says (c.loop-done.invariant.found honest) ∙ ap (found_below c.args.own.now (slot_at t)) (omega (arith, long));
    }
