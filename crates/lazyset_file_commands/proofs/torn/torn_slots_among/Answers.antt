use Rattle.lazyset_file_commands.proofs.torn.torn_slots_among.Goals as goal
use Rattle.std.proofs.Common.{◌≡◌, ◌+◌, ap, sym, ◌∙◌, arith}
use Rattle.lz_slot.specs.{Bytes.{slot_at, slot_read}, declared.format.Format.TheVariants.{Four}}
use Rattle.lazyset_file_commands.{specs.Torn.{is_torn}, proofs.TornSlots.{says_in_piece, torn_more, torn_same}}
use Rattle.lazyset_file_commands.proofs.torn.torn_slots_among.Goals.{then-is_torn, else-is_torn}

pub loop-index-preserved : goal.loop-index-preserved
loop-index-preserved c = record {
  bound = elim c.if-is_torn.branch [
    | then-is_torn w ↦ omega (arith, w.count-is, c.loop-index.invariant.bound)
    | else-is_torn w ↦ omega (arith, w.count-is, c.loop-index.invariant.bound)
  ];
  torn = λ t first four at.
      let index = c.loop-index.index in
      let here : is_torn (slot_at t (first + index)) ≡ c.is_torn.result =
      ap is_torn (says_in_piece t first index c.args.piece.now four at (omega arith)) ∙ ap (λ l. is_torn (slot_read Four l)) (sym c.copy_from_slice.ensures.after) ∙ sym c.is_torn.ensures in
      let before = c.loop-index.invariant.torn t first four at in
      elim c.if-is_torn.branch [
        | then-is_torn w ↦ let more = torn_more (slot_at t) (first + index) (first + (index + 1)) (omega arith) (here ∙ w.if-is_torn.true) in omega (arith, before, more, w.count-is)
        | else-is_torn w ↦ let same = torn_same (slot_at t) (first + index) (first + (index + 1)) (omega arith) (here ∙ w.if-is_torn.false) in omega (arith, before, same, w.count-is)
      ];
}
