use Rattle.lazyset_set_commands.proofs.found.Found.with_piece.Goals as goal
use Rattle.std.proofs.Common.{rules, ◌≡◌, ◌∙◌, ◌+◌, ◌/◌, ℕ, length, suc, ap, arith, sym}
use Rattle.lz_slot.specs.Bytes.{slot_read}
use Rattle.lazyset_set_commands.specs.Founds.{found_below, with_slot}

pub loop-index-preserved : goal.loop-index-preserved
loop-index-preserved c = record {
  found = λ says n piece before.
      let index = c.loop-index.index in
      let said : c.read_slot.result ≡ says (n + index) = c.read_slot.ensures ∙ ap (slot_read c.args.format) c.copy_from_slice.ensures.after ∙ sym (piece index (omega arith)) in
      let next : suc (n + index) ≡ n + (index + 1) = omega arith in
      c.with_slot-found.ensures ∙ (λ i. with_slot c.args.own.now (c.loop-index.invariant.found says n piece before i) (said i)) ∙ ap (found_below c.args.own.now says) next;
}

pub returns : goal.returns
returns c = λ says n piece before.
    let at_end : c.loop-index.index ≡ length c.args.piece.now / 16 = search rules in
    c.loop-index.invariant.found says n piece before ∙ ap (λ (k : ℕ). found_below c.args.own.now says (n + k)) at_end
