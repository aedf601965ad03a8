use Rattle.lz_serve.proofs.reader.put_lines.Goals as goal
use Rattle.std.proofs.Common.{◌++◌, ◌∷◌, [], option_to_list, sym, ap, ◌∙◌, append_assoc}
use Rattle.lz_serve.{specs.Exchanges.{Pending, adding, of_line}, proofs.ExchangesMore.{adding_one}}

pub loop-item-preserved : goal.loop-item-preserved
loop-item-preserved c =
    let inv = c.loop-item.invariant in (
      inv.0 ++ c.in-Some.item ∷ [],
      inv.1 ∙ ap (λ l. inv.0 ++ l) (c.pop_front.ensures.items ∙ ap (λ o. option_to_list o ++ c.pop_front.new.self.items) c.in-Some.is) ∙ sym (append_assoc inv.0 (c.in-Some.item ∷ []) c.pop_front.new.self.items),
      c.in_ok-put_line.ensures.ok ∙ ap (λ (p : Pending). adding (of_line c.in-Some.item ∷ []) p) inv.2 ∙ adding_one of_line inv.0 c.in-Some.item c.args.exchanges.now,
    )
