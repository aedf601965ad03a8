use Rattle.test_threads.proofs.tapes.TapeStream.receive.Goals as goal
use Rattle.std.proofs.{Common.{◌≡◌, ◌-◌, ℕ, List, length, take, drop, ap, ◌∙◌, arith}, lemmas.List.{take_rest, length-take}}
use Rattle.test_threads.proofs.ToldTexts.{read_on}

pub returns-clause-received : goal.returns-clause-received
returns-clause-received g c =
    let t = c.self.inside in
    let count = c.min-count.result in
    let left : take (length t.text.now - t.read) (drop t.read t.text.now) ≡ drop t.read t.text.now = take_rest t.text.now t.read in
    read_on c.args.self.now t.text.now t.sent.items c.copy_from_slice.new.self _ t.read count t.ended c.self.view_is c.self.invariant.whole (λ none. grind (arith, c.is_empty.ensures, c.if-is_empty.false, ap (λ (x : List ℕ). length x) (left ∙ none)))
    (c.copy_from_slice.ensures.after ∙ ap (λ (x : List ℕ). take count x) left) (c.copy_from_slice.ensures.len ∙ grind (arith, c.min-count.ensures, length-take count c.args.buffer.now))
