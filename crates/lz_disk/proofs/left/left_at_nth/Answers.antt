use Rattle.lz_disk.proofs.left.left_at_nth.Goals as goal
use Rattle.std.proofs.{Common.{◌≡◌, ◌<◌, ◌≤◌, length, sym, ◌∙◌, arith}, lemmas.Grind.{same_number_lists}}
use Rattle.lz_disk.{specs.Records.{after}, proofs.PickImages.{length-with_nth, nth_at}}

pub returns : goal.returns
returns c = λ bytewise start.
    let writes = (after bytewise start c.args.changes.now).loose in
    let seen = c.args.seen.now in
    let size : length c.loop-at.text.items ≡ length seen = c.loop-at.invariant.size in
    let past : length seen ≤ c.loop-at.at = omega arith in
    same_number_lists _ _ (size ∙ sym (length-with_nth writes c.args.number 0 seen))
    (λ k lt. (let here : k < length seen = omega (arith, lt, size) in c.loop-at.invariant.done bytewise start k (omega arith) ∙ sym (nth_at writes c.args.number seen k here)))
