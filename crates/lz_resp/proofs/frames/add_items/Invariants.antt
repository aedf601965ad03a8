use Rattle.lz_resp.proofs.frames.add_items.Given as goal
use Rattle.std.proofs.Common.{◌≡◌, ◌-◌, ◌≤◌, List, ◌++◌, length, drop}
use Rattle.lz_resp.{specs.{Keys.{IsRoom}, declared.item.Item.{Item}}, proofs.Texts.{GoesOn}}

abbrev pub invariant-frames : goal.invariant-frames
invariant-frames l =
    (told : List Item) × (l.items.items ≡ l.initial.items.items ++ told) × GoesOn l.fn.state l.text told l.state (drop l.used l.text) × IsRoom l.state.selected × (l.used ≤ length l.text)

abbrev pub decreases-frames : goal.decreases-frames
decreases-frames l = length l.text - l.used
