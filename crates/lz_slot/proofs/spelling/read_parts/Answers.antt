use Rattle.lz_slot.proofs.spelling.read_parts.Goals as goal
use Rattle.std.proofs.Common.{ℕ, ◌+◌, ◌-◌, ◌∙◌, List, length, take, drop, ap, Option}
use Rattle.lz_slot.{specs.Texts.{key_behind}, proofs.Texts.Spellings.{with_colon, without_colon}}

pub returns-in-Some-read_room : goal.returns-in-Some-read_room
returns-in-Some-read_room c =
    let behind : List ℕ = take (length c.args.text.now - (c.in-Some.end + 1)) (drop (c.in-Some.end + 1) c.args.text.now) in
    with_colon c.args.text.now c.in-Some.end c.read_key_in.result c.in-Some.ensures
    (c.read_key_in.ensures ∙ ap (λ (r : Option ℕ). key_behind r behind) c.in-Some-read_room.ensures.room)

pub returns-in-None-read_room : goal.returns-in-None-read_room
returns-in-None-read_room c =
    let behind : List ℕ = take (length c.args.text.now - (c.in-Some.end + 1)) (drop (c.in-Some.end + 1) c.args.text.now) in
    with_colon c.args.text.now c.in-Some.end _ c.in-Some.ensures (ap (λ (r : Option ℕ). key_behind r behind) c.in-None-read_room.ensures.room)

pub returns-in-None : goal.returns-in-None
returns-in-None c = c.read_key_in-in-None.ensures ∙ without_colon c.args.text.now c.in-None.ensures
