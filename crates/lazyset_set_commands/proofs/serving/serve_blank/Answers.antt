use Rattle.lazyset_set_commands.proofs.serving.serve_blank.Goals as goal
use Rattle.std.proofs.Common.{rules, ◌≡◌, inr, false, refl, ◌∙◌}
use Rattle.lazyset_set_commands.proofs.Services.{all_new, new_unused}

pub returns-then-not-tell_place : goal.returns-then-not-tell_place
returns-then-not-tell_place g c =
    let hidden : c.tell_place.result ≡ false = search rules in
    let (notes, left) = c.close-then-not-tell_place.ensures.left in
    inr (record { told = inr (c.tell_place.ensures.untold hidden, refl); notes = notes; left = left })

pub serve_passes-requires-clause-count : goal.serve_passes-requires-clause-count
serve_passes-requires-clause-count g c _ _ = c.first_sees_mark-mark.ensures.count ∙ all_new g.N.Named.board c.start-set.result.1.items c.start-set.ensures.passes

pub serve_passes-requires-clause-unused : goal.serve_passes-requires-clause-unused
serve_passes-requires-clause-unused g c _ _ = c.first_sees_mark-mark.ensures.unused (new_unused g.N.Named.board c.start-set.result.1.items c.start-set.ensures.passes)
