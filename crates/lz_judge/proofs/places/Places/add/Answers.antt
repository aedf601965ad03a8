use Rattle.lz_judge.proofs.places.Places.add.Goals as goal
use Rattle.std.proofs.Common.{ℕ, ◌++◌, ◌∷◌, [], List, Option, arith, ◌∙◌, subst, sym, OnOk}
use Rattle.lz_judge.{specs.Places.{IsTable}, proofs.PlaceTables.{last_key, one_longer}}

pub returns-then-len-count : goal.returns-then-len-count
returns-then-len-count g c = λ ks k is table.
    let size = one_longer g.T.Keyed.key c.args.items.now ks k is in
    let last = c.keyed.ensures ∙ last_key g.T.Keyed.key c.args.items.now ks k is c.index-items-count.result _ (omega (arith, size)) c.index-items-count.is in
    subst (λ (l : List (Option ℕ)). OnOk c.note.result (IsTable l c.note.new.self)) (sym is)
    (subst (λ (o : Option ℕ). OnOk c.note.result (IsTable (ks ++ o ∷ []) c.note.new.self)) last (c.note.ensures ks (omega (arith, size)) table))
