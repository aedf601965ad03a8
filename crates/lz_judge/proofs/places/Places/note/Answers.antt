use Rattle.lz_judge.proofs.places.Places.note.Goals as goal
use Rattle.std.proofs.Common.{ℕ, ◌+◌, ◌++◌, ◌∷◌, [], set, Option, ap, subst, sym}
use Rattle.lz_judge.{specs.Places.{IsTable}, proofs.PlaceTables.{table_keyless, table_put}}

pub returns-in_default : goal.returns-in_default
returns-in_default c = λ ks is table. subst (λ (o : Option ℕ). IsTable (ks ++ o ∷ []) c.args.self.now) (sym c.in_default.is) (table_keyless ks c.args.self.now table)

pub returns : goal.returns
returns c = λ ks is table.
    let place = c.in-Some-free_place.place in
    rw c.in-Some.is (table_put ks c.in-Some.key c.args.self.now _ place c.in-Some-free_place.ensures (ap (λ (n : ℕ). set c.args.self.now.rows.items place (n + 1)) is) table)
