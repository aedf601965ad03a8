use Rattle.lz_serve.proofs.reader.LineReader.end.Goals as goal
use Rattle.std.proofs.Common.{ℕ, List, [], ◌∷◌, Option, Result, Ok, Err, OnOk, Some, refl, subst}
use Rattle.lz_proto.specs.{declared.item.Item.TheVariants.{Faulty}, Pieces.{Ends}}
use Rattle.lz_serve.specs.Exchanges.{of_line}

so : {T E A B : Type 0} (r : Result T E) → (A → B) → OnOk r A → OnOk r B
so (Ok x) step a = step a
so (Err e) step a = tt

pub returns-in-Some-clause-ok : goal.returns-in-Some-clause-ok
returns-in-Some-clause-ok c = so c.put_line.result (λ added. (of_line (Faulty c.in-Some.bad) ∷ [], (Some c.in-Some.bad, subst (λ (kept : Option (List ℕ)). Ends kept (Some c.in-Some.bad)) c.self.view_is c.in-Some.ensures, refl), added)) c.put_line.ensures.ok
