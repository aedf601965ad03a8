use Rattle.lz_resp.proofs.reading.fits.Goals as goal
use Rattle.std.proofs.{Common.{◌≡◌, ◌∙◌, ℕ, List, Bor, length, nat_le, true, sym, arith}, lemmas.{Bool.Decides.{nat_tests}, List.{length-map}}}
use Rattle.std.{proofs.lemmas.List.Folds.{list_all-map}, specs.Prelude.{map}}
use Rattle.lz_resp.specs.Limits.{most_argument, most_arguments}

pub returns-then-arguments-le-MOST_ARGUMENTS : goal.returns-then-arguments-le-MOST_ARGUMENTS
returns-then-arguments-le-MOST_ARGUMENTS c =
    let few : nat_le (length (map (λ (w : Bor (List ℕ)). w.now) c.args.arguments.now)) most_arguments ≡ true = rw length-map (grind (arith, nat_tests)) in
    rw few (c.are_short.ensures ∙ sym (list_all-map (λ argument. nat_le (length argument) most_argument) (λ (w : Bor (List ℕ)). w.now) c.args.arguments.now))
