use Rattle.lz_resp.proofs.secret.Secret.new.Goals as goal
use Rattle.std.proofs.{Common.{rules, ◌∙◌, ◌++◌, ℕ, List, ap, drop, length, replicate}, lemmas.List.{drop-replicate}}

pub returns-clause-some : goal.returns-clause-some
returns-clause-some c =
    let bytes = c.args.bytes.now in
    let padded = ap (λ (l : List ℕ). bytes ++ l) (drop-replicate (length bytes) 64 0) in
    (c.is_secret.ensures.0 (search rules), ap (λ (l : List ℕ). l ++ drop (length bytes) (replicate 64 0)) c.copy_from_slice.ensures.after ∙ padded)
