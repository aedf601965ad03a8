use Rattle.lazyset_set_commands.proofs.serving.serve_on.Goals as goal
use Rattle.std.proofs.Common.{inl, inr, ⊎_elim, ◌∙◌, arith}

pub returns-in-Ok-clause-ran : goal.returns-in-Ok-clause-ran
returns-in-Ok-clause-ran g c =
    inl (record { opened = c.in-Ok.blank; opens = c.in-Ok.ensures.ok; sizes = c.in-Ok.ensures.board.0; trace = c.in-Ok.ensures.board.1; served = c.serve_blank.ensures })

pub returns-in-Ok-clause-honest : goal.returns-in-Ok-clause-honest
returns-in-Ok-clause-honest g c = ⊎_elim (λ s. s.served.left.left.honest) (λ p. p.left.honest) c.serve_blank.ensures ∙ c.in-Ok.ensures.ok.vault.honest

pub returns-in-Ok-clause-faults : goal.returns-in-Ok-clause-faults
returns-in-Ok-clause-faults g c =
    let first = c.in-Ok.ensures.ok.vault.faults in
    ⊎_elim (λ s. let later = s.served.left.left.faults in omega (arith, first, later)) (λ p. let later = p.left.faults in omega (arith, first, later)) c.serve_blank.ensures

pub returns-in-Err-clause-ran : goal.returns-in-Err-clause-ran
returns-in-Err-clause-ran g c = inr (record { fault = _; refused = c.in-Err.ensures.err; told = c.refuse.ensures.told })
