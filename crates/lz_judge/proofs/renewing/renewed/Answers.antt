use Rattle.lz_judge.proofs.renewing.renewed.Goals as goal

pub returns-clause-same : goal.returns-clause-same
returns-clause-same c = c.compare.ensures.same c.args.old.now c.args.new.now (record { told = c.in_ok-before.ensures.told; good = c.in_ok-before.ensures.good })
    (record { told = c.in_ok-after.ensures.told; good = c.in_ok-after.ensures.good })

pub returns-clause-flaw : goal.returns-clause-flaw
returns-clause-flaw c = c.compare.ensures.flaw c.args.old.now c.args.new.now (record { told = c.in_ok-before.ensures.told; good = c.in_ok-before.ensures.good })
    (record { told = c.in_ok-after.ensures.told; good = c.in_ok-after.ensures.good })
