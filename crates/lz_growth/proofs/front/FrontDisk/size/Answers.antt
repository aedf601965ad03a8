use Rattle.lz_growth.proofs.front.FrontDisk.size.Goals as goal
use Rattle.std.{proofs.{Common.{ap, refl}, lemmas.Result.{err_from_is_err_and}}, specs.Prelude.{is_err}}
use Rattle.lz_growth.proofs.FrontCalls.{behind_call, same_fronted, told_call}

pub returns-in_err-size-clause-call : goal.returns-in_err-size-clause-call
returns-in_err-size-clause-call g c =
    let failed = err_from_is_err_and c.from_residual.result c.from_residual.ensures.1 in
    let old = g.D.Disk.device c.args.self.now.disk in
    told_call _ _ (λ told. refl) (λ fault. ap is_err failed.1)
    (behind_call old (g.D.Disk.device c.size.new.self) c.args.self.now.slots c.args.self.now.refused.count
    (λ honest. same_fronted c.args.self.now.slots old.medium _ (c.in_err-size.ensures.medium honest) (c.args.self.now.keeps.fronted honest)) (g.met.D.Disk.timely c.size.new.self) c.in_err-size.ensures.call)

pub returns-clause-call : goal.returns-clause-call
returns-clause-call g c =
    let old = g.D.Disk.device c.args.self.now.disk in
    behind_call old (g.D.Disk.device c.size.new.self) c.args.self.now.slots c.args.self.now.refused.count
    (λ honest. same_fronted c.args.self.now.slots old.medium _ (c.in_ok-size.ensures.medium honest) (c.args.self.now.keeps.fronted honest)) (g.met.D.Disk.timely c.size.new.self) c.in_ok-size.ensures.call
