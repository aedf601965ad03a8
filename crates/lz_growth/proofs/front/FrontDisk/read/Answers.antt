use Rattle.lz_growth.proofs.front.FrontDisk.read.Goals as goal
use Rattle.std.{proofs.{Common.{◌+◌, ◌≤◌, ap, arith, length, refl}, lemmas.Result.{err_from_is_err_and}}, specs.Prelude.{is_err}}
use Rattle.lz_growth.proofs.{FrontCalls.{behind_call, same_fronted, told_call}, FrontMedia.{shown_read}}
use Rattle.lz_growth.specs.{Growths.{room_for}, TimelyFronts.{shown_length}}

pub returns-in_err-read-clause-call : goal.returns-in_err-read-clause-call
returns-in_err-read-clause-call g c =
    let failed = err_from_is_err_and c.from_residual.result c.from_residual.ensures.1 in
    let old = g.D.Disk.device c.args.self.now.disk in
    told_call _ _ (λ told. refl) (λ fault. ap is_err failed.1)
    (behind_call old (g.D.Disk.device c.read.new.self) c.args.self.now.slots c.args.self.now.refused.count
    (λ honest. same_fronted c.args.self.now.slots old.medium _ (c.in_err-read.ensures.medium honest) (c.args.self.now.keeps.fronted honest)) (g.met.D.Disk.timely c.read.new.self) c.in_err-read.ensures.call)

pub returns-clause-call : goal.returns-clause-call
returns-clause-call g c =
    let old = g.D.Disk.device c.args.self.now.disk in
    behind_call old (g.D.Disk.device c.read.new.self) c.args.self.now.slots c.args.self.now.refused.count
    (λ honest. same_fronted c.args.self.now.slots old.medium _ (c.in_ok-read.ensures.medium honest) (c.args.self.now.keeps.fronted honest)) (g.met.D.Disk.timely c.read.new.self) c.in_ok-read.ensures.call

pub returns-clause-bytes : goal.returns-clause-bytes
returns-clause-bytes g c = λ honest.
    let old = g.D.Disk.device c.args.self.now.disk in
    let is = c.args.self.now.keeps.fronted honest in
    let size = shown_length c.args.self.now.slots old.medium.seen is.seen_long in
    let fits : c.args.at + length c.args.buffer.now ≤ room_for c.args.self.now.slots = omega (arith, c.requires honest, size) in
    shown_read c.args.self.now.slots old.medium is c.args.at (length c.args.buffer.now) fits c.read.new.buffer c.show_letter.new.bytes (c.in_ok-read.ensures.bytes honest) c.show_letter.auto.bytes
    c.show_letter.ensures.letter c.show_letter.ensures.others
