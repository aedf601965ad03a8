use Rattle.lz_vault.proofs.renewing.read_members.Goals as goal
use Rattle.std.proofs.Common.{refl, sym, subst, List, ℕ, length}
use Rattle.lz_slot.specs.declared.format.Format.TheVariants.{Three}
use Rattle.lz_vault.{specs.{Makes.{MayBeMembers}, Renewals.{AreHeldBy}}, proofs.HeldKeys.{are_held, are_members}}

pub returns-clause-held : goal.returns-clause-held
returns-clause-held g c = λ honest.
    subst (AreHeldBy (g.D.Disk.device c.args.disk.now).medium.seen) (sym (c.in_ok-scan.ensures.keyed refl))
    (are_held (g.D.Disk.device c.args.disk.now) (g.D.Disk.device c.scan_file.new.disk) c.in_ok-scan.scan.format c.in_ok-scan.scan.cells c.in_ok-scan.ensures.ok honest)

pub returns-clause-members : goal.returns-clause-members
returns-clause-members g c =
    subst (λ (ks : List ℕ). MayBeMembers Three (length ks) ks) (sym (c.in_ok-scan.ensures.keyed refl))
    (are_members (g.D.Disk.device c.args.disk.now) (g.D.Disk.device c.scan_file.new.disk) c.in_ok-scan.scan.format c.in_ok-scan.scan.cells c.in_ok-scan.ensures.ok)
