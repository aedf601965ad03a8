use Rattle.test_commands.proofs.files.make_over.Goals as goal
use Rattle.std.proofs.Common.{◌⊎◌, ◌∙◌, IsTrue, ℕ, [], subst, sym}
use Rattle.lz_slot.specs.{declared.format.Format.TheVariants.{One}, Sets.{members}}
use Rattle.lz_disk.specs.{Images.{Medium, IsImage}, FileDisks.{device_over, waiting_of}}
use Rattle.lz_vault.specs.Makes.{IsUnmadeOrHolds}

pub returns : goal.returns
returns g c = λ honest t left.
    let disk = c.make_on-status.new.disk in
    let begun = c.make_on-status.ensures.any_moment (subst IsTrue (sym (c.gather.ensures.honest ∙ c.over-disk.ensures.honest)) honest) in
    let then = subst (λ (n : ℕ). (device_over (g.F.Disk.device disk.file) (waiting_of disk.gathered) disk.unsynced.writes disk.calls.count).left_since n t)
    (sym (c.gather.ensures.moment ∙ c.over-disk.ensures.moment)) (c.into_file.ensures.left _ t left) in
    subst (λ (m : Medium). IsImage m t ⊎ IsUnmadeOrHolds One 2 (members []) t) (c.gather.ensures.medium ∙ c.over-disk.ensures.medium) (begun.each t then)
