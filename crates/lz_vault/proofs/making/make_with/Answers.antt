use Rattle.lz_vault.proofs.making.make_with.Goals as goal
use Rattle.std.proofs.{Common.{arith, ◌⊎◌, inl, ℕ, List, IsTrue}, lemmas.{Bool.Decides.{nat_tests}, Result.{err_from_is_err_and}}}
use Rattle.lz_slot.specs.Sets.{members}
use Rattle.lz_disk.{specs.{Images.{IsImage}, Devices.{Device, LeavesOnly}}, proofs.Moments.{leaves_more, leaves_then, quiet}}
use Rattle.lz_vault.{specs.Makes.{IsPart, IsUnmadeOrHolds}, proofs.MakingParts.{still_honest}}

-- what was looked at, and then written
made_leaves : (P : List ℕ → Type 0) (old mid new : Device) (F G : Type 0) → IsPart (IsImage old.medium) old mid F → IsPart P mid new G → IsTrue old.honest → LeavesOnly old new (λ t. IsImage old.medium t ⊎ P t)
made_leaves P old mid new F G first second honest = grind (arith, nat_tests, leaves_then, leaves_more, still_honest)

pub returns-then-n-eq0-clause-any_moment : goal.returns-then-n-eq0-clause-any_moment
returns-then-n-eq0-clause-any_moment g c = λ honest. quiet (g.D.Disk.device c.args.disk.now) _ (g.met.D.Disk.timely c.args.disk.now honest) (λ t image. inl image)

pub returns-in_err-is_gate_unsure-clause-refused : goal.returns-in_err-is_gate_unsure-clause-refused
returns-in_err-is_gate_unsure-clause-refused g c =
    let p = err_from_is_err_and c.from_residual.result c.from_residual.ensures.1 in
    rw (p.1, p.2) (c.in_err-is_gate_unsure.ensures.refused c.args.format)

pub returns-in-Ok-clause-any_moment : goal.returns-in-Ok-clause-any_moment
returns-in-Ok-clause-any_moment g c =
    made_leaves (IsUnmadeOrHolds c.args.format c.args.n (members c.args.keys.now)) (g.D.Disk.device c.args.disk.now) (g.D.Disk.device c.may_make.new.disk) (g.D.Disk.device c.write_file.new.disk) _ _ c.may_make.ensures.part c.write_file.ensures.part

pub returns-in-Err-clause-any_moment : goal.returns-in-Err-clause-any_moment
returns-in-Err-clause-any_moment g c =
    made_leaves (IsUnmadeOrHolds c.args.format c.args.n (members c.args.keys.now)) (g.D.Disk.device c.args.disk.now) (g.D.Disk.device c.may_make.new.disk) (g.D.Disk.device c.write_file.new.disk) _ _ c.may_make.ensures.part c.write_file.ensures.part
