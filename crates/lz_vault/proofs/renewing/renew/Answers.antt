use Rattle.lz_vault.proofs.renewing.renew.Goals as goal
use Rattle.std.{proofs.Common.{◌≡◌, ◌⊎◌, inl, inr, ⊎_elim, ℕ, List, IsTrue, sym, subst, arith}, specs.Cmp.{both_ways}}
use Rattle.lz_slot.{specs.{Sets.{Keys, Same, members}, declared.format.Format.{Format}, Bytes.{Holds}}, proofs.Files.HeldSets.{holds_same_set}}
use Rattle.lz_disk.{specs.{Images.{IsImage}, Devices.{Device, IsTimely, LeavesOnly}}, proofs.Moments.{leaves_more, quiet}}
use Rattle.lz_vault.specs.{Makes.{IsUnmadeOrHolds}, Renewals.{AreHeldBy}}

-- a text holds one set
one_set : (t : List ℕ) (N M : ℕ) (S T : Keys) → Holds t N S → Holds t M T → Same S T
one_set t N M S T one other k =
    let same : N ≡ M = omega (arith, one.size, other.size) in
    both_ways (S k) (T k)
    (λ has. let at = (one.set k).0 has in (other.set k).1 (at.0, omega (arith, at.1, same), at.2))
    (λ has. let at = (other.set k).0 has in (one.set k).1 (at.0, omega (arith, at.1, same), at.2))

-- where no call is made, each moment leaves what might have been left before
uncalled : (old : Device) (P : List ℕ → Type 0) → (IsTrue old.honest → IsTimely old) → IsTrue old.honest → LeavesOnly old old (λ t. IsImage old.medium t ⊎ P t)
uncalled old P timely honest = quiet old _ (timely honest) (λ t image. inl image)

-- a making of a file of these keys leaves a file of the set of which they are the members
called : (old new : Device) (format : Format) (n N : ℕ) (t ks : List ℕ) (S : Keys) → AreHeldBy t ks → Holds t N S
    → LeavesOnly old new (λ c. IsImage old.medium c ⊎ IsUnmadeOrHolds format n (members ks) c) → LeavesOnly old new (λ c. IsImage old.medium c ⊎ IsUnmadeOrHolds format n S c)
called old new format n N t ks S held holds leaves =
    let same = one_set t held.0 N (members ks) S held.1 holds in
    leaves_more old new _ _ (λ c. ⊎_elim inl (λ made. inr (⊎_elim inl (λ is. inr (holds_same_set c n (members ks) S same is.0, is.1)) made))) leaves

pub returns-then-n-eq0-clause-any_moment : goal.returns-then-n-eq0-clause-any_moment
returns-then-n-eq0-clause-any_moment g c = λ old_honest honest slots S holds. uncalled (g.N.Disk.device c.args.new.now) _ (g.met.N.Disk.timely c.args.new.now) honest

pub returns-in-Err-clause-any_moment : goal.returns-in-Err-clause-any_moment
returns-in-Err-clause-any_moment g c = λ old_honest honest slots S holds. uncalled (g.N.Disk.device c.args.new.now) _ (g.met.N.Disk.timely c.args.new.now) honest

pub returns-then-n-members-clause-any_moment : goal.returns-then-n-members-clause-any_moment
returns-then-n-members-clause-any_moment g c = λ old_honest honest slots S holds. uncalled (g.N.Disk.device c.args.new.now) _ (g.met.N.Disk.timely c.args.new.now) honest

pub returns-in-Ok-make_with-clause-any_moment : goal.returns-in-Ok-make_with-clause-any_moment
returns-in-Ok-make_with-clause-any_moment g c = λ old_honest honest slots S holds.
    let t = (g.O.Disk.device c.args.old.now).medium.seen in
    called (g.N.Disk.device c.args.new.now) (g.N.Disk.device c.make_with.new.disk) c.args.format c.args.n slots t c.deref.result.now S
    (subst (AreHeldBy t) (sym c.deref.ensures.value) (c.in-Ok.ensures.held old_honest)) holds (c.make_with.ensures.any_moment honest)

pub returns-clause-any_moment : goal.returns-clause-any_moment
returns-clause-any_moment g c = λ old_honest honest slots S holds.
    let t = (g.O.Disk.device c.args.old.now).medium.seen in
    called (g.N.Disk.device c.args.new.now) (g.N.Disk.device c.make_with.new.disk) c.args.format c.args.n slots t c.deref.result.now S
    (subst (AreHeldBy t) (sym c.deref.ensures.value) (c.in-Ok.ensures.held old_honest)) holds (c.make_with.ensures.any_moment honest)
