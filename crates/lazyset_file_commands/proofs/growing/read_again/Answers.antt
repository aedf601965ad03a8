use Rattle.lazyset_file_commands.proofs.growing.read_again.Goals as goal
use Rattle.std.proofs.{Common.{◌≡◌, refl, ap, inr, sym, ◌∙◌, true, false, Bool, ℕ, List}, lemmas.{Bool.Decides.{Decides-eqb}, Slice.Eq.{slice_eq-Decides}}}
use Rattle.std.specs.{Prelude.{not}, Bool.{Decides}, Cmp.Lexicographic.{pointwise}}
use Rattle.lz_vault.proofs.ReadAgain.{one_list}
use Rattle.lazyset_file_commands.proofs.Grown.{at_rest_together, new_unread, old_unread}

pub returns-in-Err-clause-unread : goal.returns-in-Err-clause-unread
returns-in-Err-clause-unread g c = λ ks held held_new.
    old_unread (g.O.Disk.device c.args.old.now) (g.O.Disk.device c.read_members.new.disk) ks held (g.N.Disk.device c.args.new.now) (g.N.Disk.device c.args.new.now)
    c.in-Err.fault c.in-Err.ensures.err

pub returns-in-Err-read_members-clause-unread : goal.returns-in-Err-read_members-clause-unread
returns-in-Err-read_members-clause-unread g c = λ ks held held_new.
    rw c.fault_of_new.ensures
    (new_unread (g.O.Disk.device c.args.old.now) (g.O.Disk.device c.read_members.new.disk) (g.N.Disk.device c.args.new.now) (g.N.Disk.device c.read_members-2.new.disk) ks held_new
    c.in-Err-read_members.fault c.in-Err-read_members.ensures.err)

true_of : (p : Bool) → not p ≡ false → p ≡ true
true_of true is = refl
true_of false is = absurd cc

-- what `!=` says of two lists
differ : (E : ℕ → ℕ → Bool) → ((a b : ℕ) → Decides (E a b) (a ≡ b)) → (xs ys : List ℕ) (r : Bool) → r ≡ not (pointwise E xs ys) → (r ≡ false → xs ≡ ys) × (r ≡ true → xs ≡ ys → ⊥)
differ E decides xs ys r is =
    let d = slice_eq-Decides decides xs ys (pointwise E xs ys) refl in
    (λ no. d.0 (true_of (pointwise E xs ys) (sym is ∙ no)), λ yes same. let p : pointwise E xs ys ≡ true = d.1 same in absurd (let e : true ≡ not (pointwise E xs ys) = sym yes ∙ is in let f : true ≡ false = e ∙ ap not p in cc))

pub returns-then-ne-clause-unread : goal.returns-then-ne-clause-unread
returns-then-ne-clause-unread g c = λ ks held held_new.
    inr (λ old_honest honest.
    let old_list = one_list (g.O.Disk.device c.args.old.now).medium.seen c.in-Ok.keys.items ks (c.in-Ok.ensures.held old_honest) (held old_honest) in
    let new_list = one_list (g.N.Disk.device c.args.new.now).medium.seen c.in-Ok-read_members.keys.items ks (c.in-Ok-read_members.ensures.held honest) (held_new old_honest honest) in
    (differ _ (λ a b. Decides-eqb a b) c.as_slice.result.now c.as_slice-2.result.now c.ne.result c.ne.ensures).1 c.if-ne.true
    (c.as_slice.ensures.value ∙ old_list ∙ sym new_list ∙ sym c.as_slice-2.ensures.value))

pub returns-clause-same : goal.returns-clause-same
returns-clause-same g c =
    at_rest_together (g.O.Disk.device c.args.old.now) (g.O.Disk.device c.read_members.new.disk) (g.N.Disk.device c.args.new.now) (g.N.Disk.device c.read_members-2.new.disk)
    c.in-Ok.keys.items c.in-Ok-read_members.keys.items c.in-Ok.ensures.reads.honest c.in-Ok-read_members.ensures.reads.honest c.in-Ok.ensures.sure c.in-Ok-read_members.ensures.sure
    c.in-Ok.ensures.held c.in-Ok-read_members.ensures.held
    (sym c.as_slice.ensures.value ∙ (differ _ (λ a b. Decides-eqb a b) c.as_slice.result.now c.as_slice-2.result.now c.ne.result c.ne.ensures).0 c.if-ne.false ∙ c.as_slice-2.ensures.value)
