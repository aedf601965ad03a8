use Rattle.lazyset_set_commands.proofs.serving.serve_passes.Goals as goal
use Rattle.std.{proofs.Common.{◌≡◌, ◌≤◌, ◌∙◌, All, ℕ, List, length, map, rules, subst, sym, true, false}, specs.{Prelude.{◌==◌}, List.{Any, list_any}}}
use Rattle.lz_board.specs.{declared.pass.Pass.{Pass}, Seats.{IsOf, part}}
use Rattle.lz_serve.specs.Halts.{IsCalm, SawHalt}
use Rattle.lazyset_set_commands.{specs.Services.{AreUnused}, proofs.Services.{served_passes, unused_calm}}

pub close_with-disk-requires : goal.close_with-disk-requires
close_with-disk-requires g c = record { passes = subst (All (IsOf g.N.Named.board)) (sym c.as_mut_slice.ensures.value) (λ k d low. (c.serve_set-passes.ensures.may_call k d low).0) }

pub returns : goal.returns
returns g c =
    let b = g.N.Named.board in
    let ps = c.as_mut_slice.result.now in
    let same = sym c.as_mut_slice.ensures.value in
    let served = c.serve_set-passes.ensures in
    let status = c.status_of_service.ensures in
    let found = c.has_each-all.ensures in
    let of = subst (All (IsOf b)) same (λ k d low. (served.may_call k d low).0) in
    let count = c.requires.count in
    let given : c.len-given.result ≡ b.sizes.passes = search rules in
    let long : length ps ≡ b.sizes.passes = search rules in
    let looked = c.deref.ensures.value ∙ same in
    served_passes b g.N.Named.first _ ps of _ c.close_with-disk.ensures.left c.serve_set-passes.result.halted c.serve_set-passes.result.unserved c.has_each-all.result long
    (λ is. subst (Any SawHalt) same (served.halted is))
    (λ is. subst (All (λ p. IsCalm (part p))) same (λ k d low. served.calm is k d low (unused_calm (map (λ p. part p) c.args.passes.items) c.requires.unused)))
    (λ is. subst (λ (l : List Pass). AreUnused (map (λ p. part p) l)) (sym (served.unserved is) ∙ same) c.requires.unused)
    c.status_of_service.result
    (λ is k low high. subst (λ (l : List Pass). list_any (λ (p : Pass). p.number == k) l ≡ true) looked (found.each is k low (subst (λ (n : ℕ). k ≤ n) (sym given) high)))
    (λ is. let none = found.not_each is in
    (none.0, none.1, subst (λ (n : ℕ). none.0 ≤ n) given none.2, subst (λ (l : List Pass). list_any (λ (p : Pass). p.number == none.0) l ≡ false) looked none.3))
    status.done status.failed status.other
