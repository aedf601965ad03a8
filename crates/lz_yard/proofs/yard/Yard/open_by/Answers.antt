use Rattle.lz_yard.proofs.yard.Yard.open_by.Goals as goal
use Rattle.std.proofs.Common.{refl, ap, subst, IsTrue}
use Rattle.lz_disk.specs.Images.{Medium, AreBytes}
use Rattle.lz_yard.proofs.Opening.{FilledTables.{opened_fits}, FirstYard.{first_yard}}

pub invariant_of-result : goal.invariant_of-result
invariant_of-result g c = opened_fits _ _ _ _ _ _ _ c.in-Ok.ensures c.slots.ensures.count c.in_ok-vault.ensures.ok.fresh.0 c.requires.passes.1

pub returns-in-Ok-clause-ok : goal.returns-in-Ok-clause-ok
returns-in-Ok-clause-ok g c =
    let opens = c.in_ok-vault.ensures.ok in
    let count = c.slots.ensures.count in
    let bytes = λ (honest : IsTrue (g.D.Disk.device c.args.disk).honest).
    ap (λ (m : Medium). m.seen) (opens.medium honest) in
    record {
      vault = opens;
      buckets = refl;
      passes = refl;
      first = first_yard _ _ _ _ _ _ c.in-Ok.ensures opens.fresh opens.blank c.requires.buckets c.requires.passes (rw count at c.slots.ensures.range) _ count (g.D.Disk.device c.args.disk)
          c.slots.ensures.kept.keys opens.steady opens.torn opens.found opens.format c.requires.disk (λ honest. subst AreBytes (bytes honest) (opens.kept honest).sound.seen.bytes);
    }
