use Rattle.lazyset_set_commands.proofs.marks.mark.Goals as goal
use Rattle.std.proofs.Common.{rules, ◌≡◌, Some, [], IsTrue, inl, inr, ⊎_elim, codes, refl, sym, ◌∙◌, subst}
use Rattle.lz_disk.{specs.Images.{IsImage}, proofs.Moments.{quiet}}
use Rattle.lazyset_file_commands.specs.{Refusals.{refusal_text}, declared.status.Status.TheVariants.{Done, Failed}}
use Rattle.lz_vault.specs.declared.opening.OpenFault.TheVariants.{Memory}
use Rattle.lazyset_set_commands.{specs.Marks.{mark_line}, proofs.{MarkLines.{mark_added, refused_undone, synced_may_open}, Reopened.{left_may_open, left_seen}}}

pub returns-in_default-clause-err : goal.returns-in_default-clause-err
returns-in_default-clause-err g c = record {
  ran = Failed;
  rest = Some [];
  text = refusal_text Memory;
  ends = Failed;
  told = c.refuse.ensures.told;
  honest = refl;
  session = λ N S honest held. inr (record {
    fault = Memory;
    cause = inr refl;
    told = inl (refl, refl);
    unwritten = inl refl;
    any_moment = quiet _ _ (g.met.D.Disk.timely c.args.disk honest) (λ t image. image);
  });
}

pub returns-then-is_yes-clause-left : goal.returns-then-is_yes-clause-left
returns-then-is_yes-clause-left g c = record {
  honest = c.run_on-status.ensures.honest;
  faults = c.run_on-status.ensures.faults;
  holds = λ N S honest held.
      let done : c.run_on-status.result.0 ≡ Done = search rules in
      let is_told : c.run_on-status.new.writer.items ≡ codes "yes\n" = search rules in
      let plain = rw c.new-told.ensures.items at (c.run_on-status.ensures.plain N S honest held.0 done) in
      let is_line : c.as_bytes-line.result.now ≡ mark_line c.args.mark = c.as_bytes-line.ensures.value ∙ c.in-Ok.ensures.text in
      let each = mark_added c.args.mark c.in-Ok.ensures.range _ N S (g.D.Disk.device c.run_on-status.result.1).medium _ c.run_on-status.new.writer.items is_line is_told plain in
      let still : IsTrue (g.D.Disk.device c.run_on-status.result.1).honest = subst IsTrue (sym c.run_on-status.ensures.honest) honest in
      let seen : IsImage (g.D.Disk.device c.run_on-status.result.1).medium (g.D.Disk.device c.run_on-status.result.1).medium.seen = ⊎_elim
      (λ ran. left_seen ran.opened.board (g.D.Disk.device ran.opened.disk) ran.served.notes (g.D.Disk.device c.run_on-status.result.1) ran.served.left still)
      (λ refused. absurd (refused_undone g.D.Disk.device c.run_on-status.result.0 _ _ _ _ c.args.disk c.run_on-status.result.1 done refused))
      c.run_on-status.ensures.ran in
      (each _ seen, each);
}

pub returns-then-is_yes-clause-may : goal.returns-then-is_yes-clause-may
returns-then-is_yes-clause-may g c = ⊎_elim
    (λ ran. left_may_open ran.opened.board (g.D.Disk.device ran.opened.disk) ran.served.notes (g.D.Disk.device c.run_on-status.result.1) ran.served.left)
    (λ refused. synced_may_open (g.D.Disk.device c.args.disk) (g.D.Disk.device c.run_on-status.result.1) c.requires refused.refused.honest refused.refused.medium)
    c.run_on-status.ensures.ran

pub returns-clause-err : goal.returns-clause-err
returns-clause-err g c = record {
  ran = c.run_on-status.result.0;
  rest = _;
  text = c.run_on-status.new.writer.items;
  ends = _;
  told = rw c.deref-2.ensures.value at c.tell.ensures.tells;
  honest = c.run_on-status.ensures.honest;
  session = rw (c.new-told.ensures.items, c.as_bytes-line.ensures.value ∙ c.in-Ok.ensures.text) at c.run_on-status.ensures.set;
}
