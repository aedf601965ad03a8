use Rattle.lazyset_file_commands.proofs.judging.judge_on.Goals as goal
use Rattle.std.proofs.Common.{◌≡◌, inl, inr, ⊎_elim, sym, ◌∙◌}
use Rattle.lazyset_file_commands.{specs.declared.status.Status.TheVariants.{Done, Failed, Refused, Damaged}, proofs.SentTexts.{only_failed, told_ends}}

pub returns-in-Ok-Ok : goal.returns-in-Ok-Ok
returns-in-Ok-Ok g c =
    let read = rw c.in-Ok-Ok.field-0-is at c.in-Ok-Ok.ensures.ok in
    let judged = c.judge_history.ensures in
    record {
      told = ⊎_elim (λ good. inl (inl (read.0, _, read.1, good))) (λ more. ⊎_elim (λ wrong. inl (inr (inl (read.0, _, read.1, wrong)))) (λ lacks. inr lacks) more) judged.told;
      good = λ is. (read.0, _, read.1, judged.good is);
      line = λ is. absurd (⊎_elim (λ done. let never : Done ≡ Refused = sym done ∙ is in cc)
          (λ more. ⊎_elim (λ damaged. let never : Damaged ≡ Refused = sym damaged ∙ is in cc) (λ failed. let never : Failed ≡ Refused = sym failed ∙ is in cc) more) judged.other);
      flaw = λ is. (read.0, _, read.1, judged.flaw is);
      other = ⊎_elim inl (λ more. ⊎_elim (λ damaged. inr (inr (inl damaged))) (λ failed. inr (inr (inr failed))) more) judged.other;
    }

pub returns-in-Ok-Err : goal.returns-in-Ok-Err
returns-in-Ok-Err g c =
    let unread = rw c.in-Ok-Err.field-0-is at c.in-Ok-Err.ensures.err in
    let ends = told_ends _ _ _ _ _ c.refuse_line.ensures in
    record {
      told = inl (inr (inr (_, unread, c.refuse_line.ensures)));
      good = λ is. absurd (⊎_elim (λ refused. let never : Refused ≡ Done = sym refused ∙ is in cc) (λ failed. let never : Failed ≡ Done = sym failed ∙ is in cc) ends);
      line = λ is. (_, unread, c.refuse_line.ensures);
      flaw = λ is. absurd (⊎_elim (λ refused. let never : Refused ≡ Damaged = sym refused ∙ is in cc) (λ failed. let never : Failed ≡ Damaged = sym failed ∙ is in cc) ends);
      other = ⊎_elim (λ refused. inr (inl refused)) (λ failed. inr (inr (inr failed))) ends;
    }

pub returns-in-Err : goal.returns-in-Err
returns-in-Err g c =
    let failed = only_failed _ c.tell.ensures.told in
    record {
      told = inr c.tell.ensures.tells;
      good = λ is. absurd (let never : Failed ≡ Done = sym failed ∙ is in cc);
      line = λ is. absurd (let never : Failed ≡ Refused = sym failed ∙ is in cc);
      flaw = λ is. absurd (let never : Failed ≡ Damaged = sym failed ∙ is in cc);
      other = inr (inr (inr failed));
    }
