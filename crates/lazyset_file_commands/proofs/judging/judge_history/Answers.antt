use Rattle.lazyset_file_commands.proofs.judging.judge_history.Goals as goal
use Rattle.std.proofs.Common.{◌≡◌, inl, inr, ⊎_elim, sym, ◌∙◌}
use Rattle.lazyset_file_commands.specs.{Judgements.{FoundGood, FoundWrong}, declared.status.Status.TheVariants.{Done, Failed, Damaged}}
use Rattle.lazyset_file_commands.proofs.SentTexts.{only_failed, told_ends}

pub returns-in-Ok-Ok : goal.returns-in-Ok-Ok
returns-in-Ok-Ok g c =
    let kept = g.W.Write.contents in
    let judged = c.in-Ok-Ok.ensures in
    let is_ok = c.in-Ok-Ok.field-0-is in
    let good : FoundGood c.args.history.now c.tell.result (kept c.args.writer.now) (kept c.tell.new.writer) = record { ordered = rw is_ok at judged.ordered; flawless = rw is_ok at judged.flawless; chain = rw is_ok at judged.chain; told = c.tell.ensures.tells } in
    let ends = told_ends _ _ _ _ _ c.tell.ensures.tells in
    record {
      told = inl good;
      good = λ is. good;
      flaw = λ is. absurd (⊎_elim (λ done. let never : Done ≡ Damaged = sym done ∙ is in cc) (λ failed. let never : Failed ≡ Damaged = sym failed ∙ is in cc) ends);
      other = ⊎_elim inl (λ failed. inr (inr failed)) ends;
    }

pub returns-in-Ok-Err : goal.returns-in-Ok-Err
returns-in-Ok-Err g c =
    let kept = g.W.Write.contents in
    let is_err = c.in-Ok-Err.field-0-is in
    let wrong : FoundWrong c.args.history.now c.tell_flaw.result (kept c.args.writer.now) (kept c.tell_flaw.new.writer) = record { flaw = c.in-Ok-Err.flaw; wrong = rw is_err at c.in-Ok-Err.ensures.flaw; first = rw is_err at c.in-Ok-Err.ensures.first; told = c.tell_flaw.ensures } in
    let ends = told_ends _ _ _ _ _ c.tell_flaw.ensures in
    record {
      told = inr (inl wrong);
      good = λ is. absurd (⊎_elim (λ damaged. let never : Damaged ≡ Done = sym damaged ∙ is in cc) (λ failed. let never : Failed ≡ Done = sym failed ∙ is in cc) ends);
      flaw = λ is. wrong;
      other = ⊎_elim (λ damaged. inr (inl damaged)) (λ failed. inr (inr failed)) ends;
    }

pub returns-in-Err : goal.returns-in-Err
returns-in-Err g c =
    let failed = only_failed _ c.tell-in-Err.ensures.told in
    record {
      told = inr (inr c.tell-in-Err.ensures.tells);
      good = λ is. absurd (let never : Failed ≡ Done = sym failed ∙ is in cc);
      flaw = λ is. absurd (let never : Failed ≡ Damaged = sym failed ∙ is in cc);
      other = inr (inr failed);
    }
