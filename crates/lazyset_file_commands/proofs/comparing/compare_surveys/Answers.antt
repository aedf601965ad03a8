use Rattle.lazyset_file_commands.proofs.comparing.compare_surveys.Goals as goal
use Rattle.std.proofs.Common.{inl, inr}
use Rattle.lazyset_file_commands.proofs.{SentTexts.{only_failed}, SurveyEnds.{failed_not_done, failed_not_told}, Verdicts.{apart_holds, done_holds, verdict_true}}

pub returns-in-Ok : goal.returns-in-Ok
returns-in-Ok g c =
    let ends = c.tell_verdict.ensures.status in
    record {
      told = λ t u old new.
          inl (record { verdict = c.in-Ok.verdict; of_files = verdict_true t u c.in-Ok.verdict (c.in-Ok.ensures.same t u old new) (c.in-Ok.ensures.flaw t u old new); told = c.tell_verdict.ensures.told });
      done = λ t u old new. done_holds t u c.in-Ok.verdict _ (c.in-Ok.ensures.same t u old new) ends;
      apart = λ t u old new. apart_holds t u c.in-Ok.verdict _ (c.in-Ok.ensures.same t u old new) ends;
    }

pub returns-in-Err : goal.returns-in-Err
returns-in-Err g c =
    let failed = only_failed _ c.tell.ensures.told in
    record {
      told = λ t u old new. inr c.tell.ensures.tells;
      done = λ t u old new is. absurd (failed_not_done _ failed is);
      apart = λ t u old new is. absurd (failed_not_told _ failed is);
    }
