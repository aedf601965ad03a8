use Rattle.lazyset_file_commands.proofs.checking.survey_on.Goals as goal
use Rattle.std.proofs.Common.{inl, inr, ⊎_elim}
use Rattle.lazyset_file_commands.proofs.SurveyEnds.{damaged_holds_none, done_holds_set, failed_not_done, failed_not_told, lacks_survey}

pub returns-in-Ok : goal.returns-in-Ok
returns-in-Ok g c =
    let (t, known, surveyed) = c.in-Ok.ensures in
    let ends = c.tell_survey.ensures.status in
    record {
      told = ⊎_elim (λ told. inl (t, known, record { survey = c.in-Ok.survey; of_file = surveyed.told; told = told })) (λ lacks. inr (inr lacks)) c.tell_survey.ensures.told;
      done = λ is. (t, known, done_holds_set t c.in-Ok.survey surveyed _ ends is);
      damaged = λ is. (t, known, damaged_holds_none t c.in-Ok.survey surveyed _ ends is);
    }

pub returns-in-Err : goal.returns-in-Err
returns-in-Err g c =
    let failed = c.tell_no_survey.ensures.failed in
    record {
      told = inr (lacks_survey c.in-Err.fault _ _ _ c.tell_no_survey.ensures.told);
      done = λ is. absurd (failed_not_done _ failed is);
      damaged = λ is. absurd (failed_not_told _ failed is);
    }
