use Rattle.lazyset_file_commands.proofs.comparing.check_of_on.Goals as goal
use Rattle.std.proofs.Common.{inl, inr, ⊎_elim}
use Rattle.lazyset_file_commands.proofs.SurveyEnds.{failed_not_done, failed_not_told, lacks_survey}

pub returns-in-Ok : goal.returns-in-Ok
returns-in-Ok g c =
    let (t, known, surveyed) = c.in-Ok.ensures in
    let checked = c.check_survey.ensures in
    record {
      told = ⊎_elim (λ told. inl (t, known, told)) (λ lacks. inr (inr lacks)) (checked.told t surveyed);
      done = λ is. (t, known, checked.done t surveyed is);
      apart = λ is. (t, known, checked.apart t surveyed is);
    }

pub returns-in-Err : goal.returns-in-Err
returns-in-Err g c =
    let failed = c.tell_no_survey.ensures.failed in
    record {
      told = inr (lacks_survey c.in-Err.fault _ _ _ c.tell_no_survey.ensures.told);
      done = λ is. absurd (failed_not_done _ failed is);
      apart = λ is. absurd (failed_not_told _ failed is);
    }
