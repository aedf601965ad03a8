use Rattle.lazyset_file_commands.proofs.comparing.compare_on.Goals as goal
use Rattle.std.proofs.Common.{inl, inr, ⊎_elim}
use Rattle.lazyset_file_commands.proofs.SurveyEnds.{failed_not_done, failed_not_told, lacks_survey}

pub returns-in-Ok : goal.returns-in-Ok
returns-in-Ok g c =
    let (old, known, surveyed) = c.in-Ok.ensures in
    let compared = c.compare_surveys.ensures in
    record {
      told = λ t new. ⊎_elim (λ told. inl (old, known, told)) (λ lacks. inr (inr lacks)) (compared.told old t surveyed new);
      done = λ t new is. (old, known, compared.done old t surveyed new is);
      apart = λ t new is. (old, known, compared.apart old t surveyed new is);
    }

pub returns-in-Err : goal.returns-in-Err
returns-in-Err g c =
    let failed = c.tell_no_survey.ensures.failed in
    record {
      told = λ t new. inr (lacks_survey c.in-Err.fault _ _ _ c.tell_no_survey.ensures.told);
      done = λ t new is. absurd (failed_not_done _ failed is);
      apart = λ t new is. absurd (failed_not_told _ failed is);
    }
