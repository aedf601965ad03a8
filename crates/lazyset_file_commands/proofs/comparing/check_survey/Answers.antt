use Rattle.lazyset_file_commands.proofs.comparing.check_survey.Goals as goal
use Rattle.std.proofs.Common.{inl, inr, ⊎_elim}
use Rattle.lz_judge.specs.Renewals.{HoldOneSet}
use Rattle.lazyset_file_commands.specs.{Checks.{shown_text, survey_status}, Tellings.{Tells}, declared.{shown.Shown.TheVariants.{Findings}, status.Status.{Status}}}
use Rattle.lazyset_file_commands.proofs.SurveyEnds.{damaged_holds_none, of_any, told_done}

pub returns-in-Done : goal.returns-in-Done
returns-in-Done g c =
    let kept = g.W.Write.contents in
    let told = told_done (λ (s : Status). Tells (kept c.args.writer.now) (kept c.tell_survey.new.writer) (shown_text Findings c.args.new.now) (survey_status c.args.new.now) s) c.tell_survey.result
    (kept c.args.writer.now) (kept c.tell_survey.new.writer) c.in-Done.is c.tell_survey.ensures.told in
    record {
      told = λ t new. inl (inr (kept c.tell_survey.new.writer, record { survey = c.args.new.now; of_file = new.told; told = told }, c.compare_on.ensures.told t new));
      done = c.compare_on.ensures.done;
      apart = c.compare_on.ensures.apart;
    }

pub returns-in_default : goal.returns-in_default
returns-in_default g c = record {
  told = λ t new. ⊎_elim (λ told. inl (inl (c.in_default.not-Done, record { survey = c.args.new.now; of_file = new.told; told = told }))) inr c.tell_survey.ensures.told;
  done = λ t new is. absurd (c.in_default.not-Done is);
  apart = λ t new is.
      let none = damaged_holds_none t c.args.new.now new _ c.tell_survey.ensures.status is in
      of_any (λ old. ¬ HoldOneSet old t) (g.R.Read.remaining c.args.older.now) (λ old. λ (S, one, (N, other)). none (N, S, other));
}
