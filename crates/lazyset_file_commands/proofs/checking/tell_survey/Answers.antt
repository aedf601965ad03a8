use Rattle.lazyset_file_commands.proofs.checking.tell_survey.Goals as goal
use Rattle.std.{proofs.Common.{inl, inr}, specs.String.{string_bytes}}
use Rattle.lazyset_file_commands.proofs.Pages.{found_told}

pub returns-in-Ok-clause-told : goal.returns-in-Ok-clause-told
returns-in-Ok-clause-told g c =
    let kept = g.W.Write.contents in
    inl (found_told c.args.shown c.in-Found.header c.in-Found.findings c.args.survey.now c.in-Found.is (string_bytes c.in-Ok.page) c.as_slice.result.now c.as_slice-in-Ok.result.now c.is_good-good.result
    c.send_found-sent.result c.status_of.result c.status_sent-in-Ok.result (kept c.args.writer.now) (kept c.send_found-sent.new.writer)
    c.in-Ok.ensures c.as_slice.ensures.value c.as_slice-in-Ok.ensures.value c.is_good-good.ensures c.send_found-sent.ensures c.status_of.ensures c.status_sent-in-Ok.ensures)

pub returns-in-Err-clause-told : goal.returns-in-Err-clause-told
returns-in-Err-clause-told g c = inr c.tell.ensures.tells
