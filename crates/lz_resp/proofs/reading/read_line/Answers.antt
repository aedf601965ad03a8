use Rattle.lz_resp.proofs.reading.read_line.Goals as goal
use Rattle.std.proofs.{Common.{Some, None, Ok, Err}, lemmas.Result.{err_from_is_err_and}}
use Rattle.lz_resp.proofs.Fronts.{line_found, line_none}

pub returns-in_default-clause-gives : goal.returns-in_default-clause-gives
returns-in_default-clause-gives c = line_none c.args.fault c.args.text.now c.in_default.ensures

pub returns-in-Some-2-clause-gives : goal.returns-in-Some-2-clause-gives
returns-in-Some-2-clause-gives c =
    line_found c.args.fault c.args.text.now c.split_at.result.0.now c.split_at.result.1.now c.in-Some.end (Ok (Some (tt, c.in-Some-2.rest.now))) c.in-Some.ensures c.split_at.ensures.front c.split_at.ensures.back
    (rw c.in-Some-2.is at c.in_ok-rest.ensures.gives)

pub returns-in-None-clause-gives : goal.returns-in-None-clause-gives
returns-in-None-clause-gives c =
    line_found c.args.fault c.args.text.now c.split_at.result.0.now c.split_at.result.1.now c.in-Some.end (Ok None) c.in-Some.ensures c.split_at.ensures.front c.split_at.ensures.back
    (rw c.in-None.is at c.in_ok-rest.ensures.gives)

pub returns-in_err-rest-clause-gives : goal.returns-in_err-rest-clause-gives
returns-in_err-rest-clause-gives c =
    let p = err_from_is_err_and c.from_residual.result c.from_residual.ensures.1 in
    rw (p.1, p.2)
    (line_found c.args.fault c.args.text.now c.split_at.result.0.now c.split_at.result.1.now c.in-Some.end (Err c.in_err-rest.field-0.0) c.in-Some.ensures c.split_at.ensures.front c.split_at.ensures.back
    c.in_err-rest.ensures.gives)
