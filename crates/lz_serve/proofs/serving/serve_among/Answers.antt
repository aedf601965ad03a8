use Rattle.lz_serve.proofs.serving.serve_among.Goals as goal
use Rattle.std.proofs.Common.{rules}

pub returns-clause-served : goal.returns-clause-served
returns-clause-served g c = record {
  may_call = c.hand_back.ensures.may_call;
  count = search rules;
  unserved = search rules;
  halted = c.hand_back.ensures.halted;
  calm = c.hand_back.ensures.calm;
}
