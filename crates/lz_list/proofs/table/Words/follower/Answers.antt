use Rattle.lz_list.proofs.table.Words.follower.Goals as goal

pub returns-in_err-slot-clause-none : goal.returns-in_err-slot-clause-none
returns-in_err-slot-clause-none c = rw c.from_residual.ensures (λ slot follows. c.in_err-slot.ensures.none slot follows.next follows.slot)
