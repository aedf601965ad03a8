use Rattle.lz_serve.proofs.conversation.Conversation.tell.Goals as goal
use Rattle.std.proofs.Common.{rules}

pub returns-in_ok-extend_from_slice-in-Says-clause-told : goal.returns-in_ok-extend_from_slice-in-Says-clause-told
returns-in_ok-extend_from_slice-in-Says-clause-told c so =
    (c.in-Done-Some.turn.now, search (rules, c.self.view_is), search (rules, c.self.view_is), rw c.in-Says.is (search (rules, c.self.view_is)))

pub returns-in_ok-extend_from_slice-in-Ends-clause-told : goal.returns-in_ok-extend_from_slice-in-Ends-clause-told
returns-in_ok-extend_from_slice-in-Ends-clause-told c so =
    (c.in-Done-Some.turn.now, search (rules, c.self.view_is), search (rules, c.self.view_is), rw c.in-Ends.is (search (rules, c.self.view_is)))
