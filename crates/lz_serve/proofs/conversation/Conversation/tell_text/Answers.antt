use Rattle.lz_serve.proofs.conversation.Conversation.tell_text.Goals as goal
use Rattle.lz_serve.proofs.TextsTold.{texts_rest}

pub returns-in-Some-Says-clause-rests : goal.returns-in-Some-Says-clause-rests
returns-in-Some-Says-clause-rests c = texts_rest c.tell.result c.args.self.now c.tell.ensures.rests
