use Rattle.lz_serve.proofs.free_pass.FreePass.answer.Goals as goal
use Rattle.std.proofs.Common.{◌≡◌, ap, sym, ◌∙◌}
use Rattle.lz_serve.{specs.{Grants.{Posed}, Replies.{says_halted}}, proofs.FreePasses.{grows_there, still_calm, still_saw}}

pub invariant_of-self-else-says_halted : goal.invariant_of-self-else-says_halted
invariant_of-self-else-says_halted g c =
    let b = g.N.Named.board in
    let F = g.N.Named.format in
    let given = c.args.self.now.pass in
    let back = c.grant-granted.new.pass in
    let granted = c.grant-granted.result in
    let done = c.grant-granted.ensures.granted in
    let from : granted.question.before ≡ given = ap (λ (q : Posed). q.before) done.0 ∙ c.requires in
    let is = c.reply-reply.ensures.granted in
    let quiet = ap says_halted (sym c.reply-reply.ensures.reply) ∙ sym c.says_halted.ensures ∙ c.if-says_halted.false in
    record {
      may_call = c.grant-granted.ensures.may_call;
      seen = λ told. still_saw b F given back granted is from done.1 (c.args.self.now.seen told);
      calm = λ told. still_calm b F given back granted is from done.1 g.B.Given.parts c.grant-granted.ensures.may_call (c.args.self.now.calm told) quiet;
    }

pub returns-then-says_halted-clause-grows : goal.returns-then-says_halted-clause-grows
returns-then-says_halted-clause-grows g c =
    let granted = c.grant-granted.result in
    let done = c.grant-granted.ensures.granted in
    let from : granted.question.before ≡ c.args.self.now.pass = ap (λ (q : Posed). q.before) done.0 ∙ c.requires in
    grows_there g.N.Named.board g.N.Named.format c.args.self.now.pass c.grant-granted.new.pass granted c.reply-reply.ensures.granted from done.1

pub returns-else-says_halted-clause-grows : goal.returns-else-says_halted-clause-grows
returns-else-says_halted-clause-grows g c =
    let granted = c.grant-granted.result in
    let done = c.grant-granted.ensures.granted in
    let from : granted.question.before ≡ c.args.self.now.pass = ap (λ (q : Posed). q.before) done.0 ∙ c.requires in
    grows_there g.N.Named.board g.N.Named.format c.args.self.now.pass c.grant-granted.new.pass granted c.reply-reply.ensures.granted from done.1
