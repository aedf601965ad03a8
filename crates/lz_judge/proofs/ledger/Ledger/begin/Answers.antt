use Rattle.lz_judge.proofs.ledger.Ledger.begin.Goals as goal
use Rattle.std.proofs.{Common.{◌∙◌, sym}, lemmas.Bool.{not-true}}
use Rattle.lz_judge.proofs.Readings.{NextMark.{none_there, some_there}, LedgerMark.{ledger_begun, may_begin}}

pub returns-then-contains_key-clause-refuses : goal.returns-then-contains_key-clause-refuses
returns-then-contains_key-clause-refuses c = λ M d before no may.
    let (j, there) = some_there _ (sym c.contains_key.ensures ∙ c.if-contains_key.true) in
    may.2 j ((before.call c.args.actor j).0 there)

pub returns-clause-follows : goal.returns-clause-follows
returns-clause-follows c = λ M d before yes.
    let fresh = not-true _ (sym c.in_ok-insert.ensures.added ∙ c.if-not-branch.false) in
    let idle = none_there _ (sym c.contains_key.ensures ∙ c.if-contains_key.false) in (
      may_begin M c.args.self.now.calls c.args.self.now.actors c.args.self.now.busy c.args.self.now.is_living before c.args.call c.args.actor d c.insert.new.self c.insert-2.new.self c.insert-3.new.self
          c.if-not-self.false fresh idle c.in_ok-insert.ensures.updates c.in_ok-insert-2.ensures.updates c.in_ok-insert-3.ensures.updates,
      ledger_begun M c.args.self.now.calls c.args.self.now.actors c.args.self.now.busy c.args.self.now.is_living before c.args.call c.args.actor d c.insert.new.self c.insert-2.new.self c.insert-3.new.self
          c.if-not-self.false fresh idle c.in_ok-insert.ensures.updates c.in_ok-insert-2.ensures.updates c.in_ok-insert-3.ensures.updates,
    )
