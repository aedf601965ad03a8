use Rattle.lz_judge.proofs.playing.Play.note.Goals as goal
use Rattle.std.proofs.Common.{◌≡◌, ◌∙◌, inl, inr, ⊎_elim, sym, subst, List, ◌∷◌, Option, ℕ, suc, arith, OnOk, BTreeMap, BTreeSet}
use Rattle.lz_slot.specs.{Sets.{Same, members}, declared.history.HistoryEvent.{HistoryEvent, TheVariants.{Call, Opened}}}
use Rattle.lz_judge.specs.{Plays.{Compared, IsKnown, Played, Ran}, Flaws.{opens}, declared.playing.Listed.{Listed}}
use Rattle.lz_judge.proofs.Readings.{CallTurn.{known_rest, played_opened, played_rest}, NextMark.{on_ok}}
use Rattle.lz_judge.proofs.Lives.WrongAnswer.{compared_opened, compared_rest, ran_opened, ran_rest}

pub returns-in-Call-clause-played : goal.returns-in-Call-clause-played
returns-in-Call-clause-played c = λ M known before.
    subst (λ (m : HistoryEvent). OnOk c.list.result (Played c.args.places.now (m ∷ M) c.list.new.self.set c.list.new.self.life c.list.new.self.wrong_reply c.list.new.self.wrong_set)) (sym c.in-Call.is)
    (c.list.ensures.played M c.in-Call.field-1 c.args.answers.now (subst (λ (m : HistoryEvent). IsKnown c.args.places.now c.args.answers.now (m ∷ M)) c.in-Call.is known) before)

pub returns-in_ok-compare-in-Opened-clause-played : goal.returns-in_ok-compare-in-Opened-clause-played
returns-in_ok-compare-in-Opened-clause-played c = λ M known before.
    let known' = subst (λ (m : HistoryEvent). IsKnown c.args.places.now c.args.answers.now (m ∷ M)) c.in-Opened.is known in
    let all = played_opened c.args.places.now c.args.answers.now M (known_rest c.args.places.now c.args.answers.now (Opened c.in-Opened.found) M known')
    c.args.self.now.set c.args.self.now.life c.args.self.now.wrong_reply c.args.self.now.wrong_set before c.in_ok-finish-in-Opened.ensures.ordered c.in-Opened.found
    c.finish.new.self.set c.finish.new.self.life c.finish.new.self.wrong_reply c.compare.new.self.wrong_set
    (c.in_ok-finish-in-Opened.ensures.runs before.now before.is_set) c.in_ok-finish-in-Opened.ensures.life
    (λ S is none. let (was, same) = c.in_ok-compare-in-Opened.ensures.same S is none in (sym c.in_ok-finish-in-Opened.ensures.wrong_set ∙ was, subst (λ (ks : List ℕ). Same S (members ks)) c.keys.ensures same)) in
    subst (λ (m : HistoryEvent). Played c.args.places.now (m ∷ M) c.compare.new.self.set c.compare.new.self.life c.compare.new.self.wrong_reply c.compare.new.self.wrong_set) (sym c.in-Opened.is)
    (subst (λ (s : BTreeSet ℕ). Played c.args.places.now (Opened c.in-Opened.found ∷ M) s c.compare.new.self.life c.compare.new.self.wrong_reply c.compare.new.self.wrong_set) (sym c.in_ok-compare-in-Opened.ensures.set)
    (subst (λ (l : BTreeMap ℕ Listed). Played c.args.places.now (Opened c.in-Opened.found ∷ M) c.finish.new.self.set l c.compare.new.self.wrong_reply c.compare.new.self.wrong_set) (sym c.in_ok-compare-in-Opened.ensures.life)
    (subst (λ (w : Option ℕ). Played c.args.places.now (Opened c.in-Opened.found ∷ M) c.finish.new.self.set c.finish.new.self.life w c.compare.new.self.wrong_set) (sym c.in_ok-compare-in-Opened.ensures.wrong_reply) all)))

pub returns-in_default-clause-played : goal.returns-in_default-clause-played
returns-in_default-clause-played c = λ M known before. played_rest c.args.places.now M _ _ _ _ before c.args.mark.now c.in_default.not-Call c.in_default.not-Opened

pub returns-in-Call-clause-ran : goal.returns-in-Call-clause-ran
returns-in-Call-clause-ran c = λ M known before ran.
    on_ok c.list.result (Ran c.args.places.now c.args.answers.now (c.args.mark.now ∷ M) c.list.new.self.set c.list.new.self.wrong_reply)
    (subst (λ (s : BTreeSet ℕ). Ran c.args.places.now c.args.answers.now (c.args.mark.now ∷ M) s c.list.new.self.wrong_reply) (sym c.list.ensures.set)
    (subst (λ (w : Option ℕ). Ran c.args.places.now c.args.answers.now (c.args.mark.now ∷ M) c.args.self.now.set w) (sym c.list.ensures.wrong_reply)
    (ran_rest c.args.places.now c.args.answers.now M c.args.self.now.set c.args.self.now.wrong_reply c.args.mark.now
    (λ found is. let e : Call c.in-Call.call c.in-Call.field-1 c.in-Call.command ≡ Opened found = sym c.in-Call.is ∙ is in cc) ran)))

pub returns-in_ok-compare-in-Opened-clause-ran : goal.returns-in_ok-compare-in-Opened-clause-ran
returns-in_ok-compare-in-Opened-clause-ran c = λ M known before ran.
    let known' = subst (λ (m : HistoryEvent). IsKnown c.args.places.now c.args.answers.now (m ∷ M)) c.in-Opened.is known in
    subst (λ (m : HistoryEvent). Ran c.args.places.now c.args.answers.now (m ∷ M) c.compare.new.self.set c.compare.new.self.wrong_reply) (sym c.in-Opened.is)
    (subst (λ (s : BTreeSet ℕ). Ran c.args.places.now c.args.answers.now (Opened c.in-Opened.found ∷ M) s c.compare.new.self.wrong_reply) (sym c.in_ok-compare-in-Opened.ensures.set)
    (subst (λ (w : Option ℕ). Ran c.args.places.now c.args.answers.now (Opened c.in-Opened.found ∷ M) c.finish.new.self.set w) (sym c.in_ok-compare-in-Opened.ensures.wrong_reply)
    (ran_opened c.args.places.now c.args.answers.now M (known_rest c.args.places.now c.args.answers.now (Opened c.in-Opened.found) M known') c.args.self.now.set c.args.self.now.life c.args.self.now.wrong_reply ran
    c.in_ok-finish-in-Opened.ensures.ordered before.is_life c.finish.new.self.set c.finish.new.self.wrong_reply (c.in_ok-finish-in-Opened.ensures.finds ran.now ran.is_set) c.in-Opened.found)))

pub returns-in_default-clause-ran : goal.returns-in_default-clause-ran
returns-in_default-clause-ran c = λ M known before ran. ran_rest c.args.places.now c.args.answers.now M c.args.self.now.set c.args.self.now.wrong_reply c.args.mark.now c.in_default.not-Opened ran

pub returns-in-Call-clause-compared : goal.returns-in-Call-clause-compared
returns-in-Call-clause-compared c = λ M known before ran compared few.
    on_ok c.list.result (Compared c.args.places.now (c.args.mark.now ∷ M) c.list.new.self.opens c.list.new.self.wrong_set)
    (subst (λ (n : ℕ). Compared c.args.places.now (c.args.mark.now ∷ M) n c.list.new.self.wrong_set) (sym c.list.ensures.opens)
    (subst (λ (w : Option ℕ). Compared c.args.places.now (c.args.mark.now ∷ M) c.args.self.now.opens w) (sym c.list.ensures.wrong_set)
    (compared_rest c.args.places.now M c.args.self.now.opens c.args.self.now.wrong_set c.args.mark.now
    (λ found is. let e : Call c.in-Call.call c.in-Call.field-1 c.in-Call.command ≡ Opened found = sym c.in-Call.is ∙ is in cc) compared)))

pub returns-in_ok-compare-in-Opened-clause-compared : goal.returns-in_ok-compare-in-Opened-clause-compared
returns-in_ok-compare-in-Opened-clause-compared c = λ M known before ran compared few.
    let known' = subst (λ (m : HistoryEvent). IsKnown c.args.places.now c.args.answers.now (m ∷ M)) c.in-Opened.is known in
    let finds = c.in_ok-finish-in-Opened.ensures.finds ran.now ran.is_set in
    let counts : c.compare.new.self.opens ≡ suc (opens M) = omega (arith, c.in_ok-compare-in-Opened.ensures.opens, c.in_ok-finish-in-Opened.ensures.opens, compared.counts, few) in
    subst (λ (m : HistoryEvent). Compared c.args.places.now (m ∷ M) c.compare.new.self.opens c.compare.new.self.wrong_set) (sym c.in-Opened.is)
    (compared_opened c.args.places.now c.args.answers.now M (known_rest c.args.places.now c.args.answers.now (Opened c.in-Opened.found) M known') c.args.self.now.set c.args.self.now.life c.args.self.now.wrong_reply ran
    c.in_ok-finish-in-Opened.ensures.ordered before.is_life c.finish.new.self.set c.finish.new.self.wrong_reply finds c.in-Opened.found
    c.args.self.now.opens c.compare.new.self.opens c.args.self.now.wrong_set c.compare.new.self.wrong_set compared counts
    (λ n is. ⊎_elim
    (λ was. inl (sym c.in_ok-finish-in-Opened.ensures.wrong_set ∙ was))
    (λ (at, differs). inr (at, subst (λ (ks : List ℕ). ¬ Same finds.now (members ks)) c.keys.ensures differs))
    (c.in_ok-compare-in-Opened.ensures.finds finds.now finds.is_set n is)))

pub returns-in_default-clause-compared : goal.returns-in_default-clause-compared
returns-in_default-clause-compared c = λ M known before ran compared few. compared_rest c.args.places.now M c.args.self.now.opens c.args.self.now.wrong_set c.args.mark.now c.in_default.not-Opened compared
