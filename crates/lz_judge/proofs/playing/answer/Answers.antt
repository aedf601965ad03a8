use Rattle.std.specs.BTreeMap as tree
use Rattle.lz_judge.proofs.playing.answer.Goals as goal
use Rattle.std.proofs.{Common.{◌≢◌, ◌⊎◌, inl, inr, refl, ℕ, Bool, nat_cmp, ◌≡◌, sym, ◌∙◌, Some, None}, lemmas.{Bool.{both_ways}, Option.{same_Some}}}
use Rattle.std.specs.Cmp.{booleans_Decides}
use Rattle.lz_slot.specs.Sets.{key_of, reply}
use Rattle.lz_judge.proofs.Readings.NextMark.{lesser_one, lesser_some}

pub returns-then-told-reply-clause-plays : goal.returns-then-told-reply-clause-plays
returns-then-told-reply-clause-plays c = λ S is.
    let (reply, set) = c.in_ok-reply.ensures S is in
    (set, λ none. (none, λ answer told. sym reply ∙ sym ((booleans_Decides c.in-Some.told.now c.in_ok-reply.reply).0 c.if-told-reply.true) ∙ same_Some _ _ (c.in-Some.ensures.value ∙ told)))

pub returns-else-told-reply-clause-plays : goal.returns-else-told-reply-clause-plays
returns-else-told-reply-clause-plays c = λ S is. ((c.in_ok-reply.ensures S is).1, λ none. absurd (lesser_some c.args.wrong c.args.listed.call c.lesser.result c.lesser.ensures.one none))

pub returns-in-None-clause-plays : goal.returns-in-None-clause-plays
returns-in-None-clause-plays c = λ S is. ((c.in_ok-reply.ensures S is).1, λ none. (none, λ answer told. absurd (let e : None ≡ Some answer = c.in-None.ensures.value ∙ told in cc)))

pub returns-else-told-reply-clause-finds : goal.returns-else-told-reply-clause-finds
returns-else-told-reply-clause-finds c = λ S is.
    lesser_one (λ (i : ℕ). (c.args.wrong ≡ Some i) ⊎ ((c.args.listed.call ≡ i) × ((told : Bool) × (tree.get nat_cmp c.args.answers.now c.args.listed.call ≡ Some told) × (reply c.args.listed.command (S (key_of c.args.listed.command)) ≢ told))))
    c.args.wrong c.args.listed.call c.lesser.result c.lesser.ensures.one
    (inr (refl, (c.in-Some.told.now, sym c.in-Some.ensures.value, λ same. both_ways _ c.if-told-reply.false ((booleans_Decides c.in-Some.told.now c.in_ok-reply.reply).1 (sym same ∙ sym (c.in_ok-reply.ensures S is).0)))))
    (λ i at. inl at)
