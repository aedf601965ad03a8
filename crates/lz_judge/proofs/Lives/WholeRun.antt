-- The calls of all lives, one list after another: where the lives are a chain, it is one run from the empty set.
use Rattle.std.proofs.lemmas.Bool.Decides.{nat_tests}
use Rattle.std.proofs.Common.{◌≡◌, ◌⊎◌, inl, inr, ⊎_elim, ℕ, ◌<◌, Bool, List, [], ◌∷◌, ◌++◌, sym, refl, ◌∙◌, ap, subst, arith}
use Rattle.lz_slot.specs.{Sets.{Keys, Same, after, key_of, members, reply}, declared.{command.Command.{Command}, history.HistoryEvent.{HistoryEvent}}}
use Rattle.lz_slot.specs.declared.history.HistoryEvent.TheVariants.{Call, Answer, Refused, Cut, Opened}
use Rattle.lz_slot.{specs.Histories.{HasMark, IsAnswered, IsCalled, IsListed, Runs, lives}, proofs.Sets.{after_same}}
use Rattle.lz_judge.specs.{Records.{IsLawful, IsMade, MayFollow}, Flaws.{IsInOrder, IsLifeBefore, Leads, OrderedChain}}
use Rattle.lz_judge.{specs.Plays.{lives_before, past_of, this_life, this_start}, proofs.Lives.CurrentLife.{answered_life, life_mark, lives_parts, now}}
use Rattle.lz_judge.proofs.{Lives.PastLife.{join_order, past_before, past_mark}, Readings.ReadingTable.{told_made}}

-- a call has one command
one_command : (M : List HistoryEvent) (i : ℕ) (c d : Command) → IsLawful M → IsCalled M i c → IsCalled M i d → c ≡ d
one_command [] i c d lawful (a, has) (b, has') = absurd has
one_command (m ∷ M) i c d lawful (a, inl here) (b, inl here') = let same : Call i a c ≡ Call i b d = sym here ∙ here' in cc
one_command (m ∷ M) i c d lawful (a, inl here) (b, inr there') = let may : MayFollow (Call i a c) M = subst (λ (x : HistoryEvent). MayFollow x M) here lawful.0 in absurd (may.1 (d, (b, there')))
one_command (m ∷ M) i c d lawful (a, inr there) (b, inl here') = let may : MayFollow (Call i b d) M = subst (λ (x : HistoryEvent). MayFollow x M) here' lawful.0 in absurd (may.1 (c, (a, there)))
one_command (m ∷ M) i c d lawful (a, inr there) (b, inr there') = one_command M i c d lawful.1 (a, there) (b, there')

module _ (M : List HistoryEvent) (lawful : IsLawful M) where
  -- a run leads to the set to which its calls lead
  pub run_leads : (L : List ℕ) (S T S' U : Keys) → Same S S' → Runs M S L T → Leads M S' L U → Same T U
  run_leads [] S T S' U same runs leads = λ k. sym (runs k) ∙ same k ∙ leads k
  run_leads (i ∷ L) S T S' U same (c, called, right, rest) (d, called', rest') =
      let one : c ≡ d = one_command M i c d lawful called called' in
      run_leads L (after c S) T (after d S') U (λ k. after_same c S S' same k ∙ ap (λ (x : Command). after x S' k) one) rest rest'

  -- and each answered call of it gets its answer from the set to which the calls before it lead
  pub run_replies : (L R : List ℕ) (i : ℕ) (S T S' U : Keys) (c : Command) (b : Bool) → Same S S' → Runs M S (L ++ i ∷ R) T → Leads M S' L U → IsCalled M i c → IsAnswered M i b → reply c (U (key_of c)) ≡ b
  run_replies [] R i S T S' U c b same (d, called', right, rest) leads called told =
      let one : d ≡ c = one_command M i d c lawful called' called in
      subst (λ (x : Command). reply x (U (key_of x)) ≡ b) one (ap (reply d) (sym (leads (key_of d)) ∙ sym (same (key_of d))) ∙ right b told)
  run_replies (j ∷ L) R i S T S' U c b same (d, called, right, rest) (e, called', rest') at told =
      let one : d ≡ e = one_command M j d e lawful called called' in
      run_replies L R i (after d S) T (after e S') U c b (λ k. after_same d S S' same k ∙ ap (λ (x : Command). after x S' k) one) rest rest' at told

-- runs one after another
runs_then : (M : List HistoryEvent) (L R : List ℕ) (S T U : Keys) → Runs M S L T → Runs M T R U → Runs M S (L ++ R) U
runs_then M [] R S T U first second = grind (arith, nat_tests, after_same)
runs_then M (i ∷ L) R S T U (c, called, right, rest) second = (c, called, right, runs_then M L R (after c S) T U rest second)

lawful_past : (M : List HistoryEvent) → IsLawful M → IsLawful (past_of M)
lawful_past [] lawful = lawful
lawful_past (Opened keys ∷ M) lawful = lawful.1
lawful_past (_ ∷ M) lawful = lawful_past M lawful.1

-- an answer was given in the past or in the life that goes on
answer_later : (m : HistoryEvent) (M : List HistoryEvent) (i : ℕ) (b : Bool) → IsAnswered (past_of M) i b ⊎ IsAnswered (this_life M) i b → IsAnswered (past_of M) i b ⊎ IsAnswered (m ∷ this_life M) i b
answer_later m M i b (inl past) = inl past
answer_later m M i b (inr here) = inr (inr here)

answer_split : (M : List HistoryEvent) (i : ℕ) (b : Bool) → IsAnswered M i b → IsAnswered (past_of M) i b ⊎ IsAnswered (this_life M) i b
answer_split [] i b has = absurd has
answer_split (Opened keys ∷ M) i b has = inl (⊎_elim (λ here. absurd (cc)) (λ there. there) has)
answer_split (Call j a c ∷ M) i b has = answer_later (Call j a c) M i b (answer_split M i b (⊎_elim (λ here. absurd (cc)) (λ there. there) has))
answer_split (Refused j why ∷ M) i b has = answer_later (Refused j why) M i b (answer_split M i b (⊎_elim (λ here. absurd (cc)) (λ there. there) has))
answer_split (Cut j why ∷ M) i b has = answer_later (Cut j why) M i b (answer_split M i b (⊎_elim (λ here. absurd (cc)) (λ there. there) has))
answer_split (Answer j d ∷ M) i b has = ⊎_elim (λ here. inr (inl here)) (λ there. answer_later (Answer j d) M i b (answer_split M i b there)) has
answer_split (_ ∷ M) i b has = answer_split M i b (⊎_elim (λ here. absurd (cc)) (λ there. there) has)

-- the calls with a place, in order, are a run from the empty set to T
pub record RunIs (at : ℕ → ℕ → Type 0) (M : List HistoryEvent) (T : Keys) : Type 0 where
  pub list : List ℕ
  pub in_order : IsInOrder at M list
  pub runs : Runs M (members []) list T

module _ (at : ℕ → ℕ → Type 0) where
  -- the calls of later lives lie above those of earlier ones
  abbrev pub AreApart : List HistoryEvent → Type 0
  AreApart M = (i j p q : ℕ) → at i p → at j q → IsLifeBefore M i j → p < q

  module _ (M : List HistoryEvent) (lawful : IsLawful M) (apart : AreApart M) where
    past_below : (i j p q : ℕ) → IsMade (past_of M) i → IsMade (this_life M) j → at i p → at j q → p < q
    past_below i j p q past here is is' = apart i j p q is is' (past_before M i j past here)

    -- an answer is given in the life of its call
    answer_past : (i p : ℕ) (b : Bool) → IsMade (past_of M) i → at i p → IsAnswered M i b → IsAnswered (past_of M) i b
    answer_past i p b made is told = grind (arith, past_below, answered_life, answer_split)

    answer_now : (i p : ℕ) (b : Bool) → IsMade (this_life M) i → at i p → IsAnswered M i b → IsAnswered (this_life M) i b
    answer_now i p b made is told = grind (arith, past_below, told_made, lawful_past, answer_split)

    -- a run of the past, or of the life that goes on, is one of all
    part_runs : (H : List HistoryEvent) → ((m : HistoryEvent) → HasMark m H → HasMark m M) → ((i p : ℕ) (b : Bool) → IsMade H i → at i p → IsAnswered M i b → IsAnswered H i b)
        → (L : List ℕ) (S T : Keys) → ((i : ℕ) → IsListed i L → IsMade H i × ((p : ℕ) × at i p)) → Runs H S L T → Runs M S L T
    part_runs H marks answers [] S T made runs = runs
    part_runs H marks answers (i ∷ L) S T made (c, (actor, has), right, rest) =
        let (here, (p, is)) = made i (inl refl) in
        (c, (actor, marks (Call i actor c) has), λ b told. right b (answers i p b here is told), part_runs H marks answers L (after c S) T (λ j there. made j (inr there)) rest)

    -- the past, and the life that goes on
    run_of : (T : Keys) → OrderedChain at (lives (members []) M) T → RunIs at (past_of M) (this_start M) → RunIs at M T
    run_of T chain past =
        let parts : OrderedChain at (now M ∷ lives_before M) T = subst (λ ls. OrderedChain at ls T) (lives_parts M) chain in
        let (R, life, fits, rest) = parts in record {
          list = past.list ++ R;
          in_order = join_order at M past_below past.list R past.in_order life;
          runs = runs_then M past.list R (members []) (this_start M) T
              (part_runs (past_of M) (past_mark M) answer_past past.list (members []) (this_start M) (λ i is. (past.in_order.each i).0 is) past.runs)
              (part_runs (this_life M) (life_mark M) answer_now R (this_start M) T (λ i is. (life.each i).0 is) fits.runs);
        }

  pub chain_before : (M : List HistoryEvent) (T : Keys) → OrderedChain at (lives (members []) M) T → OrderedChain at (lives_before M) (this_start M)
  chain_before M T chain = grind (arith, lives_parts)

  -- the past as one run
  past_run : (M : List HistoryEvent) → IsLawful M → AreApart M → OrderedChain at (lives_before M) (this_start M) → RunIs at (past_of M) (this_start M)
  past_run [] lawful apart chain = grind (arith, nat_tests)
  past_run (Opened keys ∷ M) lawful apart chain =
      let earlier = λ (i j p q : ℕ) (is : at i p) (is' : at j q) (before : IsLifeBefore M i j). apart i j p q is is' (inr before) in
      run_of M lawful.1 earlier (members keys) chain (past_run M lawful.1 earlier (chain_before M (members keys) chain))
  past_run (_ ∷ M) lawful apart chain = past_run M lawful.1 (λ i j p q is is' before. apart i j p q is is' (inr before)) chain

  -- a chain is one run of all its calls
  pub chain_run : (M : List HistoryEvent) (T : Keys) → IsLawful M → AreApart M → OrderedChain at (lives (members []) M) T → RunIs at M T
  chain_run M T lawful apart chain = run_of M lawful apart T chain (past_run M lawful apart (chain_before M T chain))
