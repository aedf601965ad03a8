-- One mark more in the run of the calls, and what the run comes to.
use Rattle.std.specs.BTreeMap as tree
use Rattle.std.specs.BTreeSet as set
use Rattle.std.proofs.{lemmas.{Bool.{cases_eq, Decides.{nat_tests}}, Grind.{common_steps}, Option.{same_Some}}, Common.{◌≡◌, ◌≢◌, inl, inr, ⊎_elim, ℕ, Bool}}
use Rattle.std.proofs.Common.{List, [], ◌∷◌, ◌++◌, take, drop, sym, refl, ◌∙◌, ap, subst, arith, Option, Some, None, reverse, BTreeMap, BTreeSet, nat_cmp}
use Rattle.std.specs.Map.{values_of}
use Rattle.lz_slot.specs.{Sets.{Keys, Same, members}, declared.{command.Command.{Command}, history.HistoryEvent.{HistoryEvent}}}
use Rattle.lz_slot.specs.{declared.history.HistoryEvent.TheVariants.{Call, Answer, Refused, Cut, Opened}, Histories.{Fits, IsCalled, Life, lives}}
use Rattle.lz_judge.specs.{Records.{IsMade}, Flaws.{IsInOrder, OrderedChain}, Readings.{IsAt}}
use Rattle.lz_judge.specs.{Plays.{Finishes, IsKnown, IsLife, IsSet, Played, Plays, lives_before, this_life, this_start}, declared.playing.Listed.{Listed}}
use Rattle.lz_judge.proofs.Lives.{LawfulHistory.{made_cases, made_less, so_far}, CurrentLife.{answered_life, life_before, life_made, life_mark, lives_parts}}
use Rattle.lz_judge.proofs.Lives.PlaceOrder.{calls_of, earlier, in_order, once, runs, OfLife, of_life}

-- what is known of more marks is known of fewer
pub known_rest : (places : BTreeMap ℕ ℕ) (answers : BTreeMap ℕ Bool) (m : HistoryEvent) (M : List HistoryEvent) → IsKnown places answers (m ∷ M) → IsKnown places answers M
known_rest places answers m M known = record {
  lawful = known.lawful.1;
  refused = λ i (why, has). known.refused i (why, inr has);
  answered = λ i b has. known.answered i b (inr has);
  told = λ i b has. known.told i b (inr has);
  apart = λ i j p q at at' made. known.apart i j p q at at' (inr made);
  order = λ i j p q at at' before. known.order i j p q at at' (inr before);
  lives = λ i j p q at at' before. known.lives i j p q at at' (inr before);
}

known_part : (places : BTreeMap ℕ ℕ) (answers : BTreeMap ℕ Bool) (N M : List HistoryEvent) → IsKnown places answers (N ++ M) → IsKnown places answers M
known_part places answers [] M known = known
known_part places answers (m ∷ N) M known = known_part places answers N M (known_rest places answers m (N ++ M) known)

pub known_so_far : (places : BTreeMap ℕ ℕ) (answers : BTreeMap ℕ Bool) (marks : List HistoryEvent) (n : ℕ) → IsKnown places answers (reverse marks) → IsKnown places answers (reverse (take n marks))
known_so_far places answers marks n known = known_part places answers (reverse (drop n marks)) (reverse (take n marks)) (subst (IsKnown places answers) (so_far marks n) known)

empty_get : (life : BTreeMap ℕ Listed) (p : ℕ) → tree.IsEmpty life → tree.get nat_cmp life p ≡ None
empty_get life p none = rw none refl

-- a life in which nothing has come
pub empty_life : (places : BTreeMap ℕ ℕ) (life : BTreeMap ℕ Listed) → tree.IsEmpty life → IsLife places [] life
empty_life places life none = grind (arith, nat_tests, empty_get)

pub played_none : (places : BTreeMap ℕ ℕ) (keys : BTreeSet ℕ) (life : BTreeMap ℕ Listed) → set.IsEmpty keys → tree.IsEmpty life → Played places [] keys life None None
played_none places keys life no_key none = record {
  now = members [];
  is_set = λ k. rw no_key refl;
  is_life = empty_life places life none;
  chain = λ r s. (λ k. refl, tt);
}

-- a mark that is no call
life_other : (places : BTreeMap ℕ ℕ) (H : List HistoryEvent) (life : BTreeMap ℕ Listed) (m : HistoryEvent) → ((j a : ℕ) (c : Command) → m ≢ Call j a c) → IsLife places H life → IsLife places (m ∷ H) life
life_other places H life m no_call is = record {
  listed = λ p l there. let (called, at) = is.listed p l there in ((called.0, inr called.1), at);
  all = λ i p made at. is.all i p (made_less m H i no_call made) at;
}

module _ (places : BTreeMap ℕ ℕ) (answers : BTreeMap ℕ Bool) (M : List HistoryEvent) (known : IsKnown places answers M) where
  -- the calls of the life fit it
  life_fits : (life : BTreeMap ℕ Listed) (S T T' : Keys) → tree.IsOrdered nat_cmp life → IsLife places (this_life M) life → Same S (this_start M) → Same T T' → Plays answers (values_of life.entries) S T
      → (L : List ℕ) × IsInOrder (IsAt places) (this_life M) L × Fits (this_start M) (this_life M) L T'
  life_fits life S T T' ordered is_life start end plays = (calls_of calls, order, fits)
    where
      calls : List Listed
      calls = values_of life.entries

      listed : OfLife places (this_life M) calls
      listed = of_life places (this_life M) life ordered is_life

      order : IsInOrder (IsAt places) (this_life M) (calls_of calls)
      order = in_order places (this_life M) calls listed

      fits : Fits (this_start M) (this_life M) (calls_of calls) T'
      fits = record {
        once = λ i. once places calls i listed.have listed.rise;
        answered = λ i b is. (order.each i).1 (answered_life M i b known.lawful is, known.answered i b (life_mark M (Answer i b) is));
        not_refused = λ i (why, has) is.
            let none = known.refused i (why, life_mark M (Refused i why) has) in
            let (made, (p, at)) = (order.each i).0 is in
            let e : None ≡ Some p = sym none ∙ at in absurd (cc);
        order = λ i j before is is'.
            let (made, (p, at)) = (order.each i).0 is in
            let (made', (q, at')) = (order.each j).0 is' in
            earlier places calls i j p q listed.have listed.rise at at' (known.order i j p q at at' (life_before M i j before)) is is';
        runs = runs (this_life M) answers calls S T (this_start M) T' (λ i b is. known.told i b (life_mark M (Answer i b) is)) listed.called start end plays;
      }

  -- the lives with the one that goes on, once it was run
  chain_more : (life : BTreeMap ℕ Listed) (S T T' : Keys) → tree.IsOrdered nat_cmp life → IsLife places (this_life M) life → Same S (this_start M) → OrderedChain (IsAt places) (lives_before M) (this_start M)
      → Plays answers (values_of life.entries) S T → Same T T' → OrderedChain (IsAt places) (lives (members []) M) T'
  chain_more life S T T' ordered is_life start chain plays end =
      let (L, order, fits) = life_fits life S T T' ordered is_life start end plays in
      subst (λ (l : List Life). OrderedChain (IsAt places) l T') (sym (lives_parts M)) (L, order, fits, chain)

  module _ (keys : BTreeSet ℕ) (life : BTreeMap ℕ Listed) (wrong_reply wrong_set : Option ℕ) (before : Played places M keys life wrong_reply wrong_set) (ordered : tree.IsOrdered nat_cmp life) where
    -- the last life was run
    pub played_all : (keys' : BTreeSet ℕ) (wrong_reply' : Option ℕ) → Finishes answers (values_of life.entries) before.now keys' wrong_reply wrong_reply' → wrong_reply' ≡ None → wrong_set ≡ None
        → (T : Keys) × OrderedChain (IsAt places) (lives (members []) M) T
    played_all keys' wrong_reply' finishes no_reply no_set = grind (arith, chain_more)

    -- the next life begins
    pub played_opened : (found : List ℕ) (keys' : BTreeSet ℕ) (life' : BTreeMap ℕ Listed) (wrong_reply' wrong_set' : Option ℕ) → Finishes answers (values_of life.entries) before.now keys' wrong_reply wrong_reply'
        → tree.IsEmpty life' → ((S : Keys) → IsSet keys' S → wrong_set' ≡ None → (wrong_set ≡ None) × Same S (members found)) → Played places (Opened found ∷ M) keys' life' wrong_reply' wrong_set'
    played_opened found keys' life' wrong_reply' wrong_set' finishes none compares = grind (arith, empty_life, chain_more)

module _ (places : BTreeMap ℕ ℕ) (M : List HistoryEvent) (keys : BTreeSet ℕ) (life : BTreeMap ℕ Listed) (wrong_reply wrong_set : Option ℕ) (before : Played places M keys life wrong_reply wrong_set) where
  -- a mark of the life, or between lives, that is no call
  pub played_rest : (m : HistoryEvent) → ((j a : ℕ) (c : Command) → m ≢ Call j a c) → ((found : List ℕ) → m ≢ Opened found) → Played places (m ∷ M) keys life wrong_reply wrong_set
  played_rest (Call j a c) no_call no_open = absurd (no_call j a c refl)
  played_rest (Opened found) no_call no_open = absurd (no_open found refl)
  played_rest (Answer j b) no_call no_open = record { now = before.now; is_set = before.is_set; is_life = life_other places (this_life M) life (Answer j b) no_call before.is_life; chain = before.chain }
  played_rest (Refused j why) no_call no_open = record { now = before.now; is_set = before.is_set; is_life = life_other places (this_life M) life (Refused j why) no_call before.is_life; chain = before.chain }
  played_rest (Cut j why) no_call no_open = record { now = before.now; is_set = before.is_set; is_life = life_other places (this_life M) life (Cut j why) no_call before.is_life; chain = before.chain }
  played_rest _ no_call no_open = record { now = before.now; is_set = before.is_set; is_life = before.is_life; chain = before.chain }

  -- a call without a place
  pub played_unlisted : (i a : ℕ) (c : Command) → tree.get nat_cmp places i ≡ None → Played places (Call i a c ∷ M) keys life wrong_reply wrong_set
  played_unlisted i a c none = record {
    now = before.now;
    is_set = before.is_set;
    is_life = record {
      listed = λ p l there. let (called, at) = before.is_life.listed p l there in ((called.0, inr called.1), at);
      all = λ j p made at. ⊎_elim
          (λ here. absurd (let e : None ≡ Some p = sym none ∙ ap (tree.get nat_cmp places) here ∙ at in cc))
          (λ there. before.is_life.all j p there at)
          (made_cases i a c (this_life M) j made);
    };
    chain = before.chain;
  }

  -- a call with one
  pub played_listed : (answers : BTreeMap ℕ Bool) (i a p : ℕ) (c : Command) (life' : BTreeMap ℕ Listed) → IsKnown places answers (Call i a c ∷ M) → IsAt places i p
      → tree.Updates nat_cmp life life' p (Some (record { call = i; command = c })) → Played places (Call i a c ∷ M) keys life' wrong_reply wrong_set
  played_listed answers i a p c life' known at_p updates = record {
    now = before.now;
    is_set = before.is_set;
    is_life = record { listed = listed; all = all };
    chain = before.chain;
  }
    where
      this : Listed
      this = record { call = i; command = c }

      here_is : tree.get nat_cmp life' p ≡ Some (record { call = i; command = c })
      here_is = grind (arith, common_steps, updates.0 p)

      other_is : (q : ℕ) → p ≢ q → tree.get nat_cmp life' q ≡ tree.get nat_cmp life q
      other_is q apart = grind (arith, common_steps, updates.0 q)

      listed : (q : ℕ) (l : Listed) → tree.get nat_cmp life' q ≡ Some l → IsCalled (Call i a c ∷ this_life M) l.call l.command × IsAt places l.call q
      listed q l there = ⊎_elim
          (λ same.
          let e : record { call = i; command = c } ≡ l = same_Some _ _ (sym here_is ∙ ap (tree.get nat_cmp life') same ∙ there) in
          subst (λ (m : Listed). IsCalled (Call i a c ∷ this_life M) m.call m.command × IsAt places m.call q) e ((a, inl refl), subst (IsAt places i) same at_p))
          (λ apart. let (called, at) = before.is_life.listed q l (sym (other_is q apart) ∙ there) in ((called.0, inr called.1), at))
          (cases_eq p q)

      all : (j q : ℕ) → IsMade (Call i a c ∷ this_life M) j → IsAt places j q → (l : Listed) × (tree.get nat_cmp life' q ≡ Some l) × (l.call ≡ j)
      all j q made at = ⊎_elim
          (λ here.
          let same : p ≡ q = same_Some p q (sym at_p ∙ ap (tree.get nat_cmp places) here ∙ at) in
          (record { call = i; command = c }, ap (tree.get nat_cmp life') (sym same) ∙ here_is, here))
          (λ there.
          let (l, get, same) = before.is_life.all j q there at in
          let apart = known.apart j i q p at at_p (inl (a, c, refl, life_made M j there)) in
          (l, other_is q (λ e. apart (sym e)) ∙ get, same))
          (made_cases i a c (this_life M) j made)
