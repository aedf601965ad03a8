-- A call that was answered otherwise than the calls below it say.
use Rattle.std.specs.BTreeMap as tree
use Rattle.std.proofs.Common.{◌≡◌, ◌≢◌, ◌⊎◌, inl, inr, ⊎_elim, ℕ, suc, ◌<◌, ◌≤◌, Bool, List, length, [], ◌∷◌, ◌++◌, sym, refl, ◌∙◌, ap, subst, arith}
use Rattle.std.proofs.{Common.{append_assoc, Option, Some, None, BTreeSet, BTreeMap, nat_cmp}, lemmas.{Option.{same_Some}, List.{map-append}}}
use Rattle.std.specs.Map.{values_of}
use Rattle.lz_slot.specs.{Sets.{Keys, Same, after, key_of, members, reply}, declared.history.HistoryEvent.{HistoryEvent, TheVariants.{Call, Opened}}, Histories.{IsCalled}}
use Rattle.lz_judge.specs.{Records.{IsMade}, Flaws.{IsInOrder, Leads, opens}, Readings.{IsAt}}
use Rattle.lz_judge.specs.Plays.{Compared, Finds, Follows, IsKnown, IsLife, IsSet, IsWrong, Ran, WrongAt, past_of, this_life}
use Rattle.lz_judge.{specs.declared.playing.Listed.{Listed}, proofs.Lives.{CurrentLife.{life_mark}, PlaceOrder.{Among, calls_of, in_order, OfLife, of_life}}}
use Rattle.lz_judge.proofs.Lives.ListFront.{IsFront, front_is}
use Rattle.lz_judge.proofs.Lives.PastLife.{join_order, follows_leads, leads_more, leads_then, made_split, past_before, past_made_all, past_mark}

-- the place in a list of calls at which one is answered otherwise
record Wrong (answers : BTreeMap ℕ Bool) (calls : List Listed) (S : Keys) (i : ℕ) : Type 0 where
  done : List Listed
  this : Listed
  rest : List Listed
  set_before : Keys
  parts : calls ≡ done ++ this ∷ rest
  follows : Follows done S set_before
  is : this.call ≡ i
  answer : Bool
  told : tree.get nat_cmp answers this.call ≡ Some answer
  other : reply this.command (set_before (key_of this.command)) ≢ answer

wrong_place : (answers : BTreeMap ℕ Bool) (calls : List Listed) (S : Keys) (i : ℕ) → WrongAt answers calls S i → Wrong answers calls S i
wrong_place answers [] S i wrong = absurd wrong
wrong_place answers (l ∷ calls) S i wrong = ⊎_elim
    (λ (is, (answer, told, other)). record { done = []; this = l; rest = calls; set_before = S; parts = refl; follows = λ k. refl; is = is; answer = answer; told = told; other = other })
    (λ there.
    let at = wrong_place answers calls (after l.command S) i there in
    record { done = l ∷ at.done; this = at.this; rest = at.rest; set_before = at.set_before; parts = ap (λ (ls : List Listed). l ∷ ls) at.parts; follows = at.follows; is = at.is; answer = at.answer; told = at.told; other = at.other })
    wrong

among_left : (m : Listed) (done rest : List Listed) → Among m done → Among m (done ++ rest)
among_left m [] rest is = absurd is
among_left m (l ∷ done) rest is = ⊎_elim (λ here. inl here) (λ there. inr (among_left m done rest there)) is

among_right : (m : Listed) (done rest : List Listed) → Among m rest → Among m (done ++ rest)
among_right m [] rest is = is
among_right m (l ∷ done) rest is = inr (among_right m done rest is)

module _ (places : BTreeMap ℕ ℕ) (answers : BTreeMap ℕ Bool) (M : List HistoryEvent) (known : IsKnown places answers M) where
  past_below : (i j p q : ℕ) → IsMade (past_of M) i → IsMade (this_life M) j → IsAt places i p → IsAt places j q → p < q
  past_below i j p q past made at at' = known.lives i j p q at at' (past_before M i j past made)

  -- what was wrong in the past is wrong still
  wrong_past : (i : ℕ) → IsWrong places answers (past_of M) i → IsWrong places answers M i
  wrong_past i wrong = record {
    set_before = wrong.set_before;
    reached = record {
      place = wrong.reached.place;
      here = wrong.reached.here;
      list = wrong.reached.list;
      each = λ j. (
        λ is. let (made, below) = (wrong.reached.each j).0 is in (past_made_all M j made, below),
        λ (made, (q, at, lt)). ⊎_elim
            (λ past. (wrong.reached.each j).1 (past, (q, at, lt)))
            (λ this. absurd (let more = past_below i j wrong.reached.place q (wrong.command, wrong.called) this wrong.reached.here at in omega (arith, lt, more)))
            (made_split M j made),
      );
      ascending = wrong.reached.ascending;
      leads = leads_more M (members []) (members []) wrong.reached.list wrong.set_before wrong.reached.leads (λ k. refl);
    };
    command = wrong.command;
    called = (wrong.called.0, past_mark M (Call i wrong.called.0 wrong.command) wrong.called.1);
    answer = wrong.answer;
    told = wrong.told;
    other = wrong.other;
  }

  module _ (L : List ℕ) (start : Keys) (past_order : IsInOrder (IsAt places) (past_of M) L) (leads : Leads (past_of M) (members []) L start) (life : BTreeMap ℕ Listed) (ordered : tree.IsOrdered nat_cmp life) (is_life : IsLife places (this_life M) life) where
    listed : OfLife places (this_life M) (values_of life.entries)
    listed = of_life places (this_life M) life ordered is_life

    called_all : (l : Listed) → Among l (values_of life.entries) → IsCalled M l.call l.command
    called_all l at = let (actor, has) = listed.called l at in (actor, life_mark M (Call l.call actor l.command) has)

    -- the list of the past, and the calls of the life after it
    all_in_order : IsInOrder (IsAt places) M (L ++ calls_of (values_of life.entries))
    all_in_order = join_order (IsAt places) M past_below L (calls_of (values_of life.entries)) past_order (in_order places (this_life M) (values_of life.entries) listed)

    all_leads : (T : Keys) → Follows (values_of life.entries) start T → Leads M (members []) (L ++ calls_of (values_of life.entries)) T
    all_leads T follows = leads_then M L (calls_of (values_of life.entries)) (members []) start T (leads_more M (members []) (members []) L start leads (λ k. refl)) (follows_leads M (values_of life.entries) start T called_all follows)

    -- a call of the life that was answered otherwise
    wrong_now : (i : ℕ) → WrongAt answers (values_of life.entries) start i → IsWrong places answers M i
    wrong_now i wrong = subst (IsWrong places answers M) at.is (record {
      set_before = at.set_before;
      reached = record { place = place.0; here = place.1; list = L ++ calls_of at.done; each = front.each; ascending = front.ascending; leads = led };
      command = at.this.command;
      called = called_all at.this this_among;
      answer = at.answer;
      told = at.told;
      other = at.other;
    })
      where
        at : Wrong answers (values_of life.entries) start i
        at = wrong_place answers (values_of life.entries) start i wrong

        this_among : Among at.this (values_of life.entries)
        this_among = subst (Among at.this) (sym at.parts) (among_right at.this at.done (at.this ∷ at.rest) (inl refl))

        done_among : (m : Listed) → Among m at.done → Among m (values_of life.entries)
        done_among m is = subst (Among m) (sym at.parts) (among_left m at.done (at.this ∷ at.rest) is)

        place : (p : ℕ) × IsAt places at.this.call p
        place = listed.have at.this this_among

        parts : L ++ calls_of (values_of life.entries) ≡ (L ++ calls_of at.done) ++ at.this.call ∷ calls_of at.rest
        parts = grind (arith, map-append, append_assoc)

        front : IsFront (IsAt places) M place.0 (L ++ calls_of at.done)
        front = grind (arith, front_is, same_Some, calls_of, at, place, parts, all_in_order)

        led : Leads M (members []) (L ++ calls_of at.done) at.set_before
        led = leads_then M L (calls_of at.done) (members []) start at.set_before (leads_more M (members []) (members []) L start leads (λ k. refl))
            (follows_leads M at.done start at.set_before (λ l among. called_all l (done_among l among)) at.follows)

  module _ (keys : BTreeSet ℕ) (life : BTreeMap ℕ Listed) (wrong_reply : Option ℕ) (ran : Ran places answers M keys wrong_reply) (ordered : tree.IsOrdered nat_cmp life) (is_life : IsLife places (this_life M) life) (keys' : BTreeSet ℕ) (wrong_reply' : Option ℕ)
      (finds : Finds answers (values_of life.entries) ran.now keys' wrong_reply wrong_reply') where
    -- the life was run: a call that was found wrong is one
    pub wrong_all : (i : ℕ) → wrong_reply' ≡ Some i → IsWrong places answers M i
    wrong_all i is = ⊎_elim
        (λ was. wrong_past i (ran.wrong_is i was))
        (λ at. wrong_now ran.list ran.now ran.in_order ran.leads life ordered is_life i at)
        (finds.wrong_is i is)

    -- and the next one begins
    pub ran_opened : (found : List ℕ) → Ran places answers (Opened found ∷ M) keys' wrong_reply'
    ran_opened found = record {
      now = finds.now;
      is_set = finds.is_set;
      list = ran.list ++ calls_of (values_of life.entries);
      in_order = all_in_order ran.list ran.now ran.in_order ran.leads life ordered is_life;
      leads = all_leads ran.list ran.now ran.in_order ran.leads life ordered is_life finds.now finds.leads;
      wrong_is = wrong_all;
    }

    -- an open that found another set is one
    pub compared_opened : (found : List ℕ) (count count' : ℕ) (wrong_set wrong_set' : Option ℕ) → Compared places M count wrong_set → count' ≡ suc (opens M)
        → ((n : ℕ) → wrong_set' ≡ Some n → (wrong_set ≡ Some n) ⊎ ((n ≡ count') × (¬ Same finds.now (members found)))) → Compared places (Opened found ∷ M) count' wrong_set'
    compared_opened found count count' wrong_set wrong_set' compared counts why = record {
      counts = counts;
      set_is = λ n is. ⊎_elim
          (λ was. inr (compared.set_is n was))
          (λ (at, differs). inl (
            sym counts ∙ sym at,
            (
              ran.list ++ calls_of (values_of life.entries),
              finds.now,
              all_in_order ran.list ran.now ran.in_order ran.leads life ordered is_life,
              all_leads ran.list ran.now ran.in_order ran.leads life ordered is_life finds.now finds.leads,
              differs,
            ),
          ))
          (why n is);
    }

pub ran_none : (places : BTreeMap ℕ ℕ) (answers : BTreeMap ℕ Bool) (keys : BTreeSet ℕ) → IsSet keys (members []) → Ran places answers [] keys None
ran_none places answers keys is_set = record {
  now = members [];
  is_set = is_set;
  list = [];
  in_order = record { each = λ j. (λ is. absurd is, λ (made, at). absurd made.1.1); ascending = λ i j p q is at at'. absurd is };
  leads = λ k. refl;
  wrong_is = λ i is. absurd (cc);
}

-- a mark that begins no life
pub ran_rest : (places : BTreeMap ℕ ℕ) (answers : BTreeMap ℕ Bool) (M : List HistoryEvent) (keys : BTreeSet ℕ) (wrong_reply : Option ℕ) (m : HistoryEvent) → ((found : List ℕ) → m ≢ Opened found) → Ran places answers M keys wrong_reply
    → Ran places answers (m ∷ M) keys wrong_reply
ran_rest places answers M keys wrong_reply (Opened found) no_open ran = absurd (no_open found refl)
ran_rest places answers M keys wrong_reply _ no_open ran = record { now = ran.now; is_set = ran.is_set; list = ran.list; in_order = ran.in_order; leads = ran.leads; wrong_is = ran.wrong_is }

pub compared_none : (places : BTreeMap ℕ ℕ) → Compared places [] 0 None
compared_none places = record { counts = refl; set_is = λ n is. absurd (cc) }

pub compared_rest : (places : BTreeMap ℕ ℕ) (M : List HistoryEvent) (count : ℕ) (wrong_set : Option ℕ) (m : HistoryEvent) → ((found : List ℕ) → m ≢ Opened found) → Compared places M count wrong_set → Compared places (m ∷ M) count wrong_set
compared_rest places M count wrong_set (Opened found) no_open compared = absurd (no_open found refl)
compared_rest places M count wrong_set _ no_open compared = record { counts = compared.counts; set_is = compared.set_is }

-- there are no more opens than marks
pub opens_within : (M : List HistoryEvent) → opens M ≤ length M
opens_within [] = omega arith
opens_within (Opened keys ∷ M) = let rest = opens_within M in omega (arith, rest)
opens_within (_ ∷ M) = let rest = opens_within M in omega (arith, rest)
