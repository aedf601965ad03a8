-- The lives that have ended, and the life that goes on after them.
use Rattle.std.proofs.{Common.{arith, ◌≢◌, ◌⊎◌, inl, inr, ⊎_elim, ℕ, ◌<◌, List, [], ◌∷◌, ◌++◌, sym, refl, ◌∙◌}, lemmas.Bool.Decides.{nat_tests}}
use Rattle.lz_slot.specs.{Sets.{Keys, Same, after}, declared.{command.Command.{Command}, history.HistoryEvent.{HistoryEvent}}}
use Rattle.lz_slot.specs.declared.history.HistoryEvent.TheVariants.{Call, Answer, Refused, Cut, Stop, Crash, Opened, OpenFailed}
use Rattle.lz_slot.{specs.Histories.{HasMark, IsCalled, IsListed}, proofs.Listings.{earlier_append, listed_append, listed_left, listed_right}}
use Rattle.lz_slot.proofs.Sets.{after_same}
use Rattle.lz_judge.specs.{Records.{IsMade}, Flaws.{IsInOrder, IsLifeBefore, IsPast, Leads}, Plays.{Follows, past_of, this_life}}
use Rattle.lz_judge.{specs.declared.playing.Listed.{Listed}, proofs.Lives.{LawfulHistory.{made_less, made_more}, CurrentLife.{life_made}}}
use Rattle.lz_judge.proofs.Lives.PlaceOrder.{Among, calls_of}

-- what was seen in the past was seen
pub past_mark : (M : List HistoryEvent) (m : HistoryEvent) → HasMark m (past_of M) → HasMark m M
past_mark [] m has = has
past_mark (Opened keys ∷ M) m has = inr has
past_mark (_ ∷ M) m has = inr (past_mark M m has)

pub past_made_all : (M : List HistoryEvent) (i : ℕ) → IsMade (past_of M) i → IsMade M i
past_made_all M i (c, (actor, has)) = (c, (actor, past_mark M (Call i actor c) has))

-- a call of the past is one of an earlier life
pub past_is : (M : List HistoryEvent) (i : ℕ) → IsMade (past_of M) i → IsPast M i
past_is [] i made = absurd made.1.1
past_is (Opened keys ∷ M) i made = made
past_is (_ ∷ M) i made = past_is M i made

-- each call was made in the past or in the life that goes on
split_one : (m : HistoryEvent) (M : List HistoryEvent) (i : ℕ) → ((j a : ℕ) (c : Command) → m ≢ Call j a c) → (IsMade M i → IsMade (past_of M) i ⊎ IsMade (this_life M) i) → IsMade (m ∷ M) i → IsMade (past_of M) i ⊎ IsMade (this_life M) i
split_one m M i no_call rest made = rest (made_less m M i no_call made)

pub made_split : (M : List HistoryEvent) (i : ℕ) → IsMade M i → IsMade (past_of M) i ⊎ IsMade (this_life M) i
made_split [] i made = absurd made.1.1
made_split (Opened keys ∷ M) i made = inl (made_less (Opened keys) M i (λ j a c e. cc) made)
made_split (Answer j b ∷ M) i made = ⊎_elim (λ past. inl past) (λ here. inr (made_more (Answer j b) (this_life M) i here)) (split_one (Answer j b) M i (λ j' a c e. cc) (made_split M i) made)
made_split (Refused j why ∷ M) i made = ⊎_elim (λ past. inl past) (λ here. inr (made_more (Refused j why) (this_life M) i here)) (split_one (Refused j why) M i (λ j' a c e. cc) (made_split M i) made)
made_split (Cut j why ∷ M) i made = ⊎_elim (λ past. inl past) (λ here. inr (made_more (Cut j why) (this_life M) i here)) (split_one (Cut j why) M i (λ j' a c e. cc) (made_split M i) made)
made_split (Call j a c ∷ M) i (d, (actor, has)) = ⊎_elim
    (λ here. inr (d, (actor, inl here)))
    (λ there. ⊎_elim (λ past. inl past) (λ this. inr (made_more (Call j a c) (this_life M) i this)) (made_split M i (d, (actor, there))))
    has
made_split (m ∷ M) i made = split_one m M i (λ j a c e. cc) (made_split M i) made

-- a call of the past was made in a life before that of a call of the life that goes on
later_one : (m : HistoryEvent) (M : List HistoryEvent) (i j : ℕ) → IsPast M i → (IsMade (this_life M) j → IsLifeBefore M i j) → IsMade (m ∷ this_life M) j → IsLifeBefore (m ∷ M) i j
later_one m M i j past rest (c, (actor, has)) = ⊎_elim (λ here. inl (actor, c, here, past)) (λ there. inr (rest (c, (actor, there)))) has

pub past_before : (M : List HistoryEvent) (i j : ℕ) → IsMade (past_of M) i → IsMade (this_life M) j → IsLifeBefore M i j
past_before [] i j past made = absurd made.1.1
past_before (Opened keys ∷ M) i j past made = absurd made.1.1
past_before (Stop ∷ M) i j past made = inr (past_before M i j past made)
past_before (Crash ∷ M) i j past made = inr (past_before M i j past made)
past_before (OpenFailed why ∷ M) i j past made = inr (past_before M i j past made)
past_before (m ∷ M) i j past made = later_one m M i j (past_is M i past) (past_before M i j past) made

pub leads_more : (M : List HistoryEvent) (S S' : Keys) (L : List ℕ) (T : Keys) → Leads (past_of M) S L T → Same S S' → Leads M S' L T
leads_more M S S' [] T leads same = λ k. sym (same k) ∙ leads k
leads_more M S S' (i ∷ L) T (c, (actor, has), rest) same = (c, (actor, past_mark M (Call i actor c) has), leads_more M (after c S) (after c S') L T rest (after_same c S S' same))

pub leads_then : (M : List HistoryEvent) (L R : List ℕ) (S T U : Keys) → Leads M S L T → Leads M T R U → Leads M S (L ++ R) U
leads_then M [] R S T U first second = grind (arith, nat_tests, after_same)
leads_then M (i ∷ L) R S T U (c, called, rest) second = (c, called, leads_then M L R (after c S) T U rest second)

pub follows_leads : (M : List HistoryEvent) (calls : List Listed) (S T : Keys) → ((l : Listed) → Among l calls → IsCalled M l.call l.command) → Follows calls S T → Leads M S (calls_of calls) T
follows_leads M [] S T called follows = follows
follows_leads M (l ∷ calls) S T called follows = (l.command, called l (inl refl), follows_leads M calls (after l.command S) T (λ m at. called m (inr at)) follows)

-- the list of the past, and that of the life after it
module _ (at : ℕ → ℕ → Type 0) (M : List HistoryEvent) (below : (i j p q : ℕ) → IsMade (past_of M) i → IsMade (this_life M) j → at i p → at j q → p < q) (L R : List ℕ) (past : IsInOrder at (past_of M) L) (life : IsInOrder at (this_life M) R) where
  join_to : (j : ℕ) → IsListed j (L ++ R) → IsMade M j × ((p : ℕ) × at j p)
  join_to j is = ⊎_elim
      (λ left. let (made, place) = (past.each j).0 left in (past_made_all M j made, place))
      (λ right. let (made, place) = (life.each j).0 right in (life_made M j made, place))
      (listed_append j L R is)

  join_from : (j : ℕ) → IsMade M j × ((p : ℕ) × at j p) → IsListed j (L ++ R)
  join_from j (made, place) = ⊎_elim
      (λ before. listed_left j L R ((past.each j).1 (before, place)))
      (λ here. listed_right j L R ((life.each j).1 (here, place)))
      (made_split M j made)

  pub join_order : IsInOrder at M (L ++ R)
  join_order = record {
    each = λ j. (join_to j, join_from j);
    ascending = λ i j p q is here there. ⊎_elim
        (λ left. past.ascending i j p q left here there)
        (λ rest. ⊎_elim
        (λ (left, right). below i j p q ((past.each i).0 left).0 ((life.each j).0 right).0 here there)
        (λ right. life.ascending i j p q right here there)
        rest)
        (earlier_append i j L R is);
  }
