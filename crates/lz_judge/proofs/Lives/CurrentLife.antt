-- The life that goes on, and the lives before it.
use Rattle.std.proofs.{Common.{◌≡◌, inl, inr, ⊎_elim, ℕ, Bool, List, [], ◌∷◌, refl, ap, subst, Some}, lemmas.Bool.Decides.{eqb_tells}}
use Rattle.lz_slot.specs.{Sets.{members}, declared.history.HistoryEvent.{HistoryEvent, TheVariants.{Call, Answer, Refused, Cut, Stop, Crash, Opened, OpenFailed}}}
use Rattle.lz_slot.specs.Histories.{HasMark, IsAnswered, IsBefore, Life, lives, with_mark}
use Rattle.lz_judge.specs.{Records.{IsLawful, IsMade, actor_of}, Plays.{lives_before, this_life, this_start}}
use Rattle.lz_judge.proofs.Lives.LawfulHistory.{made_more, not_ended}

abbrev pub now : List HistoryEvent → Life
now M = record { start = this_start M; history = this_life M }

pub lives_parts : (M : List HistoryEvent) → lives (members []) M ≡ now M ∷ lives_before M
lives_parts [] = refl
lives_parts (Opened keys ∷ M) = refl
lives_parts (Stop ∷ M) = lives_parts M
lives_parts (Crash ∷ M) = lives_parts M
lives_parts (OpenFailed why ∷ M) = lives_parts M
lives_parts (m ∷ M) = ap (with_mark m) (lives_parts M)

-- what was seen in the life was seen
pub life_mark : (M : List HistoryEvent) (m : HistoryEvent) → HasMark m (this_life M) → HasMark m M
life_mark [] m has = has
life_mark (Opened keys ∷ M) m has = absurd has
life_mark (Stop ∷ M) m has = inr (life_mark M m has)
life_mark (Crash ∷ M) m has = inr (life_mark M m has)
life_mark (OpenFailed why ∷ M) m has = inr (life_mark M m has)
life_mark (_ ∷ M) m has = ⊎_elim (λ here. inl here) (λ there. inr (life_mark M m there)) has

pub life_made : (M : List HistoryEvent) (i : ℕ) → IsMade (this_life M) i → IsMade M i
life_made M i (c, (actor, has)) = (c, (actor, life_mark M (Call i actor c) has))

before_one : (m : HistoryEvent) (M : List HistoryEvent) (i j : ℕ) → (IsBefore (this_life M) i j → IsBefore M i j) → IsBefore (m ∷ this_life M) i j → IsBefore (m ∷ M) i j
before_one m M i j rest is = ⊎_elim (λ (actor, c, b, here, told). inl (actor, c, b, here, life_mark M (Answer i b) told)) (λ there. inr (rest there)) is

pub life_before : (M : List HistoryEvent) (i j : ℕ) → IsBefore (this_life M) i j → IsBefore M i j
life_before [] i j is = is
life_before (Opened keys ∷ M) i j is = absurd is
life_before (Stop ∷ M) i j is = inr (life_before M i j is)
life_before (Crash ∷ M) i j is = inr (life_before M i j is)
life_before (OpenFailed why ∷ M) i j is = inr (life_before M i j is)
life_before (m ∷ M) i j is = before_one m M i j (life_before M i j) is

-- an open call was made in the life that goes on
open_life : (M : List HistoryEvent) (i actor : ℕ) → actor_of M i ≡ Some actor → IsMade (this_life M) i
open_life [] i actor is = absurd (cc)
open_life (Call j a c ∷ M) i actor is = elim (eqb_tells j i) [
  | inl t ↦ (c, (a, inl (ap (λ (n : ℕ). Call n a c) t.1)))
  | inr f ↦ made_more (Call j a c) (this_life M) i (open_life M i actor (rw f.0 at is))
]
open_life (Answer j b ∷ M) i actor is = made_more (Answer j b) (this_life M) i (open_life M i actor (not_ended j i actor (actor_of M i) is).1)
open_life (Refused j why ∷ M) i actor is = made_more (Refused j why) (this_life M) i (open_life M i actor (not_ended j i actor (actor_of M i) is).1)
open_life (Cut j why ∷ M) i actor is = made_more (Cut j why) (this_life M) i (open_life M i actor (not_ended j i actor (actor_of M i) is).1)
open_life (OpenFailed why ∷ M) i actor is = open_life M i actor is
open_life (_ ∷ M) i actor is = absurd (cc)

pub open_made : (M : List HistoryEvent) (i actor : ℕ) → actor_of M i ≡ Some actor → IsMade M i
open_made M i actor is = life_made M i (open_life M i actor is)

pub answered_made : (M : List HistoryEvent) (i : ℕ) (b : Bool) → IsLawful (Answer i b ∷ M) → IsMade M i
answered_made M i b lawful = open_made M i lawful.0.0 lawful.0.1

-- a call is answered in the life in which it was made
pub answered_life : (M : List HistoryEvent) (i : ℕ) (b : Bool) → IsLawful M → IsAnswered (this_life M) i b → IsMade (this_life M) i
answered_life [] i b lawful has = absurd has
answered_life (Opened keys ∷ M) i b lawful has = absurd has
answered_life (Call j a c ∷ M) i b lawful has = ⊎_elim (λ here. absurd (cc)) (λ there. made_more (Call j a c) (this_life M) i (answered_life M i b lawful.1 there)) has
answered_life (Refused j why ∷ M) i b lawful has = ⊎_elim (λ here. absurd (cc)) (λ there. made_more (Refused j why) (this_life M) i (answered_life M i b lawful.1 there)) has
answered_life (Cut j why ∷ M) i b lawful has = ⊎_elim (λ here. absurd (cc)) (λ there. made_more (Cut j why) (this_life M) i (answered_life M i b lawful.1 there)) has
answered_life (Answer j d ∷ M) i b lawful has = ⊎_elim
    (λ here. let same : j ≡ i = cc in made_more (Answer j d) (this_life M) i (subst (IsMade (this_life M)) same (open_life M j lawful.0.0 lawful.0.1)))
    (λ there. made_more (Answer j d) (this_life M) i (answered_life M i b lawful.1 there))
    has
answered_life (_ ∷ M) i b lawful has = answered_life M i b lawful.1 has
