-- What a service that stops tells of what it hasn't begun: it is refused.
use Rattle.lz_serve.specs.declared.turn.Turn.TheVariants as turn
use Rattle.std.specs.Prelude.{◌≡◌, ◌-◌, ◌+◌, ℕ, zero, suc, Bool, true, false, List, [], ◌∷◌, ◌++◌, Option}
use Rattle.lz_serve.specs.declared.{language.Language.{Language}, reader.Reader.{Reader}, turn.Turn.{Turn}}
use Rattle.lz_serve.specs.Exchanges.{CameFrom, Exchange, frame_refusal, refusal, taken}

-- what is told in place of a turn that is refused: that nothing of it was done, or as ever
abbrev pub refused_turn : Turn → Turn
refused_turn (turn.Asks wording count) = turn.Says (refusal wording)
refused_turn (turn.Says text) = turn.Says text
refused_turn (turn.Lists scan) = turn.Says frame_refusal
refused_turn (turn.Tells query) = turn.Tells query
refused_turn (turn.Ends text) = turn.Ends text

-- a turn as it is taken: once the service stops it is refused
abbrev pub taken_turn : Bool → Turn → Turn
taken_turn false t = t
taken_turn true t = refused_turn t

-- how many requests it asks
abbrev pub asked_in : Turn → ℕ
asked_in (turn.Asks wording count) = count
asked_in other = 0

-- The turns, where so many requests of theirs were begun: each of which one was, and each before it, is as it was. The others are refused.
abbrev pub cut_turns : ℕ → List Turn → List Turn
cut_turns begun [] = []
cut_turns zero (t ∷ turns) = refused_turn t ∷ cut_turns zero turns
cut_turns (suc n) (t ∷ turns) = t ∷ cut_turns (suc n - asked_in t) turns

-- how many requests of those that are as they were weren't begun
abbrev pub kept_waiting : ℕ → List Turn → ℕ
kept_waiting begun [] = 0
kept_waiting zero (t ∷ turns) = 0
kept_waiting (suc n) (t ∷ turns) = (asked_in t - suc n) + kept_waiting (suc n - asked_in t) turns

-- The exchanges are those of the text. Where its service stops all of them that come after some are refused.
abbrev pub TakenFrom : Bool → Language → List ℕ → List Exchange → Option Reader → Type 0
TakenFrom stops spoken text exchanges reader = (kept cut : List Exchange) × CameFrom spoken text (kept ++ cut) reader × (exchanges ≡ kept ++ taken stops cut)
