use Rattle.lz_judge.proofs.playing.Play.finish.Given as goal
use Rattle.std.proofs.Common.{◌≡◌, ◌⊎◌, ℕ, None, Some}
use Rattle.lz_slot.specs.Sets.{Keys}
use Rattle.lz_judge.specs.Plays.{Follows, IsSet, Plays, WrongAt}

abbrev pub invariant-loop-listed : goal.invariant-loop-listed
invariant-loop-listed l = record {
  runs : (S : Keys) → IsSet l.initial.self.set S → (now : Keys) × IsSet l.self.set now
      × (l.self.wrong_reply ≡ None → (l.initial.self.wrong_reply ≡ None) × ((T : Keys) → Plays l.answers l.listed-iterator now T → Plays l.answers l.initial.listed-iterator S T));
  finds : (S : Keys) → IsSet l.initial.self.set S → (now : Keys) × IsSet l.self.set now × ((T : Keys) → Follows l.listed-iterator now T → Follows l.initial.listed-iterator S T)
      × ((i : ℕ) → WrongAt l.answers l.listed-iterator now i → WrongAt l.answers l.initial.listed-iterator S i)
      × ((i : ℕ) → l.self.wrong_reply ≡ Some i → (l.initial.self.wrong_reply ≡ Some i) ⊎ WrongAt l.answers l.initial.listed-iterator S i);
  life : l.self.life ≡ l.initial.self.life;
  opens : l.self.opens ≡ l.initial.self.opens;
  wrong_set : l.self.wrong_set ≡ l.initial.self.wrong_set;
}
