-- What a rehearsal writes.
use Rattle.std.specs.Prelude.{ℕ, List, [], ◌∷◌, ◌++◌, codes, decimal}
use Rattle.lz_slot.specs.{MarkTexts.{keys_text, mark_text}, declared.history.HistoryEvent.{HistoryEvent}}

-- the line of what is seen of a service
abbrev pub mark_line : HistoryEvent → List ℕ
mark_line m = mark_text m ++ 10 ∷ []

-- the line of the members
abbrev pub show_text : List ℕ → List ℕ
show_text keys = codes "show" ++ keys_text keys ++ 10 ∷ []

-- the line of an actor that found a lock taken
abbrev pub busy_text : ℕ → List ℕ
busy_text a = codes "busy " ++ decimal a ++ 10 ∷ []
