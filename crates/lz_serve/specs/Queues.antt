-- A queue of tokens.
use Rattle.std.specs.{Prelude.{◌≡◌, ◌==◌, ◌++◌, ⊤, ℕ, Bool, false, List, [], ◌∷◌, if◌then◌else◌, slice_index_or}, List.{list_any}}

-- whether the token stands in it
abbrev pub is_in : ℕ → List ℕ → Bool
is_in token queue = list_any (λ t. t == token) queue

-- the token stands behind the others, unless it stood there before
abbrev pub queued : ℕ → List ℕ → List ℕ
queued token queue = if is_in token queue then queue else queue ++ token ∷ []

-- none stands there twice
abbrev pub AreApart : List ℕ → Type 0
AreApart [] = ⊤
AreApart (token ∷ queue) = (is_in token queue ≡ false) × AreApart queue

-- Each token stands there once, and these are the flags of those that do.
pub record IsQueue (queue : List ℕ) (flags : List Bool) : Type 0 where
  pub apart : AreApart queue
  pub flagged : (token : ℕ) → slice_index_or flags token false ≡ is_in token queue
