-- A client's text, of which each frame is taken by itself.
use Rattle.std.specs.Prelude.{ℕ, Bool, true, false, if◌then◌else◌, List, [], ◌∷◌, Option, None, Some, Ok, Err}
use Rattle.lz_resp.specs.{Reading.{Front, first_of}, Replies.{fault_text}, declared.state.State.{State}}
use Rattle.lz_forget.specs.{Wants.{wanted_in}, declared.wanted.Wanted.{Wanted, TheVariants.{Asks, Left, Passes, Says, Ends}}}

-- The time after which the set forgets; what frames find; what has come and wasn't taken; and whether nothing more is read.
pub record Reader : Type 0 where
  pub seconds : ℕ
  pub state : State
  pub text : List ℕ
  pub over : Bool

-- nothing is read after it
abbrev pub is_last : Wanted → Bool
is_last (Asks form requests) = false
is_last (Left unit requests) = false
is_last (Passes reading text) = false
is_last (Says text) = false
is_last (Ends text) = true

-- what a frame wants, and the state after it: one of no arguments nothing
abbrev pub wanted_for : ℕ → State → List (List ℕ) → Wanted × State
wanted_for seconds state [] = (Says [], state)
wanted_for seconds state (argument ∷ arguments) = wanted_in seconds state (argument ∷ arguments)

abbrev pub put : Reader → List ℕ → Wanted × State → Option Wanted × Reader
put r rest (wanted, state) = (Some wanted, record { seconds = r.seconds; state = state; text = rest; over = is_last wanted })

abbrev pub taken_by : Reader → Front (List (List ℕ)) → Option Wanted × Reader
taken_by r (Ok None) = (None, r)
taken_by r (Ok (Some (arguments, rest))) = put r rest (wanted_for r.seconds r.state arguments)
taken_by r (Err fault) = (Some (Ends (fault_text fault)), record r { over = true })

-- what the first frame wants, if one has come, and what is left then
abbrev pub taken : Reader → Option Wanted × Reader
taken r = if r.over then (None, r) else taken_by r (first_of r.text)
