-- What a text comes to, also when it comes in pieces.
use Rattle.std.specs.{Prelude.{◌≡◌, ℕ, ◌≤◌, ◌<◌, List, [], ◌∷◌, ◌++◌, length, drop, Option, None, Some, IfSome, Ok, Err}, List.{concat}}
use Rattle.lz_resp.specs.{Limits.{most_frame}, Frames.{IsFrame, IsWithin}, Reading.{Front, first_of}, Keys.{IsRoom, at_first}}
use Rattle.lz_resp.specs.{Transactions.{item_in, state_after}, Replies.{fault_text}, declared.{naming.Naming.{Naming}, state.State.{State}, item.Item.{Item}}}
use Rattle.lz_resp.specs.declared.{item.Item.TheVariants.{Asks, Says, Lists, Tells, Ends}, fault.Fault.{Fault}, frames.Next.{Next}}
use Rattle.lz_resp.specs.declared.frames.Next.TheVariants.{Waits, Goes, Stops}

-- What comes first of a text: nothing yet; items after which nothing is read; or items, and the state and the text after them.
pub data Step : Type 0 where
  waits : Step
  stops : List Item → Step
  goes : List Item → State → List ℕ → Step

-- a frame's item, and what comes after it
abbrev pub step_by : Item → State → List ℕ → Step
step_by (Asks form requests) state rest = goes (Asks form requests ∷ []) state rest
step_by (Says text) state rest = goes (Says text ∷ []) state rest
step_by (Lists scan) state rest = goes (Lists scan ∷ []) state rest
step_by (Tells query) state rest = goes (Tells query ∷ []) state rest
step_by (Ends text) state rest = stops (Ends text ∷ [])

-- a frame of no arguments asks for nothing
abbrev pub step_with : State → List (List ℕ) → List ℕ → Step
step_with state [] rest = goes [] state rest
step_with state (argument ∷ arguments) rest = step_by (item_in state (argument ∷ arguments)) (state_after state (argument ∷ arguments)) rest

abbrev pub step_of : State → Front (List (List ℕ)) → Step
step_of state (Ok None) = waits
step_of state (Ok (Some p)) = step_with state p.0 p.1
step_of state (Err fault) = stops (Ends (fault_text fault) ∷ [])

unfoldable pub step : State → List ℕ → Step
step state text = step_of state (first_of text)

-- the items of a whole text in this state
pub data Items : State → List ℕ → List Item → Type 0 where
  unfinished : (state : State) (text : List ℕ) → step state text ≡ waits → Items state text []
  stopped : (state : State) (text : List ℕ) (items : List Item) → step state text ≡ stops items → Items state text items
  followed : (state : State) (text : List ℕ) (items : List Item) (next : State) (rest : List ℕ) (others : List Item)
      → step state text ≡ goes items next rest → Items next rest others → Items state text (items ++ others)

-- where a stream stands: what its frames find, and the text of the unfinished frame
pub record Place : Type 0 where
  pub state : State
  pub text : List ℕ

-- no text has come
abbrev pub start : Naming → Place
start naming = record { state = at_first naming; text = [] }

-- The items are the text's first ones: all where nothing is read after them, else all but those of what is left.
abbrev pub Reads : Place → List Item → Option Place → Type 0
Reads old items None = (rest : List ℕ) → Items old.state (old.text ++ rest) items
Reads old items (Some left) =
    (step left.state left.text ≡ waits) × ((rest : List ℕ) (others : List Item) → Items left.state (left.text ++ rest) others → Items old.state (old.text ++ rest) (items ++ others))

-- What a piece adds to the text that was kept.
abbrev pub Feeds : Option Place → List ℕ → List Item → Option Place → Type 0
Feeds None piece items new = (items ≡ []) × (new ≡ None)
Feeds (Some old) piece items new = Reads (record { state = old.state; text = old.text ++ piece }) items new

abbrev pub IsShort : Option Place → Type 0
IsShort place = IfSome place (λ kept. length kept.text ≤ most_frame)

-- what came first of a text was added, as it tells how the text goes on
abbrev pub Adds : Step → Next → List ℕ → List Item → Type 0
Adds first Waits text items = (first ≡ waits) × (items ≡ [])
Adds first (Goes state count) text items = first ≡ goes items state (drop count text)
Adds first Stops text items = first ≡ stops items

-- a frame has some bytes and at most so many
abbrev pub IsInside : Next → ℕ → Type 0
IsInside Waits most = Unit {0}
IsInside (Goes state count) most = IsRoom state.selected × (0 < count) × (count ≤ most)
IsInside Stops most = Unit {0}

-- The pieces were taken one after the other.
abbrev pub FeedsAll : Option Place → List (List ℕ) → List Item → Option Place → Type 0
FeedsAll old [] items new = (items ≡ []) × (new ≡ old)
FeedsAll old (piece ∷ pieces) items new =
    (first : List Item) × (mid : Option Place) × (others : List Item) × Feeds old piece first mid × FeedsAll mid pieces others new × (items ≡ first ++ others)

-- However a text is cut into pieces, what they give are the text's items.
abbrev pub AnyPieces : Type 0
AnyPieces =
    (naming : Naming) (pieces : List (List ℕ)) (items : List Item) (new : Option Place) → FeedsAll (Some (start naming)) pieces items new
    → Items (at_first naming) (concat pieces) items

-- Each text has items, and no others.
abbrev pub OneListOfItems : Type 0
OneListOfItems =
    (state : State) (text : List ℕ) → (items : List Item) × Items state text items × ((others : List Item) → Items state text others → others ≡ items)

-- A frame is read wherever one stands, whatever follows it.
abbrev pub FramesAreRead : Type 0
FramesAreRead = (text rest : List ℕ) (arguments : List (List ℕ)) → IsFrame text arguments → IsWithin text arguments → first_of (text ++ rest) ≡ Ok (Some (arguments, rest))

-- What is read is a frame, each byte of it.
abbrev pub FramesAreSpelled : Type 0
FramesAreSpelled =
    (text rest : List ℕ) (arguments : List (List ℕ)) → first_of text ≡ Ok (Some (arguments, rest))
    → (frame : List ℕ) × (text ≡ frame ++ rest) × IsFrame frame arguments × IsWithin frame arguments

-- Where a fault is told no frame stands, however the text goes on.
abbrev pub FaultsHaveNoFrame : Type 0
FaultsHaveNoFrame =
    (text rest frame others : List ℕ) (arguments : List (List ℕ)) (fault : Fault) → first_of text ≡ Err fault
    → text ++ rest ≡ frame ++ others → IsFrame frame arguments → IsWithin frame arguments → ⊥
