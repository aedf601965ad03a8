-- What a text comes to when it comes in pieces.
use Rattle.std.specs.{Prelude.{◌≡◌, ◌↔◌, ℕ, ◌≤◌, Bool, true, false, List, [], ◌∷◌, ◌++◌, length, Option, None, Some, IfSome}, List.{concat}}
use Rattle.lz_proto.specs.{declared.{request.Request.TheVariants.{Quit}, fault.Bad.{Bad}, item.Item.{Item, TheVariants.{Asks, Faulty}}}, Limits.{most_kept}}
use Rattle.lz_proto.specs.Lines.{IsItem, Items, has_line_feed}

-- The items are the text's first ones: up to `quit` where nothing is left, else all but those of what is left.
abbrev pub Reads : List ℕ → List Item → Option (List ℕ) → Type 0
Reads text items None = (rest : List ℕ) → Items (text ++ rest) items
Reads text items (Some left) =
    (has_line_feed left ≡ false) × ((rest : List ℕ) (more : List Item) → Items (left ++ rest) more → Items (text ++ rest) (items ++ more))

-- What a piece adds to the text that was kept: nothing after `quit`.
abbrev pub Feeds : Option (List ℕ) → List ℕ → List Item → Option (List ℕ) → Type 0
Feeds None piece items new = (items ≡ []) × (new ≡ None)
Feeds (Some kept) piece items new = Reads (kept ++ piece) items new

abbrev pub faults_of : Option Bad → List Item
faults_of None = []
faults_of (Some bad) = Faulty bad ∷ []

-- the fault of the text that was kept, where the input ends there
abbrev pub Ends : Option (List ℕ) → Option Bad → Type 0
Ends None fault = fault ≡ None
Ends (Some kept) fault = Items kept (faults_of fault)

abbrev pub IsShort : Option (List ℕ) → Type 0
IsShort kept = IfSome kept (λ text. length text ≤ most_kept)

-- The pieces were taken one after the other.
abbrev pub FeedsAll : Option (List ℕ) → List (List ℕ) → List Item → Option (List ℕ) → Type 0
FeedsAll kept [] items new = (items ≡ []) × (new ≡ kept)
FeedsAll kept (piece ∷ pieces) items new =
    (first : List Item) × (mid : Option (List ℕ)) × (rest : List Item) × Feeds kept piece first mid × FeedsAll mid pieces rest new × (items ≡ first ++ rest)

-- However a text is cut into pieces, what they give and the fault at the end are the text's items.
abbrev pub AnyPieces : Type 0
AnyPieces =
    (pieces : List (List ℕ)) (items : List Item) (kept : Option (List ℕ)) (fault : Option Bad) → FeedsAll (Some []) pieces items kept → Ends kept fault
    → Items (concat pieces) (items ++ faults_of fault)

-- Each text has items, and no others.
abbrev pub OneListOfItems : Type 0
OneListOfItems = (text : List ℕ) → (items : List Item) × Items text items × ((others : List Item) → Items text others → others ≡ items)

-- The item of a line was added. The answer tells whether it is `quit`.
pub record Adds (line : List ℕ) (item : Item) (old new : List Item) (is_quit : Bool) : Type 0 where
  pub says : IsItem line item
  pub added : new ≡ old ++ item ∷ []
  pub told : (is_quit ≡ true) ↔ (item ≡ Asks Quit)
