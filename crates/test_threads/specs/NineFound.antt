-- A board of two slots and five passes, where an open found key 9 in slot 0, and what is published when 12 is added in slot 1.
use Rattle.std.specs.Prelude.{◌≡◌, ◌^◌, ◌%◌, ◌∷◌, ℕ, false}
use Rattle.lz_list.specs.declared.{word.Word.TheVariants.{Head, Link, Key}, publishing.Change.TheVariants.{Added}}
use Rattle.lz_list.specs.{declared.{publishing.Publishing.TheVariants.{Linked, Settled, KeyPrepared, LinkPrepared}, layout.Sizes.{Sizes}}, Words.{Words, set}}
use Rattle.lz_list.specs.{Lists.{new_words}, Traces.{Trace}}
use Rattle.lz_board.specs.{declared.{board.Pen.{Pen}, pass.Pass.{Pass}}, Kept.{is_calling}, Notes.{trace_of}, Opened.{opened_by}}
use Rattle.lz_board.specs.Seats.{BoardId, notes, part, IsOf, IsPenOf}

abbrev pub sizes : Sizes
sizes = record { slots = 2; buckets = 1; passes = 5 }

abbrev pub nine_words : Words
nine_words = set (set (set (new_words 2 1 5) (Key 0) 9) (Link 0) (2 ^ 33)) (Head 0) 1

-- the trace with which its life began, those after each word of the node is written, and those after a pass linked it, and settled that
abbrev pub at_open : Trace
at_open = opened_by nine_words

abbrev pub key_stored : Trace
key_stored = KeyPrepared 1 12 ∷ at_open

abbrev pub link_stored : Trace
link_stored = LinkPrepared 1 0 ∷ key_stored

abbrev pub when_linked : ℕ → Trace
when_linked p = Linked 12 1 p ∷ link_stored

abbrev pub when_settled : ℕ → Trace
when_settled p = Settled 1 Added ∷ when_linked p

-- The pen of such a board, with a pass that is outside, where this trace was published.
pub record HasPublished (b : BoardId) (its_pen : Pen) (its_pass : Pass) (P : Trace) : Type 0 where
  pub sized : b.sizes ≡ sizes
  pub opened : b.opened ≡ opened_by nine_words
  pub pen : IsPenOf b its_pen
  pub pass : IsOf b its_pass
  pub outside : (part its_pass).pin % 2 ≡ 0
  pub trace : trace_of b.opened (notes its_pen) ≡ P

-- the pass has a seat at this board, and no call open
abbrev pub MayLook : BoardId → Pass → Type 0
MayLook b pass = IsOf b pass × (is_calling b.sizes (part pass).steps ≡ false)
