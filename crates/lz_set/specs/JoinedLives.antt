-- Lives of sets follow on one another: each set was opened on a text that the life before it left.
use Rattle.std.specs.Prelude.{◌≡◌, ◌⊎◌, ℕ, IsTrue, List, [], ◌∷◌, ◌++◌}
use Rattle.lz_slot.specs.{Bytes.{Holds}, Histories.{Life, ChainTo}, Sets.{Keys}}
use Rattle.lz_disk.specs.{Devices.{Device}, Images.{IsImage}}
use Rattle.lz_yard.specs.Filling.{OpensYard}
use Rattle.lz_board.specs.{declared.view.Note.{Note}, Notes.{shape_of_sizes}, Opened.{opened_by}, Seats.{BoardId}}
use Rattle.lz_refinement.specs.{Holds.{sizes_of}, Marks.{marks_in}, Moments.{GrowsTo, IsReply}, RunningSets.{members_of}}
use Rattle.lz_set.specs.{Blanks.{BlankOver}, Left.{IsLeft}}

-- A closed set leaves a text: what is read then, or what a crash leaves of its disk.
abbrev pub MayLeave : Device → List ℕ → Type 0
MayLeave disk t = (t ≡ disk.medium.seen) ⊎ IsImage disk.medium t

-- A crash left the text after a reply was noted, which is the newest of these notes.
pub record AfterReply (disk : Device) (all seen : List Note) (t : List ℕ) : Type 0 where
  pub later : List Note
  pub reply : Note
  pub before : List Note
  pub splits : all ≡ later ++ reply ∷ before
  pub newest : seen ≡ reply ∷ before
  pub is_reply : IsReply reply.what
  pub left : disk.left_since reply.moment.at t

-- The life ended when so much was noted at the least, and left the text: it was closed; or a crash came, at some moment after the open, or
-- after a reply.
abbrev pub EndedAfter : Device → Device → List Note → List Note → List ℕ → Type 0
EndedAfter first disk all seen t = ((seen ≡ all) × MayLeave disk t) ⊎ (((seen ≡ []) × disk.left_since first.moment t) ⊎ AfterReply disk all seen t)

-- One life of a set over an honest device, as the clauses of `Set::open` and `Set::close` tell it, and how it ended.
pub record Lived {D : Type 0} (device : D → Device) : Type 0 where
  pub old : D
  pub opened : BlankOver D
  pub buckets : ℕ
  pub passes : ℕ
  pub opens : OpensYard (device old) (device opened.disk) buckets passes opened.yard
  pub sizes : opened.board.sizes ≡ sizes_of opened.yard.shape
  pub trace : opened.board.opened ≡ opened_by opened.yard.words
  pub honest : IsTrue (device old).honest
  pub notes : List Note
  pub closed : D
  pub left : IsLeft opened.board (device opened.disk) notes (device closed)
  pub seen : List Note
  pub text : List ℕ
  pub ends : EndedAfter (device opened.disk) (device closed) notes seen text

-- Each of these lives, the newest first, but the oldest began with an open that read the text which the one before it left.
abbrev pub Follow : {D : Type 0} (device : D → Device) → List (Lived device) → Type 0
Follow device [] = Unit {0}
Follow device (l ∷ []) = Unit {0}
Follow device (l ∷ before ∷ earlier) = ((device l.old).medium.seen ≡ before.text) × Follow device (before ∷ earlier)

-- what these notes of a board show, as a life
abbrev pub life_of : BoardId → List Note → Life
life_of b ns = record { start = members_of b.opened; history = marks_in (shape_of_sizes b.sizes) ns }

-- a life of which so much was seen, or more of what these notes show
pub record IsSeen (b : BoardId) (seen all : List Note) (life : Life) : Type 0 where
  pub then : List Note
  pub from : GrowsTo b seen then
  pub upto : GrowsTo b then all
  pub is : life ≡ life_of b then

-- these are the lives, each as far as it was seen by its end
abbrev pub AreSeen : {D : Type 0} (device : D → Device) → List (Lived device) → List Life → Type 0
AreSeen device [] [] = Unit {0}
AreSeen device [] (x ∷ xs) = ⊥
AreSeen device (l ∷ ls) [] = ⊥
AreSeen device (l ∷ ls) (x ∷ xs) = IsSeen l.opened.board l.seen l.notes x × AreSeen device ls xs

-- The lives of sets that follow on one another are a chain to the set that the newest left: it is what the calls of all of them made.
abbrev pub LivesJoin : (D : Type 0) → (D → Device) → Type 0
LivesJoin D device =
    (l : Lived device) (earlier : List (Lived device))
    → Follow device (l ∷ earlier)
    → (lives : List Life) × AreSeen device (l ∷ earlier) lives × ((S : Keys) × Holds l.text l.opened.board.sizes.slots S × ChainTo lives S)
