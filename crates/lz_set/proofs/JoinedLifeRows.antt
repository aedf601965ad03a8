-- Worked rows: what no lives of sets that follow on one another are.
use Rattle.std.proofs.Common.{◌≡◌, ℕ, true, List, [], ◌∷◌, ◌++◌, None, refl, sym, arith}
use mathlib.Core.Bool.{false≢true}
use Rattle.lz_slot.specs.{declared.{command.Command.TheVariants.{Add}, format.Format.TheVariants.{Two}, history.HistoryEvent.TheVariants.{Call, Answer}}, Bytes.{Holds}}
use Rattle.lz_slot.specs.{Histories.{History, ChainTo, Fits}, Sets.{Keys}}
use Rattle.lz_list.specs.declared.publishing.Publishing.TheVariants.{Linked as linked}
use Rattle.lz_machine.{specs.Alone.{IsPlain}, proofs.{Alone.Service.{served}, Open.FirstPoint.{one_set}}}
use Rattle.lz_board.specs.{declared.view.What.TheVariants.{Called}, Notes.{note_by}}
use Rattle.lz_refinement.specs.{Holds.{no_board}, Moments.{GrowsTo}, RunningSets.{members_of}}

abbrev nothing : Keys
nothing = members_of []

-- a set that begins with 12 was opened on no text that holds nothing
no_other_keys : (t : List ℕ) → Holds t 1 nothing → Holds t 1 (members_of (linked 12 0 1 ∷ [])) → ⊥
no_other_keys t none one = false≢true (one_set t 1 nothing (members_of (linked 12 0 1 ∷ [])) none one 12)

-- a life in which the adding of 12 was answered yes
abbrev added : History
added = Answer 1 true ∷ Call 1 1 (Add 12) ∷ []

has_added : (L : List ℕ) (T : Keys) → Fits nothing added L T → T 12 ≡ true
has_added L T fits = plain (served 2 added nothing L T (refl, omega arith, tt) refl fits)
  where
    plain : IsPlain nothing added T → T 12 ≡ true
    plain h = sym (h.2.3 12)

-- so the next doesn't begin with nothing
not_forgotten : (T : Keys) → ChainTo (record { start = nothing; history = [] } ∷ record { start = nothing; history = added } ∷ []) T → ⊥
not_forgotten T chain = false≢true (has_added chain.2.0 nothing chain.2.1)

-- nor does it show less than what was seen by its end
not_cut_short : GrowsTo no_board (note_by 1 (Called (Add 12) Two) None ∷ []) [] → ⊥
not_cut_short h = go h.new h.shows
  where
    go : (new : History) → [] ≡ new ++ Call 1 1 (Add 12) ∷ [] → ⊥
    go [] is = absurd cc
    go (m ∷ new) is = absurd cc
