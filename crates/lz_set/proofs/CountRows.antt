-- Worked rows: what isn't counted of the slots that are open for sure.
use Rattle.std.proofs.Common.{◌≡◌, ℕ, suc, List, [], ◌∷◌, ◌++◌, sym, ap, ◌∙◌, subst, arith}
use Rattle.lz_vault.specs.{Opens.{open_count}, Stages.{Cell}, declared.vault.Stage.{Stage, TheVariants.{Closed, Torn, KeyLoose, Keyed, Opening, Open, Closing}}}
use Rattle.lz_list.specs.{declared.publishing.Publishing.TheVariants.{Linked as linked}, Traces.{Trace}}
use Rattle.lz_board.specs.{declared.view.{Note.{Note}, Part.{Part}}, Notes.{trace_of}, Seats.{BoardId}}
use Rattle.lz_refinement.specs.NotedRuns.{IsTied}
use Rattle.lz_set.{specs.Counts.{CountsOpen}, proofs.TiedRows.{publishes_in_a_call, publishing_call, replies_unasked, unasked}}

-- a slot of 12 at this stage
abbrev slot : Stage → Cell
slot stage = record { stage = stage; key = 12 }

module _ (b : BoardId) (before after : Part) where
  counts : (cells : List Cell) (n : ℕ) (h : CountsOpen b before after n) → h.yard.vault.cells ≡ cells → n ≡ open_count cells
  counts cells n h is = h.count ∙ ap (λ (l : List Cell). open_count l) is

  -- a slot isn't counted whose opening no sync has covered yet, nor one that is being closed, nor any other that isn't open
  opened_loosely : (h : CountsOpen b before after 1) → h.yard.vault.cells ≡ slot Opening ∷ [] → ⊥
  opened_loosely h is = let one = counts (slot Opening ∷ []) 1 h is in omega (arith, one)

  being_closed : (h : CountsOpen b before after 1) → h.yard.vault.cells ≡ slot Closing ∷ [] → ⊥
  being_closed h is = let one = counts (slot Closing ∷ []) 1 h is in omega (arith, one)

  not_opened : (h : CountsOpen b before after 1) → h.yard.vault.cells ≡ slot Closed ∷ slot Torn ∷ slot KeyLoose ∷ slot Keyed ∷ [] → ⊥
  not_opened h is = let one = counts (slot Closed ∷ slot Torn ∷ slot KeyLoose ∷ slot Keyed ∷ []) 1 h is in omega (arith, one)

  -- none is left out whose opening is durable, or counted twice
  left_out : (h : CountsOpen b before after 1) → h.yard.vault.cells ≡ slot Open ∷ slot Opening ∷ slot Open ∷ [] → ⊥
  left_out h is = let two = counts (slot Open ∷ slot Opening ∷ slot Open ∷ []) 1 h is in omega (arith, two)

  counted_twice : (h : CountsOpen b before after 2) → h.yard.vault.cells ≡ slot Open ∷ [] → ⊥
  counted_twice h is = let one = counts (slot Open ∷ []) 2 h is in omega (arith, one)

  -- what was counted is of a run, in which no pass is answered that has made no call, and none publishes as its call begins
  of_no_run : (n : ℕ) (h : CountsOpen b before after n) → h.notes ≡ unasked ∷ [] → ⊥
  of_no_run n h is = replies_unasked b.opened h.yard h.honest h.medium (subst (λ (ns : List Note). IsTied b.opened ns h.yard h.honest h.medium) is h.tied)

  of_no_call : (n : ℕ) (h : CountsOpen b before after n) (ns : List Note) → h.notes ≡ publishing_call ∷ ns → ⊥
  of_no_call n h ns is = publishes_in_a_call b.opened ns h.yard h.honest h.medium (subst (λ (l : List Note). IsTied b.opened l h.yard h.honest h.medium) is h.tied)

  -- the moment isn't one before something that the pass had seen
  counted_before : (n : ℕ) (h : CountsOpen b before after n) → before.known ≡ linked 12 0 1 ∷ [] → trace_of b.opened h.notes ≡ [] → ⊥
  counted_before n h saw none = go h.since.0 (sym none ∙ h.since.1 ∙ ap (λ (P : Trace). h.since.0 ++ P) saw)
    where
      go : (more : Trace) → [] ≡ more ++ linked 12 0 1 ∷ [] → ⊥
      go [] is = absurd cc
      go (e ∷ more) is = absurd cc

  -- nor one after which the pass hasn't seen what was published by then
  saw_too_little : (n : ℕ) (h : CountsOpen b before after n) → after.known ≡ [] → trace_of b.opened h.notes ≡ linked 12 0 1 ∷ [] → ⊥
  saw_too_little n h unseen some = let known = sym unseen ∙ ap (λ (p : Part). p.known) h.seen ∙ some in absurd cc

  -- and the pass isn't changed otherwise
  goes_inside : (n : ℕ) → after.pin ≡ suc before.pin → CountsOpen b before after n → ⊥
  goes_inside n moved h = let same = ap (λ (p : Part). p.pin) h.seen in omega (arith, moved, same)

  makes_a_call : (n : ℕ) (step : Note) → after.steps ≡ step ∷ [] → before.steps ≡ [] → CountsOpen b before after n → ⊥
  makes_a_call n step one none h = let same = sym one ∙ ap (λ (p : Part). p.steps) h.seen ∙ none in absurd cc
