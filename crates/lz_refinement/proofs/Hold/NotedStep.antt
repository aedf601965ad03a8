-- What a hold has once the step of its pass is noted, whichever event that plays.
use Rattle.std.proofs.Common.{◌≡◌, ℕ, suc, List, sym, subst, arith, eq-eqb, ne_eqb, Some, None}
use Rattle.lz_refinement.proofs.Vocabulary.{Device, Trace, Lawful, Yard, Told, Sizes, Note, Part, stamped, trace_of, MayNote, KeepsPin, MovesPin, Writes, noted}
use Rattle.lz_refinement.{proofs.{Vocabulary.{noted_part, moved_part, BoardId}, Hold.Exchanges.{Exchange, IsExchange}}, specs.Holds.{IsLocked, InHold, HoldNotes}}
use Rattle.lz_board.proofs.Upkeep.PartUpkeep.{trace_noted, knows_noted, knows_moved, told_own}

-- The step may be noted with its exchange, and the lock keeps its invariant with the note.
pub record NotedStep (b : BoardId) (ns : List Note) (h : Part) (z' : Yard) (told : Told) (dev' : Device) (n : Note) : Type 0 where
  pub may : MayNote b.sizes b.opened ns h n
  pub locked : IsLocked b (noted b.opened ns h n) z' dev'
  pub keeps : (x : Exchange) → IsExchange z'.words told.changed told.before (Some x) → KeepsPin h n
  pub writes : (x : Exchange) → IsExchange z'.words told.changed told.before (Some x) → Writes b.sizes (trace_of b.opened ns) x.word x.before x.after n.published
  pub moves : IsExchange z'.words told.changed told.before None → MovesPin h n

module _ (b : BoardId) (ns : List Note) (y : Yard) (dev : Device) (h : Part) (hold : InHold b ns y dev h) (z' : Yard) (told : Told) (dev' : Device) (n : Note) (s : NotedStep b ns h z' told dev' n) where
  lawful : Lawful h.sizes.buckets h.sizes.slots (trace_of b.opened (noted b.opened ns h n))
  lawful = subst (λ (q : Sizes × Trace). Lawful q.0.buckets q.0.slots q.1) (λ i. (sym hold.knows.sized i, sym (trace_noted b.sizes b.opened ns h n hold.knows s.may) i)) s.may.lawful

  -- it leaves the pass's pin word
  module _ (keeps : KeepsPin h n) where
    pub hold_noted : InHold b (noted b.opened ns h n) z' dev' (noted_part b.opened ns n h)
    hold_noted = record {
      locked = s.locked;
      knows = knows_noted b.sizes b.opened ns h n hold.knows s.may keeps;
      told = told_own b.sizes b.opened ns h n hold.knows s.may h.pin keeps hold.told.worn;
    }

    pub holds_noted : (m : ℕ) (made : Note) → n ≡ stamped m made → HoldNotes b.opened ns (noted b.opened ns h n) made h (noted_part b.opened ns n h)
    holds_noted m made is = grind (arith, keeps, eq-eqb, lawful, hold_noted)

  -- it counts it up
  module _ (moves : MovesPin h n) where
    pub hold_moved : InHold b (noted b.opened ns h n) z' dev' (moved_part b.opened ns n h)
    hold_moved = let worn = moves.1 in record {
      locked = s.locked;
      knows = knows_moved b.sizes b.opened ns h n hold.knows s.may moves;
      told = told_own b.sizes b.opened ns h n hold.knows s.may (suc h.pin) moves.0 worn;
    }

    pub holds_moved : (m : ℕ) (made : Note) → n ≡ stamped m made → HoldNotes b.opened ns (noted b.opened ns h n) made h (moved_part b.opened ns n h)
    holds_moved m made is = grind (arith, moves, ne_eqb, lawful, hold_moved)
