-- What a pass that joins the pen brings into a hold.
use Rattle.std.proofs.Common.{◌≡◌, ◌+◌, ◌<◌, List, sym, subst, arith, Option}
use Rattle.lz_refinement.proofs.Vocabulary.{Device, Command, Publishing, Trace, Event, Outcome, Progress, Calling, Yard, last_pin, Note, Part, trace_of, Knows}
use Rattle.lz_refinement.{proofs.Vocabulary.{PinTold, knowing, noted_part, moved_part, Pass, BoardId, IsAtHand}, specs.Holds.{IsLocked, InHold, IsTurn, Turned}}
use Rattle.lz_board.proofs.Upkeep.PartUpkeep.{knows_knowing}

pub joined : (b board : BoardId) → board ≡ b → (ns ns' : List Note) (y : Yard) (dev : Device) (h h' : Part)
    → IsLocked b ns y dev → Knows board.sizes board.opened ns h → PinTold board.sizes ns h.number h.pin → ns' ≡ ns → h' ≡ knowing (trace_of board.opened ns) h → InHold board ns' y dev h'
joined b board same ns ns' y dev h h' l k told notes part = grind (arith, knows_knowing)

pub joined_turn : (ns ns' : List Note) (h h' : Part) (seen : Trace) (c : Calling) (e : Event) → IsTurn ns h c e → ns' ≡ ns → h' ≡ knowing seen h → IsTurn ns' h' c e
joined_turn ns ns' h h' seen c e turn notes part = subst (λ (q : List Note × Part). IsTurn q.0 q.1 c e) (λ i. (sym notes i, sym part i)) record {
  call = record { next = turn.call.next; at = turn.call.at; pass = turn.call.pass };
  event = turn.event;
  load = turn.load;
  found = turn.found;
}

-- of what a turn gave nothing rests on what the pass has seen
pub seen_turned : (opened : Trace) (ns ns' : List Note) (h h' : Part) (seen : Trace) (c : Command) (at : Progress) (e : Event) (o : Outcome) (x : Option Publishing) → ns' ≡ ns → h' ≡ knowing seen h → Turned opened ns' h' c at e o x → Turned opened ns h c at e o x
seen_turned opened ns ns' h h' seen c at e o x notes part gave = unseen (subst (λ (q : List Note × Part). Turned opened q.0 q.1 c at e o x) (λ i. (notes i, part i)) gave)
  where
    unseen : Turned opened ns (knowing seen h) c at e o x → Turned opened ns h c at e o x
    unseen t = record {
      start = t.start;
      service = t.service;
      medium = t.medium;
      history = t.history;
      reached = t.reached;
      shape = t.shape;
      caller = t.caller;
      call = t.call;
      command = t.command;
      progress = t.progress;
      next = t.next;
      done = t.done;
      failed = t.failed;
      pin = t.pin;
      stands = t.stands;
    }

-- the pass has its number and its pin word at hand after a note of it too
pub hand_noted : (b : BoardId) (p p' : Pass) (h h' : Part) (opened : Trace) (ns : List Note) (n : Note) → IsAtHand b p h → p' ≡ p → h' ≡ noted_part opened ns n h → IsAtHand b p' h'
hand_noted b p p' h h' opened ns n hand same part = grind arith

-- and after one that counts up its pin word
pub hand_moved : (b : BoardId) (p p' : Pass) (h h' : Part) (opened : Trace) (ns : List Note) (n : Note) → IsAtHand b p h → (p'.number ≡ p.number) × (p'.pin ≡ p.pin + 1) → h' ≡ moved_part opened ns n h → h.pin < last_pin → IsAtHand b p' h'
hand_moved b p p' h h' opened ns n hand same part below = grind arith
