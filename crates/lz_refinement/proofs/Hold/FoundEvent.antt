-- The next event of a call in a hold, once the pin word that it looks at was found.
use Rattle.std.proofs.Common.{◌≡◌, ◌≢◌, ◌≤◌, ◌<◌, ℕ, List, ◌∷◌, refl, ap, ◌∙◌, subst}
use mathlib.Core.Bool.{false≢true}
use Rattle.lz_refinement.proofs.Vocabulary.{Command, Device, Event, Calling, Yard, Note, Part, Sizes, Knows, PinTold, note_by, trace_of, found_note, knowing, BoardId}
use Rattle.lz_refinement.proofs.Hold.{Joining.{joined, joined_turn}, OneHold.{Stepped, found_other, other_may, other_turn, stepped_turn}}
use Rattle.lz_refinement.{proofs.{Hold.PinSight.{found, found_turn, seen_range}, Moments.HeldMoments.{ComesTo, comes, finds}}, specs.declared.playing.Turn.{Turn}}
use Rattle.lz_refinement.specs.{Held.{IsNextOf, WentOn, found_for}, Holds.{HoldNotes, InHold, IsLocked, IsTurn, MayTurn, Turned, what_of}, Lives.{KeepsLife}}
use Rattle.lz_refinement.specs.Moments.{MomentsGoOn}
use Rattle.lz_machine.{specs.declared.event.{Event.TheVariants.{Invoke, SeePin}, Outcome.TheVariants.{Fault}}, proofs.Theorem.Readiness.{is_invoke}}

-- A pass with part h has joined the pen as hj, and the next event of its call k was found to be e.
pub record Finds (b : BoardId) (ns was : List Note) (y : Yard) (dev : Device) (h hj : Part) (k : Calling) (e : Event) : Type 0 where
  pub on : was ≡ found_for e ns
  pub part : hj ≡ knowing (trace_of b.opened ns) h
  pub hold : InHold b was y dev hj
  pub comes : ComesTo b ns was
  pub turn : IsTurn was h k e
  pub no_call : (c : Command) → e ≢ Invoke c

module _ (b board : BoardId) (same : board ≡ b) (ns mid : List Note) (y : Yard) (dev : Device) (h hm : Part) (locked : IsLocked b ns y dev) (knows : Knows board.sizes board.opened ns h) (told : PinTold board.sizes ns h.number h.pin)
    (notes : mid ≡ ns) (part : hm ≡ knowing (trace_of board.opened ns) h) (k : Calling) (e : Event) (next : IsNextOf h k e) where
  joint : InHold board mid y dev hm
  joint = joined b board same ns mid y dev h hm locked knows told notes part

  -- a pin word, where the event looks at one
  pub looks : h.sizes ≡ board.sizes → (was : List Note) (hj : Part) (q o v : ℕ) → e ≡ SeePin q o → PinTold board.sizes mid q v → (hm.number ≡ q → hm.pin ≡ v) → was ≡ found_note q v ∷ mid → hj ≡ hm
      → Finds board ns was y dev h hj k (SeePin q v)
  looks sized was hj q o v is found_told own noted carried =
      let look = subst (IsNextOf h k) is next in
      let range = subst (λ (s : Sizes). (1 ≤ q) × (q ≤ s.passes)) sized (seen_range h k q o look) in
      record {
        on = noted ∙ ap (λ r. found_note q v ∷ r) notes;
        part = carried ∙ part;
        hold = found board mid was y dev hm hj joint q v range found_told own noted carried;
        comes = finds board q v ns mid was notes noted;
        turn = found_turn mid was h k q o v look noted;
        no_call = λ c call. false≢true (ap is_invoke call);
      }

  pub others : ((q o : ℕ) → e ≢ SeePin q o) → ((c : Command) → e ≢ Invoke c) → Finds board ns mid y dev h hm k e
  others no_look no_call = record {
    on = found_other e no_look mid ns notes;
    part = part;
    hold = joint;
    comes = comes board ns mid notes;
    turn = other_turn mid h e no_look k next;
    no_call = no_call;
  }

-- so it may be played, and then the call has gone on
module _ (b : BoardId) (ns was : List Note) (y : Yard) (dev : Device) (h hj : Part) (k : Calling) (e : Event) (f : Finds b ns was y dev h hj k e) where
  pub may : MayTurn b.sizes was hj e
  may = other_may b.sizes was hj e f.no_call k (joined_turn was was h hj (trace_of b.opened ns) k e f.turn refl f.part)

  pub played : (is : List Note) (y' : Yard) (dev' : Device) (h' : Part) (t : Turn) → IsLocked b ns y dev → Knows b.sizes b.opened ns h → InHold b is y' dev' h' → MomentsGoOn b was is dev dev' → KeepsLife y dev y' dev'
      → (t.outcome ≡ Fault → dev.faults < dev'.faults) → HoldNotes b.opened was is (note_by hj.number (what_of y.vault.format e t.outcome) t.published.value) hj h'
      → ((c : Calling) → IsTurn was hj c e → Turned b.opened was hj c.command c.progress e t.outcome t.published.value) → Stepped b ns is y y' dev dev' t × WentOn b ns is k t h h'
  played is y' dev' h' t locked knows hold on life device told gave =
      stepped_turn b y.vault.format ns was is y y' dev dev' h hj h' (trace_of b.opened ns) locked knows f.comes f.hold f.part hold on life e f.no_call t device f.on told gave k f.turn
