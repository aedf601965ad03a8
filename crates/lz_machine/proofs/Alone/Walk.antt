-- A walk of one actor alone: nothing changes under it, so that it finds the set as it is.
use Rattle.std.proofs.Common.{◌≡◌, inl, inr, ℕ, suc, ◌≤◌, not, Bool, true, false, List, [], ◌∷◌, None, refl, ap, ◌∙◌, subst, arith}
use Rattle.lz_slot.specs.{declared.{format.Format.{Format}, command.Command.TheVariants.{Has}}, Limits.{most_slots}}
use Rattle.lz_list.specs.{declared.walk.{Look.{Look}, Met.TheVariants.{Absent, Unmarked, Marked}}, Words.{Words, get}, Walks.{Hopped, More, End, wants, hopped}}
use Rattle.lz_list.{specs.Traces.{Trace, Begins, on, chain, chain_of, bucket_of, key_word, is_marked, member}, proofs.Traces.Absence.{begins_itself}}
use Rattle.lz_list.proofs.Traces.NodeBits.{node}
use Rattle.lz_flush.specs.{declared.need.Need.{Need, TheVariants.{Now, Sync as needs_sync}}, Settling.{may_answer}}
use Rattle.lz_vault.specs.Stages.{Cell}
use Rattle.lz_machine.specs.{declared.{actor.{Actor.{Actor}, LockPhase.TheVariants.{Nothing}}, event.Reply.TheVariants.{No}}, Yards.{Shape}, Calls.{hops_on, rests}}
use Rattle.lz_machine.{specs.{CallersSound.{View, IsLooking, HasMet, RestsNo}, Sound.{TraceSound}}, proofs.Steps.Walk.{GoesOn, once_some, hop_after}}
use Rattle.lz_machine.proofs.{Steps.Pin.{quiet_new}, Frames.Limbo.{shorter}}

-- two traces that begin each other are one
begins_same : (P R : Trace) → Begins P R → Begins R P → R ≡ P
begins_same [] R one other = other
begins_same (e ∷ P) R one (inl is) = is
begins_same (e ∷ P) R one (inr before) = absurd (omega (arith, shorter (e ∷ P) R one, shorter R P before))

-- what such a walk finds
module _ (shape : Shape) (words : Words) (P : Trace) (trace : TraceSound shape words P) (few : shape.slots ≤ most_slots) where
  absent_now : (k : ℕ) → RestsNo k P P → member k P ≡ false
  absent_now k rests = subst (λ (R : Trace). member k R ≡ false) (begins_same P rests.then rests.since.from rests.since.upto) rests.settled.no_member

  marked_now : (k s : ℕ) → HasMet shape.buckets k s true P P → member k P ≡ false
  marked_now k s met =
      let same : met.then ≡ P = begins_same P met.then met.since.from met.since.upto in
      let r = once_some P met.then (λ R. on 0 (chain shape.buckets (bucket_of shape.buckets k) R) (suc s) ≡ true) met.stood in
      let here : r.0 ≡ P = begins_same P r.0 r.1 (subst (λ (Q : Trace). Begins r.0 Q) same r.2) in
      let there : on 0 (chain_of shape.buckets k P) (suc s) ≡ true = subst (λ (R : Trace). on 0 (chain shape.buckets (bucket_of shape.buckets k) R) (suc s) ≡ true) here r.3 in
      let key : key_word s P ≡ k = subst (λ (R : Trace). key_word s R ≡ k) same met.key in
      let mark : is_marked s P ≡ true = subst (λ (R : Trace). is_marked s R ≡ true) same met.met in
      (node shape.buckets shape.slots k s P trace.lawful there key).is_member ∙ ap not mark

  -- the walk goes on, or found no member, or goes elsewhere
  abbrev pub Finds : ℕ → Hopped → Type 0
  Finds k (More look) = IsLooking shape.buckets k P P look
  Finds k (End pred curr Absent) = member k P ≡ false
  Finds k (End pred curr (Marked s flags)) = member k P ≡ false
  Finds k (End pred curr (Unmarked s flags)) = Unit {0}

  module _ (passes : ℕ) (format : Format) (cells : List Cell) (dead : Bool) (actor : Actor) (idle : actor.hold ≡ Nothing) (no_slot : actor.slot ≡ None) where
    abbrev v : View
    v = record { buckets = shape.buckets; passes = passes; format = format; cells = cells; dead = dead; actor = actor }

    finds : (k : ℕ) (h : Hopped) → GoesOn v (Has k) (hops_on (Has k) None h) P P None → Finds k h
    finds k (More look) on = on.relies.2
    finds k (End pred curr Absent) on = absent_now k on.relies.0.1
    finds k (End pred curr (Unmarked s flags)) on = tt
    finds k (End pred curr (Marked s flags)) on = go (may_answer flags) on
      where
        go : (need : Need) → GoesOn v (Has k) (rests s need No) P P None → member k P ≡ false
        go Now on = absent_now k on.relies.0.1
        go needs_sync on = marked_now k s on.relies.1

    pub walk_finds : (k : ℕ) (look : Look) → IsLooking shape.buckets k P P look → Finds k (hopped shape.buckets k look (get words (wants shape.buckets k look)))
    walk_finds k look looking = finds k (hopped shape.buckets k look (get words (wants shape.buckets k look)))
        (hop_after shape words P trace few P (quiet_new shape.buckets P P (omega arith)) (begins_itself P) passes format cells dead actor None (Has k) None look (record { hold = idle; none = refl }) no_slot tt looking)
