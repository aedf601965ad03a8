-- The pen finds a pin word in a hold, and notes it.
use Rattle.std.proofs.Common.{◌≡◌, ℕ, true, List, [], ◌∷◌, refl, sym, ap, ◌∙◌, subst, arith, eq-eqb, ne_eqb, le_refl, ◌≤◌, if◌then◌else◌}
use Rattle.std.proofs.lemmas.Bool.{cases_eq}
use Rattle.lz_refinement.proofs.Vocabulary.{Device, Yard, Calling, HasPass, Sizes, Note, Part, pin_after, is_calling, PinTold, found_note, BoardId}
use Rattle.lz_refinement.{proofs.{Reuse.EventUpkeep.{silent_told}, Hold.CallStart.{found_tied}}, specs.{Held.{IsNextOf}, Holds.{IsLocked, InHold, IsTurn}}}
use Rattle.lz_machine.specs.declared.event.Event.TheVariants.{SeePin}
use Rattle.lz_board.proofs.Upkeep.{Splice.{other_step}, PartUpkeep.{knows_found}}

found_locked : (b : BoardId) (ns : List Note) (y : Yard) (dev : Device) → IsLocked b ns y dev → (q v : ℕ) → 1 ≤ q → q ≤ b.sizes.passes → PinTold b.sizes ns q v → IsLocked b (found_note q v ∷ ns) y dev
found_locked b ns y dev l q v low high told =
    let passes : b.sizes.passes ≡ y.shape.passes = ap (λ (s : Sizes). s.passes) l.sizes in
    record {
      sizes = l.sizes;
      pins = l.pins;
      tied = found_tied b.opened ns y dev.honest dev.medium l.tied q v low (omega (arith, high, passes)) (subst (λ (s : Sizes). PinTold s ns q v) l.sizes told);
      reuse = silent_told b.sizes b.opened 0 [] ns (found_note q v) y l.reuse refl;
    }

found_told : (z : Sizes) (ns : List Note) (p pin q v : ℕ) → 1 ≤ p → (p ≡ q → pin ≡ v) → PinTold z ns p pin → PinTold z (found_note q v ∷ ns) p pin
found_told z ns p pin q v low same told = grind (arith, eq-eqb, le_refl, ne_eqb, other_step, cases_eq)

found_hold : (b : BoardId) (ns : List Note) (y : Yard) (dev : Device) (h : Part) → InHold b ns y dev h → (q v : ℕ) → 1 ≤ q → q ≤ b.sizes.passes → PinTold b.sizes ns q v → (h.number ≡ q → h.pin ≡ v) → InHold b (found_note q v ∷ ns) y dev h
found_hold b ns y dev h hold q v low high told own = record {
  locked = found_locked b ns y dev hold.locked q v low high told;
  knows = knows_found b.sizes b.opened ns q v h hold.knows own (λ calling. hold.told.calling (subst (λ l. is_calling b.sizes l ≡ true) (sym hold.knows.noted) calling));
  told = found_told b.sizes ns h.number h.pin q v hold.knows.numbered.0 own hold.told;
}

-- after it the hold goes on
pub found : (b : BoardId) (ns ns' : List Note) (y : Yard) (dev : Device) (h h' : Part) → InHold b ns y dev h → (q v : ℕ) → (1 ≤ q) × (q ≤ b.sizes.passes) → PinTold b.sizes ns q v → (h.number ≡ q → h.pin ≡ v)
    → ns' ≡ found_note q v ∷ ns → h' ≡ h → InHold b ns' y dev h'
found b ns ns' y dev h h' hold q v range told own notes part = subst (λ (x : List Note × Part). InHold b x.0 y dev x.1) (λ i. (sym notes i, sym part i)) (found_hold b ns y dev h hold q v range.0 range.1 told own)

-- and a look at that word is the next event of a call that looks at it
pub found_turn : (ns ns' : List Note) (h : Part) (c : Calling) (q o v : ℕ) → IsNextOf h c (SeePin q o) → ns' ≡ found_note q v ∷ ns → IsTurn ns' h c (SeePin q v)
found_turn ns ns' h c q o v next notes = grind (arith, eq-eqb)

-- the pass that is looked at is one of the board's
pub seen_range : (h : Part) (c : Calling) (q v : ℕ) → IsNextOf h c (SeePin q v) → (1 ≤ q) × (q ≤ h.sizes.passes)
seen_range h c q v next = subst (HasPass h.sizes.passes) (sym next.event) next.call.pass

-- the pass's own pin word, once it was found, is the notes'
pub own_found : (ns ns' : List Note) (h h' : Part) (v : ℕ) → h.pin ≡ v → ns' ≡ found_note h.number v ∷ ns → h' ≡ h → pin_after h'.number ns' ≡ h'.pin
own_found ns ns' h h' v own notes part = subst (λ (x : List Note × Part). pin_after x.1.number x.0 ≡ x.1.pin) (λ i. (sym notes i, sym part i)) (ap (λ b. if b then v else pin_after h.number ns) (eq-eqb h.number h.number refl) ∙ sym own)
