-- The flow chart of a command: where a call goes on after an event. A property of the next place is proved by one split over its edges.
use Rattle.std.proofs.Common.{arith, ℕ, ◌+◌, ◌-◌, nat_lt, if◌then◌else◌, Bool, true, false, length, Option, Some, None}
use Rattle.std.proofs.lemmas.Bool.Decides.{nat_tests, eqb_tells}
use Rattle.lz_slot.specs.{declared.command.Command.{Command, TheVariants.{Add, Remove, Has}}, Sets.{key_of}}
use Rattle.lz_allot.specs.declared.counts.Counts.{Counts}
use Rattle.lz_list.specs.{declared.{place.Place.{Place}, walk.{Look.{Look, TheVariants.{AtHead}}, Met.{Met}}}, Walks.{Hopped, hopped}}
use Rattle.lz_flush.specs.declared.need.Need.{Need, TheVariants.{Now, Sync as needs_sync}}
use Rattle.lz_machine.specs.declared.event.Outcome.{Outcome, TheVariants.{Value, Slot, NoSlot, Taken, True, False, Early, Worn, OldFile, Fault, Dead}}
use Rattle.lz_machine.specs.declared.event.Reply.TheVariants.{Yes, No, Full, Worn as SaysWorn, OldFile as SaysOldFile, Halted, Device}
use Rattle.lz_machine.specs.declared.caller.{Sequence.{Sequence, TheVariants.{Resting, Writing, Adding, Removing, Releasing, Halting}}, Progress.{Progress}}
use Rattle.lz_machine.specs.declared.caller.Progress.TheVariants.{Playing, LoadsHalt, Walking, Reserving, SeeingPins, Claiming, Checking, Answering}
use Rattle.lz_machine.specs.{Yards.{Shape}, Calls.{events_of, goes_on, rests, walked, hops_on, changes, follows, progress_after}}

-- From a place, by what its event answered, to the next place.
pub data Edge (shape : Shape) : Command → Progress → Outcome → Progress → Type 0 where
  -- the device failed, the vault is dead, the pass is worn, the file is too old
  fails : (c : Command) (at : Progress) → Edge shape c at Fault (Playing (Halting Device) 0)
  stops : (c : Command) (at : Progress) → Edge shape c at Dead (Playing (Halting Halted) 0)
  wears : (c : Command) (at : Progress) → Edge shape c at Worn (Answering SaysWorn)
  refuses : (c : Command) (at : Progress) → Edge shape c at OldFile (Answering SaysOldFile)
  -- an event is played again, or the sync before a settling
  again : (c : Command) (at : Progress) (o : Outcome) → Edge shape c at o at
  back : (c : Command) (q : Sequence) (i : ℕ) → Edge shape c (Playing q i) Early (Playing q (i - 1))
  -- the next event of a sequence, and what follows the last one
  on : (c : Command) (q : Sequence) (i : ℕ) (o : Outcome) → Edge shape c (Playing q i) o (Playing q (i + 1))
  past : (c : Command) (q : Sequence) (i : ℕ) (o : Outcome) → Edge shape c (Playing q i) o (goes_on q)
  -- the halt word
  halted : (c : Command) → Edge shape c LoadsHalt (Value 1) (Answering Halted)
  begins : (c : Command) (value : ℕ) → Edge shape c LoadsHalt (Value value) (Walking None AtHead)
  -- a walk goes on, and ends: with an answer, with a rest on a node first, with a wish for a slot, or with a claim
  hops : (c : Command) (aim : Option ℕ) (look next : Look) (value : ℕ) → Edge shape c (Walking aim look) (Value value) (Walking aim next)
  tells_yes : (k : ℕ) (aim : Option ℕ) (look : Look) (value : ℕ) → Edge shape (Has k) (Walking aim look) (Value value) (Answering Yes)
  tells_no : (c : Command) (aim : Option ℕ) (look : Look) (value : ℕ) → Edge shape c (Walking aim look) (Value value) (Answering No)
  rests_yes : (k : ℕ) (aim : Option ℕ) (look : Look) (value s : ℕ) → Edge shape (Has k) (Walking aim look) (Value value) (Playing (Resting s Yes) 0)
  rests_no : (c : Command) (aim : Option ℕ) (look : Look) (value s : ℕ) → Edge shape c (Walking aim look) (Value value) (Playing (Resting s No) 0)
  asks : (k : ℕ) (look : Look) (value : ℕ) → Edge shape (Add k) (Walking None look) (Value value) (Reserving false)
  claims_place : (k slot : ℕ) (look : Look) (value : ℕ) (pred : Place) (curr : Option ℕ) → Edge shape (Add k) (Walking (Some slot) look) (Value value) (Claiming (Some slot) pred curr)
  claims_node : (k : ℕ) (aim : Option ℕ) (look : Look) (value : ℕ) (pred : Place) (curr : Option ℕ) → Edge shape (Remove k) (Walking aim look) (Value value) (Claiming aim pred curr)
  -- a slot is found, or asked for again once all pins were seen
  finds : (c : Command) (seen : Bool) (s : ℕ) → Edge shape c (Reserving seen) (Slot s) (Playing (Writing s) 0)
  sees : (c : Command) (counts : Counts) → Edge shape c (Reserving false) (NoSlot counts) (SeeingPins 1)
  sees_next : (c : Command) (p : ℕ) (o : Outcome) → Edge shape c (SeeingPins p) o (SeeingPins (p + 1))
  asks_again : (c : Command) (p : ℕ) (o : Outcome) → Edge shape c (SeeingPins p) o (Reserving true)
  fills : (c : Command) (counts : Counts) → Edge shape c (Reserving true) (NoSlot counts) (Answering (Full counts))
  -- what was claimed is tested, and then changed or let go
  tests : (c : Command) (aim : Option ℕ) (pred : Place) (curr : Option ℕ) → Edge shape c (Claiming aim pred curr) Taken (Checking aim curr)
  adds : (k s : ℕ) (curr : Option ℕ) → Edge shape (Add k) (Checking (Some s) curr) True (Playing (Adding s) 0)
  removes : (k : ℕ) (aim : Option ℕ) (s : ℕ) → Edge shape (Remove k) (Checking aim (Some s)) True (Playing (Removing s) 0)
  releases : (c : Command) (aim curr : Option ℕ) (o : Outcome) → Edge shape c (Checking aim curr) o (Playing (Releasing aim) 0)

-- Each next place is on an edge.
module _ (shape : Shape) where
  rests_edge : (c : Command) (aim : Option ℕ) (look : Look) (value s : ℕ) (need : Need) → Edge shape c (Walking aim look) (Value value) (rests s need No)
  rests_edge c aim look value s Now = tells_no c aim look value
  rests_edge c aim look value s needs_sync = rests_no c aim look value s

  met_edge : (k : ℕ) (aim : Option ℕ) (look : Look) (value s : ℕ) (need : Need) → Edge shape (Has k) (Walking aim look) (Value value) (rests s need Yes)
  met_edge k aim look value s Now = tells_yes k aim look value
  met_edge k aim look value s needs_sync = rests_yes k aim look value s

  walked_edge : (c : Command) (aim : Option ℕ) (look : Look) (value : ℕ) (pred : Place) (curr : Option ℕ) (met : Met) → Edge shape c (Walking aim look) (Value value) (walked c aim pred curr met)
  walked_edge c aim look value pred curr met = grind (arith, nat_tests, met_edge, rests_edge, asks, claims_place, claims_node, tells_no)

  hops_edge : (c : Command) (aim : Option ℕ) (look : Look) (value : ℕ) (x : Hopped) → Edge shape c (Walking aim look) (Value value) (hops_on c aim x)
  hops_edge c aim look value x = grind (arith, nat_tests, hops, walked_edge)

  changes_edge : (c : Command) (aim curr : Option ℕ) → Edge shape c (Checking aim curr) True (changes c aim curr)
  changes_edge c aim curr = grind (arith, nat_tests, adds, removes, releases)

  follows_edge : (c : Command) (at : Progress) (o : Outcome) → Edge shape c at o (follows shape c at o)
  follows_edge c (Playing q i) Early = back c q i
  follows_edge c (Playing q i) o =
      elim (nat_lt (i + 1) (length (events_of c q))) as (λ (more : Bool). Edge shape c (Playing q i) o (if more then Playing q (i + 1) else goes_on q)) [ true ↦ on c q i o | false ↦ past c q i o ]
  follows_edge c LoadsHalt (Value value) = grind (arith, nat_tests, eqb_tells, halted, begins)
  follows_edge c (Walking aim look) (Value value) = hops_edge c aim look value (hopped shape.buckets (key_of c) look value)
  follows_edge c (Reserving seen) (Slot s) = finds c seen s
  follows_edge c (Reserving false) (NoSlot counts) = sees c counts
  follows_edge c (Reserving true) (NoSlot counts) = fills c counts
  follows_edge c (SeeingPins p) o =
      elim (nat_lt p shape.passes) as (λ (more : Bool). Edge shape c (SeeingPins p) o (if more then SeeingPins (p + 1) else Reserving true)) [ true ↦ sees_next c p o | false ↦ asks_again c p o ]
  follows_edge c (Claiming aim pred curr) Taken = tests c aim pred curr
  follows_edge c (Checking aim curr) True = changes_edge c aim curr
  follows_edge c (Checking aim curr) False = releases c aim curr False
  follows_edge c at o = again c at o

  pub next_edge : (c : Command) (at : Progress) (o : Outcome) → Edge shape c at o (progress_after shape c at o)
  next_edge c at Fault = fails c at
  next_edge c at Dead = stops c at
  next_edge c at Worn = wears c at
  next_edge c at OldFile = refuses c at
  next_edge c at o = follows_edge c at o
