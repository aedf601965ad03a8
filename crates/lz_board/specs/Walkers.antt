-- What a walker knows that holds no lock: P0 is the trace at its pin, P what it has seen, k its key.
use Rattle.std.specs.Prelude.{◌≡◌, ℕ, suc, ◌+◌, ◌-◌, ◌*◌, ◌<◌, ◌≤◌, Bool, true, false, Option, Some, None}
use Rattle.lz_slot.specs.Limits.{most_slots}
use Rattle.lz_list.specs.declared.{flags.Flags.{Flags}, place.Place.{Place, TheVariants.{Node}}, walk.Look.{Look, TheVariants.{AtHead, AtKey, AtMet, AtBelow}}}
use Rattle.lz_list.specs.{declared.{walk.Met.{Met, TheVariants.{Absent, Unmarked, Marked}}, layout.Sizes.{Sizes}}, Words.{link_to, place_number}}
use Rattle.lz_list.specs.{Walks.{Hopped, More, End, wants, hopped}, Hops.{LeadsOn}, Traces.{Trace, bucket_of, key_word, rank_at, flags_after}, Pinned.{Stood}}
use Rattle.lz_list.specs.Laws.{IsHigh}
use Rattle.lz_machine.specs.{Stands.{WasBetween}, CallersSound.{IsLooking}}
use Rattle.lz_flush.specs.{declared.need.Need.{Need, TheVariants.{Now, Sync as asks_sync}}, Settling.{may_answer}}
use Rattle.lz_board.specs.{declared.{view.Part.{Part}, answer.Glance.{Glance, TheVariants.{Yes, No, Unsettled}}}, Notes.{IsShared, Since}}
use Rattle.lz_board.specs.{Plays.{knowing, IsShownTo}, Glances.{Glanced, GlancedUnsettled}}

-- a walk finds a bucket, and a slot after each link
pub record IsWalkable (z : Sizes) : Type 0 where
  pub some : 1 ≤ z.buckets
  pub few : z.slots ≤ most_slots

-- The node of k in slot s stood on k's chain since the pin, and its link word, loaded at P, had these flags.
pub record MetNode (buckets k s : ℕ) (flags : Flags) (mark : Bool) (P0 P : Trace) : Type 0 where
  pub stood : Stood buckets (bucket_of buckets k) P0 P (suc s)
  pub key : key_word s P ≡ k
  pub shown : flags ≡ flags_after s P
  pub marked : flags.mark ≡ mark

-- A walk has ended after the place pred, with what it met.
abbrev pub Ended : ℕ → ℕ → Trace → Trace → Place → Option ℕ → Met → Type 0
Ended buckets k P0 P pred curr Absent = WasBetween buckets k pred (link_to curr) P0 P × IsHigh k (link_to curr) P
Ended buckets k P0 P pred curr (Unmarked s flags) = (curr ≡ Some s) × WasBetween buckets k pred (suc s) P0 P × MetNode buckets k s flags false P0 P
Ended buckets k P0 P pred curr (Marked s flags) = (curr ≡ Some s) × WasBetween buckets k pred (suc s) P0 P × MetNode buckets k s flags true P0 P

-- A walk goes on: the word that it wants next is one of the table's.
pub record IsOnWalk (z : Sizes) (k : ℕ) (P0 P : Trace) (look : Look) : Type 0 where
  pub looking : IsLooking z.buckets k P0 P look
  pub shared : IsShared z (wants z.buckets k look)

-- A walk goes on, or has ended.
abbrev pub Walked : Sizes → ℕ → Trace → Trace → Hopped → Type 0
Walked z k P0 P (More look) = IsOnWalk z k P0 P look
Walked z k P0 P (End pred curr met) = Ended z.buckets k P0 P pred curr met

-- how far the walk is from its key, at most: keys rise along it
abbrev pub keys_left : ℕ → Trace → Place → ℕ
keys_left k P pred = suc k - rank_at (λ t. key_word t P) (place_number pred)

-- and how many loads it has still to make, at most
abbrev pub hops_left : ℕ → Trace → Look → ℕ
hops_left k P AtHead = 1 + 2 * suc k
hops_left k P (AtKey pred s) = 2 * keys_left k P pred
hops_left k P (AtMet pred s) = 0
hops_left k P (AtBelow s) = 1 + 2 * keys_left k P (Node s)

-- fewer than n are left
abbrev pub IsNearer : ℕ → Trace → ℕ → Hopped → Type 0
IsNearer k P n (More next) = hops_left k P next < n
IsNearer k P n (End pred curr met) = Unit {0}

-- The loads of a walk: the part h has become `now`, which has seen more.
pub record AtWalk (z : Sizes) (k : ℕ) (h now : Part) (look : Look) : Type 0 where
  pub part : now ≡ knowing now.known h
  pub since : Since h.number now.known h.known
  pub on : IsOnWalk z k h.begun now.known look

-- What one more load tells, which was shown the trace `seen`.
pub record IsHop (z : Sizes) (k : ℕ) (h : Part) (P seen : Trace) (look : Look) (value : ℕ) : Type 0 where
  pub shown : IsShownTo seen h
  pub leads : LeadsOn look value
  pub walked : Walked z k h.begun seen (hopped z.buckets k look value)
  pub nearer : IsNearer k seen (hops_left k P look) (hopped z.buckets k look value)

-- A walk has met this at its end.
abbrev pub MeetsAtEnd : Sizes → ℕ → Part → Trace → Met → Type 0
MeetsAtEnd z k h seen met = (pred : Place) × (curr : Option ℕ) × Ended z.buckets k h.begun seen pred curr met

-- the answer, or the slot in which the change isn't durable
abbrev pub sure_or : Need → Glance → ℕ → Glance
sure_or Now answer s = answer
sure_or asks_sync answer s = Unsettled s

-- the answer of a glance whose walk met this
abbrev pub glance_of : Met → Glance
glance_of Absent = No
glance_of (Unmarked s flags) = sure_or (may_answer flags) Yes s
glance_of (Marked s flags) = sure_or (may_answer flags) No s

-- the key, where a glance at it says yes
abbrev pub key_if : Glance → ℕ → Option ℕ
key_if Yes k = Some k
key_if _ k = None

-- the answer was so at a trace from P to Q
abbrev pub IsGlance : ℕ → Trace → Trace → Glance → Type 0
IsGlance k P Q Yes = Glanced k P Q true
IsGlance k P Q No = Glanced k P Q false
IsGlance k P Q (Unsettled s) = GlancedUnsettled k s P Q

-- A glance is no step of a call, and its loads are none.
pub record KeepsCall (before after : Part) : Type 0 where
  pub sizes : after.sizes ≡ before.sizes
  pub number : after.number ≡ before.number
  pub steps : after.steps ≡ before.steps
  pub base : after.base ≡ before.base
  pub loads : after.loads ≡ before.loads
