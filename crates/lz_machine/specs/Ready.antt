-- What an event's calls of the lower crates ask for, where the event is played.
use Rattle.std.specs.Prelude.{◌≡◌, ◌⊎◌, ℕ, ◌<◌, ◌≤◌, true, length, Some, IfSome}
use Rattle.lz_slot.specs.{Rooms.{largest_of}, Limits.{largest_key}}
use Rattle.lz_vault.specs.declared.vault.Stage.TheVariants.{Keyed, Opening, Open}
use Rattle.lz_allot.specs.Allots.{IsTakenAt}
use Rattle.lz_list.specs.{declared.word.Word.TheVariants.{Link as link_at, Key as key_at}, Words.{get, link_to}}
use Rattle.lz_list.specs.Lists.{IsWord, IsPlace, IsCurr, MayLinkAt, MayUnlinkAt, KeepsList}
use Rattle.lz_machine.specs.declared.event.Event.{Event, TheVariants.{Pin, Hop, WriteKey, Claim, Check, WriteOpen, Link, WriteClose, Mark, Release, Sync}}
use Rattle.lz_machine.specs.{declared.{event.Event.TheVariants.{Settle, Unlink, Retire, SeePin, Answer}, actor.Actor.{Actor}}, Yards.{Yard, actor_at, cell_at}}
use Rattle.lz_machine.specs.Table.{last_pin, pin_of, is_unused}

-- an event's slots, words and passes are the yard's
abbrev pub IsEventOf : Yard → Event → Type 0
IsEventOf y (Hop word) = IsWord y.words word
IsEventOf y (Claim pred curr) = IsPlace y.words pred × IsCurr y.words curr
IsEventOf y (Sync s) = s < y.shape.slots
IsEventOf y (Settle s) = s < y.shape.slots
IsEventOf y (SeePin p value) = (1 ≤ p) × (p ≤ y.shape.passes)
IsEventOf y _ = Unit {0}

-- the slot that the actor holds, the node that it claimed
abbrev pub HasSlot : Actor → (ℕ → Type 0) → Type 0
HasSlot actor A = (s : ℕ) × (actor.slot ≡ Some s) × A s

abbrev pub HasCurr : Actor → (ℕ → Type 0) → Type 0
HasCurr actor A = (s : ℕ) × (actor.curr ≡ Some s) × A s

-- what the event rests on in the state in which it is played
abbrev pub IsReadyFor : Yard → Actor → ℕ → Event → Type 0
IsReadyFor y actor a Pin = pin_of y a < last_pin
IsReadyFor y actor a (WriteKey k) = HasSlot actor (λ s. (s < y.shape.slots) × (is_unused (cell_at y s).stage ≡ true) × KeepsList y.words (key_at s) k) × (k ≤ largest_of y.vault.format)
IsReadyFor y actor a Check = IsPlace y.words actor.pred × IsCurr y.words actor.curr
IsReadyFor y actor a WriteOpen =
    HasSlot actor (λ s. (s < y.shape.slots) × ((cell_at y s).stage ≡ Keyed) × KeepsList y.words (link_at s) (link_to actor.curr) × IsCurr y.words actor.curr
    × ((cell_at y s).key ≡ get y.words (key_at s)) × (get y.words (key_at s) ≤ largest_key))
IsReadyFor y actor a Link = HasSlot actor (λ s. IsPlace y.words actor.pred × MayLinkAt y.words actor.pred s × (get y.words (key_at s) ≤ largest_key))
IsReadyFor y actor a WriteClose = HasCurr actor (λ s. (s < y.shape.slots) × (((cell_at y s).stage ≡ Opening) ⊎ ((cell_at y s).stage ≡ Open)))
IsReadyFor y actor a Mark = HasCurr actor (λ s. (s < y.shape.slots) × (get y.words (key_at s) ≤ largest_key))
IsReadyFor y actor a Release = IsPlace y.words actor.pred × IsCurr y.words actor.curr
IsReadyFor y actor a Unlink = HasCurr actor (λ s. (s < y.shape.slots) × IsPlace y.words actor.pred × MayUnlinkAt y.words actor.pred s × (get y.words (key_at s) ≤ largest_key))
IsReadyFor y actor a Retire = HasCurr actor (λ s. IsTakenAt y.uses s)
IsReadyFor y actor a Answer = (pin_of y a ≤ last_pin) × IfSome actor.slot (λ s. (s < y.shape.slots) × (is_unused (cell_at y s).stage ≡ true → IsTakenAt y.uses s))
IsReadyFor y actor a _ = Unit {0}

-- the actor is one of the yard's, and so are the event's slots, words and passes; its calls may be made
pub record IsReady (y : Yard) (a : ℕ) (e : Event) : Type 0 where
  pub actor : (1 ≤ a) × (a ≤ length y.actors)
  pub event : IsEventOf y e
  pub calls : IsReadyFor y (actor_at y a) a e
