-- What each slot is used for: it is free, taken or in limbo.
use Rattle.std.specs.Prelude.{◌≤◌, ℕ, ◌%◌, Bool, true, false, ◌||◌, ◌==◌, if◌then◌else◌, List, [], ◌∷◌, map, replicate, slice_set, slice_index_or, position}
use Rattle.std.specs.{Prelude.{count_by, Option, IsTrue}, List.{list_all}}
use Rattle.lz_slot.specs.Counted.{of_pass, set_of_pass}
use Rattle.lz_allot.specs.declared.{sight.Sight.{Sight, TheVariants.{Unseen, Inside, Left}}, counts.Counts.{Counts}}

-- A slot in limbo has a sight of each pass.
pub data Use : Type 0 where
  Free : Use
  Taken : Use
  Limbo : List Sight → Use

-- a pin value that is even is outside
abbrev pub is_outside : ℕ → Bool
is_outside pin = pin % 2 == 0

-- what is known of a pass after its pin was seen with this value
abbrev pub sight_after : ℕ → Sight → Sight
sight_after pin Unseen = if is_outside pin then Left else Inside pin
sight_after pin (Inside first) = if pin == first then Inside first else Left
sight_after pin Left = Left

abbrev pub see_pin_at : ℕ → ℕ → Use → Use
see_pin_at pass pin (Limbo sights) = Limbo (set_of_pass sights pass (sight_after pin (of_pass sights pass Left)))
see_pin_at pass pin use_now = use_now

-- the uses after the pin of a pass was seen; passes count from 1
abbrev pub see_pin : ℕ → ℕ → List Use → List Use
see_pin pass pin uses = map (see_pin_at pass pin) uses

abbrev pub has_left : Sight → Bool
has_left Left = true
has_left _ = false

-- a limbo slot that every pass has left becomes free
abbrev pub collect_at : Use → Use
collect_at (Limbo sights) = if list_all has_left sights then Free else Limbo sights
collect_at use_now = use_now

abbrev pub collect : List Use → List Use
collect uses = map collect_at uses

abbrev pub is_free : Use → Bool
is_free Free = true
is_free _ = false

abbrev pub is_taken : Use → Bool
is_taken Taken = true
is_taken _ = false

abbrev pub is_limbo : Use → Bool
is_limbo (Limbo sights) = true
is_limbo _ = false

-- the use of a slot
abbrev pub use_of : List Use → ℕ → Use
use_of uses s = slice_index_or uses s Taken

-- the lowest free slot
abbrev pub lowest_free : List Use → Option ℕ
lowest_free uses = position is_free uses

abbrev pub take_slot : List Use → ℕ → List Use
take_slot uses s = slice_set uses s Taken

abbrev pub give_back : List Use → ℕ → List Use
give_back uses s = slice_set uses s Free

-- a slot that is retired goes to limbo, and no pass has been seen since
abbrev pub retire : ℕ → List Use → ℕ → List Use
retire passes uses s = slice_set uses s (Limbo (replicate passes Unseen))

abbrev pub counts : List Use → Counts
counts uses = record { free = count_by is_free uses; taken = count_by is_taken uses; limbo = count_by is_limbo uses }

-- What a run shows of pins and unlinkings; the newest stands first.
pub data Moment : Type 0 where
  -- the pin words of a state
  Pins : List ℕ → Moment
  Unlinking : ℕ → Moment

-- the pass was outside in some state since the slot was last unlinked, if ever
abbrev pub was_outside : ℕ → ℕ → List Moment → Bool
was_outside s pass [] = false
was_outside s pass (Pins pins ∷ ms) = is_outside (of_pass pins pass 0) || was_outside s pass ms
was_outside s pass (Unlinking i ∷ ms) = if i == s then false else was_outside s pass ms

-- each pass was so
abbrev pub AllFree : ℕ → ℕ → List Moment → Type 0
AllFree passes s ms = (pass : ℕ) → 1 ≤ pass → pass ≤ passes → IsTrue (was_outside s pass ms)
