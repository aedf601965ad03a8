-- What keys the slots of a file hold, as far as marks go.
use Rattle.lz_slot.specs.declared.slot.SlotRead.TheVariants as read
use Rattle.std.specs.Prelude.{◌≡◌, ℕ, zero, suc, Bool, true, false, not, ◌&&◌, ◌||◌, ◌==◌, nat_lt, Result, Ok, Err, Option, Some, None}
use Rattle.lz_slot.specs.{Limits.{largest_number}, Sets.{Keys}, declared.slot.SlotRead.{SlotRead}}
use Rattle.lz_disk.specs.declared.DeviceFault.{DeviceFault}
use Rattle.lazyset_file_commands.specs.Marks.{first_secret_mark, last_secret_mark, texts_mark}
use Rattle.lazyset_set_commands.specs.declared.found.Found.{Found}

-- the mark of a service's own secret, where it has one
abbrev pub is_own : Option ℕ → ℕ → Bool
is_own None k = false
is_own (Some m) k = k == m

-- the mark of another secret
abbrev pub is_secret : Option ℕ → ℕ → Bool
is_secret own k = not (nat_lt k first_secret_mark) && not (nat_lt last_secret_mark k) && not (is_own own k)

-- a key that such a service's file of texts doesn't have: neither in room 0, nor the mark of texts, nor its own
abbrev pub is_other : Option ℕ → ℕ → Bool
is_other own k = nat_lt largest_number k && not (k == texts_mark) && not (is_own own k)

-- one that isn't another secret's mark either
abbrev pub is_foreign : Option ℕ → ℕ → Bool
is_foreign own k = is_other own k && not (is_secret own k)

-- a key beside the mark of texts
abbrev pub is_further : ℕ → Bool
is_further k = not (k == texts_mark)

abbrev pub HasOne : (ℕ → Bool) → Keys → Type 0
HasOne test S = (k : ℕ) × (S k ≡ true) × (test k ≡ true)

abbrev pub HasNone : (ℕ → Bool) → Keys → Type 0
HasNone test S = (k : ℕ) → S k ≡ true → test k ≡ false

-- Neither another secret's mark nor any other key that such a file doesn't have.
abbrev pub HasNoForeign : Option ℕ → Keys → Type 0
HasNoForeign own S = HasNone (is_other own) S

-- no key but maybe the mark of texts
abbrev pub IsBare : Keys → Type 0
IsBare S = HasNone is_further S

-- what was found, with a key more
abbrev pub with_key : Option ℕ → Found → ℕ → Found
with_key own f k = record {
  mark = f.mark || k == texts_mark;
  own = f.own || is_own own k;
  secret = f.secret || is_secret own k;
  foreign = f.foreign || is_foreign own k;
  bare = f.bare && k == texts_mark;
}

-- and with a slot more
abbrev pub with_slot : Option ℕ → Found → SlotRead → Found
with_slot own f (read.Member k) = with_key own f k
with_slot own f _ = f

-- what is found in the slots below n, where slot i says `says i`
abbrev pub found_below : Option ℕ → (ℕ → SlotRead) → ℕ → Found
found_below own says zero = record { mark = false; own = false; secret = false; foreign = false; bare = true }
found_below own says (suc n) = with_slot own (found_below own says n) (says n)

-- whether the set has the mark of the service's secret
abbrev pub has_own : Option ℕ → Keys → Bool
has_own None S = false
has_own (Some m) S = S m

-- the set has a key that passes the test, or none
abbrev pub Says : Bool → (ℕ → Bool) → Keys → Type 0
Says true test S = HasOne test S
Says false test S = HasNone test S

-- This was found of the set, in both directions.
pub record IsFoundOf (own : Option ℕ) (S : Keys) (f : Found) : Type 0 where
  pub mark : f.mark ≡ S texts_mark
  pub its_own : f.own ≡ has_own own S
  pub secret : Says f.secret (is_secret own) S
  pub foreign : Says f.foreign (is_foreign own) S
  pub bare : Says (not f.bare) is_further S

-- Of a file of a set its keys are found, if it can be read.
abbrev pub TellsFound : Option ℕ → Keys → Result (Option Found) DeviceFault → Type 0
TellsFound own S (Ok (Some f)) = IsFoundOf own S f
TellsFound own S (Ok None) = ⊥
TellsFound own S (Err fault) = Unit {0}
