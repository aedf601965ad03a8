-- Scans of a set: pages of its slots, one after the other. P is what the passes that make them had seen before, Q what they have seen after.
use Rattle.std.specs.Prelude.{ℕ, ◌≤◌, true, Option, Some, None, List, [], ◌∷◌, ◌++◌, All, Contains}
use Rattle.lz_slot.specs.Limits.{largest_key}
use Rattle.lz_list.specs.Traces.{Trace, Begins, Lawful, SettledYes}
use Rattle.lz_board.specs.{Glances.{Between, Glanced}, Listings.{IsPage}}

-- A page as it was told: how many keys were asked for, the keys, the slot to go on from, and what the pass had seen before it and after it.
pub record Told : Type 0 where
  pub most : ℕ
  pub keys : List ℕ
  pub next : Option ℕ
  pub before : Trace
  pub after : Trace

-- the keys of all these pages
abbrev pub keys_of : List Told → List ℕ
keys_of [] = []
keys_of (t ∷ ts) = t.keys ++ keys_of ts

-- This page of so many slots is from this one on, and the pass that made it had seen P before, and no more than Q after it.
pub record IsTold (slots from : ℕ) (P : Trace) (t : Told) (Q : Trace) : Type 0 where
  pub from_P : Begins P t.before
  pub goes_on : Begins t.before t.after
  pub upto_Q : Begins t.after Q
  pub page : IsPage slots from t.most t.keys t.next t.before t.after

-- The first page is from this slot on, each other goes on where the one before it ended, and the last comes to the end.
abbrev pub Scans : ℕ → Option ℕ → Trace → List Told → Trace → Type 0
Scans slots None P [] Q = Unit {0}
Scans slots (Some from) P (t ∷ ts) Q = IsTold slots from P t Q × Scans slots t.next P ts Q
Scans slots _ P _ Q = ⊥

-- Each key that was settled as a member at each trace from P to Q is told, and each that is told was at some such trace.
pub record TellsMembers (told : List ℕ) (P Q : Trace) : Type 0 where
  pub all : (k : ℕ) → k ≤ largest_key → ((R : Trace) → Between P R Q → SettledYes R R k) → Contains told k
  pub only : All (λ k. Glanced k P Q true) told

-- a scan from the first slot on tells the members, whatever others do meanwhile
abbrev pub ScansTellMembers : Type 0
ScansTellMembers =
    (buckets slots : ℕ) (P Q : Trace) (pages : List Told)
    → Lawful buckets slots Q
    → Scans slots (Some 0) P pages Q
    → TellsMembers (keys_of pages) P Q
