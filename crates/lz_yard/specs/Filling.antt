-- What an open makes of the members that the vault found.
use Rattle.std.specs.Prelude.{◌≡◌, ℕ, zero, suc, Bool, true, false, if◌then◌else◌, IsTrue, List, [], ◌∷◌, ◌++◌, length, map, replicate, is_some}
use Rattle.std.specs.List.{range_with_len}
use Rattle.lz_disk.specs.Devices.{Device}
use Rattle.lz_vault.specs.{Stages.{Cell}, Members.{AreMembers, member_at}, Opens.{Opens}}
use Rattle.lz_allot.specs.{Uses.{Free, Taken}, Allots.{Allotted}}
use Rattle.lz_list.specs.{declared.{place.Place.TheVariants.{Bucket}, word.Word.TheVariants.{Head, Link, Key}}, Words.{Words, set, link_with, next_at}}
use Rattle.lz_list.specs.{Lists.{Listed, free_locks}, Traces.{Chain, bucket_of, has_slot, opening, words_of_trace}}
use Rattle.lz_machine.specs.{declared.actor.Actor.{Actor}, Runs.{IsStart}, Yards.{Yard, opened_yard, idle_actor}}

-- the words with a node of key k in slot s before all others of its bucket, settled as added
abbrev pub with_first : Words → ℕ → ℕ → Words
with_first w k s =
    set (set (set w (Key s) k) (Link s) (link_with (next_at w (Bucket (bucket_of (length w.heads) k))) (record { mark = false; add_settled = true; remove_settled = false })))
    (Head (bucket_of (length w.heads) k)) (suc s)

-- with such nodes for all of these, the last one first
abbrev pub with_members : Chain → Words → Words
with_members [] w = w
with_members (f ∷ found) w = with_first (with_members found w) f.0 f.1

-- those of the first n slots that hold a member, in their order
abbrev pub taken_among : List Cell → ℕ → List ℕ
taken_among cells zero = []
taken_among cells (suc n) = taken_among cells n ++ (if is_some (member_at cells n) then n ∷ [] else [])

-- What is made of them: the words after an opening of them, all locks free, their slots taken, and idle actors.
pub record AreTables (cells : List Cell) (buckets passes : ℕ) (list : Listed) (allot : Allotted) (actors : List Actor) : Type 0 where
  pub members : Chain
  pub found : AreMembers cells (length cells) members
  pub words : list.words ≡ words_of_trace (length cells) buckets passes (opening buckets members)
  pub locks : list.locks ≡ free_locks list.words
  pub uses : allot.uses ≡ map (λ s. if has_slot s members then Taken else Free) (range_with_len 0 (length cells))
  pub rows : length allot.rows ≡ passes
  pub idle : actors ≡ replicate passes idle_actor

-- The yard is that of a start of a life: with the text read, and on its disk, where the device is honest.
pub record IsFirst (before : Device) (y : Yard) : Type 0 where
  pub bytewise : Bool
  pub text : List ℕ
  pub read : IsTrue before.honest → (bytewise ≡ before.medium.bytewise) × (text ≡ before.medium.seen)
  pub starts : IsStart (record { bytewise = bytewise; shape = y.shape; text = text })
  pub yard : y ≡ opened_yard y.shape text

-- An open of a yard succeeded: its vault was opened, and the yard is that of the text read.
pub record OpensYard (before after : Device) (B S : ℕ) (y : Yard) : Type 0 where
  pub vault : Opens before after y.vault
  pub buckets : y.shape.buckets ≡ B
  pub passes : y.shape.passes ≡ S
  pub first : IsFirst before y
