-- The rows of a life in a sound state, against its trace and its history.
use Rattle.std.specs.Prelude.{◌≡◌, ℕ, suc, ◌<◌, ◌≤◌, Bool, true, false, List, [], length, Option, Some}
use Rattle.lz_slot.specs.{declared.command.Command.{Command, TheVariants.{Add, Remove}}, Histories.{History, IsCalled, IsRefused, IsUnderWay}}
use Rattle.lz_vault.specs.Stages.{Cell}
use Rattle.lz_list.specs.Traces.{Trace, on, chain_of, key_word, is_marked}
use Rattle.lz_machine.specs.declared.{event.Reply.TheVariants.{Halted, Device}, actor.Actor.{Actor}, caller.Sequence.TheVariants.{Adding, Removing, Halting}}
use Rattle.lz_machine.specs.{declared.caller.Progress.{Progress, TheVariants.{Playing, Answering}}, Yards.{Shape, actor_in, cell_in, stage_in}}
use Rattle.lz_machine.specs.{Runs.{Caller, caller_at}, Ledgers.{Row, Each, change_at, times}, Kept.{publishing}, Entries.{IsLedger, IsSettledEntry, IsChangeOf}}
use Rattle.lz_machine.specs.{SlotsSound.{IsGateOpened, IsGateWritten}, Notes.{Notes, entries}}

pub record LedgerSound (n calls passes : ℕ) (callers : List (Option Caller)) (P : Trace) (M : History) (notes : Notes) : Type 0 where
  pub opened : n ≤ length P
  pub ledger : IsLedger n P (entries passes callers notes) [] M
  pub settled : Each (IsSettledEntry P) (entries passes callers notes)
  pub changes : (j : ℕ) → n ≤ j → j < length P → IsChangeOf (publishing j P) (change_at j (entries passes callers notes))
  -- calls are numbered in their order, and a number is one call's
  pub numbered : (i : ℕ) (c : Command) → IsCalled M i c → i ≤ calls
  pub refused : (i : ℕ) → IsRefused M i → i ≤ calls
  pub one_call : (i : ℕ) (c d : Command) → IsCalled M i c → IsCalled M i d → c ≡ d
  -- an open call stands in the history, without an end; it has a number of its own, and no row until it has changed something
  pub open_call : (a : ℕ) (caller : Caller)
      → caller_at callers a ≡ Some caller → IsUnderWay M caller.number caller.command
  pub apart : (a b : ℕ) (one other : Caller)
      → caller_at callers a ≡ Some one → caller_at callers b ≡ Some other → one.number ≡ other.number → a ≡ b
  pub unlisted : (a : ℕ) (caller : Caller)
      → caller_at callers a ≡ Some caller → times caller.number notes.ended ≡ 0

-- a call that writes gates, or that was cut off
abbrev pub may_have_tail : Progress → Bool
may_have_tail (Playing (Adding s) i) = true
may_have_tail (Playing (Removing s) i) = true
may_have_tail (Playing (Halting reply) i) = true
may_have_tail (Answering Halted) = true
may_have_tail (Answering Device) = true
may_have_tail _ = false

-- A call that is under way and has no row: of an adding whose gate may be open before its node is linked, and of a removing
-- whose gate may be closed before its node is marked. It won't be answered before that.
pub record HasTail (c : Command) (callers : List (Option Caller)) (rows : List Row) (M : History) : Type 0 where
  pub number : ℕ
  pub under_way : IsUnderWay M number c
  pub no_row : times number rows ≡ 0
  pub stays : (a : ℕ) (caller : Caller) → caller_at callers a ≡ Some caller → caller.number ≡ number → may_have_tail caller.progress ≡ true

pub record TailsSound (shape : Shape) (cells : List Cell) (actors : List Actor) (P : Trace) (callers : List (Option Caller)) (rows : List Row) (M : History) : Type 0 where
  pub adding : (a s : ℕ) → (actor_in actors a).slot ≡ Some s → IsGateOpened (stage_in cells s) → HasTail (Add (cell_in cells s).key) callers rows M
  pub removing : (s : ℕ)
      → on 0 (chain_of shape.buckets (key_word s P) P) (suc s) ≡ true → is_marked s P ≡ false → IsGateWritten (stage_in cells s)
      → HasTail (Remove (cell_in cells s).key) callers rows M
