-- What a caller relies on stays when another's event changes cells, or the vault dies.
use Rattle.std.proofs.lemmas.Bool.Decides.{nat_tests}
use Rattle.std.proofs.Common.{◌≡◌, ◌≢◌, ℕ, ◌<◌, Bool, true, List, length, Option, Some, sym, ap, subst, get_or-set_same, get_or-set_other, arith}
use Rattle.std.specs.Prelude.{slice_set}
use Rattle.lz_slot.specs.declared.{format.Format.{Format}, command.Command.{Command}}
use Rattle.lz_vault.specs.{declared.vault.Stage.{Stage, TheVariants.{Keyed}}, Stages.{Cell}, Members.{no_cell}}
use Rattle.lz_list.specs.Traces.{Trace}
use Rattle.lz_machine.specs.{declared.{actor.Actor.{Actor}, caller.Progress.{Progress}}, Runs.{Caller}}
use Rattle.lz_machine.specs.{CallersSound.{View, IsKeyed, Relies, IsCaller, CallerSound}, Yards.{cell_in, stage_in}}

-- a slot's cell keeps its key, and what was written of it
pub record KeepsCell (old new : Cell) : Type 0 where
  pub key : new.key ≡ old.key
  pub keyed : IsKeyed old.stage → IsKeyed new.stage
  pub sure : old.stage ≡ Keyed → new.stage ≡ Keyed

module _ (buckets passes : ℕ) (format : Format) (cells cells' : List Cell) (dead dead' : Bool) (actor : Actor) (P0 P : Trace) (changed : Option ℕ) (dies : dead ≡ true → dead' ≡ true) (keeps : (s : ℕ) → actor.slot ≡ Some s → KeepsCell (cell_in cells s) (cell_in cells' s)) where
  abbrev v : View
  v = record { buckets = buckets; passes = passes; format = format; cells = cells; dead = dead; actor = actor }

  abbrev w : View
  w = record { buckets = buckets; passes = passes; format = format; cells = cells'; dead = dead'; actor = actor }

  relies_keeps : (c : Command) (at : Progress) → Relies v c at P0 P changed → Relies w c at P0 P changed
  relies_keeps c at h = grind arith

  caller_keeps : (pin : ℕ) (caller : Option Caller) → IsCaller v pin caller P0 P changed → IsCaller w pin caller P0 P changed
  caller_keeps pin caller h = grind (arith, nat_tests, relies_keeps)

  pub caller_vaulted : (pin : ℕ) (caller : Option Caller) → CallerSound v pin caller P0 P changed → CallerSound w pin caller P0 P changed
  caller_vaulted pin caller h = record { quiet = h.quiet; begins = h.begins; stands = caller_keeps pin caller h.stands }

-- one slot's cell is another one
module _ (cells : List Cell) (s : ℕ) (new : Cell) where
  pub cell_same : s < length cells → cell_in (slice_set cells s new) s ≡ new
  cell_same lt = get_or-set_same cells s new no_cell lt

  pub cell_other : (t : ℕ) → t ≢ s → cell_in (slice_set cells s new) t ≡ cell_in cells t
  cell_other t apart = get_or-set_other cells s t new no_cell apart

  pub stage_other : (A : Stage → Type 0) (t : ℕ) → t ≢ s → A (stage_in cells t) → A (stage_in (slice_set cells s new) t)
  stage_other A t apart was = subst A (ap (λ (q : Cell). q.stage) (sym (cell_other t apart))) was

  pub cell_stays : (t : ℕ) → t ≢ s → KeepsCell (cell_in cells t) (cell_in (slice_set cells s new) t)
  cell_stays t apart = record { key = ap (λ (q : Cell). q.key) (cell_other t apart); keyed = stage_other IsKeyed t apart; sure = stage_other (λ q. q ≡ Keyed) t apart }
