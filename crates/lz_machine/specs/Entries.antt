-- The ledger of a life: the rows of all calls that were answered or changed something, against the trace and the marks.
use Rattle.std.specs.Prelude.{◌≡◌, ◌⊎◌, ℕ, suc, ◌+◌, ◌≤◌, ◌<◌, Bool, true, false, not, ◌==◌, ◌&&◌, List, [], ◌∷◌, ◌++◌, length, map, filter, Some, None}
use Rattle.lz_slot.specs.{declared.command.Command.TheVariants.{Add, Remove}, Sets.{Keys, key_of}}
use Rattle.lz_slot.specs.Histories.{History, IsRefused, IsCalled, IsAnswered, IsBefore, Fits}
use Rattle.lz_list.specs.declared.publishing.Publishing.{Publishing, TheVariants.{Linked as linked, Marked as marked}}
use Rattle.lz_list.specs.Traces.{Trace, Lawful, SettledYes, SettledNo}
use Rattle.lz_machine.specs.Ledgers.{Row, HasRow, Stands, times, Each, Leads, listed, change_at}
use Rattle.lz_machine.specs.Kept.{IsRowOf, MayDrop, upto, last_change, kept_keys, publishing}

abbrev pub numbers : List Row → List ℕ
numbers rows = map (λ r. r.number) rows

-- the rows are those of calls of the history, with the answers that it gives
pub record IsRowIn (M : History) (r : Row) : Type 0 where
  pub is_called : IsCalled M r.number r.command
  pub answers : (a : Bool) → IsAnswered M r.number a → r.answer ≡ Some a
  pub not_refused : ¬ IsRefused M r.number

-- what the ledger's rows have to do with the history; tail has the calls that are put at the end
pub record IsLedger (n : ℕ) (P : Trace) (rows tail : List Row) (M : History) : Type 0 where
  pub each : Each (IsRowOf n P) rows
  pub calls : Each (IsRowIn M) (rows ++ tail)
  pub tail_open : Each (λ r. r.answer ≡ None) tail
  pub once : (i : ℕ) → times i rows + times i tail ≤ 1
  pub answered : (i : ℕ) (a : Bool) → IsAnswered M i a → (r : Row) × HasRow r rows × (r.number ≡ i)
  pub order : (r q : Row) → HasRow r rows → HasRow q rows → IsBefore M r.number q.number → Stands r q rows × (r.position ≤ q.position) × (r.position ≡ q.position → r.changes ≡ false)

-- a call that changed something was answered only once its change was settled
pub record IsSettledEntry (P : Trace) (r : Row) : Type 0 where
  pub told : r.changes ≡ true → r.answer ≡ Some true → SettledYes (upto (suc r.position) P) P (key_of r.command) ⊎ SettledNo (upto (suc r.position) P) P (key_of r.command)

-- each change is that of one row
abbrev pub IsChangeOf : Publishing → List Row → Type 0
IsChangeOf (linked k s p) L = (r : Row) × (L ≡ r ∷ []) × (r.command ≡ Add k)
IsChangeOf (marked k s p) L = (r : Row) × (L ≡ r ∷ []) × (r.command ≡ Remove k)
IsChangeOf _ L = L ≡ []

-- the rows of which the image shows that their change was kept
abbrev pub is_kept : Trace → Keys → Row → Bool
is_kept P drop r = not (r.changes && (drop (key_of r.command) && (last_change (key_of r.command) P == suc r.position)))

abbrev pub kept_rows : Trace → Keys → List Row → List Row
kept_rows P drop entries = filter (is_kept P drop) entries

-- The rows that are kept, and the calls of the tail, are a list that fits the history.
abbrev pub LedgerFits : Type 0
LedgerFits =
    (n : ℕ) (P : Trace) (entries tail : List Row) (M : History) (buckets slots : ℕ) (drop T : Keys)
    → Lawful buckets slots P → MayDrop n P drop → IsLedger n P entries tail M → Each (IsSettledEntry P) entries
    → ((j : ℕ) → n ≤ j → j < length P → IsChangeOf (publishing j P) (change_at j entries))
    → Leads (kept_keys n P drop (length P)) tail T
    → Fits (kept_keys n P drop 0) M (numbers (listed (kept_rows P drop entries) (length P) ++ tail)) T
