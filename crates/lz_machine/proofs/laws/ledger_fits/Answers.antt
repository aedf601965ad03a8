use Rattle.lz_machine.proofs.laws.ledger_fits.Goals as goal
use Rattle.lz_machine.{specs.{Entries.{kept_rows}, Kept.{publishing}}, proofs.Ledger.{Fit.{listed_fits}, KeptRows.{kept_ledger, kept_fits}}}

pub returns : goal.returns
returns c n P entries tail M buckets slots drop T law may ledger settled_ones changes leads = listed_fits n P (kept_rows P drop entries) tail M
    (kept_ledger n P drop may entries tail M ledger settled_ones) buckets slots drop T law may
    (λ j early late. kept_fits n P drop may j (publishing j P) entries (changes j early late)) leads
