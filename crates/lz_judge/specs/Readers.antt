-- What is read of a history's text.
use Rattle.std.specs.Prelude.{◌≡◌, ◌≤◌, reverse}
use Rattle.lz_judge.specs.{Records.{ArePlaces, IsLawful, Record}, Ledgers.{IsLedger}, Limits.{most_calls}, TextsRead.{calls_of}}
use Rattle.lz_judge.specs.declared.reading.Reader.{Reader}

-- the history that was read so far
abbrev pub seen_by : Reader → Record
seen_by reader = record { marks = reverse reader.marks.items; points = reverse reader.points.items }

-- what was read is lawful, the ledger is that of the marks, and their calls were counted
pub record IsReader (reader : Reader) : Type 0 where
  pub lawful : IsLawful (reverse reader.marks.items)
  pub places : ArePlaces (reverse reader.points.items)
  pub ledger : IsLedger (reverse reader.marks.items) reader.ledger.calls reader.ledger.actors reader.ledger.busy reader.ledger.is_living
  pub count : reader.calls ≡ calls_of (reverse reader.marks.items)
  pub few : reader.calls ≤ most_calls
