use Rattle.lz_judge.proofs.scan.find_twins.Given as goal
use Rattle.std.proofs.Common.{◌≡◌, ◌≤◌, ℕ, get_or, length, map, take}
use Rattle.lz_slot.specs.declared.slot.SlotRead.{SlotRead}
use Rattle.lz_judge.{specs.{Places.{IsTable}, Scans.{AreMet}, Surveys.{finding_key}, declared.finding.Finding.{Finding}}, proofs.Surveys.MetSlots.{IsTelling}}

abbrev pub invariant-loop-index : goal.invariant-loop-index
invariant-loop-index l = record {
  size : length l.findings ≡ length l.initial.findings;
  rest : (j : ℕ) (d : Finding) → l.index ≤ j → get_or l.findings j d ≡ get_or l.initial.findings j d;
  told : (says : ℕ → SlotRead) (n : ℕ) → AreMet says n l.initial.findings → IsTelling says l.initial.findings l.index (take l.index l.findings);
  table : IsTable (map finding_key (take l.index l.findings)) l.places;
}
