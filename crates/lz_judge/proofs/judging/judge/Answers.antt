use Rattle.lz_judge.proofs.judging.judge.Goals as goal
use Rattle.std.proofs.Common.{sym, subst, List, [], reverse}
use Rattle.lz_slot.specs.{Sets.{members}, Histories.{ChainTo, lives}, declared.history.HistoryEvent.{HistoryEvent}}
use Rattle.lz_judge.specs.{declared.{flaw.Flaw.{Flaw}, history.Point.{Point}}, Records.{ArePlaces, IsLawful, IsPoint, Record}, Flaws.{IsFlaw, OrderedChain}}
use Rattle.lz_judge.proofs.Readings.ReadingTable.{ordered_chain}

pub first_flaw-requires-clause-lawful : goal.first_flaw-requires-clause-lawful
first_flaw-requires-clause-lawful c = subst IsLawful c.marks-marks.ensures.marks c.marks-marks.ensures.lawful

pub first_flaw-requires-clause-low : goal.first_flaw-requires-clause-low
first_flaw-requires-clause-low c = subst ArePlaces c.points-points.ensures.points c.points-points.ensures.places

pub returns-clause-ordered : goal.returns-clause-ordered
returns-clause-ordered c =
    let (T, chain) = c.in_ok-flaw.ensures.ordered c.in_default.is in (
      T,
      subst (λ (ps : List Point). OrderedChain (IsPoint ps) (lives (members []) c.args.history.now.marks) T) (sym c.points-points.ensures.points)
          (subst (λ (M : List HistoryEvent). OrderedChain (IsPoint (reverse c.points-points.result.now)) (lives (members []) M) T) (sym c.marks-marks.ensures.marks) chain),
    )

pub returns-clause-chain : goal.returns-clause-chain
returns-clause-chain c =
    let (T, chain) = c.in_ok-flaw.ensures.ordered c.in_default.is in (
      T,
      subst (λ (M : List HistoryEvent). ChainTo (lives (members []) M) T) (sym c.marks-marks.ensures.marks)
          (ordered_chain (IsPoint (reverse c.points-points.result.now)) (lives (members []) (reverse c.marks-marks.result.now)) T chain),
    )

pub returns-clause-flawless : goal.returns-clause-flawless
returns-clause-flawless c =
    subst (λ (h : Record). (flaw : Flaw) → IsFlaw h flaw → ⊥) (sym (λ i. record { marks = c.marks-marks.ensures.marks i; points = c.points-points.ensures.points i })) (c.in_ok-flaw.ensures.flawless c.in_default.is)
