use Rattle.lz_core.proofs.disks.made_disk.Goals as goal
use Rattle.std.{proofs.Common.{◌≡◌, false, Result, Ok, Err, OnOk, refl, sym, ◌∙◌}, specs.Result.{is_err}}
use Rattle.lz_core.proofs.Opens.SuitedDisk.{suited_fresh}

-- what holds of a result that is no fault
of_done : {E P : Type 0} (r : Result (Unit {0}) E) → is_err r ≡ false → OnOk r P → P
of_done (Ok done) is holds = holds
of_done (Err fault) is holds = absurd cc

pub returns : goal.returns
returns c = (
  suited_fresh c.make.new.disk c.suit.new.disk c.args.format c.args.slots c.suit.ensures.disk (of_done c.make.result (sym c.is_err.ensures.value ∙ c.if-is_err.false) (c.make.ensures.made refl)).0,
  c.suit.ensures.may,
)
