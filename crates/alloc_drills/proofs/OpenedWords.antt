-- The words with which a yard opens are those with which a board may begin.
use Rattle.std.proofs.Common.{ℕ, ap}
use Rattle.lz_disk.specs.Devices.{Device}
use Rattle.lz_machine.specs.Yards.{Yard}
use Rattle.lz_yard.specs.Filling.{OpensYard}
use Rattle.lz_board.{specs.Opened.{AreOpened}, proofs.Start.FirstWords.{opens_text}}

pub begins : (before after : Device) (B S : ℕ) (y : Yard) → OpensYard before after B S y → AreOpened y.words
begins before after B S y o =
    let f = o.first in
    (opens_text y.shape f.text y.words f.starts.text.no_key_twice (ap (λ (x : Yard). x.words) f.yard)).0
