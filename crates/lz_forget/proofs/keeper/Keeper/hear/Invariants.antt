use Rattle.std.proofs.Common.{length}
use Rattle.lz_forget.proofs.keeper.Keeper.hear.Given as goal

abbrev pub decreases-replies : goal.decreases-replies
decreases-replies l = length l.self.heard.items
