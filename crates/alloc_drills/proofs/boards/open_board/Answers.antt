use Rattle.alloc_drills.proofs.boards.open_board.Goals as goal
use Rattle.std.proofs.Common.{sym, subst}
use Rattle.lz_board.specs.Opened.{AreOpened}
use Rattle.alloc_drills.proofs.OpenedWords.{begins}

pub board_over-requires-clause-opened : goal.board_over-requires-clause-opened
board_over-requires-clause-opened g c = subst AreOpened (sym c.words.ensures) (begins _ _ _ _ _ c.in-Ok.ensures.ok)
