use Rattle.lz_growth.proofs.laws.fronts_show_files.Goals as goal
use Rattle.lz_growth.proofs.FrontSets.{holds_left, left_holds}

pub returns : goal.returns
returns c N t S = (left_holds N t S, holds_left N t S)
