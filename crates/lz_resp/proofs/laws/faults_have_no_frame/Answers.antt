use Rattle.lz_resp.proofs.laws.faults_have_no_frame.Goals as goal
use Rattle.lz_resp.proofs.Spellings.{faults_have_no_frame}

pub returns : goal.returns
returns c = faults_have_no_frame
