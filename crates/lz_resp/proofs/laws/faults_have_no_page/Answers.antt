use Rattle.lz_resp.proofs.laws.faults_have_no_page.Goals as goal
use Rattle.lz_resp.proofs.PageTexts.{faults_have_no_page}

pub returns : goal.returns
returns c = faults_have_no_page
