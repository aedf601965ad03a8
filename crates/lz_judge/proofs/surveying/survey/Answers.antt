use Rattle.lz_judge.proofs.surveying.survey.Goals as goal
use Rattle.std.proofs.Common.{◌≡◌, Ok, arith, sym, ◌∙◌, length}
use Rattle.lz_slot.{specs.Bytes.{header_read}, proofs.Files.ExactBytes.{header_counts, header_is_of_its_count}}
use Rattle.lz_judge.proofs.Surveys.SoundFile.{sound_holds, held_head}

pub returns-in_ok-find_all-in-Ok-clause-good : goal.returns-in_ok-find_all-in-Ok-clause-good
returns-in_ok-find_all-in-Ok-clause-good c =
    let t = c.args.bytes.now in
    let N = c.in-Ok.header.slots in
    let head : header_read t (length t) ≡ Ok N = sym c.in-Ok.ensures.slots in
    let counts = header_counts t (length t) N head in
    let bytes = (header_is_of_its_count t (length t) N (omega (arith, counts.2)) (λ i. (c.type_inv.bytes i).fits) head).3 in
    sound_holds t N _ bytes head c.in_ok-find_all-in-Ok.ensures

pub returns-in-Err-clause-good : goal.returns-in-Err-clause-good
returns-in-Err-clause-good c = (λ never. absurd (cc), λ (N, S, holds). absurd (let e = c.in-Err.ensures.slots ∙ held_head c.args.bytes.now N S holds in cc))
