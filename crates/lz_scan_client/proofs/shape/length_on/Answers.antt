use Rattle.lz_scan_client.proofs.shape.length_on.Goals as goal
use Rattle.std.proofs.{Common.{Some, arith, codes}, lemmas.{Bool.Decides.{Decides-eqb}, Slice.Eq.{strip_prefix_is, strip_suffix_is}}}
use Rattle.lz_scan_client.proofs.Shaped.{heading_is, told_number, where_some}

pub returns : goal.returns
returns c =
    let rest = c.in_ok-strip_prefix.field-0 in
    let digits = c.in_ok-digits.digits in
    where_some _ c.read_number.result (λ n is.
    heading_is c.args.heading.now rest.now digits.now n (strip_prefix_is Decides-eqb c.args.heading.now (codes "$") (Some rest) c.in_ok-strip_prefix.ensures.cases)
    (strip_suffix_is Decides-eqb rest.now (codes "\r") (Some digits) c.in_ok-digits.ensures.cases) (told_number 65536 digits.now c.read_number.result n (omega arith) c.read_number.ensures.number is))
