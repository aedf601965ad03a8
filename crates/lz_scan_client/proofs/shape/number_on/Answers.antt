use Rattle.lz_scan_client.proofs.shape.number_on.Goals as goal
use Rattle.std.proofs.{Common.{Some, arith, codes}, lemmas.{Bool.Decides.{Decides-eqb}, Slice.Eq.{strip_prefix_is, strip_suffix_is}}}
use Rattle.lz_slot.specs.Numerals.{largest_read}
use Rattle.lz_scan_client.proofs.Shaped.{row_is, told_number, where_some}

pub returns : goal.returns
returns c =
    let told = c.in_ok-told.told in
    let rest = c.in_ok-strip_prefix.field-0 in
    let digits = c.in_ok-digits.digits in
    where_some _ c.read_number.result (λ n is.
    row_is c.args.line.now c.args.name.now told.now rest.now digits.now n (strip_prefix_is Decides-eqb c.args.line.now c.args.name.now (Some told) c.in_ok-told.ensures.cases)
    (strip_prefix_is Decides-eqb told.now (codes ":") (Some rest) c.in_ok-strip_prefix.ensures.cases) (strip_suffix_is Decides-eqb rest.now (codes "\r") (Some digits) c.in_ok-digits.ensures.cases)
    (told_number largest_read digits.now c.read_number.result n (omega arith) c.read_number.ensures.number is))
