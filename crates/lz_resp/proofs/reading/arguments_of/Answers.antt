use Rattle.lz_resp.proofs.reading.arguments_of.Goals as goal
use Rattle.std.proofs.{Common.{arith, rules, nat_lt, length}, lemmas.Bool.Decides.{nat_tests}}
use Rattle.std.proofs.lemmas.Iterator.{Consumers.{YieldsList-at, YieldsList-from_filter, map_from_collect}, Splits.{YieldsList-from_slice_split}}
use Rattle.lz_resp.specs.Frames.{is_blank}

pub returns : goal.returns
returns c =
    map_from_collect c.collect.result c.collect.ensures.ran
    (YieldsList-from_filter _ (λ argument. nat_lt 0 (length argument))
    (YieldsList-at c.filter.ensures.source (YieldsList-from_slice_split _ is_blank c.args.line.now c.split.ensures.rest c.split.ensures.done c.split.ensures.closure (λ x b q k. search rules)))
    c.filter.ensures.closure (λ x b q k. grind (arith, nat_tests, k)))
