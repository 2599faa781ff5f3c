use Rattle.std.proofs.Common.{◌^◌, ◌<◌, length, map, ◌∙◌, rules, tests, arith}
use Rattle.std.specs.List.{sum, range_with_len}
use Rattle.std.proofs.lemmas.Iterator.{YieldsList-from_range, YieldsList-from_map}
use Rattle.std.proofs.lemmas.Iterator.Consumers.{sum_from_yields_List, fits_from_yields_list}
use Rattle.bench_list.proofs.RisingSteps.{one_break, rows_counted, few_breaks}
use Rattle.bench_list.proofs.breaks.count_falls.Goals as goal

pub sum-requires-clause-fits : goal.sum-requires-clause-fits
sum-requires-clause-fits c =
    let xs = c.args.rows.now in
    let few : sum (map (one_break xs) (range_with_len 0 (length xs))) < 2 ^ 64 = omega (arith, rows_counted xs (length xs), few_breaks xs (length xs)) in
    fits_from_yields_list c.map.result _
    (YieldsList-from_map _ (one_break xs) (YieldsList-from_range 0 (length xs) (length xs) c.map.ensures.source (omega arith)) c.map.ensures.closure (λ x r q k. search (rules, tests)))
    few

pub returns : goal.returns
returns c =
    let xs = c.args.rows.now in
    sum_from_yields_List c.map.result _ c.sum.ensures.ran
    (YieldsList-from_map _ (one_break xs) (YieldsList-from_range 0 (length xs) (length xs) c.map.ensures.source (omega arith)) c.map.ensures.closure (λ x r q k. search (rules, tests)))
    ∙ rows_counted xs (length xs)
