use Rattle.std.proofs.Common.{ℕ, List, length, rules, tests}
use Rattle.std.specs.Prelude.{◌==◌, not}
use Rattle.std.proofs.lemmas.Iterator.Consumers.{YieldsList-at, YieldsList-from_filter, map_from_collect}
use Rattle.std.proofs.lemmas.Iterator.Splits.{YieldsList-from_slice_split}
use Rattle.cga_asset.specs.Words.{is_blank}
use Rattle.cga_asset.proofs.words.words.Goals as goal

pub returns : goal.returns
returns c =
    let h = map_from_collect _ c.collect.ensures.ran
    (YieldsList-from_filter _ (λ (w : List ℕ). not (length w == 0))
    (YieldsList-at c.filter.ensures.source (YieldsList-from_slice_split _ is_blank c.args.line.now c.split.ensures.rest c.split.ensures.done c.split.ensures.closure (λ x r q k. search (rules, tests))))
    c.filter.ensures.closure (λ x r q k. search (rules, tests))) in
    rw c.in_ok-words.was at h
