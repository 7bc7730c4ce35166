use Rattle.std.proofs.Common.{refl, arith}
use Rattle.cga_marked.specs.Sorts.{is_first, is_second}
use Rattle.cga_marked.proofs.Room.{len_tally}
use Rattle.cga_marked.proofs.Sorts.{few_sorted, recount, sorted_from}
use Rattle.cga_marked.proofs.numbers.recounted.Goals as goal

pub counted-requires-clause-had : goal.counted-requires-clause-had
counted-requires-clause-had g c =
    let r = recount g.E.Marked.counts is_first refl c.requires.old c.args.entries.now.slots c.args.id c.requires.others c.args.was c.sort_at-is.result c.requires.before c.sort_at-is.ensures c.args.numbers.first c.requires.counted.first in
    rw c.is_first.ensures r.0

pub counted-requires-clause-fits : goal.counted-requires-clause-fits
counted-requires-clause-fits g c =
    let r = recount g.E.Marked.counts is_first refl c.requires.old c.args.entries.now.slots c.args.id c.requires.others c.args.was c.sort_at-is.result c.requires.before c.sort_at-is.ensures c.args.numbers.first c.requires.counted.first in
    let few = few_sorted g.E.Marked.counts is_first refl c.args.entries.now.slots in
    let most = len_tally c.args.entries.now in
    let len = c.len-most.ensures in
    let low = c.len-most.type_inv in
    rw (c.is_first.ensures, c.is_first-2.ensures) (omega (arith, r.1, few, most, len, low))

pub counted-requires-2-clause-had : goal.counted-requires-2-clause-had
counted-requires-2-clause-had g c =
    let r = recount g.E.Marked.counts is_second refl c.requires.old c.args.entries.now.slots c.args.id c.requires.others c.args.was c.sort_at-is.result c.requires.before c.sort_at-is.ensures c.args.numbers.second c.requires.counted.second in
    rw c.is_second.ensures r.0

pub counted-requires-2-clause-fits : goal.counted-requires-2-clause-fits
counted-requires-2-clause-fits g c =
    let r = recount g.E.Marked.counts is_second refl c.requires.old c.args.entries.now.slots c.args.id c.requires.others c.args.was c.sort_at-is.result c.requires.before c.sort_at-is.ensures c.args.numbers.second c.requires.counted.second in
    let few = few_sorted g.E.Marked.counts is_second refl c.args.entries.now.slots in
    let most = len_tally c.args.entries.now in
    let len = c.len-most.ensures in
    let low = c.len-most.type_inv in
    rw (c.is_second.ensures, c.is_second-2.ensures) (omega (arith, r.1, few, most, len, low))

pub returns : goal.returns
returns g c = record {
  first = sorted_from g.E.Marked.counts is_first refl c.requires.old c.args.entries.now.slots c.args.id c.requires.others c.args.was c.sort_at-is.result c.requires.before c.sort_at-is.ensures c.args.numbers.first c.requires.counted.first _ (rw (c.is_first.ensures, c.is_first-2.ensures) at c.counted.ensures);
  second = sorted_from g.E.Marked.counts is_second refl c.requires.old c.args.entries.now.slots c.args.id c.requires.others c.args.was c.sort_at-is.result c.requires.before c.sort_at-is.ensures c.args.numbers.second c.requires.counted.second _ (rw (c.is_second.ensures, c.is_second-2.ensures) at c.counted-2.ensures);
}
