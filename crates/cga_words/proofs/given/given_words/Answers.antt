use Rattle.std.proofs.Common.{◌≡◌, IfOk, subst, sym, refl}
use Rattle.std.proofs.lemmas.Iterator.{items_from_collect}
use Rattle.std.proofs.lemmas.Iterator.Adapters.{YieldsList-from_vec}
use Rattle.std.specs.Vec.Iter.{into_iter_items}
use Rattle.cga_words.proofs.given.given_words.Goals as goal

pub returns-in-Ok-collect-clause-given : goal.returns-in-Ok-collect-clause-given
returns-in-Ok-collect-clause-given c =
    let it = c.in-Ok.words in
    let same = items_from_collect c.collect.result c.collect.ensures.ran (YieldsList-from_vec (into_iter_items it) refl it.rest.ok.0) in
    subst (λ found. IfOk found (λ given. c.in-Ok-collect.words.items ≡ into_iter_items given)) (sym c.in-Ok.is)
    (subst (λ got. IfOk got (λ words. words.items ≡ into_iter_items it)) c.in-Ok-collect.is same)
