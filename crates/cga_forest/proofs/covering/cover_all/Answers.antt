use Rattle.std.proofs.Common.{arith}
use Rattle.cga_forest.proofs.Covered.{ids_within}
use Rattle.cga_forest.proofs.covering.cover_all.Goals as goal

pub returns : goal.returns
returns c p k h at e =
    let lt = ids_within c.args.roots.now.list p k at in
    let n = c.len.ensures in c.rest.ensures.kept p h (c.cover_places.ensures.here p (omega arith) (omega (arith, lt, n)) k h at e)
