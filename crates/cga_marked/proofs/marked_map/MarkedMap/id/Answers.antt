use Rattle.std.proofs.Common.{◌<◌, ◌∙◌, length, sym, ap, arith, slice_get}
use Rattle.std.proofs.lemmas.List.{length-take-le}
use Rattle.cga_marked.specs.Map.{MapView, ids}
use Rattle.cga_marked.proofs.Shelf.{ids_front}
use Rattle.cga_marked.proofs.marked_map.MarkedMap.id.Goals as goal

pub returns : goal.returns
returns c =
    let lt : c.args.place < length c.args.self.now.list = c.requires in
    let n = ap (λ (v : MapView). length v.list) c.self.view_is in
    let m = length-take-le c.self.inside.shown c.self.inside.map.entries c.self.invariant.within in
    ap (λ (v : MapView). slice_get (ids v.list) c.args.place) (sym c.self.view_is)
    ∙ ids_front c.self.inside.map.entries c.self.inside.shown c.args.place (omega (arith, lt, n, m)) ∙ c.index.ensures
