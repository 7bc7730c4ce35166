use Rattle.std.proofs.Common.{◌∙◌, length, take, ap, arith}
use Rattle.std.proofs.lemmas.List.{length-take-le}
use Rattle.cga_marked.specs.Map.{MapView}
use Rattle.cga_marked.proofs.Shelf.{no_steps_ready, no_steps_listed, settled_listed}
use Rattle.cga_marked.proofs.marked_map.MarkedMap.settle.Goals as goal

pub invariant_of-self : goal.invariant_of-self
invariant_of-self c = record {
  within =
      let n = ap length c.truncate.ensures.entries in
      let m = length-take-le c.self.inside.shown c.self.inside.map.entries c.self.invariant.within in omega (arith, n, m);
  ready = no_steps_ready _ _ c.clear.ensures.items;
  room =
      let n = ap length c.clear.ensures.items in
      let k = c.clear.ensures.capacity in
      let r = c.self.invariant.room in omega (arith, n, k, r);
}

pub returns-clause-former : goal.returns-clause-former
returns-clause-former c =
    no_steps_listed _ _ c.clear.ensures.items ∙ ap (take c.self.inside.shown) c.truncate.ensures.entries
    ∙ settled_listed c.self.inside.map.entries c.self.inside.shown ∙ ap (λ (v : MapView). v.list) c.self.view_is
