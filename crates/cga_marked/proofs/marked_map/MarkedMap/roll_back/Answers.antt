use Rattle.std.proofs.Common.{◌≤◌, ◌∙◌, length, sym, ap, subst, arith}
use Rattle.cga_marked.specs.Map.{MapView, Shelf, listed}
use Rattle.cga_marked.proofs.Names.{apart_front}
use Rattle.cga_marked.proofs.Shelf.{no_steps_listed, no_steps_ready, undone_room, undone_within}
use Rattle.cga_marked.proofs.marked_map.MarkedMap.roll_back.Goals as goal

pub invariant_of-self : goal.invariant_of-self
invariant_of-self c =
    let s : Shelf = record { entries = c.self.inside.map.entries; shown = c.self.inside.shown } in
    let t = c.take_back_all-self-inside.ensures in
    record {
      within = subst (λ (x : Shelf). x.shown ≤ length x.entries) t.shelf (undone_within c.self.inside.steps.items s c.self.invariant.within c.self.invariant.ready);
      ready = no_steps_ready _ _ t.steps;
      room =
          let n = ap length t.steps in
          let k = t.cap in
          let room = c.self.invariant.room in
          let most = undone_room c.self.inside.steps.items s in
          let same = ap (λ (x : Shelf). x.shown) t.shelf in omega (arith, n, k, room, most, same);
    }

pub returns-clause-former : goal.returns-clause-former
returns-clause-former c =
    let t = c.take_back_all-self-inside.ensures in
    no_steps_listed _ _ t.steps ∙ ap listed (sym t.shelf) ∙ ap (λ (v : MapView). v.former) c.self.view_is

pub returns-clause-apart : goal.returns-clause-apart
returns-clause-apart c = apart_front c.take_back_all-self-inside.new.map.entries c.take_back_all-self-inside.result c.len-entries.ensures.unique
