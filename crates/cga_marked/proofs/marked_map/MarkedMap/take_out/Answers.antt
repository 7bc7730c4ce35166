use Rattle.std.proofs.Common.{◌∙◌, ◌∷◌, ◌-◌, length, ap, subst, slice_get, arith}
use Rattle.std.specs.List.Sorted.{IsPermutation}
use Rattle.std.proofs.lemmas.List.{length_push}
use Rattle.cga_marked.specs.Map.{AreApart, KeepsPlaces, MapView, listed}
use Rattle.cga_marked.proofs.Names.{apart_front, at_front}
use Rattle.cga_marked.proofs.Shelf.{taken_out}
use Rattle.cga_marked.proofs.marked_map.MarkedMap.take_out.Goals as goal

pub invariant_of-self : goal.invariant_of-self
invariant_of-self c =
    let es = c.self.inside.map.entries in
    let p = taken_out es c.swap_indices.new.self.entries c.self.inside.shown c.in-Some.place c.args.name c.in-Some.id c.self.inside.steps.items c.push_reserved.new.self.items
    c.self.invariant.within (ap (λ (v : MapView). slice_get v.list c.in-Some.place) c.self.view_is ∙ c.in-Some.ensures.place) c.swap_indices.ensures.entries c.self.invariant.ready c.push_reserved.ensures.items in
    let f = at_front es c.self.inside.shown c.in-Some.place (c.args.name, c.in-Some.id) (ap (λ (v : MapView). slice_get v.list c.in-Some.place) c.self.view_is ∙ c.in-Some.ensures.place) in
    let lt = f.0 in
    let room = c.self.invariant.room in
    let l = ap length c.push_reserved.ensures.items ∙ length_push c.self.inside.steps.items _ in
    let k = c.push_reserved.ensures.capacity in
    record {
      within = p.0.within;
      ready = p.0.ready;
      room = omega (arith, lt, room, l, k);
    }

pub returns-in-Some-clause-gone : goal.returns-in-Some-clause-gone
returns-in-Some-clause-gone c =
    let es = c.self.inside.map.entries in
    let p = taken_out es c.swap_indices.new.self.entries c.self.inside.shown c.in-Some.place c.args.name c.in-Some.id c.self.inside.steps.items c.push_reserved.new.self.items
    c.self.invariant.within (ap (λ (v : MapView). slice_get v.list c.in-Some.place) c.self.view_is ∙ c.in-Some.ensures.place) c.swap_indices.ensures.entries c.self.invariant.ready c.push_reserved.ensures.items in
    subst (λ (v : MapView). IsPermutation v.list ((c.args.name, c.in-Some.id) ∷ listed (record { entries = c.swap_indices.new.self.entries; shown = c.self.inside.shown - 1 }))) c.self.view_is p.1

pub returns-in-Some-clause-kept : goal.returns-in-Some-clause-kept
returns-in-Some-clause-kept c =
    let es = c.self.inside.map.entries in
    let p = taken_out es c.swap_indices.new.self.entries c.self.inside.shown c.in-Some.place c.args.name c.in-Some.id c.self.inside.steps.items c.push_reserved.new.self.items
    c.self.invariant.within (ap (λ (v : MapView). slice_get v.list c.in-Some.place) c.self.view_is ∙ c.in-Some.ensures.place) c.swap_indices.ensures.entries c.self.invariant.ready c.push_reserved.ensures.items in
    subst (λ (v : MapView). KeepsPlaces c.in-Some.place v.list (listed (record { entries = c.swap_indices.new.self.entries; shown = c.self.inside.shown - 1 }))) c.self.view_is p.2

pub returns-in-Some-clause-former : goal.returns-in-Some-clause-former
returns-in-Some-clause-former c =
    let es = c.self.inside.map.entries in
    let p = taken_out es c.swap_indices.new.self.entries c.self.inside.shown c.in-Some.place c.args.name c.in-Some.id c.self.inside.steps.items c.push_reserved.new.self.items
    c.self.invariant.within (ap (λ (v : MapView). slice_get v.list c.in-Some.place) c.self.view_is ∙ c.in-Some.ensures.place) c.swap_indices.ensures.entries c.self.invariant.ready c.push_reserved.ensures.items in
    ap listed p.0.former ∙ ap (λ (v : MapView). v.former) c.self.view_is

pub returns-in-Some-clause-apart : goal.returns-in-Some-clause-apart
returns-in-Some-clause-apart c = apart_front c.swap_indices.new.self.entries (c.self.inside.shown - 1) c.swap_indices.ensures.unique

pub returns-in-None-clause-apart : goal.returns-in-None-clause-apart
returns-in-None-clause-apart c = subst (λ (v : MapView). AreApart v.list) c.self.view_is (apart_front c.self.inside.map.entries c.self.inside.shown c.len-entries.ensures.unique)
