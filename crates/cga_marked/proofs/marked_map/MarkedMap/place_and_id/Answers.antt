use Rattle.std.proofs.Common.{◌≡◌, ◌∙◌, List, ℕ, sym, ap, slice_get, Some}
use Rattle.cga_marked.specs.Map.{MapView, id_under}
use Rattle.cga_marked.proofs.Names.{apart_front, contains_under, front_at, key_is, none_front, none_in_front}
use Rattle.cga_marked.proofs.marked_map.MarkedMap.place_and_id.Goals as goal

pub returns-then-place-self-clause-id : goal.returns-then-place-self-clause-id
returns-then-place-self-clause-id c =
    let es = c.self.inside.map.entries in
    let at : slice_get es c.in-Some.place ≡ Some (c.args.name, c.in-Some.id.now) = c.in-Some.ensures.entry ∙ ap (λ (k : List ℕ). Some (k, c.in-Some.id.now)) (sym (key_is es c.args.name c.in-Some.field-0-1.now c.in-Some.ensures.key)) in
    sym (contains_under _ c.args.name c.in-Some.place c.in-Some.id.now (apart_front es c.self.inside.shown c.len-entries.ensures.unique) (front_at es c.self.inside.shown c.in-Some.place (c.args.name, c.in-Some.id.now) c.if-place-self.true at))
    ∙ ap (λ (v : MapView). id_under v.list c.args.name) c.self.view_is

pub returns-then-place-self-clause-place : goal.returns-then-place-self-clause-place
returns-then-place-self-clause-place c =
    let es = c.self.inside.map.entries in
    let at : slice_get es c.in-Some.place ≡ Some (c.args.name, c.in-Some.id.now) = c.in-Some.ensures.entry ∙ ap (λ (k : List ℕ). Some (k, c.in-Some.id.now)) (sym (key_is es c.args.name c.in-Some.field-0-1.now c.in-Some.ensures.key)) in
    ap (λ (v : MapView). slice_get v.list c.in-Some.place) (sym c.self.view_is)
    ∙ front_at es c.self.inside.shown c.in-Some.place (c.args.name, c.in-Some.id.now) c.if-place-self.true at

pub returns-else-place-self-clause-id : goal.returns-else-place-self-clause-id
returns-else-place-self-clause-id c =
    let es = c.self.inside.map.entries in
    let at : slice_get es c.in-Some.place ≡ Some (c.args.name, c.in-Some.id.now) = c.in-Some.ensures.entry ∙ ap (λ (k : List ℕ). Some (k, c.in-Some.id.now)) (sym (key_is es c.args.name c.in-Some.field-0-1.now c.in-Some.ensures.key)) in
    sym (none_in_front es c.self.inside.shown c.in-Some.place c.args.name c.in-Some.id.now c.len-entries.ensures.unique c.if-place-self.false at)
    ∙ ap (λ (v : MapView). id_under v.list c.args.name) c.self.view_is

pub returns-in-None-clause-id : goal.returns-in-None-clause-id
returns-in-None-clause-id c =
    sym (none_front c.self.inside.map.entries c.self.inside.shown c.args.name (sym c.in-None.ensures.value))
    ∙ ap (λ (v : MapView). id_under v.list c.args.name) c.self.view_is
