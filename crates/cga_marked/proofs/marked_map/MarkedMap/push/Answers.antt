use Rattle.std.proofs.Common.{◌≡◌, ◌+◌, ◌≤◌, ◌∙◌, ◌++◌, ◌∷◌, [], ℕ, Option, length, take, sym, ap, subst, arith}
use Rattle.std.specs.Map.{lookup}
use Rattle.std.specs.List.{position_or_len, swap}
use Rattle.std.proofs.lemmas.List.{length-take-le, length_push}
use Rattle.cga_marked.specs.Map.{MapView, Shelf, listed, names, id_under, same_name}
use Rattle.cga_marked.proofs.Names.{apart_front}
use Rattle.cga_marked.proofs.Shelf.{IsNoted, comes, if_ok, on_ok, pushed}
use Rattle.cga_marked.proofs.marked_map.MarkedMap.push.Goals as goal

-- the entries after the call, with the step noted
noted : (c : goal.After-push_reserved)
    → IsNoted (record { entries = c.self.inside.map.entries; shown = c.self.inside.shown }) (record { entries = c.swap_indices-2.new.self.entries; shown = c.self.inside.shown + 1 }) c.self.inside.steps.items c.push_reserved.new.self.items
    × (take (c.self.inside.shown + 1) c.swap_indices-2.new.self.entries ≡ swap (take c.self.inside.shown c.self.inside.map.entries ++ (c.args.name, c.args.id) ∷ []) c.gap_of-gap.result c.self.inside.shown)
noted c =
    let es = c.self.inside.map.entries in
    let s : Shelf = record { entries = es; shown = c.self.inside.shown } in
    let is = comes s c.insert_full.new.self.entries c.args.name c.args.id c.unwrap-place.result.0 c.unwrap-place.result.1
    (on_ok c.insert_full.result c.unwrap-place.result c.unwrap-place.ensures c.insert_full.ensures.entries)
    (if_ok c.insert_full.result c.unwrap-place.result (λ (r : ℕ × Option ℕ). r.0 ≡ position_or_len (same_name c.args.name) (names es)) c.unwrap-place.ensures c.insert_full.ensures.index)
    (if_ok c.insert_full.result c.unwrap-place.result (λ (r : ℕ × Option ℕ). r.1 ≡ lookup (same_name c.args.name) es) c.unwrap-place.ensures c.insert_full.ensures.old)
    c.self.invariant.within (ap (λ (v : MapView). id_under v.list c.args.name) c.self.view_is ∙ c.requires.absent) in
    rw (c.swap_indices-2.ensures.entries, c.swap_indices.ensures.entries, c.push_reserved.ensures.items)
    (pushed s c.insert_full.new.self.entries c.args.name c.args.id c.unwrap-place.result.0 c.unwrap-place.result.1 is c.gap_of-gap.result c.gap_of-gap.ensures c.self.inside.steps.items c.self.invariant.ready)

pub invariant_of-self : goal.invariant_of-self
invariant_of-self c =
    let es = c.self.inside.map.entries in
    let p = noted c in
    let n = length-take-le c.self.inside.shown es c.self.invariant.within in
    let room = subst (λ (v : MapView). length v.list + v.noted + 2 ≤ v.cap) (sym c.self.view_is) c.requires.space.step in
    let l = ap length c.push_reserved.ensures.items ∙ length_push c.self.inside.steps.items _ in
    let k = c.push_reserved.ensures.capacity in
    record {
      within = p.0.within;
      ready = p.0.ready;
      room = omega (arith, n, room, l, k);
    }

pub returns-clause-list : goal.returns-clause-list
returns-clause-list c =
    let es = c.self.inside.map.entries in
    let p = noted c in
    p.1
    ∙ ap (λ (k : ℕ). swap (listed (record { entries = es; shown = c.self.inside.shown }) ++ (c.args.name, c.args.id) ∷ []) c.gap_of-gap.result k) (sym (length-take-le c.self.inside.shown es c.self.invariant.within))
    ∙ ap (λ (v : MapView). swap (v.list ++ (c.args.name, c.args.id) ∷ []) c.gap_of-gap.result (length v.list)) c.self.view_is

pub returns-clause-place : goal.returns-clause-place
returns-clause-place c =
    let n = length-take-le c.self.inside.shown c.self.inside.map.entries c.self.invariant.within in
    let v = ap (λ (v : MapView). length v.list) c.self.view_is in
    let low = c.gap_of-gap.ensures in omega (arith, n, v, low)

pub returns-clause-former : goal.returns-clause-former
returns-clause-former c =
    let es = c.self.inside.map.entries in
    let p = noted c in
    ap listed p.0.former ∙ ap (λ (v : MapView). v.former) c.self.view_is

pub returns-clause-apart : goal.returns-clause-apart
returns-clause-apart c = apart_front c.swap_indices-2.new.self.entries (c.self.inside.shown + 1) c.swap_indices-2.ensures.unique
