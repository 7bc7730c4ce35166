use Rattle.std.proofs.Common.{◌≡◌, ◌<◌, ◌≤◌, List, [], ◌∷◌, ◌++◌, Some, None, length, sym, ap, subst, ◌∙◌, arith}
use Rattle.std.specs.BTreeMap.{Updates}
use Rattle.std.specs.Cmp.Lexicographic.{slice_cmp}
use Rattle.std.specs.Ordering.{nat_cmp}
use Rattle.cga_shape.specs.declared.lot.Lot.{Lot}
use Rattle.cga_script.specs.Places.{ArePlaces, lot_index}
use Rattle.cga_script.proofs.LotPlaces.{one_more_place, same_places, within}
use Rattle.cga_script.proofs.KeptLots.{full_kept, known_kept, new_kept}
use Rattle.cga_script.proofs.named_lots.put.Goals as goal

pub index_mut-requires : goal.index_mut-requires
index_mut-requires c =
    let at : lot_index c.args.lot.name c.args.lots.now.items ≡ Some c.in-Some.place = cc (c.requires.places c.args.lot.name) in
    omega (arith, within c.args.lot.name c.args.lots.now.items c.in-Some.place at)

pub returns-in-Some-clause-lots : goal.returns-in-Some-clause-lots
returns-in-Some-clause-lots c =
    let at : lot_index c.args.lot.name c.args.lots.now.items ≡ Some c.in-Some.place = cc (c.requires.places c.args.lot.name) in
    known_kept 4097 c.args.lot c.args.lots.now.items c.in-Some.place at c.requires.few

pub returns-in-Some-clause-places : goal.returns-in-Some-clause-places
returns-in-Some-clause-places c =
    let at : lot_index c.args.lot.name c.args.lots.now.items ≡ Some c.in-Some.place = cc (c.requires.places c.args.lot.name) in
    same_places c.args.lot c.args.lots.now.items c.args.places.now c.in-Some.place at c.requires.places

pub returns-else-len-lt-KEPT_LOTS-clause-lots : goal.returns-else-len-lt-KEPT_LOTS-clause-lots
returns-else-len-lt-KEPT_LOTS-clause-lots c =
    let none : lot_index c.args.lot.name c.args.lots.now.items ≡ None = cc (c.requires.places c.args.lot.name) in
    let many : 4097 ≤ length c.args.lots.now.items = omega (arith, c.len.ensures, c.args.lots.now.ok.0) in
    full_kept 4097 c.args.lot c.args.lots.now.items none c.requires.few many

pub returns-in_ok-insert-in-None-clause-lots : goal.returns-in_ok-insert-in-None-clause-lots
returns-in_ok-insert-in-None-clause-lots c =
    let none : lot_index c.args.lot.name c.args.lots.now.items ≡ None = cc (c.requires.places c.args.lot.name) in
    let room : length c.args.lots.now.items < 4097 = omega (arith, c.len.ensures, c.args.lots.now.ok.0) in
    let b = new_kept 4097 c.args.lot c.args.lots.now.items none room in
    let r = c.reserve.ensures.items in
    let p = c.push_reserved.ensures.items in
    cc

pub returns-in_ok-insert-in-None-clause-places : goal.returns-in_ok-insert-in-None-clause-places
returns-in_ok-insert-in-None-clause-places c =
    let none : lot_index c.args.lot.name c.args.lots.now.items ≡ None = cc (c.requires.places c.args.lot.name) in
    let room : c.reserve.new.self.items ≡ c.args.lots.now.items = c.reserve.ensures.items in
    let n : c.len-then-len-lt-KEPT_LOTS.result ≡ length c.args.lots.now.items = omega (arith, c.len-then-len-lt-KEPT_LOTS.ensures, c.reserve.ensures.len, c.args.lots.now.ok.0) in
    let all : c.push_reserved.new.self.items ≡ c.args.lots.now.items ++ c.args.lot ∷ [] = c.push_reserved.ensures.items ∙ ap (λ (ls : List Lot). ls ++ c.args.lot ∷ []) room in
    subst (ArePlaces c.insert.new.self) (sym all)
    (one_more_place c.args.lot c.args.lots.now.items c.args.places.now c.insert.new.self none c.requires.places
    (subst (λ k. Updates (slice_cmp nat_cmp) c.args.places.now c.insert.new.self c.args.lot.name (Some k)) n c.in_ok-insert-in-None.ensures.updates))
