use Rattle.std.proofs.Common.{◌≡◌, ◌+◌, ◌≤◌, ◌∙◌, List, Some, ap, arith, length, slice_get, subst, sym}
use Rattle.std.specs.Option.{option_copied}
use Rattle.std.specs.Prelude.{IfSome}
use Rattle.cga_shape.specs.declared.lot.Lot.{Lot}
use Rattle.cga_city.specs.Derived.{members}
use Rattle.cga_city.specs.Hulls.{IsHullOf}
use Rattle.cga_city.proofs.Door.{lot_within}
use Rattle.cga_top.proofs.LotByLot.{begins, ends, goes_on}
use Rattle.cga_top.proofs.hulls.hulls_text.Goals as goal

pub loop-place-init : goal.loop-place-init
loop-place-init c = begins (members c.args.city.now.budget c.args.city.now.sources) c.args.city.now.sources.lots c.new-text.result c.new-text.ensures

pub unreachable-requires : goal.unreachable-requires
unreachable-requires c =
    absurd (lot_within c.lots-lots.result.now c.loop-place.place (omega arith) (sym c.get.ensures ∙ ap option_copied c.in_default.is))

pub loop-place-preserved : goal.loop-place-preserved
loop-place-preserved c =
    let list = members c.args.city.now.budget c.args.city.now.sources in
    let lots = c.args.city.now.sources.lots in
    let place = c.loop-place.place in
    let lot = c.in-Some.lot.now in
    let there : slice_get lots place ≡ Some lot = ap (λ (ls : List Lot). slice_get ls place) (sym c.lots-lots.ensures.value) ∙ (sym c.get.ensures ∙ ap option_copied c.in-Some.is) in
    let hull = subst (λ o. IfSome o (λ (l : Lot). IsHullOf l.name list c.hull.result)) there c.hull.ensures in
    goes_on list lots place (place + 1) c.loop-place.text c.push_hull.new.text lot c.hull.result there hull (c.in_ok-push_hull.ensures {u = tt}) (omega arith) c.loop-place.invariant

pub returns : goal.returns
returns c =
    let within : length c.args.city.now.sources.lots ≤ c.loop-place.place = omega (arith, ap length c.lots-lots.ensures.value) in
    ends (members c.args.city.now.budget c.args.city.now.sources) c.args.city.now.sources.lots c.loop-place.place c.loop-place.text c.into_list.result within c.into_list.ensures c.loop-place.invariant
