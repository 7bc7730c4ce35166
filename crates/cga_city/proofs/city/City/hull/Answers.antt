use Rattle.std.proofs.Common.{refl, ap, sym, subst, ◌∙◌}
use Rattle.std.specs.Option.{option_copied}
use Rattle.std.specs.Prelude.{IfSome, IsSome}
use Rattle.cga_shape.specs.declared.lot.Lot.{Lot}
use Rattle.cga_city.specs.Derived.{members}
use Rattle.cga_city.specs.Hulls.{IsHullOf}
use Rattle.cga_city.proofs.Hulls.{has_root, least_is_hull, lot_there}
use Rattle.cga_city.proofs.Kept.{has_members, warm_inside}
use Rattle.cga_city.proofs.city.City.hull.Goals as goal

pub hull-requires : goal.hull-requires
hull-requires c = let root = (c.in-Some-root_of.ensures c.in-Some-root_of.root).0 refl in record { here = subst IsSome (sym root.1) refl }

pub unreachable-requires : goal.unreachable-requires
unreachable-requires c =
    absurd (lot_there _ c.args.self.now c.self.view_is c.args.place c.requires.place (sym c.get.ensures ∙ ap option_copied c.in_default.is))

pub unreachable-requires-in-None : goal.unreachable-requires-in-None
unreachable-requires-in-None c =
    let warm = warm_inside _ c.args.self.now c.self.view_is c.requires.warm in
    let lot = c.in-Some.lot.now in
    let there = sym c.get.ensures ∙ ap option_copied c.in-Some.is in
    let root = has_root c.self.inside.sources c.self.invariant.sound c.self.inside.kept (c.self.invariant.stands warm) c.args.place lot there in
    let none = (c.in-None.ensures root.0).1 root.1 in
    absurd (cc)

pub returns : goal.returns
returns c =
    let warm = warm_inside _ c.args.self.now c.self.view_is c.requires.warm in
    let lot = c.in-Some.lot.now in
    let there = sym c.get.ensures ∙ ap option_copied c.in-Some.is in
    let has = has_members c.self.inside.sources c.self.inside.budget c.self.inside.warm c.self.inside.kept c.self.invariant warm in
    let hull = least_is_hull c.self.inside.kept.forest c.laws.ensures (members c.self.inside.budget c.self.inside.sources) has lot.name c.in-Some-root_of.root (c.in-Some-root_of.ensures {u = tt}) c.hull.result c.hull.ensures.least in
    rw (← c.self.view_is) (subst (λ o. IfSome o (λ (l : Lot). IsHullOf l.name (members c.self.inside.budget c.self.inside.sources) c.hull.result)) (sym there) hull)
