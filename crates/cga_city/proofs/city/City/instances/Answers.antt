use Rattle.std.proofs.lemmas.Result.{IfOk-weaker}
use Rattle.cga_city.specs.Derived.{members}
use Rattle.cga_city.proofs.Kept.{has_members, members_sound, warm_inside}
use Rattle.cga_city.proofs.Standing.{order_told, solid_told}
use Rattle.cga_city.proofs.city.City.instances.Goals as goal

pub returns-clause-value : goal.returns-clause-value
returns-clause-value c =
    let told = c.told.ensures in
    let list = members c.self.inside.budget c.self.inside.sources in
    let has = has_members c.self.inside.sources c.self.inside.budget c.self.inside.warm c.self.inside.kept c.self.invariant (warm_inside _ c.args.self.now c.self.view_is c.requires) in
    rw (← c.self.view_is) (IfOk-weaker c.told.result _ _ (λ t h. h list has) told)

pub returns-clause-order : goal.returns-clause-order
returns-clause-order c =
    let told = c.told.ensures in
    let list = members c.self.inside.budget c.self.inside.sources in
    let has = has_members c.self.inside.sources c.self.inside.budget c.self.inside.warm c.self.inside.kept c.self.invariant (warm_inside _ c.args.self.now c.self.view_is c.requires) in
    rw (← c.self.view_is) (IfOk-weaker c.told.result _ _ (λ t h. order_told c.self.inside.sources.lots c.args.lot list t (h list has)) told)

pub returns-clause-solid : goal.returns-clause-solid
returns-clause-solid c =
    let told = c.told.ensures in
    let list = members c.self.inside.budget c.self.inside.sources in
    let has = has_members c.self.inside.sources c.self.inside.budget c.self.inside.warm c.self.inside.kept c.self.invariant (warm_inside _ c.args.self.now c.self.view_is c.requires) in
    IfOk-weaker c.told.result _ _ (λ t h. solid_told c.self.inside.sources.lots c.args.lot list t (members_sound c.self.inside.sources c.self.inside.budget c.self.inside.warm c.self.inside.kept c.self.invariant) (h list has)) told
