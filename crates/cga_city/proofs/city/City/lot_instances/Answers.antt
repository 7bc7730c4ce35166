use Rattle.std.proofs.Common.{◌≡◌, ◌≤◌, List, [], ◌∷◌, arith, length, subst, sym}
use Rattle.std.proofs.lemmas.Result.{IfOk-weaker}
use Rattle.cga_shape.specs.declared.drawn.Drawn.{Drawn}
use Rattle.cga_obj.specs.Lots.{AreSolid}
use Rattle.cga_city.specs.Derived.{members}
use Rattle.cga_city.specs.Reports.{drawn_in}
use Rattle.cga_city.proofs.Few.{few_in}
use Rattle.cga_city.proofs.Kept.{few_there, has_members, members_sound, warm_inside}
use Rattle.cga_city.proofs.Standing.{are_solid}
use Rattle.cga_city.proofs.city.City.lot_instances.Goals as goal

pub returns-clause-value : goal.returns-clause-value
returns-clause-value c =
    let list = members c.self.inside.budget c.self.inside.sources in
    let has = has_members c.self.inside.sources c.self.inside.budget c.self.inside.warm c.self.inside.kept c.self.invariant (warm_inside _ c.args.self.now c.self.view_is c.requires) in
    rw (← c.self.view_is) (IfOk-weaker c.lot_drawn.result _ _ (λ t h. h list has) c.lot_drawn.ensures)

pub returns-clause-solid : goal.returns-clause-solid
returns-clause-solid c =
    let list = members c.self.inside.budget c.self.inside.sources in
    let has = has_members c.self.inside.sources c.self.inside.budget c.self.inside.warm c.self.inside.kept c.self.invariant (warm_inside _ c.args.self.now c.self.view_is c.requires) in
    let sound = members_sound c.self.inside.sources c.self.inside.budget c.self.inside.warm c.self.inside.kept c.self.invariant in
    IfOk-weaker c.lot_drawn.result _ _ (λ t h. subst AreSolid (sym (h list has)) (are_solid (c.args.lot ∷ []) list sound)) c.lot_drawn.ensures

pub returns-clause-few : goal.returns-clause-few
returns-clause-few c =
    let list = members c.self.inside.budget c.self.inside.sources in
    let has = has_members c.self.inside.sources c.self.inside.budget c.self.inside.warm c.self.inside.kept c.self.invariant (warm_inside _ c.args.self.now c.self.view_is c.requires) in
    let few = few_there c.self.inside.sources c.self.inside.budget c.self.inside.warm c.self.inside.kept c.self.invariant in
    let own = few_in c.args.lot list in
    let all : length (drawn_in (c.args.lot ∷ []) list) ≤ c.self.inside.budget = omega (arith, own, few) in
    rw (← c.self.view_is) (IfOk-weaker c.lot_drawn.result _ _ (λ t h. subst (λ (drawn : List Drawn). length drawn ≤ c.self.inside.budget) (sym (h list has)) all) c.lot_drawn.ensures)
