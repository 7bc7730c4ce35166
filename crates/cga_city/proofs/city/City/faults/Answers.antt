use Rattle.std.proofs.lemmas.Result.{IfOk-weaker}
use Rattle.cga_city.specs.Derived.{members}
use Rattle.cga_city.proofs.Kept.{has_members, warm_inside}
use Rattle.cga_city.proofs.city.City.faults.Goals as goal

pub returns : goal.returns
returns c =
    let told = c.all_faults.ensures in
    let list = members c.self.inside.budget c.self.inside.sources in
    let has = has_members c.self.inside.sources c.self.inside.budget c.self.inside.warm c.self.inside.kept c.self.invariant (warm_inside _ c.args.self.now c.self.view_is c.requires) in
    rw (← c.self.view_is) (IfOk-weaker c.all_faults.result _ _ (λ t h. h list has) told)
