use Rattle.std.proofs.lemmas.Result.{IfOk-weaker}
use Rattle.cga_city.proofs.Kept.{warm_inside}
use Rattle.cga_city.proofs.Tracing.{known}
use Rattle.cga_city.proofs.city.City.trace.Goals as goal

pub returns-clause-run : goal.returns-clause-run
returns-clause-run c =
    let k = known c.self.inside.sources c.self.inside.budget c.self.inside.warm c.self.inside.kept c.self.invariant (warm_inside _ c.args.self.now c.self.view_is c.requires) in
    rw (← c.self.view_is) (IfOk-weaker c.trace.result _ _ (λ t h. h c.self.inside.sources k.0 k.1) c.trace.ensures.run)
