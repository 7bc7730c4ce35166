use Rattle.std.proofs.Common.{ap}
use Rattle.cga_frame.specs.Scope.{Scope, translated}
use Rattle.cga_frame.proofs.Standing.{not_at, translated_is}
use Rattle.cga_frame.proofs.scope.Scope.translate.Goals as goal

pub returns-in-Ok-clause-value : goal.returns-in-Ok-clause-value
returns-in-Ok-clause-value c =
    translated_is c.args.self.now c.args.by c.in-Ok.at _ _ _ (ap (λ (s : Scope). s.frame) c.self.view_is) (ap (λ (s : Scope). s.size) c.self.view_is) c.in-Ok.ensures c.standing.ensures.value

pub returns-in-Err-clause-value : goal.returns-in-Err-clause-value
returns-in-Err-clause-value c = not_at (translated c.args.self.now c.args.by) c.in-Err.field-0 c.in-Err.ensures
