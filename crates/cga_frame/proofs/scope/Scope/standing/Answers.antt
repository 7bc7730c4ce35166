use Rattle.cga_frame.specs.Scope.{Scope}
use Rattle.cga_frame.proofs.Standing.{not_far, far_is, it_exists, existing_is}
use Rattle.cga_frame.proofs.scope.Scope.standing.Goals as goal

pub returns-in-Err-clause-value : goal.returns-in-Err-clause-value
returns-in-Err-clause-value c = not_far (record { at = c.args.at; frame = c.args.frame; size = c.args.size }) c.in-Err.field-0 c.in-Err.ensures.value

pub invariant_of-result : goal.invariant_of-result
invariant_of-result c =
    let s : Scope = record { at = c.args.at; frame = c.args.frame; size = c.args.size } in
    record {
      sizes = c.requires;
      corner = far_is (record { at = c.args.at; frame = c.args.frame; size = c.args.size }) c.in-Ok.far c.in-Ok.ensures.value;
      exists = it_exists (record { at = c.args.at; frame = c.args.frame; size = c.args.size }) c.in-Ok.far c.in-Ok.ensures.value c.in-Ok.ensures.at c.in-Ok.ensures.in_range;
    }

pub returns-in-Ok-clause-value : goal.returns-in-Ok-clause-value
returns-in-Ok-clause-value c =
    existing_is (record { at = c.args.at; frame = c.args.frame; size = c.args.size }) (it_exists (record { at = c.args.at; frame = c.args.frame; size = c.args.size }) c.in-Ok.far c.in-Ok.ensures.value c.in-Ok.ensures.at c.in-Ok.ensures.in_range)

pub returns-in-Ok-clause-exists : goal.returns-in-Ok-clause-exists
returns-in-Ok-clause-exists c = it_exists (record { at = c.args.at; frame = c.args.frame; size = c.args.size }) c.in-Ok.far c.in-Ok.ensures.value c.in-Ok.ensures.at c.in-Ok.ensures.in_range
