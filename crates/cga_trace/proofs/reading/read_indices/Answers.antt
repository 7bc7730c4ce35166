use Rattle.std.specs.Prelude.{IfSome}
use Rattle.std.proofs.Common.{◌<◌, ◌^◌, length, [], ◌∷◌, ◌++◌, Some, sym, ap, ◌∙◌, subst, arith}
use Rattle.cga_trace.proofs.Again.{none_not, some_value}
use Rattle.cga_trace.proofs.Cutting.{cut_shorter}
use Rattle.cga_trace.specs.Text.{AreFew}
use Rattle.cga_trace.proofs.Parts.{IsLeft, few_more, path_ends, path_goes}
use Rattle.cga_trace.proofs.reading.read_indices.Goals as goal

pub returns-in_default-clause-again : goal.returns-in_default-clause-again
returns-in_default-clause-again c = λ is few at.
    let some : 0 < length c.loop-rest.rest.now = grind (arith, c.is_empty.ensures, c.loop-rest-test.true) in
    let goes = path_goes is few c.loop-rest.path.items c.loop-rest.rest.now (c.loop-rest.invariant.again is few at) some c.cut.result.0.now c.cut.result.1.now c.cut.ensures.front c.cut.ensures.rest in
    absurd (none_not goes.0 (sym c.in_default.is ∙ c.read_number.ensures.again goes.0 goes.1 goes.2))

pub loop-rest-smaller : goal.loop-rest-smaller
loop-rest-smaller c =
    let some : 0 < length c.loop-rest.rest.now = grind (arith, c.is_empty.ensures, c.loop-rest-test.true) in
    subst (λ r. length r < length c.loop-rest.rest.now) (sym c.cut.ensures.rest) (cut_shorter 47 c.loop-rest.rest.now some)

pub loop-rest-preserved : goal.loop-rest-preserved
loop-rest-preserved c = record {
  again = λ is few at.
      let some : 0 < length c.loop-rest.rest.now = grind (arith, c.is_empty.ensures, c.loop-rest-test.true) in
      let goes = path_goes is few c.loop-rest.path.items c.loop-rest.rest.now (c.loop-rest.invariant.again is few at) some c.cut.result.0.now c.cut.result.1.now c.cut.ensures.front c.cut.ensures.rest in
      let same = some_value c.in-Some.index goes.0 (sym c.in-Some.is ∙ c.read_number.ensures.again goes.0 goes.1 goes.2) in
      subst (λ done. IsLeft is done c.cut.result.1.now) (sym (c.in_ok-push.ensures.items ∙ ap (λ i. c.loop-rest.path.items ++ i ∷ []) same)) goes.3;
  few =
      let one = subst (λ o. IfSome o (λ n. n < 2 ^ 16)) c.in-Some.is c.read_number.ensures.few in
      subst AreFew (sym c.in_ok-push.ensures.items) (few_more c.loop-rest.path.items c.in-Some.index c.loop-rest.invariant.few one);
}

pub returns-clause-again : goal.returns-clause-again
returns-clause-again c = λ is few at.
    let none : 0 < length c.loop-rest.rest.now → ⊥ = λ h. grind (arith, c.is_empty.ensures, c.loop-rest-test.false, h) in
    ap Some (c.in_ok-from_slice.ensures ∙ c.as_slice.ensures.value ∙ path_ends is few c.loop-rest.path.items c.loop-rest.rest.now (c.loop-rest.invariant.again is few at) none)

pub returns-clause-few : goal.returns-clause-few
returns-clause-few c = subst AreFew (sym (c.in_ok-from_slice.ensures ∙ c.as_slice.ensures.value)) c.loop-rest.invariant.few
