use Rattle.std.proofs.Common.{◌<◌, ◌^◌, Some, sym, ap, ◌∙◌, subst, arith}
use Rattle.std.specs.Str.{IsUtf8}
use Rattle.std.proofs.lemmas.Fmt.{IsAscii-decimal, parse-decimal}
use Rattle.std.proofs.lemmas.Str.{IsUtf8-from_ascii}
use Rattle.cga_trace.proofs.Again.{ok_value, ok_err}
use Rattle.cga_trace.proofs.words.read_number.Goals as goal

pub returns-in_default-clause-again : goal.returns-in_default-clause-again
returns-in_default-clause-again c = λ n small is.
    let fits : n < 2 ^ 64 = omega (arith, small) in
    absurd (c.in_default.ensures.cases.0 (subst IsUtf8 (sym is) (IsUtf8-from_ascii _ (IsAscii-decimal n fits))))

pub returns-in-Ok-parse-clause-again : goal.returns-in-Ok-parse-clause-again
returns-in-Ok-parse-clause-again c = λ n small is.
    let fits : n < 2 ^ 64 = omega (arith, small) in
    let read = parse-decimal 16 n c.in-Ok.text.now c.parse.result small fits (c.in-Ok.ensures.cases.0 ∙ is) c.parse.ensures.value.0 in
    ap Some (ok_value c.in-Ok-parse.number n (sym c.in-Ok-parse.is ∙ read))

pub returns-in-Err-clause-again : goal.returns-in-Err-clause-again
returns-in-Err-clause-again c = λ n small is.
    let fits : n < 2 ^ 64 = omega (arith, small) in
    let read = parse-decimal 16 n c.in-Ok.text.now c.parse.result small fits (c.in-Ok.ensures.cases.0 ∙ is) c.parse.ensures.value.0 in
    absurd (ok_err n c.in-Err.field-0 (sym read ∙ c.in-Err.is))
