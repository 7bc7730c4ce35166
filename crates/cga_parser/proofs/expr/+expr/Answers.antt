use Rattle.std.proofs.lemmas.Result.{err_from_is_err_and}
use Rattle.cga_form.specs.Cursor.{input_of}
use Rattle.cga_parser.specs.Grammar.{inside_of}
use Rattle.cga_parser.proofs.Factors.{factor_ok, factor_fails}
use Rattle.cga_parser.proofs.expr.+expr.Goals as goal

pub factor-returns : goal.factor-returns
factor-returns t c = factor_ok c.args.depth (inside_of c.args.depth) (input_of c.args.tokens.now) c.minus-minus.result (input_of c.minus-minus.new.tokens) c.minus-minus.ensures c.in_ok-primary.primary (input_of c.primary.new.tokens) c.in_ok-primary.ensures

pub factor-returns-in_err-primary : goal.factor-returns-in_err-primary
factor-returns-in_err-primary t c =
    let p = err_from_is_err_and c.from_residual.result c.from_residual.ensures.1 in
    rw (p.1, p.2) (factor_fails c.args.depth (inside_of c.args.depth) (input_of c.args.tokens.now) c.minus-minus.result (input_of c.minus-minus.new.tokens) c.minus-minus.ensures c.in_err-primary.field-0.0 c.in_err-primary.ensures)
