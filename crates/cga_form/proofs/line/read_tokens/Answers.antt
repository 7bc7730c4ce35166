use Rattle.std.proofs.Common.{sym, subst, map, IfOk}
use Rattle.cga_form.specs.Cursor.{input_of, Reads, seen}
use Rattle.cga_form.specs.Tells.{Tells}
use Rattle.cga_form.specs.Parts.{complete}
use Rattle.cga_form.proofs.Lines.{form_settled}
use Rattle.cga_form.proofs.line.read_tokens.Goals as goal

pub returns : goal.returns
returns g c =
    subst (λ r. IfOk r (λ found. Tells g.F.Form.pieces 32 (map seen c.args.tokens.now) found)) (sym c.settled.ensures.exact)
    (form_settled g.F.Form.pieces g.F.Form.reader c.is_form.ensures 32 (map seen c.args.tokens.now) (input_of c.complete.new.tokens) c.complete.result
    (subst (λ i. Reads (complete (g.F.Form.reader 32) i) c.complete.result (input_of c.complete.new.tokens)) c.of-left.ensures c.complete.ensures))
