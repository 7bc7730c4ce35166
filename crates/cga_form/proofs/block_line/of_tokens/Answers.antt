use Rattle.std.proofs.Common.{Ok, Err, ◌∙◌, sym, subst, map}
use Rattle.cga_form.specs.Tells.{Tells}
use Rattle.cga_form.specs.Cursor.{seen}
use Rattle.cga_form.proofs.BlockReaders.{not_blank}
use Rattle.cga_form.proofs.block_line.of_tokens.Goals as goal

pub returns-in-Ok : goal.returns-in-Ok
returns-in-Ok g c =
    not_blank g.F.Form.pieces c.args.end c.args.tokens.now (Ok c.in-Ok.said) (sym c.is_empty.ensures ∙ c.if-is_empty.false) (subst (λ z. Tells g.F.Form.pieces 32 (map seen c.args.tokens.now) z) c.in-Ok.is c.in_ok-said.ensures)

pub returns-in-Err : goal.returns-in-Err
returns-in-Err g c =
    rw c.at_place.ensures (not_blank g.F.Form.pieces c.args.end c.args.tokens.now (Err c.in-Err.fault) (sym c.is_empty.ensures ∙ c.if-is_empty.false) (subst (λ z. Tells g.F.Form.pieces 32 (map seen c.args.tokens.now) z) c.in-Err.is c.in_ok-said.ensures))
