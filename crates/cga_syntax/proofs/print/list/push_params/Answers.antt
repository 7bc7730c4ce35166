use Rattle.std.proofs.Common.{◌≡◌, List, subst}
use Rattle.std.specs.Prelude.{OnOk}
use Rattle.cga_syntax.specs.declared.print.mark.Mark.{Mark}
use Rattle.cga_syntax.specs.Forms.{name_pieces}
use Rattle.cga_syntax.proofs.Printed.{arguments_on}
use Rattle.cga_syntax.proofs.print.list.push_params.Goals as goal

pub returns-in_ok-push_further_params-in-len1-up : goal.returns-in_ok-push_further_params-in-len1-up
returns-in_ok-push_further_params-in-len1-up c =
    subst (λ (z : List Mark). OnOk c.push_sign-in-len1-up.result (c.push_sign-in-len1-up.new.marks ≡ z))
    (arguments_on name_pieces c.args.marks.now _ _ _ c.args.params.now _ c.in-len1-up.len_at_least c.first-item.is c.in_ok-push_sign-in-len1-up.ensures c.in_ok-push_named-in-len1-up.ensures c.in_ok-push_further_params-in-len1-up.ensures)
    c.push_sign-in-len1-up.ensures
