use Rattle.std.proofs.Common.{false, ap, ◌∙◌}
use Rattle.std.specs.Prelude.{unwrap_or}
use Rattle.cga_check.specs.Said.{said_among}
use Rattle.cga_check.proofs.Telling.{said_is}
use Rattle.cga_check.proofs.said.said_of.Goals as goal

pub returns : goal.returns
returns c =
    c.unwrap_or.ensures
    ∙ (ap (λ o. unwrap_or o (record { priority = 0; noparent = false; active = false })) (c.said_among.ensures ∙ ap (said_among c.args.symbol) c.as_slice.ensures)
    ∙ said_is c.args.grammar.now c.args.symbol)
