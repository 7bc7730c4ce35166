use Rattle.std.proofs.Common.{ap, ◌∙◌}
use Rattle.cga_form.specs.Cursor.{input_of}
use Rattle.cga_form.specs.Reader.{decoded}
use Rattle.cga_script.specs.Heads.{a_further}
use Rattle.cga_script.proofs.HeadWords.{further_next}
use Rattle.cga_script.proofs.command_form.at_further.Goals as goal

pub returns : goal.returns
returns c =
    c.is_some.ensures
    ∙ further_next (input_of c.args.tokens.now).left c.further.result (c.further.ensures ∙ ap (decoded a_further) c.peek.ensures.value)
