use Rattle.std.proofs.Common.{◌&&◌, ap, ◌∙◌}
use Rattle.std.specs.List.{list_any}
use Rattle.cga_rule.specs.declared.grammar.Entry.{Entry}
use Rattle.cga_check.specs.Groups.{is_of, names}
use Rattle.cga_check.proofs.Asked.{named_is}
use Rattle.cga_check.proofs.mentions.symbol_names.Goals as goal

pub returns : goal.returns
returns c =
    c.entries_name.ensures
    ∙ (ap (list_any (λ (e : Entry). is_of c.args.symbol e && names c.args.name e.rule)) c.as_slice.ensures ∙ named_is c.args.name c.args.symbol c.args.grammar.now)
