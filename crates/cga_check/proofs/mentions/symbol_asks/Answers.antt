use Rattle.std.proofs.Common.{◌&&◌, ap, ◌∙◌}
use Rattle.std.specs.List.{list_any}
use Rattle.cga_rule.specs.declared.grammar.Entry.{Entry}
use Rattle.cga_check.specs.Groups.{is_of, asks}
use Rattle.cga_check.proofs.Asked.{asked_is}
use Rattle.cga_check.proofs.mentions.symbol_asks.Goals as goal

pub returns : goal.returns
returns c =
    c.entries_ask.ensures
    ∙ (ap (list_any (λ (e : Entry). is_of c.args.symbol e && asks c.args.target e.rule)) c.as_slice.ensures ∙ asked_is c.args.target c.args.symbol c.args.grammar.now)
