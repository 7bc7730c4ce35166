-- The grammars of an edit.
use Rattle.cga_rule.specs.declared.grammar.Grammar.{Grammar}

pub record BothGrammars : Type 0 where
  pub before : Grammar
  pub after : Grammar

abbrev pub both : Grammar → Grammar → BothGrammars
both old new = record { before = old; after = new }
