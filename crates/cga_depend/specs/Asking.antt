-- Whether the rules of a symbol ask.
use Rattle.std.specs.Prelude.{ℕ, List, Bool, ◌||◌}
use Rattle.cga_check.specs.Said.{asks_any, said}
use Rattle.cga_rule.specs.declared.grammar.Grammar.{Grammar}

-- the symbol's rules ask in one of two grammars
abbrev pub asks_in : Grammar → Grammar → List ℕ → Bool
asks_in old new symbol = asks_any (said old symbol) || asks_any (said new symbol)
