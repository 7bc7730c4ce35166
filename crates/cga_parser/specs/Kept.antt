-- How much of a grammar is kept while its lines are read.
use Rattle.std.specs.Prelude.{ℕ, List, ◌++◌, length, take, nat_lt, if◌then◌else◌}
use Rattle.cga_rule.specs.declared.grammar.Grammar.{Grammar}
use Rattle.cga_parser.specs.declared.limits.TheConstants.{KEPT_RULES, KEPT_ATTRIBUTES}

-- more behind what is kept, where so many aren't there yet
abbrev pub with_room : {A : Type 0} → ℕ → List A → List A → List A
with_room most items more = if nat_lt (length items) most then items ++ more else items

-- a grammar, cut behind the first rule and the first attribute that are too many
abbrev pub kept : Grammar → Grammar
kept g = record { attributes = take KEPT_ATTRIBUTES g.attributes; rules = take KEPT_RULES g.rules }
