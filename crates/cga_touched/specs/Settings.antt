-- A test of equality: of what two grammars say of a symbol.
use Rattle.std.specs.Prelude.{ℕ, List, ◌++◌, Bool, ◌&&◌}
use Rattle.std.specs.List.{list_all}
use Rattle.cga_rule.specs.declared.grammar.Attribute.{Attribute}
use Rattle.cga_rule.specs.declared.grammar.Grammar.{Grammar}
use Rattle.cga_rule.specs.Equal.{same_group}
use Rattle.cga_expand.specs.Settings.{Setting, setting_of}
use Rattle.cga_touched.specs.Words.{same_option, same_rat}

-- the attribute has the same value in both settings, or none
abbrev pub same_value : Setting → Setting → Attribute → Bool
same_value a b attribute = same_option same_rat (a.values attribute.name) (b.values attribute.name)

-- the group is the same, and the values of the attributes are, as far as these grammars have any
unfoldable pub same_setting : Grammar → Grammar → List ℕ → Bool
same_setting old new symbol =
    same_option same_group (setting_of old symbol).group (setting_of new symbol).group
    && list_all (same_value (setting_of old symbol) (setting_of new symbol)) (old.attributes ++ new.attributes)
