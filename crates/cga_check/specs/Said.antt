-- What the rules of a symbol say of its shapes: its priority, and for which targets a condition asks.
use Rattle.std.specs.Prelude.{ℕ, List, Bool, ◌&&◌, ◌||◌, Option, Some, None, unwrap_or}
use Rattle.std.specs.List.{list_any}
use Rattle.std.specs.Option.{option_map}
use Rattle.cga_word.specs.declared.target.Target.{Target}
use Rattle.cga_word.specs.declared.target.Target.TheVariants.{Noparent, Active}
use Rattle.cga_rule.specs.declared.grammar.Entry.{Entry}
use Rattle.cga_rule.specs.declared.grammar.Grammar.{Grammar}
use Rattle.cga_check.specs.Groups.{is_of, first_entry, priority_of, group, group_asks, asks}
use Rattle.cga_check.specs.declared.said.Said.{Said}

unfoldable pub said : Grammar → List ℕ → Said
said g symbol = record { priority = unwrap_or (priority_of g symbol) 0; noparent = group_asks (group g symbol) Noparent; active = group_asks (group g symbol) Active }

-- a condition asks for a target
abbrev pub asks_any : Said → Bool
asks_any s = s.noparent || s.active

-- ---- as it is found, entry by entry

-- the entry is a rule of the symbol, and asks for the target
abbrev pub is_asking : List ℕ → Target → Entry → Bool
is_asking symbol target e = is_of symbol e && asks target e.rule

unfoldable pub said_among : List ℕ → List Entry → Option Said
said_among symbol entries = option_map
    (λ (e : Entry). record {
      priority = e.priority;
      noparent = list_any (is_asking symbol Noparent) entries;
      active = list_any (is_asking symbol Active) entries;
    }) (first_entry entries symbol)

abbrev pub with_rule : Option Said → Entry → Said
with_rule None e = record { priority = e.priority; noparent = asks Noparent e.rule; active = asks Active e.rule }
with_rule (Some s) e = record { priority = s.priority; noparent = s.noparent || asks Noparent e.rule; active = s.active || asks Active e.rule }
