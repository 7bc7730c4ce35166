-- The command, and what its words ask for.
use Rattle.std.specs.Prelude.{◌≡◌, ℕ, ◌≤◌, List, [], ◌∷◌, codes, pos, Option, Some, None, true, false, min, max, unwrap_or, option_and_then, option_map, if◌then◌else◌}
use Rattle.std.specs.Str.Parse.{digits_value, without_leading_plus}
use Rattle.clap.specs.Words.{App, Rule, Text, new_app, new_rule, with_rule, fault_of, matches_of}
use Rattle.clap.specs.Simple.{on_top}
use Rattle.clap.specs.Walk.{one_of}
use Rattle.clap.specs.ValueTests.{accepts}
use Rattle.clap.specs.declared.builder.ArgAction.TheVariants.{Set}
use Rattle.clap.specs.declared.builder.value_parser.ValueParser.TheVariants as parser

-- an option `--NAME N` with N between two numbers
abbrev pub number_rule : Text → ℕ → ℕ → Rule
number_rule name low high = record (new_rule name) { long = Some name; action = Some Set; parser = Some (parser.Signed (pos low) (pos high)) }

-- `--decimals N`, 0 to 9, and 6 where it isn't given
abbrev pub decimals_rule : Rule
decimals_rule = record (number_rule (codes "decimals") 0 9) { defaults = codes "6" ∷ [] }

-- `--town N`, 1 to 200
abbrev pub town_rule : Rule
town_rule = number_rule (codes "town") 1 200

-- a command of this name, with no flags of help and of the version
abbrev pub app_named : Text → App
app_named name = on_top (λ s. record s { disable_help_flag = true; disable_version_flag = true }) (new_app name)

abbrev pub bare_app : App
bare_app = app_named (codes "cga_city")

-- the command of a program that takes no words
abbrev pub wordless_app : App
wordless_app = app_named (codes "cga_live")

-- the command with its two options
abbrev pub command_app : App
command_app = with_rule (with_rule bare_app decimals_rule) town_rule

-- the number that a text writes, of at most so much
abbrev pub number_in : ℕ → Text → Option ℕ
number_in most text = if accepts false (parser.Unsigned 0 most) text then Some (digits_value 10 (without_leading_plus text)) else None

-- what the words give for an option
abbrev pub given_for : Text → List Text → Option Text
given_for id words = one_of id (matches_of command_app words)

-- the decimals; no accepted words say more than 9
unfoldable pub decimals_of : List Text → ℕ
decimals_of words = min (unwrap_or (option_and_then (number_in 255) (given_for (codes "decimals") words)) 6) 9

-- the lots of the town; no accepted words say less than 1 or more than 200
unfoldable pub town_of : List Text → Option ℕ
town_of words = option_map (λ n. min (max n 1) 200) (option_and_then (number_in 4294967295) (given_for (codes "town") words))

-- a town has 1 to 200 lots
pub record IsTown (n : ℕ) : Type 0 where
  pub some : 1 ≤ n
  pub few : n ≤ 200

-- they are taken, and ask for no town
pub record IsTownless (words : List Text) : Type 0 where
  pub taken : fault_of command_app words ≡ []
  pub town : town_of words ≡ None
