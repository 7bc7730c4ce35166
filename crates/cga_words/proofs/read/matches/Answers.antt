use Rattle.std.proofs.Common.{◌≡◌, ◌∙◌, ap, ap₂, refl, rules, codes, map, string_bytes, Some}
use Rattle.std.specs.Prelude.{pos}
use Rattle.clap.specs.Words.{App, app_of, rule_of, with_rule, fault_of, is_simple_and_free}
use Rattle.clap.specs.declared.builder.value_parser.ValueParser.{ValueParser}
use Rattle.clap.specs.declared.builder.value_parser.ValueParser.TheVariants as parser
use Rattle.cga_words.specs.Words.{bare_app, command_app, decimals_rule, town_rule}
use Rattle.clap.specs.Words.{IsParsedFrom}
use Rattle.clap.specs.declared.parser.matches.ArgMatches.{ArgMatches}
use Rattle.cga_words.proofs.Bare.{bare_of, if_ok, kinds_of_err, matches_of_ok}
use Rattle.cga_words.proofs.Within.{found_within}
use Rattle.cga_words.proofs.read.matches.Goals as goal

pub returns : goal.returns
returns c =
    let digit : c.range.result ≡ parser.Signed (pos 0) (pos 9) = rw c.value_parser.ensures at c.range.ensures in
    let lots : c.range-2.result ≡ parser.Signed (pos 1) (pos 200) = rw c.value_parser-3.ensures at c.range-2.ensures in
    let digit_given = c.value_parser-2.ensures.given in
    let lots_given = c.value_parser-town.ensures.given in
    let digit_parser : c.value_parser-2.result.value_parser ≡ Some (parser.Signed (pos 0) (pos 9)) = digit_given.1 ∙ ap (λ (q : ValueParser). Some q) (digit_given.2 ∙ digit) in
    let lots_parser : c.value_parser-town.result.value_parser ≡ Some (parser.Signed (pos 1) (pos 200)) = lots_given.1 ∙ ap (λ (q : ValueParser). Some q) (lots_given.2 ∙ lots) in
    let decimals_is : rule_of c.default_value-decimals.result ≡ decimals_rule = search rules in
    let town_is : rule_of c.value_parser-town.result ≡ town_rule = search rules in
    let bare_is : app_of c.disable_version_flag.result ≡ bare_app = bare_of (codes "cga_city") c.new-3.result c.disable_help_flag.result c.disable_version_flag.result c.disable_help_flag.ensures c.disable_version_flag.ensures c.new-3.ensures.app in
    let app_is : app_of c.in_ok-command.command ≡ command_app = c.in_ok-command.ensures.shape (search rules)
    ∙ ap₂ with_rule (c.in_ok-arg.ensures.shape (search rules) ∙ ap₂ with_rule bare_is decimals_is) town_is in
    let parse = c.try_get_matches_from-parse in
    let fails = parse.ensures.kinds (ap is_simple_and_free app_is) in
    let texts = map string_bytes c.args.words.now in
    let within = λ (m : ArgMatches) (p : IsParsedFrom c.in_ok-command.command m). found_within c.disable_version_flag.result _ c.in_ok-command.command c.default_value-decimals.result c.value_parser-town.result m c.in_ok-arg.ensures c.in_ok-command.ensures (search rules) (search rules) (search rules) (search rules) (search rules)
    (search rules) (search rules) (search rules) (search rules) (search rules) (search rules) p in
    record {
      ok = matches_of_ok (app_of c.in_ok-command.command) command_app texts texts parse.result app_is refl refl fails parse.ensures.matches;
      decimals = if_ok parse.result parse.ensures.parsed (λ m p. (within m p).0);
      town = if_ok parse.result parse.ensures.parsed (λ m p. (within m p).1);
      err = kinds_of_err _ (fault_of command_app texts) parse.result (ap (λ (a : App). fault_of a texts) app_is) fails;
    }
