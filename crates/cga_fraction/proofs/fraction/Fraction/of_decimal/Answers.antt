use Rattle.std.proofs.Common.{◌≡◌, ◌∙◌, ◌+◌, ap, rules, drop, true, false, Some, List, ℕ}
use Rattle.std.proofs.lemmas.List.{drop-drop}
use Rattle.std.specs.Prelude.{position}
use Rattle.cga_fraction.specs.Decimals.{is_numeral, is_point}
use Rattle.cga_fraction.proofs.Decimals.{not_digits, two_sides}
use Rattle.cga_fraction.proofs.fraction.Fraction.of_decimal.Goals as goal

pub returns-then-not-is_digits : goal.returns-then-not-is_digits
returns-then-not-is_digits c =
    let p : position is_point c.args.text.now ≡ Some c.in-Some.point = search rules in
    let e : c.split_at-2.result.1.now ≡ drop (c.in-Some.point + 1) c.args.text.now = c.split_at-2.ensures.back ∙ ap (λ (t : List ℕ). drop 1 t) c.split_at.ensures.back ∙ drop-drop 1 c.in-Some.point c.args.text.now in
    let n : is_numeral c.split_at-2.result.1.now ≡ false = search rules in
    not_digits c.args.text.now _ _ p e n

pub returns : goal.returns
returns c =
    let p : position is_point c.args.text.now ≡ Some c.in-Some.point = search rules in
    let e : c.split_at-2.result.1.now ≡ drop (c.in-Some.point + 1) c.args.text.now = c.split_at-2.ensures.back ∙ ap (λ (t : List ℕ). drop 1 t) c.split_at.ensures.back ∙ drop-drop 1 c.in-Some.point c.args.text.now in
    let n : is_numeral c.split_at-2.result.1.now ≡ true = search rules in
    two_sides c.args.text.now _ _ _ _ p c.split_at.ensures.front e n c.read_digits-2.ensures
