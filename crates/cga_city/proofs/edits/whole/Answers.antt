use Rattle.std.proofs.Common.{◌≡◌, ◌∙◌, sym, nat_lt, length, false, arith}
use Rattle.std.proofs.lemmas.Bool.Decides.{nat_tests}
use Rattle.cga_city.proofs.edits.whole.Goals as goal

pub returns : goal.returns
returns c =
    let few : nat_lt 4096 (length c.args.other.lots) ≡ false = grind (arith, nat_tests) in
    rw (sym c.checked.ensures ∙ c.in_ok-checked.was, few, sym c.in_ok-grammar.ensures) c.with_accepted.ensures
