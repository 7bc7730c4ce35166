use Rattle.std.proofs.Common.{◌<◌, List, ℕ, ap, sym, ◌∙◌, take, length, arith, subst}
use Rattle.std.specs.List.{list_all}
use Rattle.cga_word.specs.Name.{begins_name, continues_name}
use Rattle.cga_lexer.specs.Bytes.{begins}
use Rattle.cga_lexer.proofs.Names.{begun, all_run}
use Rattle.std.proofs.lemmas.Bool.Decides.{nat_tests}
use Rattle.cga_lexer.proofs.front.quoted.Goals as goal

pub closed-requires-clause-begun : goal.closed-requires-clause-begun
closed-requires-clause-begun c =
    let rest = c.args.rest.now in
    let name = c.split_at.ensures.front ∙ ap (λ n. take n rest) c.word_len.ensures in
    let some : 0 < length c.split_at.result.0.now = grind (arith, nat_tests) in
    ap (begins begins_name) name ∙ begun rest (subst (λ (l : List ℕ). 0 < length l) name some) (sym c.at_digit.ensures ∙ c.if-at_digit.false)

pub closed-requires-clause-going_on : goal.closed-requires-clause-going_on
closed-requires-clause-going_on c =
    let rest = c.args.rest.now in
    let name = c.split_at.ensures.front ∙ ap (λ n. take n rest) c.word_len.ensures in
    ap (list_all continues_name) name ∙ all_run continues_name rest
