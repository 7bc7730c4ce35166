use Rattle.std.proofs.Common.{◌∙◌, ℕ, Option, ap, refl, arith, codes, min}
use Rattle.std.specs.Prelude.{option_and_then, unwrap_or}
use Rattle.std.specs.Str.Parse.{ParsesUnsigned, ExplainsUnsignedError, HasUnsignedDigitsIfOk}
use Rattle.clap.specs.Words.{found_of, one_text}
use Rattle.clap.specs.Walk.{one_of}
use Rattle.clap.proofs.WalkLemmas.{one_text-rows}
use Rattle.cga_words.specs.Words.{decimals_of, number_in}
use Rattle.cga_words.proofs.Numbers.{as_least, number_got, read_between, six_or}
use Rattle.cga_words.proofs.read.decimals_in.Goals as goal

pub returns-clause-few : goal.returns-clause-few
returns-clause-few c =
    let between = read_between _ (λ bs r. ParsesUnsigned 8 10 bs r × ExplainsUnsignedError 10 bs r × HasUnsignedDigitsIfOk bs r) 8 0 9 (λ u x g. g.0) (omega arith)
    (one_text (found_of c.args.matches.now) (codes "decimals")) c.get_one.result c.requires c.get_one.ensures.none c.get_one.ensures.value in
    rw c.unwrap_or.ensures (six_or c.get_one.result between)

pub returns-clause-value : goal.returns-clause-value
unfolding decimals_of
returns-clause-value c = λ words rows.
    let found = found_of c.args.matches.now in
    let got = number_got _ (λ bs r. ParsesUnsigned 8 10 bs r × ExplainsUnsignedError 10 bs r × HasUnsignedDigitsIfOk bs r) 8 255 (λ u x g. g.0) refl (omega arith)
    (one_text found (codes "decimals")) c.get_one.result c.get_one.ensures.none c.get_one.ensures.value in
    as_least c.unwrap_or.result (returns-clause-few c) ∙ ap (λ (n : ℕ). min n 9) (c.unwrap_or.ensures ∙ ap (λ (o : Option ℕ). unwrap_or o 6)
    (got ∙ ap (option_and_then (number_in 255)) (one_text-rows found (codes "decimals") ∙ ap (one_of (codes "decimals")) rows)))
