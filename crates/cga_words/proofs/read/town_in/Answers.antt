use Rattle.std.proofs.Common.{◌≡◌, ◌∙◌, ℕ, List, Option, Some, None, ap, refl, arith, codes, min, max}
use Rattle.std.specs.Prelude.{option_and_then, option_map}
use Rattle.std.specs.Str.Parse.{ParsesUnsigned, ExplainsUnsignedError, HasUnsignedDigitsIfOk}
use Rattle.clap.specs.Words.{Text, rows_of, matches_of, found_of, one_text, ReadsOne}
use Rattle.clap.specs.declared.parser.matches.Found.{Found}
use Rattle.clap.specs.Walk.{one_of}
use Rattle.clap.proofs.WalkLemmas.{one_text-rows}
use Rattle.cga_words.specs.Words.{command_app, town_of, number_in}
use Rattle.cga_words.proofs.Numbers.{a_town, as_between, number_got, read_between}
use Rattle.cga_words.proofs.read.town_in.Goals as goal

-- the number that was found, of the words'
town_got : (found : Found) (r : Option ℕ) (words : List Text) → rows_of found ≡ matches_of command_app words
    → (one_text found (codes "town") ≡ None → r ≡ None)
    → ((t : Text) → one_text found (codes "town") ≡ Some t → ReadsOne (λ bs v. ParsesUnsigned 32 10 bs v × ExplainsUnsignedError 10 bs v × HasUnsignedDigitsIfOk bs v) t r)
    → option_map (λ n. min (max n 1) 200) r ≡ town_of words
unfolding town_of
town_got found r words rows none value =
    let got = number_got _ (λ bs v. ParsesUnsigned 32 10 bs v × ExplainsUnsignedError 10 bs v × HasUnsignedDigitsIfOk bs v) 32 4294967295 (λ u x g. g.0) refl (omega arith) (one_text found (codes "town")) r none value in
    ap (option_map (λ n. min (max n 1) 200)) (got ∙ ap (option_and_then (number_in 4294967295)) (one_text-rows found (codes "town") ∙ ap (one_of (codes "town")) rows))

pub returns-clause-value : goal.returns-clause-value
returns-clause-value c = λ words rows.
    let between = read_between _ (λ bs v. ParsesUnsigned 32 10 bs v × ExplainsUnsignedError 10 bs v × HasUnsignedDigitsIfOk bs v) 32 1 200 (λ u x g. g.0) (omega arith)
    (one_text (found_of c.args.matches.now) (codes "town")) c.get_one.result c.requires c.get_one.ensures.none c.get_one.ensures.value in
    as_between c.get_one.result between ∙ town_got (found_of c.args.matches.now) c.get_one.result words rows c.get_one.ensures.none c.get_one.ensures.value

pub returns-clause-within : goal.returns-clause-within
returns-clause-within c =
    a_town c.get_one.result (read_between _ (λ bs v. ParsesUnsigned 32 10 bs v × ExplainsUnsignedError 10 bs v × HasUnsignedDigitsIfOk bs v) 32 1 200 (λ u x g. g.0) (omega arith)
    (one_text (found_of c.args.matches.now) (codes "town")) c.get_one.result c.requires c.get_one.ensures.none c.get_one.ensures.value)
