-- Plain words are never refused, and say what they seem to.
use Rattle.std.proofs.Common.{◌≡◌, refl, ℕ, codes, true, false, List, [], ◌∷◌, Option, Some, None}
use Rattle.std.specs.Prelude.{nat_eq, pos}
use Rattle.clap.specs.Words.{Text, fault_of}
use Rattle.clap.specs.ValueTests.{accepts}
use Rattle.clap.specs.declared.builder.value_parser.ValueParser.TheVariants as parser
use Rattle.clap.proofs.OnLiterals.{clap_on_literals}
use Rattle.cga_words.specs.Words.{command_app, given_for, wordless_app}

abbrev Fits : ℕ → ℕ → Text → Type 0
Fits low high text = accepts false (parser.Signed (pos low) (pos high)) text ≡ true

-- what words come to: they pass, and give these texts for the two options
pub record Give (words : List Text) (decimals town : Option Text) : Type 0 where
  pub pass : fault_of command_app words ≡ []
  pub decimals_are : given_for (codes "decimals") words ≡ decimals
  pub town_is : given_for (codes "town") words ≡ town

pub name_alone : (name : Text) → Give (name ∷ []) (Some (codes "6")) None
unfolding clap_on_literals
name_alone name = record { pass = refl; decimals_are = refl; town_is = refl }

pub decimals_alone : (name rest : Text) (b : ℕ) → nat_eq b 45 ≡ false → Fits 0 9 (b ∷ rest)
    → Give (name ∷ codes "--decimals" ∷ (b ∷ rest) ∷ []) (Some (b ∷ rest)) None
unfolding clap_on_literals
decimals_alone name rest b no_minus fits = let f = simp no_minus at fits in record { pass = simp (no_minus, f); decimals_are = simp no_minus; town_is = simp no_minus }

pub town_alone : (name rest : Text) (b : ℕ) → nat_eq b 45 ≡ false → Fits 1 200 (b ∷ rest)
    → Give (name ∷ codes "--town" ∷ (b ∷ rest) ∷ []) (Some (codes "6")) (Some (b ∷ rest))
unfolding clap_on_literals
town_alone name rest b no_minus fits = let f = simp no_minus at fits in record { pass = simp (no_minus, f); decimals_are = simp no_minus; town_is = simp no_minus }

pub decimals_first : (name rest more : Text) (b c : ℕ) → nat_eq b 45 ≡ false → nat_eq c 45 ≡ false → Fits 0 9 (b ∷ rest)
    → Fits 1 200 (c ∷ more)
    → Give (name ∷ codes "--decimals" ∷ (b ∷ rest) ∷ codes "--town" ∷ (c ∷ more) ∷ []) (Some (b ∷ rest))
    (Some (c ∷ more))
unfolding clap_on_literals
decimals_first name rest more b c no_minus no_minus_more fits fits_more =
    let f = simp no_minus at fits in let m = simp no_minus_more at fits_more in
    record { pass = simp (no_minus, no_minus_more, f, m); decimals_are = simp (no_minus, no_minus_more); town_is = simp (no_minus, no_minus_more) }

pub town_first : (name rest more : Text) (b c : ℕ) → nat_eq b 45 ≡ false → nat_eq c 45 ≡ false → Fits 0 9 (b ∷ rest)
    → Fits 1 200 (c ∷ more)
    → Give (name ∷ codes "--town" ∷ (c ∷ more) ∷ codes "--decimals" ∷ (b ∷ rest) ∷ []) (Some (b ∷ rest))
    (Some (c ∷ more))
unfolding clap_on_literals
town_first name rest more b c no_minus no_minus_more fits fits_more =
    let f = simp no_minus at fits in let m = simp no_minus_more at fits_more in
    record { pass = simp (no_minus, no_minus_more, f, m); decimals_are = simp (no_minus, no_minus_more); town_is = simp (no_minus, no_minus_more) }

-- a program that takes no words is given its name alone
pub alone_passes : (name : Text) → fault_of wordless_app (name ∷ []) ≡ []
unfolding clap_on_literals
alone_passes name = refl
