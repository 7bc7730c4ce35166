-- What plain words say.
use Rattle.std.proofs.Common.{◌≡◌, ◌∙◌, ap, refl, ℕ, ◌≤◌, arith, codes, true, false, Bool, List, [], ◌∷◌, Option, Some, None, min, max}
use Rattle.std.specs.Prelude.{IfSome, option_and_then, option_map, unwrap_or, if◌then◌else◌}
use Rattle.std.specs.Fmt.{decimal}
use Rattle.clap.specs.Words.{Text, fault_of}
use Rattle.cga_words.specs.Words.{IsTownless, command_app, decimals_of, town_of, number_in}
use Rattle.cga_words.specs.Plain.{IsPlain, plain_words}
use Rattle.cga_words.proofs.Digits.{Writes, writes, written, decimals_written, town_written}
use Rattle.cga_words.proofs.Plain.{Give, name_alone, decimals_alone, town_alone, decimals_first, town_first}

pub record Says (words : List Text) (decimals : ℕ) (town : Option ℕ) : Type 0 where
  pub pass : fault_of command_app words ≡ []
  pub decimals_are : decimals_of words ≡ decimals
  pub town_is : town_of words ≡ town

number_read : (low high most n b : ℕ) (rest : Text) → Writes low high most n b rest → number_in most (b ∷ rest) ≡ Some n
number_read low high most n b rest w = rw w.in_type (ap (λ (i : ℕ). Some i) w.value)

six : number_in 255 (codes "6") ≡ Some 6
six = refl

says : (words : List Text) (d t : Option Text) (n : ℕ) (lots : Option ℕ) → Give words d t
    → unwrap_or (option_and_then (number_in 255) d) 6 ≡ n → n ≤ 9
    → option_map (λ i. min (max i 1) 200) (option_and_then (number_in 4294967295) t) ≡ lots → Says words n lots
unfolding decimals_of town_of
says words d t n lots g e few h = record {
  pass = g.pass;
  decimals_are = ap (λ (o : Option Text). min (unwrap_or (option_and_then (number_in 255) o) 6) 9) g.decimals_are ∙ (ap (λ (i : ℕ). min i 9) e ∙ omega arith);
  town_is = ap (λ (o : Option Text). option_map (λ i. min (max i 1) 200) (option_and_then (number_in 4294967295) o)) g.town_is ∙ h;
}

read_decimals : (n b : ℕ) (rest : Text) → Writes 0 9 255 n b rest
    → unwrap_or (option_and_then (number_in 255) (Some (b ∷ rest))) 6 ≡ n
read_decimals n b rest w = ap (λ (o : Option ℕ). unwrap_or o 6) (number_read 0 9 255 n b rest w)

read_town : (n b : ℕ) (rest : Text) → 1 ≤ n → n ≤ 200 → Writes 1 200 4294967295 n b rest
    → option_map (λ i. min (max i 1) 200) (option_and_then (number_in 4294967295) (Some (b ∷ rest))) ≡ Some n
read_town n b rest some few w = ap (option_map (λ i. min (max i 1) 200)) (number_read 1 200 4294967295 n b rest w) ∙ ap (λ (i : ℕ). Some i) (omega arith)

alone_says : (name : Text) → Says (name ∷ []) 6 None
alone_says name = says (name ∷ []) (Some (codes "6")) None 6 None (name_alone name) refl (omega arith) refl

decimals_says : (name x : Text) (n : ℕ) → n ≤ 9 → writes 0 9 255 n x ≡ true
    → Says (name ∷ codes "--decimals" ∷ x ∷ []) n None
decimals_says name [] n few e = absurd (let bad : false ≡ true = e in cc)
decimals_says name (b ∷ rest) n few e =
    let w = written 0 9 255 n b rest e in
    says _ (Some (b ∷ rest)) None n None (decimals_alone name rest b w.no_minus w.in_range) (read_decimals n b rest w) few refl

town_says : (name y : Text) (k : ℕ) → 1 ≤ k → k ≤ 200 → writes 1 200 4294967295 k y ≡ true
    → Says (name ∷ codes "--town" ∷ y ∷ []) 6 (Some k)
town_says name [] k some few e = absurd (let bad : false ≡ true = e in cc)
town_says name (c ∷ more) k some few e =
    let v = written 1 200 4294967295 k c more e in
    says _ (Some (codes "6")) (Some (c ∷ more)) 6 (Some k) (town_alone name more c v.no_minus v.in_range) refl (omega arith) (read_town k c more some few v)

-- both orders of the two pairs
abbrev both : Bool → Text → Text → Text → List Text
both first name x y = if first then name ∷ codes "--decimals" ∷ x ∷ codes "--town" ∷ y ∷ [] else name ∷ codes "--town" ∷ y ∷ codes "--decimals" ∷ x ∷ []

both_says : (first : Bool) (name x y : Text) (n k : ℕ) → n ≤ 9 → 1 ≤ k → k ≤ 200 → writes 0 9 255 n x ≡ true
    → writes 1 200 4294967295 k y ≡ true → Says (both first name x y) n (Some k)
both_says first name [] y n k low some high e f = absurd (let bad : false ≡ true = e in cc)
both_says first name (b ∷ rest) [] n k low some high e f = absurd (let bad : false ≡ true = f in cc)
both_says true name (b ∷ rest) (c ∷ more) n k low some high e f =
    let w = written 0 9 255 n b rest e in
    let v = written 1 200 4294967295 k c more f in
    says _ (Some (b ∷ rest)) (Some (c ∷ more)) n (Some k) (decimals_first name rest more b c w.no_minus v.no_minus
    w.in_range v.in_range) (read_decimals n b rest w) low (read_town k c more some high v)
both_says false name (b ∷ rest) (c ∷ more) n k low some high e f =
    let w = written 0 9 255 n b rest e in
    let v = written 1 200 4294967295 k c more f in
    says _ (Some (b ∷ rest)) (Some (c ∷ more)) n (Some k) (town_first name rest more b c w.no_minus v.no_minus w.in_range v.in_range) (read_decimals n b rest w) low (read_town k c more some high v)

-- where each number is in its range, plain words pass and say them, with 6 decimals where none are given
pub plain_says : (name : Text) (first : Bool) (decimals town : Option ℕ) → IsPlain decimals town
    → Says (plain_words name first decimals town) (unwrap_or decimals 6) town
plain_says name true None None p = alone_says name
plain_says name false None None p = alone_says name
plain_says name true (Some n) None p = decimals_says name (decimal n) n p.decimals_fit (decimals_written n p.decimals_fit)
plain_says name false (Some n) None p = decimals_says name (decimal n) n p.decimals_fit (decimals_written n p.decimals_fit)
plain_says name true None (Some k) p = town_says name (decimal k) k p.town_some p.town_fits (town_written k p.town_some p.town_fits)
plain_says name false None (Some k) p = town_says name (decimal k) k p.town_some p.town_fits (town_written k p.town_some p.town_fits)
plain_says name true (Some n) (Some k) p =
    both_says true name (decimal n) (decimal k) n k p.decimals_fit p.town_some p.town_fits (decimals_written n p.decimals_fit) (town_written k p.town_some p.town_fits)
plain_says name false (Some n) (Some k) p =
    both_says false name (decimal n) (decimal k) n k p.decimals_fit p.town_some p.town_fits (decimals_written n p.decimals_fit) (town_written k p.town_some p.town_fits)

-- where there is no town
module _ (words : List Text) (name : Text) (decimals : Option ℕ) (few : IfSome decimals (λ n. n ≤ 9)) (plain : words ≡ plain_words name true decimals None) where
  fits : IsPlain decimals None
  fits = record { decimals_fit = few; town_some = tt; town_fits = tt }

  -- plain words without a town are taken, and name none
  pub plain_townless : IsTownless words
  plain_townless =
      let says = plain_says name true decimals None fits in
      record { taken = ap (fault_of command_app) plain ∙ says.pass; town = ap town_of plain ∙ says.town_is }

  -- the decimals are those that the words name, or 6
  pub townless_says : decimals_of words ≡ unwrap_or decimals 6
  townless_says = ap decimals_of plain ∙ (plain_says name true decimals None fits).decimals_are
