-- What is kept of a list that grows, and of a grammar.
use Rattle.std.proofs.Common.{◌≡◌, ℕ, ◌<◌, ◌≤◌, nat_lt, Bool, true, false, List, [], ◌∷◌, ◌++◌, length, length-append, take, Ok, refl, ap, sym, ◌∙◌, arith, if◌then◌else◌}
use Rattle.std.proofs.lemmas.Bool.Decides.{nat_tests}
use Rattle.std.proofs.lemmas.List.{append-nil, length-take, take_all, take-append-le}
use Rattle.cga_rule.specs.declared.grammar.Grammar.{Grammar}
use Rattle.cga_form.specs.Lines.{Line}
use Rattle.cga_parser.specs.BlockTells.{grammar_of, GrammarKept, GrammarTells}
use Rattle.cga_parser.specs.Kept.{kept, with_room}

module _ {A : Type 0} (most : ℕ) (xs : List A) where
  none_by : (t : Bool) → (if t then xs ++ [] else xs) ≡ xs
  none_by true = append-nil xs
  none_by false = refl

  -- a list that is not full
  one_by : (x : A) (t : Bool) → nat_lt (length xs) most ≡ t
      → with_room most (take most xs) (x ∷ []) ≡ take most (xs ++ x ∷ [])
  one_by x true e =
      let few : length xs < most = grind (arith, nat_tests) in
      let all : take most xs ≡ xs = take_all most xs (omega arith) in
      let long = length-append xs (x ∷ []) in
      ap (λ z. with_room most z (x ∷ [])) all
      ∙ ap (λ b. if b then xs ++ x ∷ [] else xs) e
      ∙ sym (take_all most (xs ++ x ∷ []) (omega (arith, long)))
  one_by x false e =
      let many : most ≤ length xs = grind (arith, nat_tests) in
      let size = length-take most xs in
      let full : nat_lt (length (take most xs)) most ≡ false = grind (arith, nat_tests) in
      ap (λ b. if b then take most xs ++ x ∷ [] else take most xs) full
      ∙ sym (take-append-le most xs (x ∷ []) many)

-- what one more line adds is kept where there is room
pub kept_more : {A : Type 0} (most : ℕ) (xs more : List A) → length more ≤ 1
    → with_room most (take most xs) more ≡ take most (xs ++ more)
kept_more most xs [] h = none_by most (take most xs) (nat_lt (length (take most xs)) most) ∙ ap (take most) (sym (append-nil xs))
kept_more most xs (x ∷ []) h = one_by most xs x (nat_lt (length xs) most) refl
kept_more most xs (x ∷ y ∷ more) h = absurd (omega arith)

-- a grammar without one too many is left as it is
pub all_kept : (g : Grammar) → length g.rules ≤ 513 → length g.attributes ≤ 129 → kept g ≡ g
all_kept g r a = ap (λ z. record { attributes = z; rules = take 513 g.rules }) (take_all 129 g.attributes a) ∙ ap (λ z. record { attributes = g.attributes; rules = z }) (take_all 513 g.rules r)

-- what a reader gives is what the lines tell, cut
pub told_whole : (lines : List Line) (given : Grammar) → GrammarKept lines (Ok given)
    → (whole : Grammar) × GrammarTells lines (Ok whole) × (given ≡ kept whole)
told_whole lines given h = (grammar_of h.0, (h.0, h.1, refl), h.2)
