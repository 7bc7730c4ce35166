-- The choice among rules in any order is that among the rules by rising id.
use Rattle.std.proofs.Common.{◌≡◌, Bor, ℕ, ◌+◌, ◌<◌, ◌≤◌, List, [], ◌∷◌, All, drop, length, get_or}
use Rattle.std.proofs.Common.{map, filter, refl, ap, sym, ◌∙◌, arith, cond, Bool, true, false, nat_lt}
use Rattle.std.proofs.Common.{if◌then◌else◌, Some, None, Ok, Err}
use Rattle.std.specs.Prelude.{Result, MatchResult, unwrap_or}
use Rattle.std.specs.Result.{result_map_both}
use Rattle.std.proofs.lemmas.List.{at_drop_more, at_drop_all}
use Rattle.std.proofs.lemmas.List.Elements.{All-cons, All-head, All-tail, All-weaker}
use Rattle.std.proofs.lemmas.Bool.Decides.{nat_tests}
use Rattle.cga_word.specs.declared.answers.Answers.{Answers}
use Rattle.cga_fraction.specs.Results.{and_then}
use Rattle.cga_rule.specs.declared.grammar.Attribute.{Attribute}
use Rattle.cga_rule.specs.declared.grammar.Entry.{Entry}
use Rattle.cga_rule.specs.declared.rule.Rule.{Rule}
use Rattle.cga_shape.specs.declared.shape.Shape.{Shape}
use Rattle.cga_shape.specs.declared.shape_fault.ShapeFault.{ShapeFault}
use Rattle.cga_check.specs.Groups.{is_of, rules_of, placed, placed_all, by_id}
use Rattle.cga_expand.specs.Rules.{chosen, optional_holds, known_to}
use Rattle.cga_expand.specs.Choices.{Found, nothing, comes_first, judged, tried, tried_all}
use Rattle.cga_check.proofs.Door.{Rising, placed_cons, placed_nil, rising_placed}

-- ---- the choice

chosen_step : (found : Found) (c : Result Rule ShapeFault) (x : Rule) (o : Result Bool ShapeFault) → found.rule ≡ c
    → (judged found x o).rule ≡ and_then o (λ holds. if holds then Ok x else c)
chosen_step found c x (Ok true) e = refl
chosen_step found c x (Ok false) e = e
chosen_step found c x (Err fault) e = refl

before_step : (n : ℕ) (found : Found) (x : Rule) (o : Result Bool ShapeFault) → n < x.id → comes_first n found.id ≡ true
    → comes_first n (judged found x o).id ≡ true
before_step n found x (Ok true) lt e = grind (arith, nat_tests)
before_step n found x (Ok false) lt e = e
before_step n found x (Err fault) lt e = grind (arith, nat_tests)

-- a rule of a greater id, looked at before
swap_step : (found : Found) (r x : Rule) (o p : Result Bool ShapeFault) → nat_lt r.id x.id ≡ false
    → judged (if comes_first r.id found.id then judged found r p else found) x o
    ≡ (if comes_first r.id (judged found x o).id then judged (judged found x o) r p else judged found x o)
swap_step found r x (Ok true) p e = ap (λ (b : Bool). if b then judged (judged found x (Ok true)) r p else judged found x (Ok true)) (sym e)
swap_step found r x (Ok false) p e = refl
swap_step found r x (Err fault) p e = ap (λ (b : Bool). if b then judged (judged found x (Err fault)) r p else judged found x (Err fault)) (sym e)

module _ (attributes : List Attribute) (shape : Shape) (answers : Answers) where
  abbrev holds_for : Rule → Result Bool ShapeFault
  holds_for r = optional_holds r.cond (known_to attributes shape r) answers

  -- what rules come to in their order
  abbrev first_in : List Rule → Found
  first_in [] = nothing
  first_in (x ∷ xs) = judged (first_in xs) x (holds_for x)

  first_chosen : (rules : List Rule) → (first_in rules).rule ≡ chosen attributes shape answers rules
  first_chosen [] = refl
  first_chosen (x ∷ xs) = chosen_step (first_in xs) (chosen attributes shape answers xs) x (holds_for x) (first_chosen xs)

  first_before : (n : ℕ) (xs : List Rule) → All (λ (y : Rule). n < y.id) xs → comes_first n (first_in xs).id ≡ true
  first_before n [] h = refl
  first_before n (x ∷ xs) h =
      before_step n (first_in xs) x (holds_for x) (All-head (λ (y : Rule). n < y.id) x xs h) (first_before n xs (All-tail (λ (y : Rule). n < y.id) x xs h))

  placed_step : (r x : Rule) (xs more : List Rule) (b : Bool) → nat_lt r.id x.id ≡ b
      → All (λ (y : Rule). x.id ≤ y.id) xs → first_in more ≡ tried attributes shape answers (first_in xs) r
      → first_in (if b then r ∷ x ∷ xs else x ∷ more) ≡ tried attributes shape answers (first_in (x ∷ xs)) r
  placed_step r x xs more true e h ih =
      let lt : r.id < x.id = grind (arith, nat_tests) in
      let first : comes_first r.id (first_in (x ∷ xs)).id ≡ true =
      first_before r.id (x ∷ xs) (All-cons (λ (y : Rule). r.id < y.id) x xs lt (All-weaker (λ (y : Rule). x.id ≤ y.id) (λ (y : Rule). r.id < y.id) (λ y le. omega arith) xs h)) in
      ap (λ (b : Bool). if b then judged (first_in (x ∷ xs)) r (holds_for r) else first_in (x ∷ xs)) (sym first)
  placed_step r x xs more false e h ih =
      ap (λ (f : Found). judged f x (holds_for x)) ih ∙ swap_step (first_in xs) r x (holds_for x) (holds_for r) e

  first_placed : (r : Rule) (xs : List Rule) → Rising xs
      → first_in (placed r xs) ≡ tried attributes shape answers (first_in xs) r
  first_placed r [] h = ap first_in (placed_nil r)
  first_placed r (x ∷ xs) h =
      ap first_in (placed_cons r x xs) ∙ placed_step r x xs (placed r xs) (nat_lt r.id x.id) refl h.0 (first_placed r xs h.1)

  first_all : (ranked rules : List Rule) → Rising ranked
      → tried_all attributes shape answers (first_in ranked) rules ≡ first_in (placed_all ranked rules)
  first_all ranked [] h = refl
  first_all ranked (r ∷ rs) h =
      ap (λ (f : Found). tried_all attributes shape answers f rs) (sym (first_placed r ranked h)) ∙ first_all (placed r ranked) rs (rising_placed r ranked h)

  pub chosen_by_id : (rules : List Rule)
      → (tried_all attributes shape answers nothing rules).rule ≡ chosen attributes shape answers (by_id rules)
  unfolding by_id
  chosen_by_id rules = ap (λ (f : Found). f.rule) (first_all [] rules tt) ∙ first_chosen (placed_all [] rules)

-- ---- one entry after the other

one_more : (attributes : List Attribute) (shape : Shape) (answers : Answers) (found : Found) (b : Bool) (e : Entry)
    (es : List Entry)
    →
    tried_all attributes shape answers found (map (λ (x : Entry). x.rule) (if b then e ∷ es else es))
    ≡ tried_all attributes shape answers (if b then tried attributes shape answers found e.rule else found) (map (λ (x : Entry). x.rule) es)
one_more attributes shape answers found true e es = refl
one_more attributes shape answers found false e es = refl

module _ (attributes : List Attribute) (shape : Shape) (answers : Answers) (symbol : List ℕ) (found : Found)
    (xs : List Entry) (i : ℕ) (item : Entry) (w : Found) (lt : i < length xs) (at : item ≡ get_or xs i item)
    (h : tried_all attributes shape answers found (rules_of (drop i xs) symbol) ≡ w) where
  here : tried_all attributes shape answers
      (if is_of symbol item then tried attributes shape answers found item.rule else found)
      (rules_of (drop (i + 1) xs) symbol) ≡ w
  unfolding rules_of
  here =
      sym (one_more attributes shape answers found (is_of symbol item) item (filter (is_of symbol) (drop (i + 1) xs)))
      ∙ ap (λ (m : Entry). tried_all attributes shape answers found (rules_of (m ∷ drop (i + 1) xs) symbol)) at
      ∙ sym (at_drop_more (λ ys. tried_all attributes shape answers found (rules_of ys symbol)) xs i item lt)
      ∙ h

  pub tried_in : (more : Found) → is_of symbol item ≡ true → more ≡ tried attributes shape answers found item.rule
      → tried_all attributes shape answers more (rules_of (drop (i + 1) xs) symbol) ≡ w
  tried_in more e is =
      ap (λ (z : Found). tried_all attributes shape answers z (rules_of (drop (i + 1) xs) symbol))
      (is ∙ ap (λ (b : Bool). if b then tried attributes shape answers found item.rule else found) (sym e)) ∙ here

  pub tried_out : (more : Found) → is_of symbol item ≡ false → more ≡ found
      → tried_all attributes shape answers more (rules_of (drop (i + 1) xs) symbol) ≡ w
  tried_out more e is =
      ap (λ (z : Found). tried_all attributes shape answers z (rules_of (drop (i + 1) xs) symbol))
      (is ∙ ap (λ (b : Bool). if b then tried attributes shape answers found item.rule else found) (sym e)) ∙ here

pub tried_end : (attributes : List Attribute) (shape : Shape) (answers : Answers) (symbol : List ℕ) (found : Found)
    (xs : List Entry) (i : ℕ) (w : Found)
    → length xs ≤ i → tried_all attributes shape answers found (rules_of (drop i xs) symbol) ≡ w → found ≡ w
unfolding rules_of
tried_end attributes shape answers symbol found xs i w le h = sym (at_drop_all (λ ys. tried_all attributes shape answers found (rules_of ys symbol)) xs i le) ∙ h

-- what a choice says of a result
pub matches : (r : Result (Bor Rule) ShapeFault) (v : Result Rule ShapeFault)
    → result_map_both (λ rule. rule.now) (λ fault. fault) r ≡ v
    → MatchResult r (λ rule. v ≡ Ok rule.now) (λ fault. v ≡ Err fault)
matches (Ok rule) v e = sym e
matches (Err fault) v e = sym e
