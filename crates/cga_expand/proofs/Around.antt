-- Among the entries from a symbol's first rule to its last one are all its rules.
use Rattle.std.proofs.Common.{◌≡◌, ℕ, ◌+◌, ◌<◌, ◌≤◌, List, [], ◌∷◌, ◌++◌, Bool, true, false, not, cond, refl, ap, ◌∙◌, Some, None, arith}
use Rattle.std.proofs.Common.{take, drop, filter, get_or, length, map, nat_lt, suc, Ok, Err}
use Rattle.std.specs.Prelude.{IfOk, Option, Result, position, unwrap_or}
use Rattle.std.specs.List.{position_or_len}
use Rattle.std.proofs.lemmas.Bool.Decides.{nat_tests}
use Rattle.std.proofs.lemmas.List.{append-nil}
use Rattle.std.proofs.lemmas.List.Elements.{filter_more}
use Rattle.cga_word.specs.declared.answers.Answers.{Answers}
use Rattle.cga_rule.specs.declared.grammar.Attribute.{Attribute}
use Rattle.cga_rule.specs.declared.grammar.Entry.{Entry}
use Rattle.cga_rule.specs.declared.grammar.Grammar.{Grammar}
use Rattle.cga_check.specs.Groups.{is_of, rules_of, by_id}
use Rattle.cga_shape.specs.declared.emitted.Emitted.{Emitted}
use Rattle.cga_shape.specs.declared.shape.Shape.{Shape}
use Rattle.cga_shape.specs.declared.shape_fault.ShapeFault.{ShapeFault}
use Rattle.cga_expand.specs.Expand.{expand_of}
use Rattle.cga_expand.specs.Places.{HasAll, BeginsAt}
use Rattle.cga_expand.specs.Rules.{expansion}

module _ {X : Type 0} (p : X → Bool) where
  -- ---- before the first that passes

  skip : (xs : List X) → filter p (drop (position_or_len p xs) xs) ≡ filter p xs
  skip [] = refl
  skip (x ∷ xs) = by (p x) refl (skip xs)
    where
      by : (b : Bool) → p x ≡ b → filter p (drop (position_or_len p xs) xs) ≡ filter p xs
          → filter p (drop (cond (not b) (1 + position_or_len p xs) 0) (x ∷ xs))
          ≡ cond b (x ∷ filter p xs) (filter p xs)
      by true e h = ap (λ (c : Bool). cond c (x ∷ filter p xs) (filter p xs)) e
      by false e h =
          let on : 1 + position_or_len p xs ≡ suc (position_or_len p xs) = omega arith in
          ap (λ (m : ℕ). filter p (drop m (x ∷ xs))) on ∙ h

  short : (xs : List X) → position_or_len p xs ≤ length xs
  short [] = omega arith
  short (x ∷ xs) = by (p x) (short xs)
    where
      by : (b : Bool) → position_or_len p xs ≤ length xs → cond (not b) (1 + position_or_len p xs) 0 ≤ suc (length xs)
      by true h = omega arith
      by false h = omega arith

  first_or_end : (xs : List X) (b : Bool) → nat_lt (position_or_len p xs) (length xs) ≡ b
      → unwrap_or (cond b (Some (position_or_len p xs)) None) (length xs) ≡ position_or_len p xs
  first_or_end xs true e = refl
  first_or_end xs false e = grind (arith, nat_tests, short xs)

  -- ---- behind the last that passes

  pub one_less : (xs : List X) (i : ℕ) (x : X) → i < length xs → p (get_or xs i x) ≡ false
      → filter p (take (i + 1) xs) ≡ filter p (take i xs)
  one_less xs i x lt is =
      filter_more p xs i x lt
      ∙ ap (λ (b : Bool). filter p (take i xs) ++ cond b (get_or xs i x ∷ []) []) is
      ∙ append-nil (filter p (take i xs))

pub begins_at : (symbol : List ℕ) (es : List Entry) (o : Option ℕ) (from : ℕ) → o ≡ position (is_of symbol) es
    → from ≡ unwrap_or o (length es) → BeginsAt es symbol from
begins_at symbol es o from found is =
    let p = is_of symbol in
    let at : from ≡ position_or_len p es =
    is ∙ ap (λ (r : Option ℕ). unwrap_or r (length es)) found ∙ first_or_end p es (nat_lt (position_or_len p es) (length es)) refl in
    record { within = omega (arith, at, short p es); all = ap (λ (m : ℕ). filter p (drop m es)) at ∙ skip p es }

-- a test that is not met
pub passed_by : (b r : Bool) → r ≡ not b → r ≡ true → b ≡ false
passed_by true r e h = absurd (cc)
passed_by false r e h = refl

-- ---- entries that have all rules of a symbol

pub same_rules : (symbol : List ℕ) (es some : List Entry) → HasAll es symbol some
    → rules_of some symbol ≡ rules_of es symbol
unfolding rules_of
same_rules symbol es some all = ap (map (λ (e : Entry). e.rule)) all

-- a shape becomes by them what it becomes by the grammar
pub by_entries : {E : Type 0} (g : Grammar) (attributes : List Attribute) (entries : List Entry) (shape : Shape)
    (answers : Answers) (r : Result (Result (List Emitted) ShapeFault) E) → attributes ≡ g.attributes
    → rules_of entries shape.symbol ≡ rules_of g.rules shape.symbol
    → IfOk r (λ made. made ≡ expansion attributes (by_id (rules_of entries shape.symbol)) shape answers)
    → IfOk r (λ made. made ≡ expand_of g shape answers)
unfolding expand_of
by_entries g attributes entries shape answers (Ok made) same rules h = h ∙ (λ i. expansion (same i) (by_id (rules i)) shape answers)
by_entries g attributes entries shape answers (Err fault) same rules h = h
