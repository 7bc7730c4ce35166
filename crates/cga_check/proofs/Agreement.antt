-- The rules of a symbol against its first.
use Rattle.std.proofs.Common.{◌≡◌, ℕ, List, [], ◌∷◌, ◌++◌, All, refl, ap, sym, ◌∙◌, subst, arith, length, Bool, true, false, not, ◌&&◌, ◌||◌, nat_eq, if◌then◌else◌, Some, None}
use Rattle.std.specs.Prelude.{find, Option}
use Rattle.std.specs.List.{list_any}
use Rattle.std.proofs.lemmas.List.Elements.{All-nil, All-cons}
use Rattle.std.proofs.lemmas.Bool.Decides.{nat_tests}
use lib.Pointwise.{bytes_decides}
use Rattle.cga_rule.specs.declared.grammar.Entry.{Entry}
use Rattle.cga_rule.specs.declared.grammar.Grammar.{Grammar}
use Rattle.cga_check.specs.Groups.{is_of}
use Rattle.cga_check.specs.Faults.{each_after, rule_faults, head_faults, symbol_faults, splits_priority, differs_in_arity}
use Rattle.cga_check.specs.Validity.{Agrees}
use Rattle.cga_check.proofs.Clean.{none_left, none_right, if_none}
use Rattle.cga_fraction.proofs.Door.{or_false_first as or_left, or_false_second as or_right}

found_step : {A : Type 0} (q : A → Bool) (x f : A) (b : Bool) (rest : Option A) (more : Bool)
    → (if b then Some x else rest) ≡ Some f → (q x || more) ≡ false → (rest ≡ Some f → more ≡ false → q f ≡ false)
    → q f ≡ false
found_step q x f true rest more e h ih = let k : x ≡ f = cc in subst (λ z. q z ≡ false) k (or_left (q x) more h)
found_step q x f false rest more e h ih = ih e (or_right (q x) more h)

-- what no member does, the one that is found doesn't
at_found : {A : Type 0} (p q : A → Bool) (xs : List A) (f : A) → find p xs ≡ Some f → list_any q xs ≡ false
    → q f ≡ false
at_found p q [] f e h = cc
at_found p q (x ∷ xs) f e h = found_step q x f (p x) (find p xs) (list_any q xs) e h (at_found p q xs f)

passes_step : {A : Type 0} (p : A → Bool) (x f : A) (b : Bool) (rest : Option A) → b ≡ p x
    → (if b then Some x else rest) ≡ Some f → (rest ≡ Some f → p f ≡ true) → p f ≡ true
passes_step p x f true rest is e ih = let k : x ≡ f = cc in subst (λ z. p z ≡ true) k (sym is)
passes_step p x f false rest is e ih = ih e

-- what a test finds in a list passes the test
pub found_passes : {A : Type 0} (p : A → Bool) (xs : List A) (f : A) → find p xs ≡ Some f → p f ≡ true
found_passes p [] f e = cc
found_passes p (x ∷ xs) f e = passes_step p x f (p x) (find p xs) refl e (found_passes p xs f)

-- the first of two finds
abbrev or_else : {A : Type 0} → Option A → Option A → Option A
or_else None o = o
or_else (Some x) o = Some x

else_step : {A : Type 0} (b : Bool) (x : A) (r s o : Option A) → s ≡ or_else r o
    → (if b then Some x else s) ≡ or_else (if b then Some x else r) o
else_step true x r s o e = refl
else_step false x r s o e = e

find_append : {A : Type 0} (p : A → Bool) (xs ys : List A) → find p (xs ++ ys) ≡ or_else (find p xs) (find p ys)
find_append p [] ys = refl
find_append p (x ∷ xs) ys = else_step (p x) x (find p xs) (find p (xs ++ ys)) (find p ys) (find_append p xs ys)

-- two rules of one symbol
of_one : (symbol : List ℕ) (f x : Entry) → is_of symbol f ≡ true → is_of symbol x ≡ true → is_of x.rule.symbol f ≡ true
of_one symbol f x hf hx =
    let a : f.rule.symbol ≡ symbol = (bytes_decides f.rule.symbol symbol).0 hf in
    let b : x.rule.symbol ≡ symbol = (bytes_decides x.rule.symbol symbol).0 hx in
    (bytes_decides f.rule.symbol x.rule.symbol).1 (a ∙ sym b)

equal : (a b : ℕ) (t : Bool) → t ≡ true → (t && not (nat_eq a b)) ≡ false → b ≡ a
equal a b true e h = grind (arith, nat_tests)
equal a b false e h = cc

module _ (g : Grammar) (symbol : List ℕ) where
  -- no fault of the rule, seen after the first of its symbol
  agrees : (f x : Entry) (before : List Entry) → find (is_of symbol) before ≡ Some f → rule_faults g before x ≡ []
      → is_of symbol x ≡ true → Agrees f x
  unfolding rule_faults head_faults
  agrees f x before found clean here =
      let same : is_of x.rule.symbol f ≡ true = of_one symbol f x (found_passes (is_of symbol) before f found) here in
      let faults : symbol_faults before x ≡ [] = none_left (symbol_faults before x) _ (none_left (head_faults g before x) _ clean) in
      let later = none_right _ _ faults in
      let split : splits_priority before x ≡ false = if_none _ _ (none_left _ _ later) in
      let arity : differs_in_arity before x ≡ false = if_none _ _ (none_right _ _ later) in
      record {
        priority = equal f.priority x.priority _ same (at_found (is_of symbol) (λ (y : Entry). is_of x.rule.symbol y && not (nat_eq y.priority x.priority)) before f found split);
        arity = equal (length f.rule.params) (length x.rule.params) _ same
            (at_found (is_of symbol) (λ (y : Entry). is_of x.rule.symbol y && not (nat_eq (length y.rule.params) (length x.rule.params))) before f found arity);
      }

  agree_after : (f : Entry) (before xs : List Entry) → find (is_of symbol) before ≡ Some f
      → each_after (rule_faults g) before xs ≡ [] → All (λ (e : Entry). is_of symbol e ≡ true → Agrees f e) xs
  unfolding each_after
  agree_after f before [] found clean = All-nil _
  agree_after f before (x ∷ xs) found clean =
      All-cons (λ (e : Entry). is_of symbol e ≡ true → Agrees f e) x xs (agrees f x before found (none_left (rule_faults g before x) _ clean))
      (agree_after f (before ++ x ∷ []) xs (find_append (is_of symbol) before (x ∷ []) ∙ ap (λ o. or_else o (find (is_of symbol) (x ∷ []))) found) (none_right (rule_faults g before x) _ clean))

  itself : (x : Entry) → Agrees x x
  itself x = record { priority = refl; arity = refl }

  agree_step : (f x : Entry) (before xs : List Entry) (b : Bool) → b ≡ is_of symbol x
      → find (is_of symbol) before ≡ None → (if b then Some x else find (is_of symbol) xs) ≡ Some f
      → each_after (rule_faults g) (before ++ x ∷ []) xs ≡ []
      → (find (is_of symbol) (before ++ x ∷ []) ≡ None → find (is_of symbol) xs ≡ Some f
      → All (λ (e : Entry). is_of symbol e ≡ true → Agrees f e) xs)
      → All (λ (e : Entry). is_of symbol e ≡ true → Agrees f e) (x ∷ xs)
  agree_step f x before xs true is none found clean ih =
      let same : x ≡ f = cc in
      let at : find (is_of symbol) (before ++ x ∷ []) ≡ Some f =
      find_append (is_of symbol) before (x ∷ []) ∙ ap (λ o. or_else o (find (is_of symbol) (x ∷ []))) none ∙ ap (λ (b : Bool). if b then Some x else None) (sym is) ∙ ap (λ (z : Entry). Some z) same in
      All-cons (λ (e : Entry). is_of symbol e ≡ true → Agrees f e) x xs (λ here. subst (λ (z : Entry). Agrees z x) same (itself x)) (agree_after f (before ++ x ∷ []) xs at clean)
  agree_step f x before xs false is none found clean ih =
      let at : find (is_of symbol) (before ++ x ∷ []) ≡ None =
      find_append (is_of symbol) before (x ∷ []) ∙ ap (λ o. or_else o (find (is_of symbol) (x ∷ []))) none ∙ ap (λ (b : Bool). if b then Some x else None) (sym is) in
      All-cons (λ (e : Entry). is_of symbol e ≡ true → Agrees f e) x xs (λ here. let no : false ≡ true = is ∙ here in cc) (ih at found)

  pub agree_all : (f : Entry) (before xs : List Entry) → find (is_of symbol) before ≡ None
      → find (is_of symbol) xs ≡ Some f → each_after (rule_faults g) before xs ≡ []
      → All (λ (e : Entry). is_of symbol e ≡ true → Agrees f e) xs
  unfolding each_after
  agree_all f before [] none found clean = cc
  agree_all f before (x ∷ xs) none found clean =
      agree_step f x before xs (is_of symbol x) refl none found (none_right (rule_faults g before x) _ clean)
      (λ n h. agree_all f (before ++ x ∷ []) xs n h (none_right (rule_faults g before x) _ clean))
