-- The value of an expression reads of the attributes only those that the expression names.
use Rattle.std.proofs.Common.{◌≡◌, ℕ, List, [], ◌∷◌, ◌++◌, map, refl, ap, sym, ◌∙◌, subst, Ok, Err}
use Rattle.std.specs.Prelude.{Result}
use Rattle.cga_fraction.specs.Rat.{Rat}
use Rattle.cga_fraction.specs.Results.{and_then}
use Rattle.cga_word.specs.Seed.{shape_word_of}
use Rattle.cga_rule.specs.declared.expr.Expr.{Expr, Expr-F, roll-Expr}
use Rattle.cga_rule.specs.declared.expr.Term.{Term, Term-F, roll-Term}
use Rattle.cga_rule.specs.declared.expr.Added.{Added, Added-F, roll-Added}
use Rattle.cga_rule.specs.declared.expr.Scaled.{Scaled, Scaled-F, roll-Scaled}
use Rattle.cga_rule.specs.declared.expr.Factor.{Factor, Factor-F, roll-Factor}
use Rattle.cga_rule.specs.declared.expr.Primary.{Primary, Primary-F, roll-Primary}
use Rattle.cga_rule.specs.declared.expr.Primary.TheFolds.{map-Expr, map-Term, map-Added, map-Scaled, map-Factor}
use Rattle.cga_rule.specs.declared.expr.Primary.TheFolds.{map-Primary, ind-Expr}
use Rattle.cga_rule.specs.declared.expr.Primary.TheOpen.{Number, Named, ScopeSize, Group, Floor, Ceil, Rand}
use Rattle.cga_rule.specs.declared.grammar.Attribute.{Attribute}
use Rattle.cga_check.specs.declared.usage.Use.{Use}
use Rattle.cga_check.specs.declared.usage.Use.TheVariants as uses
use Rattle.cga_check.specs.Uses as used
use Rattle.cga_expr.specs.Names.{Known, number_of}
use Rattle.cga_expr.specs.Arithmetic.{added, scaled, signed, floored, ceiled, drawn}
use Rattle.cga_expr.specs.Value as value
use Rattle.cga_expand.proofs.ExprLayers.{primary_meant, primary_used, primary_value, primary_uses, added_meant, added_used, added_value, added_uses, expr_meant, expr_used, expr_value, expr_uses}
use Rattle.cga_expand.proofs.ExprLayers.{factor_meant, factor_used, factor_value, factor_uses, scaled_meant, scaled_used, scaled_value, scaled_uses, term_meant, term_used, term_value, term_uses}

-- what is known, with other attributes
abbrev pub with_others : Known → List Attribute → Known
with_others k others = record k { attributes = others }

-- a name stands for the same with these attributes and with others
abbrev pub AgreesAt : Known → List Attribute → Use → Type 0
AgreesAt k others (uses.Answer target) = Unit {0}
AgreesAt k others (uses.Child symbol args) = Unit {0}
AgreesAt k others (uses.Parts sizes bodies) = Unit {0}
AgreesAt k others (uses.Named name) = number_of k name ≡ number_of (with_others k others) name

abbrev pub Agrees : Known → List Attribute → List Use → Type 0
Agrees k others [] = Unit {0}
Agrees k others (u ∷ us) = AgreesAt k others u × Agrees k others us

module _ (k : Known) (others : List Attribute) where
  pub agrees_left : (us vs : List Use) → Agrees k others (us ++ vs) → Agrees k others us
  agrees_left [] vs h = tt
  agrees_left (u ∷ us) vs h = (h.0, agrees_left us vs h.1)

  pub agrees_right : (us vs : List Use) → Agrees k others (us ++ vs) → Agrees k others vs
  agrees_right [] vs h = h
  agrees_right (u ∷ us) vs h = agrees_right us vs h.1

  -- where the names agree, so do the values
  abbrev Same : value.Meaning → List Use → Type 0
  Same m us = Agrees k others us → m k ≡ m (with_others k others)

  abbrev SameMarked : value.Marked → List Use → Type 0
  SameMarked m us = Agrees k others us → m.1 k ≡ m.1 (with_others k others)

  pub then_same : {A B F : Type 0} (r s : Result A F) (f g : A → Result B F) → r ≡ s → ((x : A) → f x ≡ g x)
      → and_then r f ≡ and_then s g
  then_same r s f g e h = ap (λ o. and_then o f) e ∙ inner s f g h
    where
      inner : {A B F : Type 0} (s : Result A F) (f g : A → Result B F) → ((x : A) → f x ≡ g x)
          → and_then s f ≡ and_then s g
      inner (Ok x) f g h = h x
      inner (Err fault) f g h = refl

  abbrev SomePrimary : Type 0
  SomePrimary = (x : Primary) × Same (value.primary_value x) (used.primary_uses x)

  abbrev SomeAdded : Type 0
  SomeAdded = (x : Added) × SameMarked (value.added_value x) (used.added_uses x)

  abbrev SomeExpr : Type 0
  SomeExpr = (x : Expr) × Same (value.expr_value x) (used.expr_uses x)

  abbrev SomeFactor : Type 0
  SomeFactor = (x : Factor) × Same (value.factor_value x) (used.factor_uses x)

  abbrev SomeScaled : Type 0
  SomeScaled = (x : Scaled) × SameMarked (value.scaled_value x) (used.scaled_uses x)

  abbrev SomeTerm : Type 0
  SomeTerm = (x : Term) × Same (value.term_value x) (used.term_uses x)

  -- ---- a layer: its parts, what they come to, and what they use

  abbrev primary_parts : Primary-F SomePrimary SomeAdded SomeExpr SomeFactor SomeScaled SomeTerm
      → Primary-F Primary Added Expr Factor Scaled Term
  primary_parts y = map-Primary SomePrimary SomeAdded SomeExpr SomeFactor SomeScaled SomeTerm Primary Added Expr Factor Scaled Term (λ e. e.0) (λ e. e.0) (λ e. e.0) (λ e. e.0) (λ e. e.0) (λ e. e.0) y

  abbrev added_parts : Added-F SomePrimary SomeAdded SomeExpr SomeFactor SomeScaled SomeTerm
      → Added-F Primary Added Expr Factor Scaled Term
  added_parts y = map-Added SomePrimary SomeAdded SomeExpr SomeFactor SomeScaled SomeTerm Primary Added Expr Factor Scaled Term (λ e. e.0) (λ e. e.0) (λ e. e.0) (λ e. e.0) (λ e. e.0) (λ e. e.0) y

  abbrev expr_parts : Expr-F SomePrimary SomeAdded SomeExpr SomeFactor SomeScaled SomeTerm
      → Expr-F Primary Added Expr Factor Scaled Term
  expr_parts y = map-Expr SomePrimary SomeAdded SomeExpr SomeFactor SomeScaled SomeTerm Primary Added Expr Factor Scaled Term (λ e. e.0) (λ e. e.0) (λ e. e.0) (λ e. e.0) (λ e. e.0) (λ e. e.0) y

  abbrev factor_parts : Factor-F SomePrimary SomeAdded SomeExpr SomeFactor SomeScaled SomeTerm
      → Factor-F Primary Added Expr Factor Scaled Term
  factor_parts y = map-Factor SomePrimary SomeAdded SomeExpr SomeFactor SomeScaled SomeTerm Primary Added Expr Factor Scaled Term (λ e. e.0) (λ e. e.0) (λ e. e.0) (λ e. e.0) (λ e. e.0) (λ e. e.0) y

  abbrev scaled_parts : Scaled-F SomePrimary SomeAdded SomeExpr SomeFactor SomeScaled SomeTerm
      → Scaled-F Primary Added Expr Factor Scaled Term
  scaled_parts y = map-Scaled SomePrimary SomeAdded SomeExpr SomeFactor SomeScaled SomeTerm Primary Added Expr Factor Scaled Term (λ e. e.0) (λ e. e.0) (λ e. e.0) (λ e. e.0) (λ e. e.0) (λ e. e.0) y

  abbrev term_parts : Term-F SomePrimary SomeAdded SomeExpr SomeFactor SomeScaled SomeTerm
      → Term-F Primary Added Expr Factor Scaled Term
  term_parts y = map-Term SomePrimary SomeAdded SomeExpr SomeFactor SomeScaled SomeTerm Primary Added Expr Factor Scaled Term (λ e. e.0) (λ e. e.0) (λ e. e.0) (λ e. e.0) (λ e. e.0) (λ e. e.0) y

  rolled : (m n : value.Meaning) (us vs : List Use) → m ≡ n → us ≡ vs → Same n vs → Same m us
  rolled m n us vs em eu h a = ap (λ (z : value.Meaning). z k) em ∙ h (subst (Agrees k others) eu a) ∙ sym (ap (λ (z : value.Meaning). z (with_others k others)) em)

  rolled_marked : (m n : value.Marked) (us vs : List Use) → m ≡ n → us ≡ vs → SameMarked n vs → SameMarked m us
  rolled_marked m n us vs em eu h a = ap (λ (z : value.Marked). z.1 k) em ∙ h (subst (Agrees k others) eu a) ∙ sym (ap (λ (z : value.Marked). z.1 (with_others k others)) em)

  -- ---- each layer

  sums_same : (terms : List SomeAdded) → Agrees k others (used.all (map used.added_uses (map (λ e. e.0) terms)))
      → (x : Rat)
      → value.from_left added (map value.added_value (map (λ e. e.0) terms)) k x ≡ value.from_left added
      (map value.added_value (map (λ e. e.0) terms)) (with_others k others) x
  sums_same [] h x = refl
  sums_same (t ∷ ts) h x =
      let m : value.Marked = value.added_value t.0 in
      let ms : List value.Marked = map value.added_value (map (λ e. e.0) ts) in
      then_same (m.1 k) (m.1 (with_others k others)) (λ y. and_then (added m.0 x y) (value.from_left added ms k)) (λ y. and_then (added m.0 x y) (value.from_left added ms (with_others k others)))
      (t.1 (agrees_left (used.added_uses t.0) _ h))
      (λ y. then_same (added m.0 x y) (added m.0 x y) (value.from_left added ms k) (value.from_left added ms (with_others k others)) refl (sums_same ts (agrees_right (used.added_uses t.0) _ h)))

  products_same : (factors : List SomeScaled)
      → Agrees k others (used.all (map used.scaled_uses (map (λ e. e.0) factors))) → (x : Rat)
      → value.from_left scaled (map value.scaled_value (map (λ e. e.0) factors)) k x ≡ value.from_left scaled
      (map value.scaled_value (map (λ e. e.0) factors)) (with_others k others) x
  products_same [] h x = refl
  products_same (t ∷ ts) h x =
      let m : value.Marked = value.scaled_value t.0 in
      let ms : List value.Marked = map value.scaled_value (map (λ e. e.0) ts) in
      then_same (m.1 k) (m.1 (with_others k others)) (λ y. and_then (scaled m.0 x y) (value.from_left scaled ms k)) (λ y. and_then (scaled m.0 x y) (value.from_left scaled ms (with_others k others)))
      (t.1 (agrees_left (used.scaled_uses t.0) _ h))
      (λ y. then_same (scaled m.0 x y) (scaled m.0 x y) (value.from_left scaled ms k)
      (value.from_left scaled ms (with_others k others)) refl (products_same ts (agrees_right (used.scaled_uses t.0) _ h)))

  primary_case : (y : Primary-F SomePrimary SomeAdded SomeExpr SomeFactor SomeScaled SomeTerm)
      → Same (value.primary_step (primary_meant (primary_parts y))) (used.primary_step (primary_used (primary_parts y)))
  unfolding used.only
  primary_case (Number n) h = refl
  primary_case (Named name) h = ap (λ (x : Rat). Ok x) h.0
  primary_case (ScopeSize axis) h = refl
  primary_case (Group e) h = e.1 h
  primary_case (Floor e) h = ap (λ o. and_then o floored) (e.1 h)
  primary_case (Ceil e) h = ap (λ o. and_then o ceiled) (e.1 h)
  primary_case (Rand number low high steps) h =
      let word : ℕ = shape_word_of k.seed number in
      let l : value.Meaning = value.expr_value low.0 in
      let u : value.Meaning = value.expr_value high.0 in
      then_same (l k) (l (with_others k others)) (λ x. and_then (u k) (λ y. drawn word steps x y)) (λ x. and_then (u (with_others k others)) (λ y. drawn word steps x y))
      (low.1 (agrees_left (used.expr_uses low.0) _ h))
      (λ x. ap (λ o. and_then o (λ y. drawn word steps x y)) (high.1 (agrees_right (used.expr_uses low.0) _ h)))

  added_case : (y : Added-F SomePrimary SomeAdded SomeExpr SomeFactor SomeScaled SomeTerm)
      → SameMarked (value.added_step (added_meant (added_parts y))) (used.added_step (added_used (added_parts y)))
  added_case y h = y.term.1 h

  expr_case : (y : Expr-F SomePrimary SomeAdded SomeExpr SomeFactor SomeScaled SomeTerm)
      → Same (value.expr_step (expr_meant (expr_parts y))) (used.expr_step (expr_used (expr_parts y)))
  expr_case y h =
      let first : value.Meaning = value.term_value y.first.0 in
      let rest : List value.Marked = map value.added_value (map (λ e. e.0) y.rest) in
      then_same (first k) (first (with_others k others)) (value.from_left added rest k) (value.from_left added rest (with_others k others))
      (y.first.1 (agrees_left (used.term_uses y.first.0) _ h)) (sums_same y.rest (agrees_right (used.term_uses y.first.0) _ h))

  factor_case : (y : Factor-F SomePrimary SomeAdded SomeExpr SomeFactor SomeScaled SomeTerm)
      → Same (value.factor_step (factor_meant (factor_parts y))) (used.factor_step (factor_used (factor_parts y)))
  factor_case y h = ap (λ o. and_then o (λ x. Ok (signed y.minus x))) (y.primary.1 h)

  scaled_case : (y : Scaled-F SomePrimary SomeAdded SomeExpr SomeFactor SomeScaled SomeTerm)
      → SameMarked (value.scaled_step (scaled_meant (scaled_parts y))) (used.scaled_step (scaled_used (scaled_parts y)))
  scaled_case y h = y.factor.1 h

  term_case : (y : Term-F SomePrimary SomeAdded SomeExpr SomeFactor SomeScaled SomeTerm)
      → Same (value.term_step (term_meant (term_parts y))) (used.term_step (term_used (term_parts y)))
  term_case y h =
      let first : value.Meaning = value.factor_value y.first.0 in
      let rest : List value.Marked = map value.scaled_value (map (λ e. e.0) y.rest) in
      then_same (first k) (first (with_others k others)) (value.from_left scaled rest k) (value.from_left scaled rest (with_others k others))
      (y.first.1 (agrees_left (used.factor_uses y.first.0) _ h)) (products_same y.rest (agrees_right (used.factor_uses y.first.0) _ h))

  primary_step : (x : Primary-F Primary Added Expr Factor Scaled Term)
      (y : Primary-F SomePrimary SomeAdded SomeExpr SomeFactor SomeScaled SomeTerm)
      → primary_parts y ≡ x → Same (value.primary_value (roll-Primary x)) (used.primary_uses (roll-Primary x))
  primary_step x y is =
      subst (λ (z : Primary-F Primary Added Expr Factor Scaled Term). Same (value.primary_value (roll-Primary z)) (used.primary_uses (roll-Primary z))) is
      (rolled _ _ _ _ (primary_value (primary_parts y)) (primary_uses (primary_parts y)) (primary_case y))

  added_step : (x : Added-F Primary Added Expr Factor Scaled Term)
      (y : Added-F SomePrimary SomeAdded SomeExpr SomeFactor SomeScaled SomeTerm)
      → added_parts y ≡ x → SameMarked (value.added_value (roll-Added x)) (used.added_uses (roll-Added x))
  added_step x y is =
      subst (λ (z : Added-F Primary Added Expr Factor Scaled Term). SameMarked (value.added_value (roll-Added z)) (used.added_uses (roll-Added z))) is
      (rolled_marked _ _ _ _ (added_value (added_parts y)) (added_uses (added_parts y)) (added_case y))

  expr_step : (x : Expr-F Primary Added Expr Factor Scaled Term)
      (y : Expr-F SomePrimary SomeAdded SomeExpr SomeFactor SomeScaled SomeTerm)
      → expr_parts y ≡ x → Same (value.expr_value (roll-Expr x)) (used.expr_uses (roll-Expr x))
  expr_step x y is =
      subst (λ (z : Expr-F Primary Added Expr Factor Scaled Term). Same (value.expr_value (roll-Expr z)) (used.expr_uses (roll-Expr z))) is
      (rolled _ _ _ _ (expr_value (expr_parts y)) (expr_uses (expr_parts y)) (expr_case y))

  factor_step : (x : Factor-F Primary Added Expr Factor Scaled Term)
      (y : Factor-F SomePrimary SomeAdded SomeExpr SomeFactor SomeScaled SomeTerm)
      → factor_parts y ≡ x → Same (value.factor_value (roll-Factor x)) (used.factor_uses (roll-Factor x))
  factor_step x y is =
      subst (λ (z : Factor-F Primary Added Expr Factor Scaled Term). Same (value.factor_value (roll-Factor z)) (used.factor_uses (roll-Factor z))) is
      (rolled _ _ _ _ (factor_value (factor_parts y)) (factor_uses (factor_parts y)) (factor_case y))

  scaled_step : (x : Scaled-F Primary Added Expr Factor Scaled Term)
      (y : Scaled-F SomePrimary SomeAdded SomeExpr SomeFactor SomeScaled SomeTerm)
      → scaled_parts y ≡ x → SameMarked (value.scaled_value (roll-Scaled x)) (used.scaled_uses (roll-Scaled x))
  scaled_step x y is =
      subst (λ (z : Scaled-F Primary Added Expr Factor Scaled Term). SameMarked (value.scaled_value (roll-Scaled z)) (used.scaled_uses (roll-Scaled z))) is
      (rolled_marked _ _ _ _ (scaled_value (scaled_parts y)) (scaled_uses (scaled_parts y)) (scaled_case y))

  term_step : (x : Term-F Primary Added Expr Factor Scaled Term)
      (y : Term-F SomePrimary SomeAdded SomeExpr SomeFactor SomeScaled SomeTerm)
      → term_parts y ≡ x → Same (value.term_value (roll-Term x)) (used.term_uses (roll-Term x))
  term_step x y is =
      subst (λ (z : Term-F Primary Added Expr Factor Scaled Term). Same (value.term_value (roll-Term z)) (used.term_uses (roll-Term z))) is
      (rolled _ _ _ _ (term_value (term_parts y)) (term_uses (term_parts y)) (term_case y))

  pub expr_reads : (e : Expr) → Same (value.expr_value e) (used.expr_uses e)
  expr_reads =
      ind-Expr (λ x. Same (value.primary_value x) (used.primary_uses x))
      (λ x. SameMarked (value.added_value x) (used.added_uses x))
      (λ x. Same (value.expr_value x) (used.expr_uses x))
      (λ x. Same (value.factor_value x) (used.factor_uses x))
      (λ x. SameMarked (value.scaled_value x) (used.scaled_uses x)) (λ x. Same (value.term_value x) (used.term_uses x))
      primary_step added_step expr_step factor_step scaled_step term_step
