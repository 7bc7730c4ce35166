-- What a derived `==` tells: of words and numbers, of lists and options of what it tells of, and of a layer of a tree.
use Rattle.std.proofs.Common.{◌≡◌, ℕ, ◌+◌, List, [], ◌∷◌, map, Bool, true, false, refl, ap, sym, ◌∙◌, true≢false, eqb-true, arith}
use Rattle.std.specs.Prelude.{Option, Some, None}
use Rattle.std.specs.Option.{option_eq}
use Rattle.std.specs.Cmp.{first_so, second_so, signed_Decides}
use lib.Pointwise.{pointwise}
use denote.Enum.Bare.{same_true}
use Rattle.cga_fraction.specs.Rat.{Rat}
use Rattle.cga_fraction.specs.contracts.fraction.FractionPartialEq.TheImpl as fraction
use Rattle.cga_word.specs.declared.selector.Selector.{Selector}
use Rattle.cga_word.specs.declared.selector.Selector.TheVariants.{Faces, Sidefaces, Face, Edges, Edge, Vertices}
use Rattle.cga_word.specs.contracts.selector.SelectorPartialEq.TheImpl as selector
use Rattle.cga_word.specs.contracts.side.Side as side
pub use Rattle.cga_fraction.proofs.Door.{false-not-true as not_so}

-- what passes the test with this value is this value
abbrev pub Sound : {A : Type 0} → (A → A → Bool) → A → Type 0
Sound {A} same x = (y : A) → same x y ≡ true → x ≡ y

one_less : (a b : ℕ) → a + 1 ≡ b + 1 → a ≡ b
one_less a b h = omega arith

-- numbers of which the test for equal ones is true are equal
pub fraction_sound : (a : Rat) → Sound (fraction.ghosts).eq a
fraction_sound a b h =
    let n : a.num ≡ b.num = (signed_Decides a.num b.num).0 (first_so _ _ h) in
    let k : a.above ≡ b.above = one_less a.above b.above (eqb-true (a.above + 1) (b.above + 1) (second_so _ _ h)) in
    λ i. record { num = n i; above = k i }

pub selector_sound : (a : Selector) → Sound (selector.ghosts).eq a
selector_sound Faces Faces h = refl
selector_sound Sidefaces Sidefaces h = refl
selector_sound (Face a) (Face b) h = ap Face (same_true side.the_type tt a b h)
selector_sound Edges Edges h = refl
selector_sound (Edge n) (Edge m) h = ap Edge (eqb-true n m h)
selector_sound Vertices Vertices h = refl
selector_sound a b h = not_so h

pub option_sound : {A : Type 0} (same : A → A → Bool) → ((x : A) → Sound same x) → (x : Option A)
    → Sound (option_eq same) x
option_sound same each None None h = refl
option_sound same each (Some a) (Some b) h = ap Some (each a b h)
option_sound same each a b h = not_so h

-- where a test is true of equal elements only, tested element by element only equal lists pass
pub list_sound : {A : Type 0} (same : A → A → Bool) → ((x : A) → Sound same x) → (xs : List A)
    → Sound (pointwise same) xs
list_sound same each [] [] h = refl
list_sound same each [] (y ∷ ys) h = not_so h
list_sound same each (x ∷ xs) [] h = not_so h
list_sound same each (x ∷ xs) (y ∷ ys) h =
    let first = each x y (first_so (same x y) _ h) in
    let rest = list_sound same each xs ys (second_so (same x y) _ h) in
    λ i. first i ∷ rest i

-- ---- a layer of a tree, whose parts come with the proof that the test is sound of them

abbrev pub Sure : {A : Type 0} → (A → A → Bool) → Type 0
Sure {A} same = (x : A) × Sound same x

pub parts_sound : {A : Type 0} (same : A → A → Bool) (ys : List (Sure same)) (zs : List A)
    → pointwise same (map (λ y. y.0) ys) zs ≡ true → map (λ y. y.0) ys ≡ zs
parts_sound same [] [] h = refl
parts_sound same [] (z ∷ zs) h = not_so h
parts_sound same (y ∷ ys) [] h = not_so h
parts_sound same (y ∷ ys) (z ∷ zs) h =
    let first = y.1 z (first_so (same y.0 z) _ h) in
    let rest = parts_sound same ys zs (second_so (same y.0 z) _ h) in
    λ i. first i ∷ rest i

-- a value is told where its layer is
pub layer_sound : {A L : Type 0} (same : A → A → Bool) (roll : L → A) (out : A → L) (passes : L → L → Bool)
    → ((d : A) → roll (out d) ≡ d) → ((x : L) → out (roll x) ≡ x) → ((d e : A) → same d e ≡ passes (out d) (out e))
    → (x : L) → ((z : L) → passes x z ≡ true → x ≡ z) → Sound same (roll x)
layer_sound same roll out passes rolled opened is x sound e h =
    ap roll (sound (out e) (ap (λ l. passes l (out e)) (sym (opened x)) ∙ (sym (is (roll x) e) ∙ h))) ∙ rolled e
