-- The derivation of sources is one of which the laws of derivations hold.
use Rattle.std.proofs.Common.{◌≡◌, ℕ, zero, suc, ◌+◌, List, [], ◌∷◌, ◌++◌, length, take, map, Bool, true, false, cond}
use Rattle.std.proofs.Common.{not, ◌&&◌, ◌||◌, refl, sym, ap, ◌∙◌, subst, ◌⊎◌, inl, inr, Result, Ok, Err, Some, arith}
use Rattle.std.specs.Prelude.{slice_get, filter}
use Rattle.std.specs.List.{list_any}
use Rattle.std.proofs.Math.Seq.{take-length}
use lib.Pointwise.{bytes_decides}
use Rattle.cga_word.specs.declared.answers.Answers.{Answers}
use Rattle.cga_word.specs.declared.primitive.Primitive.{Primitive}
use Rattle.cga_word.specs.declared.target.Target.TheVariants.{Noparent, Active}
use Rattle.cga_frame.specs.Box.{Box, box_of, meets, holds}
use Rattle.cga_frame.specs.declared.scope_fault.ScopeFault.{ScopeFault}
use Rattle.cga_frame.specs.Scope.{Scope}
use Rattle.cga_index.specs.Occlusion.{graded, answer_of}
use Rattle.cga_rule.specs.declared.grammar.Grammar.{Grammar}
use Rattle.cga_order.specs.World.{Among, IsNew}
use Rattle.cga_derivation.proofs.Door.{err_ok}
use Rattle.cga_fraction.proofs.Door.{None-not-Some as none_some, not-and-true as not_true, same_Ok as ok_same, same_Some as some_same, same_from_both_ways as bool_same}
use Rattle.std.proofs.lemmas.Bool.{and_from as both_make, and_parts as both, cases_Bool as either}
use Rattle.cga_derivation.specs.Derivation.{Derivation, SameSeen, place_of}
use Rattle.cga_shape.specs.declared.emitted.Emitted.{Emitted}
use Rattle.cga_shape.specs.declared.emitted.Emitted.TheVariants.{Child, Solid}
use Rattle.cga_shape.specs.declared.lot.Lot.{Lot}
use Rattle.cga_shape.specs.declared.shape.Shape.{Shape}
use Rattle.cga_shape.specs.declared.shape_fault.ShapeFault.{ShapeFault}
use Rattle.cga_shape.specs.declared.sources.Sources.{Sources}
use Rattle.cga_shape.specs.Root.{root_in, root_scope, root_of}
use Rattle.cga_expand.specs.Asked.{on_path, boxes_beside, asks_for, answer_if, answers_of, sees}
use Rattle.cga_expand.specs.Children.{Member, placed_at, placed_from, placed_by}
use Rattle.cga_expand.specs.Expand.{expand_of}
use Rattle.cga_expand.specs.Derivation.{made, roots_of, children_of, derivation_of, NamesDiffer, SourcesAreDerivations}
use Rattle.std.proofs.lemmas.Bool.{or_cases as or_either, or_left, or_right}

-- ---- roots

-- the root of a lot stands in some scope
root_by : (lot : Lot) (r : Result Scope ScopeFault) (n : Shape) → root_scope lot ≡ r → root_of lot ≡ Ok n
    → (scope : Scope) × (root_in lot scope ≡ n)
root_by lot (Ok scope) n is e = (scope, ok_same {F = ScopeFault} (root_in lot scope) n (rw is at e))
root_by lot (Err fault) n is e = err_ok fault n (rw is at e)

-- where a lot has a root, that is the lot's root in some scope
pub root_is : (lot : Lot) (n : Shape) → root_of lot ≡ Ok n → (scope : Scope) × (root_in lot scope ≡ n)
root_is lot n e = root_by lot (root_scope lot) n refl e

-- it has the lot's name, and no path
root_at : (lot : Lot) (n : Shape) → root_of lot ≡ Ok n → (n.lot ≡ lot.name) × (n.path ≡ [])
root_at lot n e =
    let w = root_is lot n e in
    (ap (λ (s : Shape). s.lot) (sym w.1), ap (λ (s : Shape). s.path) (sym w.1))

-- the root of one of the lots
abbrev RootOf : List Lot → Shape → Type 0
RootOf lots n = (j : ℕ) × (lot : Lot) × (slice_get lots j ≡ Some lot) × (root_of lot ≡ Ok n)

from_first : (x : Lot) (lots : List Lot) (r : Result Shape ScopeFault) → root_of x ≡ r
    → ((i : ℕ) (n : Shape) → slice_get (roots_of lots) i ≡ Some n → RootOf lots n) → (i : ℕ) (n : Shape)
    → slice_get (made r ++ roots_of lots) i ≡ Some n → RootOf (x ∷ lots) n
from_first x lots (Ok s) is more zero n e = (0, x, refl, is ∙ ap Ok (some_same s n e))
from_first x lots (Ok s) is more (suc i) n e = let w = more i n e in (suc w.0, w.1, w.2, w.3)
from_first x lots (Err f) is more i n e = let w = more i n e in (suc w.0, w.1, w.2, w.3)

root_from : (lots : List Lot) (i : ℕ) (n : Shape) → slice_get (roots_of lots) i ≡ Some n → RootOf lots n
root_from [] i n e = none_some n e
root_from (x ∷ lots) i n e = from_first x lots (root_of x) refl (root_from lots) i n e

names_tail : (x : Lot) (lots : List Lot) → NamesDiffer (x ∷ lots) → NamesDiffer lots
names_tail x lots differ i j a b e f same = let h = differ (suc i) (suc j) a b e f same in omega (arith, h)

-- the root of x is no root of the lots behind it
first_apart : (x : Lot) (lots : List Lot) → NamesDiffer (x ∷ lots) → (s m : Shape) (j : ℕ) → root_of x ≡ Ok s
    → slice_get (roots_of lots) j ≡ Some m → s.lot ≡ m.lot → ⊥
first_apart x lots differ s m j is f same =
    let w = root_from lots j m f in
    let h = differ 0 (suc w.0) x w.1 refl w.2 (sym (root_at x s is).0 ∙ (same ∙ (root_at w.1 m w.3).0)) in
    omega (arith, h)

apart_first : (x : Lot) (lots : List Lot) (r : Result Shape ScopeFault) → root_of x ≡ r → NamesDiffer (x ∷ lots)
    → ((i j : ℕ) (n m : Shape) → slice_get (roots_of lots) i ≡ Some n → slice_get (roots_of lots) j ≡ Some m
    → n.lot ≡ m.lot → i ≡ j)
    → (i j : ℕ) (n m : Shape) → slice_get (made r ++ roots_of lots) i ≡ Some n
    → slice_get (made r ++ roots_of lots) j ≡ Some m → n.lot ≡ m.lot → i ≡ j
apart_first x lots (Ok s) is differ more zero zero n m e f same = refl
apart_first x lots (Ok s) is differ more zero (suc j) n m e f same = absurd (first_apart x lots differ s m j is f (ap (λ (z : Shape). z.lot) (some_same s n e) ∙ same))
apart_first x lots (Ok s) is differ more (suc i) zero n m e f same = absurd (first_apart x lots differ s n i is e (ap (λ (z : Shape). z.lot) (some_same s m f) ∙ sym same))
apart_first x lots (Ok s) is differ more (suc i) (suc j) n m e f same = ap suc (more i j n m e f same)
apart_first x lots (Err g) is differ more i j n m e f same = more i j n m e f same

roots_apart : (lots : List Lot) → NamesDiffer lots → (i j : ℕ) (n m : Shape) → slice_get (roots_of lots) i ≡ Some n
    → slice_get (roots_of lots) j ≡ Some m → n.lot ≡ m.lot → i ≡ j
roots_apart [] differ i j n m e f same = none_some n e
roots_apart (x ∷ lots) differ i j n m e f same = apart_first x lots (root_of x) refl differ (roots_apart lots (names_tail x lots differ)) i j n m e f same

top_first : (x : Lot) (lots : List Lot) (r : Result Shape ScopeFault) → root_of x ≡ r
    → ((n : Shape) → Among n (roots_of lots) → n.path ≡ []) → (n : Shape) → Among n (made r ++ roots_of lots)
    → n.path ≡ []
top_first x lots (Ok s) is more n (inl same) = ap (λ (z : Shape). z.path) (sym same) ∙ (root_at x s is).1
top_first x lots (Ok s) is more n (inr h) = more n h
top_first x lots (Err f) is more n h = more n h

roots_top : (lots : List Lot) (n : Shape) → Among n (roots_of lots) → n.path ≡ []
roots_top [] n h = absurd h
roots_top (x ∷ lots) n h = top_first x lots (root_of x) refl (roots_top lots) n h

-- ---- children

-- a shape is on its own path
on_path-same : (a s : Shape) → a.lot ≡ s.lot → a.path ≡ s.path → on_path a s ≡ true
unfolding on_path
on_path-same a s lot path =
    let front : take (length a.path) s.path ≡ s.path = ap (λ p. take (length p) s.path) path ∙ take-length s.path in
    both_make _ _ ((bytes_decides a.lot s.lot).1 lot) ((bytes_decides a.path (take (length a.path) s.path)).1 (path ∙ sym front))

-- children stand below their parent, and are new
module _ (lot path own : List ℕ) where
  pub placed-at : (es : List Emitted) (k i : ℕ) (c : Member) → slice_get (placed_from lot path own k es) i ≡ Some c
      → (e : Emitted) × (slice_get es i ≡ Some e) × (placed_at lot path own (k + i) e ≡ c)
  placed-at [] k i c e = none_some c e
  placed-at (x ∷ es) k zero c e =
      let same : k + 0 ≡ k = omega arith in
      (x, refl, ap (λ n. placed_at lot path own n x) same ∙ some_same _ c e)
  placed-at (x ∷ es) k (suc i) c e =
      let w = placed-at es (suc k) i c e in
      let same : k + suc i ≡ suc k + i = omega arith in
      (w.0, w.1, ap (λ n. placed_at lot path own n w.0) same ∙ w.2)

  placed-new : (k : ℕ) (x : Emitted)
      → ((placed_at lot path own k x).shape.lot ≡ lot) × ((placed_at lot path own k x).shape.path ≡ path ++ k ∷ [])
      × IsNew (placed_at lot path own k x).kind
  placed-new k (Child symbol args scope seed) = (refl, refl, inl refl)
  placed-new k (Solid primitive scope seed) = (refl, refl, inr (primitive, refl))

children_below : (s : Shape) (r : Result (List Emitted) ShapeFault) (children : List Member)
    → placed_by s r ≡ Ok children → (i : ℕ) (c : Member) → slice_get children i ≡ Some c
    → (c.shape.lot ≡ s.lot) × (c.shape.path ≡ s.path ++ i ∷ []) × IsNew c.kind
children_below s (Ok es) children e i c h =
    let w = placed-at s.lot s.path s.symbol es 0 i c (subst (λ l. slice_get l i ≡ Some c) (sym (ok_same _ children e)) h) in
    let zero_add : 0 + i ≡ i = omega arith in
    let is : placed_at s.lot s.path s.symbol i w.0 ≡ c = sym (ap (λ n. placed_at s.lot s.path s.symbol n w.0) zero_add) ∙ w.2 in
    subst (λ (m : Member). (m.shape.lot ≡ s.lot) × (m.shape.path ≡ s.path ++ i ∷ []) × IsNew m.kind) is (placed-new s.lot s.path s.symbol i w.0)
children_below s (Err f) children e i c h = err_ok f children e

-- ---- answers

-- the boxes that count are those of the shapes that are seen
module _ (s : Shape) (p : Box → Bool) where
  any-to : (xs : List Shape) → list_any p (boxes_beside s xs) ≡ true
      → (m : Shape) × Among m xs × (not (on_path m s) ≡ true) × (p (box_of m.scope) ≡ true)
  any-to [] e = let x : false ≡ true = e in cc
  any-to (x ∷ xs) e = elim (either (not (on_path x s))) [
    | inl t ↦ elim (or_either _ _ (sym (ap (λ b. list_any p (map (λ m. box_of m.scope) (cond b (x ∷ filter (λ m. not (on_path m s)) xs) (filter (λ m. not (on_path m s)) xs)))) t) ∙ e)) [
      | inl here ↦ (x, inl refl, t, here)
      | inr rest ↦ let w = any-to xs rest in (w.0, inr w.1, w.2, w.3)
    ]
    | inr f ↦
        let w = any-to xs (sym (ap (λ b. list_any p (map (λ m. box_of m.scope) (cond b (x ∷ filter (λ m. not (on_path m s)) xs) (filter (λ m. not (on_path m s)) xs)))) f) ∙ e) in
        (w.0, inr w.1, w.2, w.3)
  ]

  any-from : (xs : List Shape) (m : Shape) → Among m xs → not (on_path m s) ≡ true → p (box_of m.scope) ≡ true
      → list_any p (boxes_beside s xs) ≡ true
  any-from [] m h off passes = absurd h
  any-from (x ∷ xs) m h off passes = elim h [
    | inl e ↦
        let t : not (on_path x s) ≡ true = ap (λ y. not (on_path y s)) e ∙ off in
        ap (λ b. list_any p (map (λ m. box_of m.scope) (cond b (x ∷ filter (λ m. not (on_path m s)) xs)
        (filter (λ m. not (on_path m s)) xs)))) t ∙ or_left _ _ (ap (λ y. p (box_of y.scope)) e ∙ passes)
    | inr r ↦
        let rest = any-from xs m r off passes in
        elim (not (on_path x s)) as (λ b. list_any p (map (λ m. box_of m.scope) (cond b (x ∷ filter (λ m. not (on_path m s)) xs) (filter (λ m. not (on_path m s)) xs))) ≡ true) [
          | true ↦ or_right _ _ rest
          | false ↦ rest
        ]
  ]

module _ (sources : Sources) where
  abbrev g : Grammar
  g = sources.grammar

  abbrev its : Derivation Shape Answers ShapeFault Primitive
  its = derivation_of sources

  abbrev asks : Shape → Bool
  asks s = asks_for g s.symbol Noparent || asks_for g s.symbol Active

  any-local : (s : Shape) (p : Box → Bool) → ((b : Box) → p b ≡ true → meets b (box_of s.scope) ≡ true) → asks s ≡ true
      → (xs ys : List Shape) → SameSeen its s xs ys → list_any p (boxes_beside s xs) ≡ list_any p (boxes_beside s ys)
  unfolding sees
  any-local s p implies asked xs ys same =
      bool_same _ _
      (λ e. let w = any-to s p xs e in any-from s p ys w.0 ((same w.0 (seen w.0 w.2 w.3)).0 w.1) w.2 w.3)
      (λ e. let w = any-to s p ys e in any-from s p xs w.0 ((same w.0 (seen w.0 w.2 w.3)).1 w.1) w.2 w.3)
    where
      seen : (m : Shape) → not (on_path m s) ≡ true → p (box_of m.scope) ≡ true → sees g s m ≡ true
      seen m off passes = both_make _ _ asked (both_make _ _ (implies (box_of m.scope) passes) off)

  answer-local : (s : Shape) → asks s ≡ true → (xs ys : List Shape) → SameSeen its s xs ys
      → answer_of (box_of s.scope) (boxes_beside s xs) ≡ answer_of (box_of s.scope) (boxes_beside s ys)
  unfolding answer_of
  answer-local s asked xs ys same =
      let full = any-local s (λ b. meets b (box_of s.scope) && holds b (box_of s.scope)) (λ b e. (both _ _ e).0) asked xs ys same in
      let part = any-local s (λ b. meets b (box_of s.scope)) (λ b e. e) asked xs ys same in
      λ i. graded (full i) (part i)

  if-local : (s : Shape) (b : Bool) → (b ≡ true → asks s ≡ true) → (xs ys : List Shape) → SameSeen its s xs ys
      → answer_if b s xs ≡ answer_if b s ys
  if-local s true asked xs ys same = ap Some (answer-local s (asked refl) xs ys same)
  if-local s false asked xs ys same = refl

  answers-local : (s : Shape) (e w e' w' : List Shape) → SameSeen its s e e' → SameSeen its s w w'
      → answers_of g s e w ≡ answers_of g s e' w'
  unfolding answers_of
  answers-local s e w e' w' same others =
      let a = if-local s (asks_for g s.symbol Noparent) (λ t. or_left _ _ t) e e' same in
      let b = if-local s (asks_for g s.symbol Active) (λ t. or_right _ _ t) w w' others in
      λ i. record { noparent = a i; active = b i }

  child-law : (s : Shape) (a : Answers) (children : List Member) → children_of g s a ≡ Ok children
      → (i : ℕ) (c : Member) → slice_get children i ≡ Some c
      → (c.shape.lot ≡ s.lot) × (c.shape.path ≡ s.path ++ i ∷ []) × IsNew c.kind
  unfolding children_of
  child-law s a children e = children_below s (expand_of g s a) children e

  unseen-law : (n m : Shape) → sees g n m ≡ true → place_of its m ≡ place_of its n → ⊥
  unfolding sees
  unseen-law n m e same =
      let off = (both _ _ (both _ _ e).1).1 in
      not_true _ off (on_path-same m n (ap (λ p. p.0) same) (ap (λ p. p.1) same))

-- where lot names differ, the laws of derivations hold of the sources
pub sources_are_derivations : SourcesAreDerivations
sources_are_derivations sources differ = record {
  root = roots_top sources.lots;
  roots_apart = λ i j n m e f same. roots_apart sources.lots differ i j n m e f (ap (λ p. p.0) same);
  child = child-law sources;
  unseen = unseen-law sources;
  local = answers-local sources;
}
