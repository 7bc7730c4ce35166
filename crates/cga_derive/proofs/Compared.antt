-- One walk of the members compares the boxes that the definition collects first.
use Rattle.std.proofs.Common.{◌≡◌, ℕ, zero, suc, ◌-◌, ◌<◌, ◌≤◌, List, [], ◌∷◌, length, drop, get_or, map, Bool, true, false, Some, cond, not, ◌&&◌, ◌||◌, refl, sym, ap, ◌∙◌, arith}
use Rattle.std.specs.Prelude.{filter, slice_get}
use Rattle.cga_check.specs.Said.{said}
use Rattle.cga_check.specs.declared.said.Said.{Said}
use Rattle.cga_word.specs.declared.answer.Answer.{Answer}
use Rattle.cga_word.specs.declared.answer.Answer.TheVariants.{Nothing, Part, Full}
use Rattle.std.specs.List.{list_any}
use Rattle.std.proofs.lemmas.List.{drop_all}
use Rattle.cga_word.specs.declared.target.Target.{Target}
use Rattle.cga_word.specs.declared.target.Target.TheVariants.{Noparent, Active}
use Rattle.cga_frame.specs.Box.{Box, box_of, meets, holds}
use Rattle.cga_index.specs.Occlusion.{graded, answer_of, join}
use Rattle.cga_order.specs.World.{is_waiting}
use Rattle.cga_derivation.specs.Derivation.{asked}
use Rattle.cga_shape.specs.declared.shape.Shape.{Shape}
use Rattle.cga_shape.specs.declared.sources.Sources.{Sources}
use Rattle.cga_expand.specs.Asked.{on_path, boxes_beside, answer_if, answers_of}
use Rattle.cga_expand.specs.Children.{Member}
use Rattle.cga_expand.specs.Derivation.{derivation_of}
use Rattle.cga_derive.specs.Compared.{counts, meets_own, holds_own, some_meets, some_fills, one_compared, compared, targeted, answers_with}
use Rattle.cga_expand.proofs.Door.{said_noparent, said_active}
use Rattle.cga_fraction.proofs.Door.{None-not-Some as none_some, and-false as and_false, or-true as or_true, same_Some as some_same, slice_get_from_get_or as there}
use Rattle.cga_index.proofs.Door.{graded_or}

-- a member that the target compares has a box that passes
abbrev some_box : (Box → Bool) → Target → Shape → List Member → Bool
some_box p target s list = list_any (λ m. counts target s m && p (box_of m.shape.scope)) list

some_box-is : (p : Box → Bool) (target : Target) (s : Shape) (list : List Member)
    → some_box p target s list ≡ list_any p (boxes_beside s (targeted target list))
some_box-is p Noparent s [] = refl
some_box-is p Noparent s (m ∷ ms) = elim (not (on_path m.shape s)) as (λ b. ((b && p (box_of m.shape.scope))
    || some_box p Noparent s ms) ≡ list_any p
    (map (λ n. box_of n.scope) (cond b (m.shape ∷ filter (λ n. not (on_path n s)) (targeted Noparent ms))
    (filter (λ n. not (on_path n s)) (targeted Noparent ms))))) [
      | true ↦ ap (λ c. p (box_of m.shape.scope) || c) (some_box-is p Noparent s ms)
      | false ↦ some_box-is p Noparent s ms
    ]
some_box-is p Active s [] = refl
some_box-is p Active s (m ∷ ms) = elim (is_waiting m.kind) as (λ w.
    (((w && not (on_path m.shape s)) && p (box_of m.shape.scope)) || some_box p Active s ms) ≡ list_any p
    (boxes_beside s (cond w (m.shape ∷ targeted Active ms) (targeted Active ms)))) [
      | true ↦ elim (not (on_path m.shape s)) as (λ b. ((b && p (box_of m.shape.scope)) || some_box p Active s ms)
          ≡ list_any p (map (λ n. box_of n.scope)
          (cond b (m.shape ∷ filter (λ n. not (on_path n s)) (targeted Active ms)) (filter (λ n. not (on_path n s)) (targeted Active ms))))) [
            | true ↦ ap (λ c. p (box_of m.shape.scope) || c) (some_box-is p Active s ms)
            | false ↦ some_box-is p Active s ms
          ]
      | false ↦ some_box-is p Active s ms
    ]

pub compared-is : (target : Target) (s : Shape) (list : List Member)
    → compared target s list ≡ answer_of (box_of s.scope) (boxes_beside s (targeted target list))
unfolding some_meets some_fills answer_of
compared-is target s list =
    let full = some_box-is (λ b. meets b (box_of s.scope) && holds b (box_of s.scope)) target s list in
    let part = some_box-is (λ b. meets b (box_of s.scope)) target s list in
    λ i. graded (full i) (part i)

-- the answers by what was read of the symbol are those of the derivation
pub answers-are : (sources : Sources) (read : Said) (list : List Member) (s : Shape)
    → read ≡ said sources.grammar s.symbol → answers_with read list s ≡ asked (derivation_of sources) list s
unfolding answers_of
answers-are sources read list s is =
    ap (λ y. answers_with y list s) is ∙ λ i. record {
      noparent = answer_if (said_noparent sources.grammar s.symbol i) s (targeted Noparent list);
      active = answer_if (said_active sources.grammar s.symbol i) s (targeted Active list);
    }

-- ---- some of the last members

any_one : {X : Type 0} (p : X → Bool) (xs : List X) (i : ℕ) (x : X) → slice_get xs i ≡ Some x
    → list_any p (drop i xs) ≡ (p x || list_any p (drop (suc i) xs))
any_one p [] i x e = none_some x e
any_one p (y ∷ xs) zero x e = ap (λ z. p z || list_any p xs) (some_same y x e)
any_one p (y ∷ xs) (suc i) x e = any_one p xs i x e

any_past : {X : Type 0} (p : X → Bool) (xs : List X) (first left : ℕ) → first ≤ left → left ≤ length xs
    → ((i : ℕ) (x : X) → first ≤ i → i < left → slice_get xs i ≡ Some x → p x ≡ false)
    → list_any p (drop first xs) ≡ list_any p (drop left xs)
any_past p [] zero zero h w none = refl
any_past p [] (suc first) zero h w none = refl
any_past p [] first (suc left) h w none = absurd (omega (arith, w))
any_past p (x ∷ xs) zero zero h w none = refl
any_past p (x ∷ xs) zero (suc left) h w none =
    ap (λ b. b || list_any p xs) (none 0 x (omega arith) (omega arith) refl)
    ∙ any_past p xs 0 left (omega arith) (omega (arith, w)) (λ i y from to there. none (suc i) y (omega arith) (omega (arith, to)) there)
any_past p (x ∷ xs) (suc first) zero h w none = absurd (omega (arith, h))
any_past p (x ∷ xs) (suc first) (suc left) h w none =
    any_past p xs first left (omega (arith, h)) (omega (arith, w)) (λ i y from to there. none (suc i) y (omega (arith, from)) (omega (arith, to)) there)

any_of : {X : Type 0} (p : X → Bool) (xs : List X) (i : ℕ) → list_any p (drop i xs) ≡ true → list_any p xs ≡ true
any_of p xs zero e = e
any_of p [] (suc i) e = e
any_of p (x ∷ xs) (suc i) e = ap (λ b. p x || b) (any_of p xs i e) ∙ or_true (p x)

graded_full : (a b : Bool) → graded a b ≡ Full → a ≡ true
graded_full true b e = refl
graded_full false true e = let wrong : Part ≡ Full = e in absurd (cc)
graded_full false false e = let wrong : Nothing ≡ Full = e in absurd (cc)

module _ (target : Target) (s : Shape) (list : List Member) where
  -- one member more
  compared_one : (i : ℕ) (m : Member) → slice_get list i ≡ Some m
      → compared target s (drop i list) ≡ join (one_compared target s m) (compared target s (drop (suc i) list))
  unfolding some_fills some_meets
  compared_one i m there =
      let full = any_one (λ m. counts target s m && (meets_own s m && holds_own s m)) list i m there in
      let part = any_one (λ m. counts target s m && meets_own s m) list i m there in
      (λ k. graded (full k) (part k))
      ∙ graded_or (counts target s m && (meets_own s m && holds_own s m)) (counts target s m && meets_own s m) _ _

  pub compared_joined : (left : ℕ) (m : Member) (one found joined : Answer) → 0 < left → left ≤ length list
      → m ≡ get_or list (left - 1) m → one ≡ one_compared target s m → found ≡ compared target s (drop left list)
      → joined ≡ join one found → joined ≡ compared target s (drop (left - 1) list)
  compared_joined left m one found joined some inside is alone before both =
      let e : suc (left - 1) ≡ left = omega (arith, some) in
      let at = there list (left - 1) m (omega (arith, some, inside)) is in
      both ∙ ((λ k. join (alone k) (before k)) ∙ (ap (λ n. join (one_compared target s m) (compared target s (drop n list))) (sym e) ∙ sym (compared_one (left - 1) m at)))

  -- members that don't meet the box
  pub compared_past : (first left : ℕ) → first ≤ left → left ≤ length list
      → ((i : ℕ) (m : Member) → first ≤ i → i < left → slice_get list i ≡ Some m → meets_own s m ≡ false)
      → compared target s (drop first list) ≡ compared target s (drop left list)
  unfolding some_fills some_meets
  compared_past first left h w none =
      let full = any_past (λ m. counts target s m && (meets_own s m && holds_own s m)) list first left h w
      (λ i m from to there. ap (λ b. counts target s m && (b && holds_own s m)) (none i m from to there) ∙ and_false (counts target s m)) in
      let part = any_past (λ m. counts target s m && meets_own s m) list first left h w
      (λ i m from to there. ap (λ b. counts target s m && b) (none i m from to there) ∙ and_false (counts target s m)) in
      λ k. graded (full k) (part k)

  -- where some of the last fill the box
  pub compared_full : (left : ℕ) → compared target s (drop left list) ≡ Full → Full ≡ compared target s list
  unfolding some_fills some_meets
  compared_full left e =
      let p : Member → Bool = λ m. counts target s m && (meets_own s m && holds_own s m) in
      let found = any_of p list left (graded_full (list_any p (drop left list)) (list_any (λ m. counts target s m && meets_own s m) (drop left list)) e) in
      sym (ap (λ b. graded b (list_any (λ m. counts target s m && meets_own s m) list)) found)

  -- none of them
  pub compared_none : (n : ℕ) → length list ≤ n → Nothing ≡ compared target s (drop n list)
  unfolding some_fills some_meets
  compared_none n h = sym (ap (compared target s) (drop_all n list h))
