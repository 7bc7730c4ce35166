-- The keys go along when children are placed one after the other.
use Rattle.std.proofs.Common.{◌≡◌, ℕ, suc, ◌+◌, List, [], ◌∷◌, ◌++◌, length, map, refl, sym, ap, ◌∙◌, subst, arith, length-append}
use Rattle.std.proofs.lemmas.List.{append-nil}
use Rattle.cga_derivation.specs.Sites.{sited}
use Rattle.cga_derivation.specs.Sites.{SitesApart}
use Rattle.cga_derivation.proofs.Door.{apart-left}
use Rattle.cga_fraction.proofs.Door.{length-map, map-append}
use Rattle.std.proofs.Common.{append_assoc as append_assoc_one}
use Rattle.cga_shape.specs.declared.sources.Sources.{Sources}
use Rattle.cga_order.specs.declared.stamp_key.StampKey.{StampKey}
use Rattle.cga_shape.specs.declared.emitted.Emitted.{Emitted}
use Rattle.cga_expand.specs.Children.{Member, placed_at, placed_from}
use Rattle.cga_expand.specs.Derivation.{derivation_of}
use Rattle.cga_derive.specs.Run.{HasKeys, KeepsKeys, sited_children}

pub map-id : {X : Type 0} (xs : List X) → map (λ x. x) xs ≡ xs
map-id [] = refl
map-id (x ∷ xs) = ap (λ l. x ∷ l) (map-id xs)

pub children-push : (lot path own : List ℕ) (i : ℕ) (es : List Emitted) (e : Emitted)
    → placed_from lot path own i (es ++ e ∷ []) ≡ placed_from lot path own i es ++ placed_at lot path own
    (i + length es) e ∷ []
children-push lot path own i [] e = let z : i + 0 ≡ i = omega arith in ap (λ n. placed_at lot path own n e ∷ []) (sym z)
children-push lot path own i (x ∷ es) e =
    let z : suc i + length es ≡ i + length (x ∷ es) = omega arith in
    ap (λ l. placed_at lot path own i x ∷ l) (children-push lot path own (suc i) es e ∙ ap (λ n. placed_from lot path own (suc i) es ++ placed_at lot path own n e ∷ []) z)

module _ (parent : StampKey) (own : List ℕ) where
  pub list-more : (xs : List Emitted) (e : Emitted) (list0 list1 list2 : List Member) (i : ℕ) → i ≡ length xs
      → list1 ≡ list0 ++ placed_from parent.lot parent.path own 0 xs
      → list2 ≡ list1 ++ placed_at parent.lot parent.path own i e ∷ []
      → list2 ≡ list0 ++ placed_from parent.lot parent.path own 0 (xs ++ e ∷ [])
  list-more xs e list0 list1 list2 i at before now =
      let z : i ≡ 0 + length xs = at ∙ omega arith in
      let created = children-push parent.lot parent.path own 0 xs e in
      now ∙ ((λ t. before t ++ placed_at parent.lot parent.path own (z t) e ∷ [])
      ∙ (append_assoc_one list0 (placed_from parent.lot parent.path own 0 xs)
      (placed_at parent.lot parent.path own (0 + length xs) e ∷ []) ∙ ap (λ l. list0 ++ l) (sym created)))

module _ (sources : Sources) (parent : StampKey) (own : List ℕ) where
  pub keys-none : (list : List Member) (es : List (StampKey × ℕ))
      → KeepsKeys sources parent (sited_children parent own 0 []) list es es
  keys-none list es = λ C mode size apart has. subst (λ D. HasKeys sources D es) (sym (append-nil C)) has

  pub keys-more : (xs : List Emitted) (e : Emitted) (list0 list1 : List Member) (es0 es1 es2 : List (StampKey × ℕ))
      (i : ℕ)
      → i ≡ length xs → list1 ≡ list0 ++ placed_from parent.lot parent.path own 0 xs
      → KeepsKeys sources parent (sited_children parent own 0 xs) list0 es0 es1
      → KeepsKeys sources parent (sited parent.priorities (placed_at parent.lot parent.path own i e) ∷ []) list1 es1 es2
      → KeepsKeys sources parent (sited_children parent own 0 (xs ++ e ∷ [])) list0 es0 es2
  keys-more xs e list0 list1 es0 es1 es2 i at before first second = λ C mode size apart has.
      let z : 0 + length xs ≡ i = omega (arith, at) in
      let S = sited_children parent own 0 xs in
      let x = sited parent.priorities (placed_at parent.lot parent.path own i e) in
      let created : sited_children parent own 0 (xs ++ e ∷ []) ≡ S ++ x ∷ [] =
      ap (map (sited parent.priorities)) (children-push parent.lot parent.path own 0 xs e
      ∙ ap (λ n. placed_from parent.lot parent.path own 0 xs ++ placed_at parent.lot parent.path own n e ∷ [])
      z) ∙ map-append (sited parent.priorities) (placed_from parent.lot parent.path own 0 xs) (placed_at parent.lot parent.path own i e ∷ []) in
      let all : C ++ sited_children parent own 0 (xs ++ e ∷ []) ≡ (C ++ S) ++ x ∷ [] = ap (λ l. C ++ l) created ∙ sym (append_assoc_one C S (x ∷ [])) in
      let apart' : SitesApart (derivation_of sources) ((C ++ S) ++ x ∷ []) = subst (SitesApart (derivation_of sources)) all apart in
      let there = first C mode size (apart-left (derivation_of sources) (C ++ S) (x ∷ []) apart') has in
      let size' : length (C ++ S) ≡ length list1 =
      length-append C S ∙ ((λ t. size t + length-map (sited parent.priorities)
      (placed_from parent.lot parent.path own 0 xs) t)
      ∙ (sym (length-append list0 (placed_from parent.lot parent.path own 0 xs)) ∙ ap length (sym before))) in
      subst (λ D. HasKeys sources D es2) (sym all) (second (C ++ S) mode size' apart' there)
