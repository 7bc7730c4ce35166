-- How large the models of lots are together, lot by lot.
use Rattle.std.proofs.Common.{◌≡◌, ◌∙◌, ℕ, ◌+◌, ◌<◌, ◌≤◌, List, [], ◌∷◌, ◌++◌, Bool, true, false, Result, Ok, Err, ap, arith, drop, get_or, length, refl, subst, sym}
use Rattle.std.proofs.lemmas.Grind.{common_steps}
use Rattle.std.proofs.lemmas.List.{drop_all}
use Rattle.std.proofs.lemmas.List.Sums.{sum_by-append}
use Rattle.std.specs.Prelude.{◌||◌, if◌then◌else◌, nat_lt, sum_by}
use Rattle.cga_asset.specs.Dressed.{entries_of, is_over, is_too_large, no_size, vertices_of, with_drawn, within_limit}
use Rattle.cga_asset.specs.declared.model_size.ModelSize.{ModelSize}
use Rattle.cga_asset.specs.declared.too_large.ModelTooLarge.{ModelTooLarge}
use Rattle.cga_obj.proofs.Door.{drop_first}
use Rattle.cga_obj.specs.Lots.{Shown}
use Rattle.cga_shape.specs.declared.drawn.Drawn.{Drawn}
use Rattle.cga_top.proofs.LotTexts.{EachOwn}

pub fits_limit : (size more : ModelSize) (r : Result ModelSize ModelTooLarge) (b : Bool) → is_over size ≡ b
    → r ≡ within_limit size → r ≡ Ok more → (more ≡ size) × (is_over size ≡ false)
fits_limit size more r true e h is =
    let clash : Ok more ≡ Err (record {}) = sym is ∙ h ∙ ap (λ (o : Bool). if o then Err (record {}) else Ok size) e in
    absurd (cc)
fits_limit size more r false e h is =
    let same : Ok more ≡ Ok size = sym is ∙ h ∙ ap (λ (o : Bool). if o then Err (record {}) else Ok size) e in
    ((cc), e)

pub over_limit : (size : ModelSize) (large : ModelTooLarge) (r : Result ModelSize ModelTooLarge) (b : Bool)
    → is_over size ≡ b
    → r ≡ within_limit size → r ≡ Err large → is_over size ≡ true
over_limit size large r true e h is = e
over_limit size large r false e h is =
    let clash : Err large ≡ Ok size = sym is ∙ h ∙ ap (λ (o : Bool). if o then Err (record {}) else Ok size) e in
    absurd (cc)

module _ (mesh : Shown) where
  no_more : (size : ModelSize) → with_drawn mesh [] size ≡ size
  no_more size =
      let v : size.vertices + 0 ≡ size.vertices = omega arith in
      let e : size.entries + 0 ≡ size.entries = omega arith in
      rw (v, e) refl

  both_drawn : (xs ys : List Drawn) (size : ModelSize)
      → with_drawn mesh ys (with_drawn mesh xs size) ≡ with_drawn mesh (xs ++ ys) size
  both_drawn xs ys size =
      let v = sum_by-append (vertices_of mesh) xs ys in
      let e = sum_by-append (entries_of mesh) xs ys in
      let p : (size.vertices + sum_by (vertices_of mesh) xs) + sum_by (vertices_of mesh) ys
      ≡ size.vertices + sum_by (vertices_of mesh) (xs ++ ys) = omega (arith, v) in
      let q : (size.entries + sum_by (entries_of mesh) xs) + sum_by (entries_of mesh) ys
      ≡ size.entries + sum_by (entries_of mesh) (xs ++ ys) = omega (arith, e) in
      rw (p, q) refl

  over_more : (ys : List Drawn) (size : ModelSize) → is_over size ≡ true → is_over (with_drawn mesh ys size) ≡ true
  over_more ys size e = grind (arith, common_steps, e)

  all_size : (xs : List Drawn) → is_over (with_drawn mesh xs no_size) ≡ is_too_large mesh xs
  all_size xs =
      let v : 0 + sum_by (vertices_of mesh) xs ≡ sum_by (vertices_of mesh) xs = omega arith in
      let e : 0 + sum_by (entries_of mesh) xs ≡ sum_by (entries_of mesh) xs = omega arith in
      rw (v, e) refl

  -- what is left of lots brings the size so far to that of all
  abbrev pub Left : (List (List ℕ) → List Drawn) → List (List ℕ) → List (List ℕ) → ModelSize → Type 0
  Left drawn all left size = with_drawn mesh (drawn left) size ≡ with_drawn mesh (drawn all) no_size

  pub all_left : (drawn : List (List ℕ) → List Drawn) (all : List (List ℕ)) (size : ModelSize) → size ≡ no_size
      → Left drawn all all size
  all_left drawn all size e = ap (with_drawn mesh (drawn all)) e

  module _ (drawn : List (List ℕ) → List Drawn) (each : EachOwn drawn) (all : List (List ℕ)) (i : ℕ) (lot : List ℕ)
      (size : ModelSize) (left : Left drawn all (drop i all) size) (within : i < length all) (at : lot ≡ get_or all i lot) where
    one_more : with_drawn mesh (drawn (drop (i + 1) all)) (with_drawn mesh (drawn (lot ∷ [])) size)
        ≡ with_drawn mesh (drawn all) no_size
    one_more =
        both_drawn (drawn (lot ∷ [])) (drawn (drop (i + 1) all)) size
        ∙ ap (λ (ds : List Drawn). with_drawn mesh ds size)
        (sym (each.more lot (drop (i + 1) all)) ∙ ap drawn (sym (drop_first all i lot within (sym at)))) ∙ left

    pub left_on : (more : ModelSize) → more ≡ with_drawn mesh (drawn (lot ∷ [])) size
        → Left drawn all (drop (i + 1) all) more
    left_on more e = ap (with_drawn mesh (drawn (drop (i + 1) all))) e ∙ one_more

    pub left_over : is_over (with_drawn mesh (drawn (lot ∷ [])) size) ≡ true → true ≡ is_too_large mesh (drawn all)
    left_over e =
        sym (over_more (drawn (drop (i + 1) all)) (with_drawn mesh (drawn (lot ∷ [])) size) e)
        ∙ ap is_over one_more ∙ all_size (drawn all)

  pub none_over : (drawn : List (List ℕ) → List Drawn) (each : EachOwn drawn) (all : List (List ℕ)) (i : ℕ)
      (size : ModelSize)
      → Left drawn all (drop i all) size → length all ≤ i → is_over size ≡ false → false ≡ is_too_large mesh (drawn all)
  none_over drawn each all i size left past e =
      let nothing : drawn (drop i all) ≡ [] = ap drawn (drop_all i all past) ∙ each.stands [] in
      sym e ∙ ap is_over (sym (no_more size) ∙ ap (λ (ds : List Drawn). with_drawn mesh ds size) (sym nothing) ∙ left)
      ∙ all_size (drawn all)
