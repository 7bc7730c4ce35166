-- Runs of roots, gone over and passed by.
use Rattle.std.proofs.Common.{◌≡◌, ℕ, zero, suc, ◌+◌, ◌*◌, ◌≤◌, ◌<◌, ◌⊎◌, inl, inr, List, [], ◌∷◌, ◌++◌, length, drop, refl, ap, sym, subst, ◌∙◌, arith}
use Rattle.std.specs.List.{flat_map}
use Rattle.std.specs.Prelude.{slice_get, Some}
use Rattle.std.proofs.lemmas.Option.{slice_get_within}
use Rattle.cga_frame.specs.Box.{Box}
use Rattle.cga_word.specs.declared.answer.Answer.{Answer}
use Rattle.cga_word.specs.declared.target.Target.{Target}
use Rattle.cga_index.specs.Occlusion.{join}
use Rattle.cga_index.specs.Tree.{TreeView, below, IsHullTree, IsFarRun, IsQuietRun, answer_over, askers, total}
use Rattle.cga_index.proofs.Askers.{askers_split, nobody_far}
use Rattle.cga_index.proofs.Members.{drop_at, drop_all}
use Rattle.cga_index.proofs.Levels.{none_below, root_inside}
use Rattle.cga_index.proofs.Over.{over_append}

-- a place is within the list, or behind it
here_or_past : (xs : List ℕ) (k : ℕ) → ((x : ℕ) × (slice_get xs k ≡ Some x)) ⊎ (length xs ≤ k)
here_or_past [] k = inr (omega arith)
here_or_past (x ∷ xs) zero = inl (x, refl)
here_or_past (x ∷ xs) (suc k) = elim (here_or_past xs k) [ inl w ↦ inl w | inr h ↦ inr (omega (arith, h)) ]

-- what is left behind a place and behind a later one is the same where no member stands between
pub drop_same : (xs : List ℕ) (k m : ℕ) → k ≤ m → (k < length xs → k ≡ m) → drop k xs ≡ drop m xs
drop_same xs k m le same = elim (here_or_past xs k) [
  | inl w ↦ ap (λ i. drop i xs) (same (slice_get_within xs k w.0 w.1))
  | inr h ↦ drop_all xs k h ∙ sym (drop_all xs m (omega (arith, h, le)))
]

-- at its end a block is gone over
pub at_end : (xs : List ℕ) (block from end k roots : ℕ) → roots ≡ length xs → from ≡ 16 * block → end ≤ from + 16
    → end ≤ roots → (end < roots → end ≡ from + 16) → k ≡ end → drop k xs ≡ drop (16 * (block + 1)) xs
at_end xs block from end k roots n f most within whole at = drop_same xs k (16 * (block + 1)) (omega (arith, f, most, at)) (λ lt.
    let w : end ≡ from + 16 = whole (omega (arith, n, lt, at)) in omega (arith, w, f, at))

total_past : (f : ℕ → ℕ) (xs : List ℕ) (k n : ℕ) → total f (drop (k + n) xs) ≤ total f (drop k xs)
total_past f xs k zero =
    let e : k + 0 ≡ k = omega arith in
    let s : ◌≡◌ {A = ℕ} (total f (drop (k + 0) xs)) (total f (drop k xs)) = ap (λ m. total f (drop m xs)) e in omega (arith, s)
total_past f xs k (suc n) = elim (here_or_past xs k) [
  | inl w ↦
      let e : k + suc n ≡ k + 1 + n = omega arith in
      let s : ◌≡◌ {A = ℕ} (total f (drop (k + suc n) xs)) (total f (drop (k + 1 + n) xs)) = ap (λ m. total f (drop m xs)) e in
      let a : ◌≡◌ {A = ℕ} (total f (drop k xs)) (f w.0 + total f (drop (k + 1) xs)) = ap (total f) (drop_at xs k w.0 w.1) in
      let b = total_past f xs (k + 1) n in omega (arith, s, a, b)
  | inr h ↦
      let z : ◌≡◌ {A = ℕ} (total f (drop (k + suc n) xs)) 0 = ap (total f) (drop_all xs (k + suc n) (omega (arith, h))) in omega (arith, z)
]

-- a run that is passed by is read no more than one that is gone over
pub run_counted : (f : ℕ → ℕ) (xs : List ℕ) (from count to a : ℕ) → from + count ≡ to
    → a + total f (drop to xs) ≤ a + total f (drop from xs)
run_counted f xs from count to a e =
    let s : ◌≡◌ {A = ℕ} (total f (drop (from + count) xs)) (total f (drop to xs)) = ap (λ m. total f (drop m xs)) e in
    omega (arith, s, total_past f xs from count)

module _ (v : TreeView) (laws : IsHullTree v) where
  -- what the roots from a place on answer, and those of them that ask
  abbrev over_from : ℕ → Target → ℕ → Answer
  over_from by target k = answer_over v by target (flat_map (below v 257) (drop k v.roots))

  abbrev asking_from : Box → ℕ → List ℕ
  asking_from area k = askers v area (flat_map (below v 257) (drop k v.roots))

  far_found : (by : ℕ) (target : Target) (k n : ℕ) → IsFarRun v k n (v.own by)
      → over_from by target k ≡ over_from by target (k + n)
  far_found by target k zero far = let e : k ≡ k + 0 = omega arith in ap (over_from by target) e
  far_found by target k (suc n) far = elim (here_or_past v.roots k) [
    | inl w ↦
        let e : k + 1 + n ≡ k + suc n = omega arith in
        let rest = flat_map (below v 257) (drop (k + 1) v.roots) in
        ap (λ t. answer_over v by target (flat_map (below v 257) t)) (drop_at v.roots k w.0 w.1)
        ∙ over_append v by target (below v 257 w.0) rest
        ∙ ap (λ t. join t (answer_over v by target rest)) (none_below v laws by target 257 w.0 (root_inside v k w.0 w.1) (far k w.0 (omega arith, omega arith) w.1))
        ∙ far_found by target (k + 1) n (λ p c i g. far p c (let a = i.0 in omega (arith, a), let b = i.1 in omega (arith, b)) g)
        ∙ ap (over_from by target) e
    | inr h ↦ ap (λ t. answer_over v by target (flat_map (below v 257) t)) (drop_all v.roots k h ∙ sym (drop_all v.roots (k + suc n) (omega (arith, h))))
  ]

  -- a run that is passed by answers nothing
  pub run_found : (by : ℕ) (target : Target) (from count to : ℕ) (area : Box) (before : Answer) → from + count ≡ to
      → area ≡ v.own by → IsFarRun v from count area
      → join before (over_from by target from) ≡ join before (over_from by target to)
  run_found by target from count to area before e own far =
      ap (join before) (far_found by target from count (subst (IsFarRun v from count) own far) ∙ ap (over_from by target) e)

  quiet_listed : (area : Box) (k n : ℕ) → IsQuietRun v k n area → asking_from area k ≡ asking_from area (k + n)
  quiet_listed area k zero quiet = let e : k ≡ k + 0 = omega arith in ap (asking_from area) e
  quiet_listed area k (suc n) quiet = elim (here_or_past v.roots k) [
    | inl w ↦
        let e : k + 1 + n ≡ k + suc n = omega arith in
        let rest = flat_map (below v 257) (drop (k + 1) v.roots) in
        ap (λ t. askers v area (flat_map (below v 257) t)) (drop_at v.roots k w.0 w.1)
        ∙ askers_split v area (below v 257 w.0) rest
        ∙ ap (λ t. t ++ askers v area rest) (nobody_far v laws area 257 w.0 (root_inside v k w.0 w.1) (λ h g. quiet k w.0 h (omega arith, omega arith) w.1 g))
        ∙ quiet_listed area (k + 1) n (λ p c h i g. quiet p c h (let a = i.0 in omega (arith, a), let b = i.1 in omega (arith, b)) g)
        ∙ ap (asking_from area) e
    | inr h ↦ ap (λ t. askers v area (flat_map (below v 257) t)) (drop_all v.roots k h ∙ sym (drop_all v.roots (k + suc n) (omega (arith, h))))
  ]

  -- in a run that is passed by nobody asks who meets the area
  pub run_listed : (area : Box) (from count to : ℕ) (out : List ℕ) → from + count ≡ to → IsQuietRun v from count area
      → out ++ asking_from area to ≡ out ++ asking_from area from
  run_listed area from count to out e quiet =
      ap (λ t. out ++ t) (sym (quiet_listed area from count quiet ∙ ap (asking_from area) e))
