-- The numbers of roots, each once.
use Rattle.std.proofs.Common.{◌≡◌, ℕ, zero, suc, List, [], ◌∷◌}
use Rattle.std.proofs.Common.{refl, sym, ap, ◌∙◌, inl, inr, Some, None}
use Rattle.std.proofs.Common.{slice_get}
use Rattle.std.specs.List.{IsDistinct}
use Rattle.cga_index.specs.Tree.{Member, Apart}
use Rattle.cga_marked.specs.Map.{Named, ids, AreApart}
use Rattle.cga_marked.proofs.Door.{none_later}

pub id_named : (es : Named) (c : ℕ) → Member (ids es) c → (i : ℕ) × (n : List ℕ) × (slice_get es i ≡ Some (n, c))
id_named [] c m = absurd m
id_named (e ∷ es) c m = elim m [
  | inl q ↦ (0, e.0, λ i. Some (e.0, q i))
  | inr r ↦ (let w = id_named es c r in (suc w.0, w.1, w.2))
]

pub named_id : (es : Named) (i : ℕ) (n : List ℕ) (c : ℕ) → slice_get es i ≡ Some (n, c) → Member (ids es) c
named_id [] i n c h = let x : None ≡ Some (n, c) = h in absurd (cc)
named_id (e ∷ es) zero n c h = let x : Some e ≡ Some (n, c) = h in let y : e ≡ (n, c) = cc in inl (ap (λ (p : List ℕ × ℕ). p.1) y)
named_id (e ∷ es) (suc i) n c h = inr (named_id es i n c h)

-- each id stands once, where one under two names has one name
pub ids_once : (es : Named) → AreApart es
    → ((n m : List ℕ) (c i j : ℕ) → slice_get es i ≡ Some (n, c) → slice_get es j ≡ Some (m, c) → n ≡ m)
    → Apart (ids es)
unfolding IsDistinct
ids_once [] a same = tt
ids_once (e ∷ es) a same = (
  (λ m.
      let w = id_named es e.1 m in
      let q : e.0 ≡ w.1 = same e.0 w.1 e.1 0 (suc w.0) refl w.2 in
      none_later es e.0 w.0 e.1 a.0 (w.2 ∙ ap (λ n. Some (n, e.1)) (sym q))),
  ids_once es a.1 (λ n m c i j p q. same n m c (suc i) (suc j) p q),
)
