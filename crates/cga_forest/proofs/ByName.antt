-- Lots by their names.
use Rattle.std.proofs.Common.{◌≡◌, ◌↔◌, inl, inr, ℕ, ◌<◌, List, [], refl, sym, subst, ◌∙◌, arith, Option, Some, None, false}
use Rattle.std.specs.List.{Contains, IsDistinct}
use Rattle.cga_word.specs.declared.mode.Mode.{Mode}
use Rattle.cga_marked.specs.Map.{AreApart, id_under}
use Rattle.cga_forest.specs.Tree.{ForestView, IsForest, IsRootOf, HasNoLot, node_at}
use Rattle.cga_marked.proofs.Door.{at_contains, contains_at, contains_under, under_contains}
use Rattle.cga_fraction.proofs.Door.{cases_Option_nat as either}

module _ (v : ForestView) (f : IsForest v) (name : List ℕ) where
  pub root_from : (c : ℕ) → id_under v.roots name ≡ Some c → IsRootOf (node_at v) name c
  root_from c h = let w = under_contains v.roots name c h in f.tops.each name c (contains_at v.roots w.0 (name, c) w.1)

  pub root_to : (c : ℕ) → IsRootOf (node_at v) name c → id_under v.roots name ≡ Some c
  root_to c r =
      let there = subst (λ (n : List ℕ). Contains v.roots (n, c)) r.3 (f.tops.all c r.0 r.1 r.2) in
      let w = at_contains v.roots (name, c) there in
      contains_under v.roots name w.0 c f.tops.apart w.1

pub root_exact : (v w : ForestView) → v ≡ w → IsForest v → (name : List ℕ) (o : Option ℕ) → o ≡ id_under v.roots name
    → (c : ℕ) → (o ≡ Some c) ↔ IsRootOf (node_at w) name c
root_exact v w same f name o e c = (
  λ h. subst (λ (x : ForestView). IsRootOf (node_at x) name c) same (root_from v f name c (sym e ∙ h)),
  λ r. e ∙ root_to v f name c (subst (λ (x : ForestView). IsRootOf (node_at x) name c) (sym same) r),
)

pub no_root : (v w : ForestView) → v ≡ w → IsForest v → (name : List ℕ) → HasNoLot w name
    → id_under v.roots name ≡ None
no_root v w same f name away = elim (either (id_under v.roots name)) [
  | inl q ↦ q
  | inr k ↦ absurd (away k.0 (subst (λ (x : ForestView). IsRootOf (node_at x) name k.0) same (root_from v f name k.0 k.1)))
]

pub no_lot : (v w : ForestView) → v ≡ w → IsForest v → (name : List ℕ) → None ≡ id_under v.roots name
    → HasNoLot w name
no_lot v w same f name h c r =
    let e = root_to v f name c (subst (λ (x : ForestView). IsRootOf (node_at x) name c) (sym same) r) in
    let z : None ≡ Some c = h ∙ e in absurd (cc)

-- ---- a forest without nodes

none_apart : AreApart []
unfolding IsDistinct
none_apart = tt

pub none_forest : (mode : Mode)
    → IsForest (record { slots = []; marking = false; roots = []; marked_roots = []; mode = mode })
none_forest mode = record {
  present = record {
    tree = record {
      down = λ id i c e h k. let z : None ≡ Some e = h in absurd (cc);
      up = λ c p d h q. let z : None ≡ Some d = h in absurd (cc);
      shallow = λ id e h. let z : None ≡ Some e = h in absurd (cc);
      at_root = λ id e h q. let z : None ≡ Some e = h in absurd (cc);
    };
    places = record {
      root = λ c d h q. let z : None ≡ Some d = h in absurd (cc);
      child = λ c p d e h q k. let z : None ≡ Some d = h in absurd (cc);
      chain = λ c d h. let z : None ≡ Some d = h in absurd (cc);
    };
    right = λ c e h. let z : None ≡ Some e = h in absurd (cc);
    few = λ c e h. let z : None ≡ Some e = h in absurd (cc);
  };
  marked = λ q. absurd (cc);
  tops = record {
    apart = none_apart;
    each = λ name c m. let l : m.0 < 0 = m.1 in absurd (omega (arith, l));
    all = λ c d h q. let z : None ≡ Some d = h in absurd (cc);
  };
  marked_tops = λ q. absurd (cc);
  unmarked = λ _. refl;
  plain = λ _ id e h. let z : None ≡ Some e = h in absurd (cc);
}
