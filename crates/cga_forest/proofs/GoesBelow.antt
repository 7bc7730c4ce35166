-- What goes below a node, and what is under one.
use Rattle.std.proofs.Common.{◌≡◌, ℕ, zero, suc, ◌≤◌, ◌<◌, List, [], ◌∷◌, length, Bool, true, false, ◌||◌, inl, inr, refl, ap, sym, ◌∙◌, arith}
use Rattle.std.proofs.lemmas.Option.{slice_get_within}
use Rattle.std.specs.Prelude.{Option, Some, None, not, slice_get, if◌then◌else◌}
use Rattle.cga_forest.specs.declared.slot_entry.SlotEntry.{SlotEntry}
use Rattle.cga_forest.specs.declared.node.Node.{Node}
use Rattle.cga_forest.specs.Node.{fits}
use Rattle.cga_forest.specs.View.{Seen, present_of}
use Rattle.cga_forest.specs.Tree.{under, goes, goes_at, stay_of}
use Rattle.cga_tree.specs.Tree.{IsTree}
use Rattle.cga_tree.specs.Replaced.{fits_at}
use Rattle.cga_fraction.proofs.Door.{eq_or_ne as nat_cases, or-true as or_true}
use Rattle.std.proofs.lemmas.Bool.{cases_Bool as bool_cases}
use Rattle.cga_forest.proofs.Walk.{under_cases, under_none}
use Rattle.cga_forest.proofs.Present.{present_some}
pub use Rattle.cga_fraction.proofs.Door.{lt-length_from_slice_get as get_within}

at_find : (K : ℕ → List ℕ) (n : ℕ) (P : ℕ → Option Node → Bool) (o : Option ℕ) (w : Option Node) (c : ℕ)
    → goes_at K n P o w c ≡ true → (k : ℕ) × (o ≡ Some k) × (P k w ≡ false) × (under K n k c ≡ true)
at_find K n P None w c h = absurd (cc)
at_find K n P (Some k) w c h = elim (bool_cases (P k w)) [
  | inl y ↦ (let z : false ≡ true = ap (λ b. if b then false else under K n k c) (sym y) ∙ h in absurd (cc))
  | inr ne ↦ (k, refl, ne, ap (λ b. if b then false else under K n k c) (sym ne) ∙ h)
]

pub goes_find : (K : ℕ → List ℕ) (n : ℕ) (P : ℕ → Option Node → Bool) (olds : List ℕ) (news : List Node) (m c : ℕ)
    → goes K n P olds news m c ≡ true
    → (i : ℕ) × (k : ℕ) × (slice_get olds i ≡ Some k) × (P k (slice_get news i) ≡ false) × (under K n k c ≡ true)
unfolding goes
goes_find K n P olds news zero c h = absurd (cc)
goes_find K n P olds news (suc m) c h = elim (bool_cases (goes K n P olds news m c)) [
  | inl y ↦ goes_find K n P olds news m c y
  | inr ne ↦ (let w = at_find K n P (slice_get olds m) (slice_get news m) c (sym (ap (λ b. b || goes_at K n P (slice_get olds m) (slice_get news m) c) ne) ∙ h) in (m, w.0, w.1, w.2, w.3))
]

goes_below : (K : ℕ → List ℕ) (n : ℕ) (P : ℕ → Option Node → Bool) (olds : List ℕ) (news : List Node) (m i k c : ℕ)
    → i < m → slice_get olds i ≡ Some k → P k (slice_get news i) ≡ false → under K n k c ≡ true
    → goes K n P olds news m c ≡ true
unfolding goes
goes_below K n P olds news zero i k c lt at unfit u = absurd (omega arith)
goes_below K n P olds news (suc m) i k c lt at unfit u = elim (nat_cases i m) [
  | inl q ↦ (
      let e1 : goes_at K n P (slice_get olds m) (slice_get news m) c ≡ true =
      ap (λ j. goes_at K n P (slice_get olds j) (slice_get news j) c) (sym q) ∙ ap (λ o. goes_at K n P o (slice_get news i) c) at ∙ ap (λ b. if b then false else under K n k c) unfit ∙ u in
      ap (λ b. goes K n P olds news m c || b) e1 ∙ or_true (goes K n P olds news m c))
  | inr ne ↦ (let lt2 : i < m = omega arith in ap (λ b. b || goes_at K n P (slice_get olds m) (slice_get news m) c) (goes_below K n P olds news m i k c lt2 at unfit u))
]

pub goes_here : (K : ℕ → List ℕ) (n : ℕ) (P : ℕ → Option Node → Bool) (olds : List ℕ) (news : List Node) (i k c : ℕ)
    → slice_get olds i ≡ Some k → P k (slice_get news i) ≡ false → under K n k c ≡ true
    → goes K n P olds news (length olds) c ≡ true
goes_here K n P olds news i k c at unfit u = goes_below K n P olds news (length olds) i k c (slice_get_within olds i k at) at unfit u

-- what is below a node of a tree is in it, and no higher
pub under_deep : (K : ℕ → List ℕ) (T : ℕ → Option Seen) → IsTree T
    → ((c : ℕ) (d : Seen) → T c ≡ Some d → K c ≡ d.children)
    → (n id c : ℕ) (e : Seen) → T id ≡ Some e → under K n id c ≡ true
    → (d : Seen) × (T c ≡ Some d) × (e.depth ≤ d.depth)
under_deep K T tree same zero id c e t h = let z = under_none K id c in absurd (cc)
under_deep K T tree same (suc n) id c e t h = elim (under_cases K n id c h) [
  | inl q ↦ (e, ap T (sym q) ∙ t, omega arith)
  | inr w ↦ (
      let r = tree.down id w.0 w.1 e t (ap (λ xs. slice_get xs w.0) (sym (same id e t)) ∙ w.2) in
      let u = under_deep K T tree same n w.1 c r.0 r.1 w.3 in
      let a = r.3 in let b = u.2 in (u.0, u.1, omega arith))
]

pub same_seen : (T : ℕ → Option Seen) (a b : ℕ) (d e : Seen) → T a ≡ Some d → T b ≡ Some e → a ≡ b → d ≡ e
same_seen T a b d e t u q = let z : Some d ≡ Some e = sym t ∙ ap T q ∙ u in (cc)

pub stay_seen : (s : Option SlotEntry) (d : Seen) (w : Option Node) → present_of s ≡ Some d
    → stay_of s w ≡ fits_at fits d.node w
stay_seen s d w h = let r = present_some s d h in ap (λ o. stay_of o w) r.1 ∙ ap (λ (x : Seen). fits_at fits x.node w) r.2

pub not_true : (b : Bool) → b ≡ true → false ≡ not b
not_true b h = ap not (sym h)

pub not_false : (b : Bool) → b ≡ false → true ≡ not b
not_false b h = ap not (sym h)

pub asked_some : (s : Option SlotEntry) (w : Option Node) → stay_of s w ≡ true → (x : Node) × (w ≡ Some x)
asked_some None w h = absurd (cc)
asked_some (Some e) None h = absurd (cc)
asked_some (Some e) (Some x) h = (x, refl)

pub get_there : (xs : List ℕ) (i : ℕ) → i < length xs → (k : ℕ) × (slice_get xs i ≡ Some k)
get_there [] i h = absurd (omega arith)
get_there (x ∷ xs) zero h = (x, refl)
get_there (x ∷ xs) (suc i) h = get_there xs i (omega arith)
