-- How many children a node has at most, under each change.
use Rattle.std.proofs.Common.{◌≡◌, ◌≢◌, ℕ, ◌≤◌, List, [], length, Bool, inl, inr, refl, ap, sym, ◌∙◌, arith}
use Rattle.std.specs.Prelude.{Option, Some}
use Rattle.cga_forest.specs.declared.node.Node.{Node}
use Rattle.cga_forest.specs.Node.{fits}
use Rattle.cga_forest.specs.View.{Seen}
use Rattle.cga_forest.specs.Tree.{HaveFew}
use Rattle.cga_tree.specs.Tree.{IsTree}
use Rattle.cga_tree.specs.Replaced.{IsReplaced}
use Rattle.cga_fraction.proofs.Door.{eq_or_ne as nat_cases}
use Rattle.cga_forest.proofs.Replace.{old_or_new}

none_few : (d : Seen) → d.children ≡ [] → length d.children ≤ 4096
none_few d leaf = let n = ap length leaf in omega (arith, n)

-- some of the nodes
pub few-part : (S T : ℕ → Option Seen) → ((c : ℕ) (d : Seen) → T c ≡ Some d → S c ≡ Some d) → HaveFew S → HaveFew T
few-part S T h s c d t = s c d (h c d t)

-- a root comes
pub few-root : (S T : ℕ → Option Seen) (id : ℕ) (e : Seen) → T id ≡ Some e → e.children ≡ []
    → ((c : ℕ) → c ≢ id → T c ≡ S c) → HaveFew S → HaveFew T
few-root S T id e here leaf others s c d t = elim (nat_cases c id) [
  | inl q ↦ (
      let z : Some e ≡ Some d = sym here ∙ ap T (sym q) ∙ t in
      let w : e ≡ d = (cc) in
      none_few d (ap (λ (x : Seen). x.children) (sym w) ∙ leaf))
  | inr n ↦ s c d (sym (others c n) ∙ t)
]

-- one node's children are replaced
pub few-replaced : (S T : ℕ → Option Seen) (id : ℕ) (news : List Node) (e now : Seen) (gone : ℕ → Bool)
    → IsReplaced fits S T id news e now gone → IsTree S → length news ≤ 4096 → HaveFew S → HaveFew T
few-replaced S T id news e now gone r tree few s c d t = elim (nat_cases c id) [
  | inl q ↦ (
      let z : Some now ≡ Some d = sym r.is ∙ ap T (sym q) ∙ t in
      let w : now ≡ d = (cc) in
      let k = r.sized in
      let m = ap (λ (x : Seen). length x.children) w in
      omega (arith, k, m, few))
  | inr n ↦ elim (old_or_new S T id news e now gone r tree c d t n (S c) refl) [
    | inl o ↦ s c d o.1
    | inr w ↦ (
        let z : Some w.4.seen ≡ Some d = sym w.4.here ∙ t in
        let y : w.4.seen ≡ d = (cc) in
        none_few d (ap (λ (x : Seen). x.children) (sym y) ∙ w.4.leaf))
  ]
]
