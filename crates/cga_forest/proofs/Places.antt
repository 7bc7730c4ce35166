-- The nodes stand where their shapes say, after each change.
use Rattle.std.proofs.Common.{◌≡◌, ◌≢◌, ℕ, ◌+◌, List, [], ◌∷◌, length, Bool, inl, inr, refl, ap, sym, subst, ◌∙◌, arith, length-append}
use Rattle.std.specs.Prelude.{Option, Some, None}
use Rattle.cga_order.specs.Chain as order
use Rattle.cga_forest.specs.declared.node.Node.{Node}
use Rattle.cga_forest.specs.declared.node.NodeState.{NodeState}
use Rattle.cga_forest.specs.Node.{fits, with_state, chain_kept, IsTop, IsBelow}
use Rattle.cga_forest.specs.View.{Seen}
use Rattle.cga_forest.specs.Tree.{InPlace, IsInner}
use Rattle.cga_tree.specs.Tree.{IsTree}
use Rattle.cga_tree.specs.Replaced.{IsReplaced}
use Rattle.cga_fraction.proofs.Door.{eq_or_ne as nat_cases}
use Rattle.cga_forest.proofs.Replace.{old_or_new}
use Rattle.cga_forest.proofs.Tree.{cut_some}

-- the same nodes
pub InPlace-same : (S T : ℕ → Option Seen) → ((c : ℕ) → T c ≡ S c) → InPlace S → InPlace T
InPlace-same S T h s = record {
  root = λ c d t. s.root c d (sym (h c) ∙ t);
  child = λ c p d e t g u. s.child c p d e (sym (h c) ∙ t) g (sym (h p) ∙ u);
  chain = λ c d t. s.chain c d (sym (h c) ∙ t);
}

-- some of the nodes
pub InPlace-part : (S T : ℕ → Option Seen) → ((c : ℕ) (d : Seen) → T c ≡ Some d → S c ≡ Some d) → InPlace S → InPlace T
InPlace-part S T h s = record {
  root = λ c d t. s.root c d (h c d t);
  child = λ c p d e t g u. s.child c p d e (h c d t) g (h p e u);
  chain = λ c d t. s.chain c d (h c d t);
}

pub chain-top : (n : Node) → IsTop n → order.IsWhole (chain_kept n)
chain-top n t = ap (λ (xs : List ℕ). length xs) t.line ∙ (let e : length n.shape.path ≡ 0 = ap (λ (xs : List ℕ). length xs) t.path in omega (arith, e))

chain-below : (p c : Node) (i : ℕ) → order.IsWhole (chain_kept p) → IsBelow p i c → order.IsWhole (chain_kept c)
chain-below p c i w b =
    let line : length c.line ≡ length p.line + 1 = ap (λ (xs : List ℕ). length xs) b.line ∙ length-append p.line (c.priority ∷ []) in
    let path : length c.shape.path ≡ length p.shape.path + 1 = ap (λ (xs : List ℕ). length xs) b.path ∙ length-append p.shape.path (i ∷ []) in
    let whole : length p.line ≡ length p.shape.path + 1 = w in
    omega (arith, line, path, whole)

-- a root comes
pub InPlace-root : (S T : ℕ → Option Seen) (id : ℕ) (e : Seen) → S id ≡ None → T id ≡ Some e → e.parent ≡ None
    → IsTop e.node
    → ((c : ℕ) → c ≢ id → T c ≡ S c) → IsTree S → InPlace S → InPlace T
InPlace-root S T id e fresh here root top others tree s =
    let same = λ (c : ℕ) (d : Seen) (q : c ≡ id) (t : T c ≡ Some d). let z : Some e ≡ Some d = sym here ∙ ap T (sym q) ∙ t in let w : e ≡ d = (cc) in w in
    record {
      root = λ c d t g. elim (nat_cases c id) [
        | inl q ↦ subst (λ (x : Seen). IsTop x.node) (same c d q t) top
        | inr n ↦ s.root c d (sym (others c n) ∙ t) g
      ];
      child = λ c p d x t g u. elim (nat_cases c id) [
        | inl q ↦ (let z : None ≡ Some p = sym root ∙ ap (λ (y : Seen). y.parent) (same c d q t) ∙ g in absurd (cc))
        | inr n ↦ (
            let old = sym (others c n) ∙ t in
            let up = tree.up c p d old g in
            let m : p ≢ id = (λ q. let z : None ≡ Some up.0 = sym fresh ∙ ap S (sym q) ∙ up.1 in absurd (cc)) in
            s.child c p d x old g (sym (others p m) ∙ u))
      ];
      chain = λ c d t. elim (nat_cases c id) [
        | inl q ↦ subst (λ (x : Seen). order.IsWhole (chain_kept x.node)) (same c d q t) (chain-top e.node top)
        | inr n ↦ s.chain c d (sym (others c n) ∙ t)
      ];
    }

-- one node's children are replaced, and its state
module _ (S T : ℕ → Option Seen) (id : ℕ) (state : NodeState) (news : List Node) (made : List ℕ) (e : Seen) (gone : ℕ → Bool)
    (r : IsReplaced fits S T id news e (record e { node = with_state state e.node; children = made }) gone) (tree : IsTree S) (after : IsTree T) (s : InPlace S) (inner : IsInner e state news) where
  abbrev now : Seen
  now = record e { node = with_state state e.node; children = made }

  same_now : (c : ℕ) (d : Seen) → T c ≡ Some d → c ≡ id → now ≡ d
  same_now c d t q = let z : Some now ≡ Some d = sym r.is ∙ ap T (sym q) ∙ t in (cc)

  below_now : (i : ℕ) (c : Node) → IsBelow e.node i c → IsBelow (with_state state e.node) i c
  below_now i c b = record { inner = inner.is; lot = b.lot; path = b.path; line = b.line }

  now_below : (p : Node) (i : ℕ) → IsBelow p i e.node → IsBelow p i (with_state state e.node)
  now_below p i b = record { inner = b.inner; lot = b.lot; path = b.path; line = b.line }

  -- what stands at a parent now has the place of what stood there
  was_there : (p : ℕ) (x : Seen) → T p ≡ Some x → (i : ℕ) (c : Node) → ((y : Seen) → S p ≡ Some y → IsBelow y.node i c)
      → (y : Seen) → S p ≡ Some y → IsBelow x.node i c
  was_there p x u i c b y t = elim (nat_cases p id) [
    | inl q ↦ (
        let z : Some y ≡ Some e = sym t ∙ ap S q ∙ r.was in
        let w : y ≡ e = (cc) in
        subst (λ (k : Seen). IsBelow k.node i c) (same_now p x u q) (below_now i c (subst (λ (k : Seen). IsBelow k.node i c) w (b y t))))
    | inr n ↦ (let k = cut_some (gone p) (Some y) x (sym (r.rest p y n t) ∙ u) in b x (t ∙ k.1))
  ]

  child_now : (c p : ℕ) (d x : Seen) → T c ≡ Some d → d.parent ≡ Some p → T p ≡ Some x → IsBelow x.node d.index d.node
  child_now c p d x t g u = elim (nat_cases c id) [
    | inl q ↦ (
        let w = same_now c d t q in
        let ep : e.parent ≡ Some p = ap (λ (k : Seen). k.parent) w ∙ g in
        let up = tree.up id p e r.was ep in
        subst (λ (k : Seen). IsBelow x.node k.index k.node) w
        (was_there p x u e.index (with_state state e.node) (λ y v. now_below y.node e.index (s.child id p e y r.was ep v)) up.0 up.1))
    | inr n ↦ elim (old_or_new S T id news e now gone r tree c d t n (S c) refl) [
      | inl o ↦ (let up = tree.up c p d o.1 g in was_there p x u d.index d.node (λ y v. s.child c p d y o.1 g v) up.0 up.1)
      | inr w ↦ (
          let z : Some w.4.seen ≡ Some d = sym w.4.here ∙ t in
          let y : w.4.seen ≡ d = (cc) in
          let pp : Some p ≡ Some id = sym g ∙ ap (λ (k : Seen). k.parent) (sym y) ∙ w.4.parent in
          let pid : p ≡ id = (cc) in
          let b : IsBelow (with_state state e.node) w.0 w.1 = inner.children w.0 w.1 w.3 in
          let b2 : IsBelow (with_state state e.node) d.index
          d.node = subst (λ (k : Seen). IsBelow (with_state state e.node) k.index k.node) y
          (subst (λ (m : Node). IsBelow (with_state state e.node) w.4.seen.index m) (sym w.4.node)
          (subst (λ j. IsBelow (with_state state e.node) j w.1) (sym w.4.index) b)) in
          subst (λ (k : Seen). IsBelow k.node d.index d.node) (same_now p x u pid) b2)
    ]
  ]

  pub InPlace-replaced : InPlace T
  InPlace-replaced = record {
    root = λ c d t g. elim (nat_cases c id) [
      | inl q ↦ (
          let w = same_now c d t q in
          let k = s.root id e r.was (ap (λ (x : Seen). x.parent) w ∙ g) in
          let top : IsTop (with_state state e.node) = record { inner = inner.is; path = k.path; line = k.line } in
          subst (λ (x : Seen). IsTop x.node) w top)
      | inr n ↦ elim (old_or_new S T id news e now gone r tree c d t n (S c) refl) [
        | inl o ↦ s.root c d o.1 g
        | inr w ↦ (let z : Some w.4.seen ≡ Some d = sym w.4.here ∙ t in let y : w.4.seen ≡ d = (cc) in let x : None ≡ Some id = sym g ∙ ap (λ (x : Seen). x.parent) (sym y) ∙ w.4.parent in absurd (cc))
      ]
    ];
    child = child_now;
    chain = λ c d t. elim (nat_cases c id) [
      | inl q ↦ subst (λ (x : Seen). order.IsWhole (chain_kept x.node)) (same_now c d t q) (s.chain id e r.was)
      | inr n ↦ elim (old_or_new S T id news e now gone r tree c d t n (S c) refl) [
        | inl o ↦ s.chain c d o.1
        | inr w ↦ (
            let z : Some w.4.seen ≡ Some d = sym w.4.here ∙ t in
            let y : w.4.seen ≡ d = (cc) in
            let b : order.IsWhole (chain_kept w.1) = chain-below (with_state state e.node) w.1 w.0 (s.chain id e r.was) (inner.children w.0 w.1 w.3) in
            subst (λ (k : Seen). order.IsWhole (chain_kept k.node)) y (subst (λ (m : Node). order.IsWhole (chain_kept m)) (sym w.4.node) b))
      ]
    ];
  }
