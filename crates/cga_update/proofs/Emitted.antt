-- What was emitted for the children of a node is an outcome that places them where they stand.
use Rattle.std.proofs.Common.{◌≡◌, ◌≤◌, ◌+◌, ℕ, zero, suc, List, [], ◌∷◌, ◌++◌, length, refl, sym, ap, ◌∙◌, subst, ◌⊎◌, inl, inr, Option, Some, None, true, false, Ok, Err, arith, length-append}
use Rattle.std.specs.Prelude.{IsSome, slice_get}
use Rattle.cga_index.specs.Tree.{InTree}
use Rattle.cga_word.specs.declared.primitive.Primitive.{Primitive}
use Rattle.cga_order.specs.World.{is_instance, is_waiting}
use Rattle.cga_order.specs.declared.placed.Kind.{Kind}
use Rattle.cga_order.specs.declared.placed.Kind.TheVariants.{Waiting, Done, Faulted, Instance}
use Rattle.cga_expand.specs.declared.limits.TheConstants.{MOST_CHILDREN}
use Rattle.cga_shape.specs.declared.emitted.Emitted.{Emitted}
use Rattle.cga_shape.specs.declared.shape_fault.ShapeFault.{ShapeFault}
use Rattle.cga_forest.specs.View.{Seen}
use Rattle.cga_forest.specs.Tree.{ForestView, IsForest, children_at, children_of, node_at}
use Rattle.cga_forest.specs.Walked.{forest_tree}
use Rattle.cga_forest.proofs.Door.{inside}
use Rattle.cga_update.specs.Turned.{AreEmitted, IsAgain, emitted_of, fault_in}

module _ {X : Type 0} where
  last_or : (xs : List X) (y : X) (i : ℕ) (x : X) → slice_get (xs ++ y ∷ []) i ≡ Some x
      → (slice_get xs i ≡ Some x) ⊎ ((i ≡ length xs) × (x ≡ y))
  last_or [] y zero x h = inr (refl, (let z : Some y ≡ Some x = h in cc))
  last_or [] y (suc i) x h = let z : None ≡ Some x = h in cc
  last_or (a ∷ xs) y zero x h = inl h
  last_or (a ∷ xs) y (suc i) x h = elim (last_or xs y i x h) [
    | inl l ↦ inl l
    | inr r ↦ inr (let z = r.0 in omega arith, r.1)
  ]

-- one child more
pub emitted_more : (v : ForestView) (e : Seen) (n b : ℕ) (made : List Emitted) (y : Emitted) → AreEmitted v e n made
    → slice_get e.children n ≡ Some b → ((x : Seen) → node_at v b ≡ Some x → y ≡ emitted_of x.node)
    → AreEmitted v e (n + 1) (made ++ y ∷ [])
emitted_more v e n b made y are at own = record {
  sized = length-append made (y ∷ []) ∙ ap (λ k. k + 1) are.sized;
  each = λ i c z x h k t. elim (last_or made y i z h) [
    | inl l ↦ are.each i c z x l k t
    | inr r ↦
        let same : b ≡ c = (let q : Some b ≡ Some c = sym at ∙ ap (slice_get e.children) (sym are.sized ∙ sym r.0) ∙ k in cc) in
        r.1 ∙ own x (ap (node_at v) same ∙ t)
  ];
}

pub none_emitted : (v : ForestView) (e : Seen) → AreEmitted v e 0 []
none_emitted v e = record { sized = refl; each = λ i b y x h k t. (let z : None ≡ Some y = h in cc) }

-- a node that isn't waiting has the outcome that it had
pub again_fault : (v : ForestView) (e : Seen) (fault : ShapeFault) → fault_in e.node.kind ≡ Some fault
    → ((e.node.kind ≡ Done) ⊎ (e.children ≡ [])) → IsAgain v e (Err fault)
again_fault v e fault is child =
    let kind = kind_of e.node.kind is in (
      sym kind,
      elim child [
        | inl done ↦ (let z : Done ≡ Faulted fault = sym done ∙ kind in cc)
        | inr none ↦ subst (λ n. AreEmitted v e n []) (sym (ap length none)) (none_emitted v e)
      ],
    )
  where
    kind_of : (k : Kind ShapeFault Primitive) → fault_in k ≡ Some fault → k ≡ Faulted fault
    kind_of Waiting h = let z : None ≡ Some fault = h in cc
    kind_of Done h = let z : None ≡ Some fault = h in cc
    kind_of (Faulted f) h = let z : Some f ≡ Some fault = h in cc
    kind_of (Instance p) h = let z : None ≡ Some fault = h in cc

pub again_done : (v : ForestView) (e : Seen) (made : List Emitted) → None ≡ fault_in e.node.kind
    → is_instance e.node.kind ≡ false → is_waiting e.node.kind ≡ false → AreEmitted v e (length e.children) made
    → IsAgain v e (Ok made)
again_done v e made is inner done are = (sym (kind_of e.node.kind is inner done), are)
  where
    kind_of : (k : Kind ShapeFault Primitive) → None ≡ fault_in k → is_instance k ≡ false → is_waiting k ≡ false
        → k ≡ Done
    kind_of Waiting h a b = let z : true ≡ false = b in cc
    kind_of Done h a b = refl
    kind_of (Faulted f) h a b = let z : None ≡ Some f = h in cc
    kind_of (Instance p) h a b = let z : true ≡ false = a in cc

pub seen_some : (o : Option Seen) → IsSome o → (d : Seen) × (o ≡ Some d)
seen_some None h = let z : false ≡ true = h in cc
seen_some (Some d) h = (d, refl)

-- a child that a node names is there
pub child_there : (v : ForestView) → IsForest v → (id place b : ℕ) → IsSome (node_at v id)
    → slice_get (children_at v id) place ≡ Some b → IsSome (node_at v b)
child_there v f id place b here at =
    let e = seen_some (node_at v id) here in
    let d = f.present.tree.down id place b e.0 e.1 (ap (λ o. slice_get (children_of o) place) (sym e.1) ∙ at) in
    subst IsSome (sym d.1) refl

pub in_tree : (v : ForestView) → IsForest v → (id : ℕ) → IsSome (node_at v id) → InTree (forest_tree v) id
in_tree v f id here = inside v f id (seen_some (node_at v id) here)

-- a node has no more children than an expansion makes
pub few_emitted : (v : ForestView) → IsForest v → (id n count : ℕ) (made list : List Emitted) → IsSome (node_at v id)
    → length made ≡ n → list ≡ made → count ≡ length (children_at v id) → n ≡ count → length list ≤ MOST_CHILDREN
few_emitted v f id n count made list here sized same counted whole =
    let e = seen_some (node_at v id) here in
    let few = f.present.few id e.0 e.1 in
    let children = ap (λ o. length (children_of o)) e.1 in
    let long = ap length same in
    omega (arith, few, children, long)

pub emitted_next : (v : ForestView) (id n b : ℕ) (made : List Emitted) (y : Emitted)
    → ((e : Seen) → node_at v id ≡ Some e → AreEmitted v e n made) → slice_get (children_at v id) n ≡ Some b
    → ((x : Seen) → node_at v b ≡ Some x → y ≡ emitted_of x.node) → (e : Seen) → node_at v id ≡ Some e
    → AreEmitted v e (n + 1) (made ++ y ∷ [])
emitted_next v id n b made y are at own e here = emitted_more v e n b made y (are e here) (ap (λ o. slice_get (children_of o) n) (sym here) ∙ at) own

pub all_emitted : (v : ForestView) (id n count : ℕ) (made list : List Emitted)
    → ((e : Seen) → node_at v id ≡ Some e → AreEmitted v e n made) → list ≡ made → count ≡ length (children_at v id)
    → n ≡ count → (e : Seen) → node_at v id ≡ Some e → AreEmitted v e (length e.children) list
all_emitted v id n count made list are same counted whole e here =
    let size : n ≡ length e.children = whole ∙ counted ∙ ap (λ o. length (children_of o)) here in
    subst (λ l. AreEmitted v e (length e.children) l) (sym same) (subst (λ k. AreEmitted v e k made) size (are e here))
