-- The nodes of a forest that may be on the agenda: one at each stamp.
use Rattle.std.proofs.Common.{◌≡◌, ℕ, refl, sym, ap, ◌∙◌, subst, Option, Some, None, true, false}
use Rattle.std.specs.Prelude.{IsSome, IfSome, is_some, if◌then◌else◌}
use Rattle.cga_order.specs.Chain.{Chain}
use Rattle.cga_order.specs.World.{is_instance}
use Rattle.cga_order.proofs.Door.{stamps-place}
use Rattle.cga_forest.specs.Node.{chain_kept}
use Rattle.cga_forest.specs.View.{Seen}
use Rattle.cga_forest.specs.Tree.{ForestView, IsForest, node_at}
use Rattle.cga_queue.specs.Agenda.{OneEach}
use Rattle.cga_update.specs.Queue.{chains_of, due_chain}
use Rattle.cga_update.proofs.Places.{same_node}

-- where a node stands that may be on the agenda
pub due_of : (o : Option Seen) (x : Chain) → due_chain o ≡ Some x
    → (d : Seen) × (o ≡ Some d) × (is_instance d.node.kind ≡ false) × (chain_kept d.node ≡ x)
due_of None x e = let z : None ≡ Some x = e in cc
due_of (Some d) x e = elim (is_instance d.node.kind) as (λ b. is_instance d.node.kind ≡ b
    → (if b then None else Some (chain_kept d.node)) ≡ Some x → (y : Seen) × (Some d ≡ Some y) × (is_instance y.node.kind ≡ false) × (chain_kept y.node ≡ x)) [
      | true ↦ λ i f. (let z : None ≡ Some x = f in cc)
      | false ↦ λ i f. (d, refl, i, (let z : Some (chain_kept d.node) ≡ Some x = f in cc))
    ] refl e

pub due_is : (o : Option Seen) (d : Seen) → o ≡ Some d → is_instance d.node.kind ≡ false
    → due_chain o ≡ Some (chain_kept d.node)
due_is o d e i = ap due_chain e ∙ ap (λ b. if b then None else Some (chain_kept d.node)) i

-- a node that is there and is no instance may be on the agenda
pub may_be_on : (v : ForestView) (c : ℕ) (d : Seen) → node_at v c ≡ Some d → is_instance d.node.kind ≡ false
    → IsSome (chains_of v c)
may_be_on v c d at inner = subst IsSome (sym (due_is (node_at v c) d at inner)) refl

due_some : (o : Option Seen) → IsSome (due_chain o) → (d : Seen) × (o ≡ Some d) × (is_instance d.node.kind ≡ false)
due_some None h = let z : false ≡ true = h in cc
due_some (Some d) h = (
  d,
  refl,
  elim (is_instance d.node.kind) as (λ b. IsSome (if b then None else Some (chain_kept d.node)) → b ≡ false) [
    | true ↦ λ f. (let z : false ≡ true = f in cc)
    | false ↦ λ f. refl
  ] h,
)

-- the chain that the forest lends is the node's
pub lent_is : (o : Option Seen) (x : Chain) → IsSome (due_chain o) → IfSome o (λ d. x ≡ chain_kept d.node)
    → due_chain o ≡ Some x
lent_is o x h value =
    let z = due_some o h in
    due_is o z.0 z.1 z.2 ∙ ap Some (sym (subst (λ p. IfSome p (λ d. x ≡ chain_kept d.node)) z.1 value))

-- no two nodes stand at one stamp
pub one_each : (v : ForestView) → IsForest v → OneEach (chains_of v)
one_each v f mode c b x y p q same =
    let d = due_of (node_at v c) x p in
    let e = due_of (node_at v b) y q in
    let at = stamps-place mode x y same in
    (same_node v f c b d.0 e.0 d.1 e.1 (
      ap (λ (w : Chain). w.lot) d.3 ∙ ap (λ z. z.0) at
          ∙ sym (ap (λ (w : Chain). w.lot) e.3),
      ap (λ (w : Chain). w.path) d.3 ∙ ap (λ z. z.1) at ∙ sym (ap (λ (w : Chain). w.path) e.3),
    )).0

-- a node that isn't worked has no chain
pub none_lent : (o : Option Chain) → is_some o ≡ false → o ≡ None
none_lent None h = refl
none_lent (Some x) h = let z : true ≡ false = h in cc
