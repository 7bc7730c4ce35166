-- A replacement of nodes that are seen through other slots.
use Rattle.std.proofs.Common.{refl, ◌≡◌, ℕ, Bool, List}
use Rattle.std.specs.Prelude.{Option}
use Rattle.cga_forest.specs.declared.node.Node.{Node}
use Rattle.cga_forest.specs.declared.node.NodeState.{NodeState}
use Rattle.cga_forest.specs.View.{Seen}
use Rattle.cga_forest.specs.Tree.{Replaces, ReplacedBy}
use Rattle.cga_tree.specs.Tree.{IsTree}
use Rattle.cga_forest.specs.Roots.{HasRoots}
use Rattle.cga_marked.specs.Map.{Named}
use Rattle.cga_forest.proofs.Tops.{HasRoots-replaced}
use Rattle.cga_forest.specs.declared.node_change.NodeChange.{NodeChange}
use Rattle.cga_forest.specs.NodeChange.{ListsOnlyIn}

pub same_functions : (f g : ℕ → Option Seen) → ((c : ℕ) → f c ≡ g c) → f ≡ g
same_functions f g h = λ i. λ c. h c i

pub Replaces-same : (a b s t : ℕ → Option Seen) (id : ℕ) (state : NodeState) (news : List Node) → ((c : ℕ) → s c ≡ a c)
    → ((c : ℕ) → t c ≡ b c) → Replaces a b id state news → Replaces s t id state news
Replaces-same a b s t id state news p q r =
    let x : s ≡ a = same_functions s a p in
    let y : t ≡ b = same_functions t b q in rw (x, y) r

pub ReplacedBy-same : (a b s t : ℕ → Option Seen) (id : ℕ) (state : NodeState) (news : List Node) (gone : ℕ → Bool)
    → ((c : ℕ) → s c ≡ a c) → ((c : ℕ) → t c ≡ b c) → ReplacedBy a b id state news gone
    → ReplacedBy s t id state news gone
ReplacedBy-same a b s t id state news gone p q r =
    let x : s ≡ a = same_functions s a p in
    let y : t ≡ b = same_functions t b q in rw (x, y) r

pub Replaces-from : (old new : ℕ → Option Seen) (id : ℕ) (state : NodeState) (news : List Node) (gone : ℕ → Bool)
    → ReplacedBy old new id state news gone → Replaces old new id state news
Replaces-from old new id state news gone r = (r.0, r.1, gone, r.2)

pub ListsOnlyIn-same : (a b s t : ℕ → Option Seen) (list : List NodeChange) → ((c : ℕ) → s c ≡ a c)
    → ((c : ℕ) → t c ≡ b c)
    → ListsOnlyIn a b list → ListsOnlyIn s t list
ListsOnlyIn-same a b s t list p q r =
    let x : s ≡ a = same_functions s a p in
    let y : t ≡ b = same_functions t b q in rw (x, y) r

pub tops_replaced : (S T : ℕ → Option Seen) (roots : Named) (id : ℕ) (state : NodeState) (news : List Node)
    (gone : ℕ → Bool)
    → ReplacedBy S T id state news gone → IsTree S → HasRoots S roots → HasRoots T roots
tops_replaced S T roots id state news gone r tree tops = HasRoots-replaced S T roots tops id news r.0 _ gone r.2 refl tree
