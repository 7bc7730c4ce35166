-- When a kept forest and its dependents are right for sources.
use Rattle.std.specs.Prelude.{◌≡◌, ◌↔◌, ℕ, List, Some, true, false}
use Rattle.std.specs.List.{Contains}
use Rattle.cga_shape.specs.declared.sources.Sources.{Sources}
use Rattle.cga_order.specs.World.{is_instance}
use Rattle.cga_rework.specs.City as tree
use Rattle.cga_depend.specs.Pairs.{DependentsView, nodes_in}
use Rattle.cga_forest.specs.View.{Seen}
use Rattle.cga_forest.specs.Tree.{ForestView, node_at}
use Rattle.cga_update.specs.declared.kept.Kept.{Kept}
use Rattle.cga_update.specs.Edit.{shapes_of, rules_of, asks_by, content}
use Rattle.cga_update.specs.Plain.{IsPlain}

-- the forest is right for the sources. That the nodes are the members of the derivation isn't said: it
-- follows from what each node is to those that it sees
pub record ForestStands (sources : Sources) (v : ForestView) : Type 0 where
  pub mode : v.mode ≡ sources.mode
  pub unmarked : v.marking ≡ false
  -- the roots are those of the lots; each node that isn't an instance has the answers of its stamp, the
  -- kind and the children that they give, and its symbol's priority, and asks where its group does
  pub nodes : tree.Stands (shapes_of sources) content (rules_of sources) (asks_by sources.grammar) (node_at v)
  -- an instance doesn't ask
  pub silent : (c : ℕ) (d : Seen) → node_at v c ≡ Some d → is_instance d.node.kind ≡ true → d.node.asks ≡ false
  pub plain : (c : ℕ) (d : Seen) → node_at v c ≡ Some d → IsPlain d

-- the node is there, is no instance, and has this symbol
abbrev pub IsOf : ForestView → List ℕ → ℕ → Type 0
IsOf v symbol c =
    (d : Seen) × (node_at v c ≡ Some d) × (is_instance d.node.kind ≡ false) × (d.node.shape.symbol ≡ symbol)

-- the dependents list the nodes of each symbol
pub record DependentsStand (sources : Sources) (v : ForestView) (d : DependentsView) : Type 0 where
  pub nodes : (symbol : List ℕ) (c : ℕ) → Contains (nodes_in d symbol) c ↔ IsOf v symbol c

-- both are
pub record Stands (sources : Sources) (kept : Kept) : Type 0 where
  pub forest : ForestStands sources kept.forest
  pub dependents : DependentsStand sources kept.forest kept.dependents
