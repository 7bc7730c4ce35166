-- A new forest stands for sources without lots.
use Rattle.std.proofs.Common.{◌≡◌, ℕ, List, [], false, refl, ap, sym, subst, arith}
use Rattle.std.specs.List.{Contains}
use Rattle.cga_shape.specs.declared.sources.Sources.{Sources}
use Rattle.cga_fraction.proofs.Door.{None-not-Some as none_some}
use Rattle.cga_rework.proofs.Door.{stands_again}
use Rattle.cga_depend.specs.Pairs.{DependentsView, nodes_in, under}
use Rattle.cga_forest.specs.Tree.{ForestView, node_at}
use Rattle.cga_update.specs.Edit.{shapes_of, rules_of, asks_by, content}
use Rattle.cga_update.specs.Stands.{ForestStands, DependentsStand, Stands}
use Rattle.cga_update.specs.Updates.{with_no_lots}
use Rattle.cga_word.specs.declared.mode.Mode.{Mode}

abbrev pub no_nodes : Mode → ForestView
no_nodes mode = record { slots = []; marking = false; roots = []; marked_roots = []; mode = mode }

fresh_forest : (sources : Sources) → ForestStands (with_no_lots sources) (no_nodes sources.mode)
fresh_forest sources = record {
  mode = refl;
  unmarked = refl;
  nodes = stands_again.nothing (shapes_of (with_no_lots sources)) content (rules_of (with_no_lots sources)) (asks_by sources.grammar) (node_at (no_nodes sources.mode)) (λ c. refl);
  silent = λ c d t. none_some d t;
  plain = λ c d t. none_some d t;
}

no_pair : (d : DependentsView) → d.nodes ≡ [] → (symbol : List ℕ) (c : ℕ) → Contains (nodes_in d symbol) c → ⊥
no_pair d none symbol c h =
    let e : nodes_in d symbol ≡ [] = ap (λ (x : List (List ℕ × List ℕ)). under x symbol) none in
    let k : Contains [] c = subst (λ (x : List ℕ). Contains x c) e h in
    let less = k.1 in
    omega (arith, less)

fresh_pairs : (sources : Sources) (d : DependentsView) → d.nodes ≡ []
    → DependentsStand (with_no_lots sources) (no_nodes sources.mode) d
fresh_pairs sources d none = record {
  nodes = λ symbol c. (
    λ h. absurd (no_pair d none symbol c h),
    λ w. none_some w.0 w.1,
  );
}

-- A forest without nodes stands for sources without lots.
pub fresh_stands : (sources : Sources) (v : ForestView) → v ≡ no_nodes sources.mode
    → (d : DependentsView) → d.nodes ≡ [] → Stands (with_no_lots sources) (record { forest = v; dependents = d })
fresh_stands sources v new d none =
    subst (λ (y : ForestView). Stands (with_no_lots sources) (record { forest = y; dependents = d })) (sym new)
    (record { forest = fresh_forest sources; dependents = fresh_pairs sources d none })
