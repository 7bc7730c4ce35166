-- When the last node of the mark is looked at that asks.
use Rattle.std.specs.Prelude.{◌≡◌, ◌⊎◌, ℕ, List, Some, IsSome, true, false}
use Rattle.cga_word.specs.declared.mode.Mode.{Mode}
use Rattle.cga_order.specs.Chain.{Chain}
use Rattle.cga_order.specs.World.{Among, is_instance}
use Rattle.cga_depend.specs.Asking.{asks_in}
use Rattle.cga_depend.specs.Pairs.{DependentsView, nodes_in}
use Rattle.cga_rule.specs.declared.grammar.Grammar.{Grammar}
use Rattle.cga_forest.specs.Node.{chain_kept}
use Rattle.cga_forest.specs.View.{Seen}
use Rattle.cga_forest.specs.Tree.{ForestView, marked_at, node_at}
use Rattle.cga_queue.specs.Last.{IsBound}
use Rattle.cga_queue.specs.declared.last.Last.{Last}
use Rattle.cga_update.specs.Edit.{asks_by}
use Rattle.cga_update.specs.Queue.{chains_of}

-- the nodes in the dependents of symbols that ask come no later
abbrev pub IsTold : Mode → ForestView → DependentsView → Grammar → Grammar → Last → Type 0
IsTold mode v d old new last =
    (symbol : List ℕ) (c : ℕ) (x : Chain) → asks_in old new symbol ≡ true → Among c (nodes_in d symbol)
    → chains_of v c ≡ Some x → IsBound mode last x

-- the nodes of the mark that ask, or would by the grammar, come no later
abbrev pub AskersAreUpTo : Mode → Last → Grammar → ForestView → Type 0
AskersAreUpTo mode last g v =
    (c : ℕ) (d : Seen) → node_at v c ≡ Some d → IsSome (marked_at v c) → is_instance d.node.kind ≡ false
    → (d.node.asks ≡ true) ⊎ (asks_by g d.node.shape ≡ true) → IsBound mode last (chain_kept d.node)
