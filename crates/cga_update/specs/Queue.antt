-- Which nodes of a forest are on the agenda.
use Rattle.std.specs.Prelude.{ℕ, Option, Some, None, Bool, if◌then◌else◌}
use Rattle.cga_order.specs.Chain.{Chain}
use Rattle.cga_order.specs.World.{is_instance}
use Rattle.cga_forest.specs.Node.{chain_kept}
use Rattle.cga_forest.specs.View.{Seen}
use Rattle.cga_forest.specs.Tree.{ForestView, node_at}
use Rattle.cga_queue.specs.Agenda.{AgendaView, Chains, on}

-- where a node stands that is no instance
abbrev pub due_chain : Option Seen → Option Chain
due_chain None = None
due_chain (Some d) = if is_instance d.node.kind then None else Some (chain_kept d.node)

-- the chains of the nodes of a forest that are no instances
abbrev pub chains_of : ForestView → Chains
chains_of v c = due_chain (node_at v c)

-- the numbers of the nodes on the agenda
abbrev pub on_of : ForestView → AgendaView → ℕ → Bool
on_of v a = on (chains_of v) a
