-- Which nodes are on the agenda that come later than one that is on it.
use Rattle.std.specs.Prelude.{◌≡◌, ℕ, Some, None, IsSome, true, false}
use Rattle.std.specs.declared.cmp.Ordering.TheVariants.{Less}
use Rattle.cga_word.specs.declared.mode.Mode.{Mode}
use Rattle.cga_order.specs.Stamp.{stamp_cmp}
use Rattle.cga_order.specs.World.{is_instance}
use Rattle.cga_forest.specs.Node.{chain_kept}
use Rattle.cga_forest.specs.View.{Seen}
use Rattle.cga_forest.specs.Tree.{ForestView, marked_at, node_at}
use Rattle.cga_queue.specs.Agenda.{AgendaView}
use Rattle.cga_update.specs.Queue.{on_of}

-- each node of which P tells, that is no instance and comes later than one on the agenda, is on it, too
abbrev pub AreDue : (ℕ → Seen → Type 0) → Mode → ForestView → AgendaView → Type 0
AreDue P mode v a =
    (b c : ℕ) (e d : Seen) → node_at v b ≡ Some e → on_of v a b ≡ true → node_at v c ≡ Some d → P c d
    → is_instance d.node.kind ≡ false → stamp_cmp mode (chain_kept e.node) (chain_kept d.node) ≡ Less
    → on_of v a c ≡ true

-- the node came since the mark
abbrev pub HasCome : ForestView → ℕ → Seen → Type 0
HasCome v c d = marked_at v c ≡ None

-- the node was there at the mark and asks
abbrev pub AsksStill : ForestView → ℕ → Seen → Type 0
AsksStill v c d = IsSome (marked_at v c) × (d.node.asks ≡ true)

abbrev pub ComersAreDue : Mode → ForestView → AgendaView → Type 0
ComersAreDue mode v a = AreDue (HasCome v) mode v a

abbrev pub AskersAreDue : Mode → ForestView → AgendaView → Type 0
AskersAreDue mode v a = AreDue (AsksStill v) mode v a
