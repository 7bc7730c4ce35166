-- What is proved of what stands.
use Rattle.std.specs.Prelude.{◌≡◌, ◌↔◌, ℕ, List, Some, false}
use Rattle.cga_word.specs.declared.primitive.Primitive.{Primitive}
use Rattle.cga_shape.specs.declared.shape.Shape.{Shape}
use Rattle.cga_shape.specs.declared.shape_fault.ShapeFault.{ShapeFault}
use Rattle.cga_shape.specs.declared.sources.Sources.{Sources}
use Rattle.cga_order.specs.World.{Has}
use Rattle.cga_order.specs.declared.placed.Kind.{Kind}
use Rattle.cga_derivation.specs.Derivation.{IsDerived}
use Rattle.cga_agenda.specs.Edit.{IsEdit}
use Rattle.cga_expand.specs.Children.{Member}
use Rattle.cga_expand.specs.Derivation.{derivation_of, NamesDiffer}
use Rattle.cga_forest.specs.View.{Seen}
use Rattle.cga_forest.specs.Tree.{ForestView, node_at}
use Rattle.cga_update.specs.Edit.{the_edit}
use Rattle.cga_update.specs.declared.kept.Kept.{Kept}
use Rattle.cga_update.specs.Stands.{ForestStands, Stands}
use Rattle.cga_update.specs.Updates.{StandAsBefore}

-- where lot names differ, old and new sources make an edit of the theory, in the mode of the new
abbrev pub SourcesMakeEdits : Type 0
SourcesMakeEdits =
    (old new : Sources) → NamesDiffer old.lots → NamesDiffer new.lots
    → IsEdit (the_edit old new)

-- the nodes of a forest that stands are the members of the derivation
abbrev pub StandingIsDerived : Type 0
StandingIsDerived =
    (sources : Sources) (v : ForestView) → NamesDiffer sources.lots → ForestStands sources v
    → (list : List Member) → IsDerived (derivation_of sources) list
    → (s : Shape) (k : Kind ShapeFault Primitive)
    → Has list s k ↔ ((c : ℕ) × (d : Seen) × (node_at v c ≡ Some d) × (d.node.shape ≡ s) × (d.node.kind ≡ k))

-- put back as it was, a forest stands as it did
abbrev pub PutBackStands : Type 0
PutBackStands =
    (sources : Sources) (kept : Kept) (t : ForestView) → Stands sources kept
    → ((c : ℕ) → node_at t c ≡ node_at kept.forest c) → t.marking ≡ false → t.mode ≡ kept.forest.mode
    → StandAsBefore sources kept (record kept { forest = t })
