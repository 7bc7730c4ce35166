-- How the work of an update ended.
use Rattle.std.specs.Prelude.{ℕ}
use Rattle.cga_word.specs.declared.answers.Answers.{Answers}
use Rattle.cga_word.specs.declared.primitive.Primitive.{Primitive}
use Rattle.cga_shape.specs.declared.shape.Shape.{Shape}
use Rattle.cga_shape.specs.declared.shape_fault.ShapeFault.{ShapeFault}
use Rattle.cga_shape.specs.declared.sources.Sources.{Sources}
use Rattle.cga_agenda.specs.declared.ended.Ended.{Ended}
use Rattle.cga_agenda.specs.Loop.{IsEnded, LoopState}
use Rattle.cga_rework.specs.Ranked.{Ranked}
use Rattle.cga_forest.specs.Tree.{ForestView}
use Rattle.cga_update.specs.declared.work.Work.{Work}
use Rattle.cga_update.specs.Edit.{kept_nodes, the_edit}
use Rattle.cga_update.specs.Means.{Means}

-- the work from the nodes of a forest ended so, with so many calls before and after it
abbrev pub HasEnded : Sources → Sources → ForestView → Work → ℕ → ℕ → ℕ → Ended → Type 0
HasEnded old new v w budget calls since ended =
    (s : LoopState (Ranked Shape) Answers ShapeFault Primitive) × Means w (the_edit old new) s
    × IsEnded (the_edit old new) (kept_nodes v) s budget calls since ended
