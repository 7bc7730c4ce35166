-- The derivation of sources: what their lots, shapes, answers and expansions are to it.
use Rattle.std.specs.Prelude.{◌≡◌, ℕ, List, [], ◌∷◌, Result, Ok, Err, Some, flat_map, slice_get, unwrap_or}
use Rattle.cga_word.specs.declared.answers.Answers.{Answers}
use Rattle.cga_word.specs.declared.primitive.Primitive.{Primitive}
use Rattle.cga_rule.specs.declared.grammar.Grammar.{Grammar}
use Rattle.cga_check.specs.Groups as groups
use Rattle.cga_shape.specs.declared.lot.Lot.{Lot}
use Rattle.cga_shape.specs.declared.shape.Shape.{Shape}
use Rattle.cga_shape.specs.declared.shape_fault.ShapeFault.{ShapeFault}
use Rattle.cga_shape.specs.declared.sources.Sources.{Sources}
use Rattle.cga_shape.specs.Root.{root_of}
use Rattle.cga_derivation.specs.Derivation.{Derivation, IsDerivation}
use Rattle.cga_expand.specs.Asked.{answers_of, sees}
use Rattle.cga_expand.specs.Children.{Member, placed_by}
use Rattle.cga_expand.specs.Expand.{expand_of}

-- a symbol's priority; 0 where it has no rule
unfoldable pub priority_of : Grammar → List ℕ → ℕ
priority_of grammar symbol = unwrap_or (groups.priority_of grammar symbol) 0

abbrev pub made : {A F : Type 0} → Result A F → List A
made (Ok x) = x ∷ []
made (Err fault) = []

-- the root shapes of lots, in their order: of each whose root's scope exists
abbrev pub roots_of : List Lot → List Shape
roots_of lots = flat_map (λ lot. made (root_of lot)) lots

-- the children of a shape with these answers
unfoldable pub children_of : Grammar → Shape → Answers → Result (List Member) ShapeFault
children_of grammar s answers = placed_by s (expand_of grammar s answers)

abbrev pub derivation_of : Sources → Derivation Shape Answers ShapeFault Primitive
derivation_of sources = record {
  mode = sources.mode;
  lot = λ s. s.lot;
  path = λ s. s.path;
  priority = λ s. priority_of sources.grammar s.symbol;
  roots = roots_of sources.lots;
  sees = sees sources.grammar;
  answers = answers_of sources.grammar;
  expand = children_of sources.grammar;
}

-- lots at two indices have two names
abbrev pub NamesDiffer : List Lot → Type 0
NamesDiffer lots =
    (i j : ℕ) (a b : Lot) → slice_get lots i ≡ Some a → slice_get lots j ≡ Some b
    → a.name ≡ b.name → i ≡ j

-- where lot names differ, the laws of derivations hold of sources
abbrev pub SourcesAreDerivations : Type 0
SourcesAreDerivations = (sources : Sources) → NamesDiffer sources.lots → IsDerivation (derivation_of sources)
