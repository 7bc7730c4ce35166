-- What holds of each node beside its answers and its place.
use Rattle.std.specs.Prelude.{◌≡◌, ◌⊎◌, [], true}
use Rattle.cga_order.specs.World.{is_instance}
use Rattle.cga_order.specs.declared.placed.Kind.TheVariants.{Done}
use Rattle.cga_forest.specs.View.{Seen}

-- an instance has no arguments, and only what is done has children
pub record IsPlain (d : Seen) : Type 0 where
  pub bare : is_instance d.node.kind ≡ true → d.node.shape.args ≡ []
  pub childless : (d.node.kind ≡ Done) ⊎ (d.children ≡ [])
