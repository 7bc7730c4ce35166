-- The hulls of a node: of all at and below it, and of those that ask.
use Rattle.cga_forest.specs.declared.node.Node.{Node}
use Rattle.cga_forest.specs.Node.{bounds}
use Rattle.cga_frame.specs.Box.{box_of}
use Rattle.cga_kept_hulls.specs.declared.hulls.Hulls.{Hulls}
use Rattle.cga_kept_hulls.specs.declared.kept_hulls.KeptHulls.{KeptHulls}
use Rattle.cga_kept_hulls.specs.Hull.{hulls_alone, hulls_from}

abbrev pub own_hulls : Node → Hulls
own_hulls n = hulls_alone (bounds n) n.asks

-- the hulls of a node, by what is kept of them
abbrev pub hulls_known : Node → KeptHulls → Hulls
hulls_known n k = hulls_from (box_of n.shape.scope) k
