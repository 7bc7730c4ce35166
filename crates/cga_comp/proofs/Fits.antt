-- Each row of the table fits.
use Rattle.std.proofs.Common.{Bool, inl, inr, refl}
use Rattle.cga_word.specs.declared.axis.Axis.{Axis}
use Rattle.cga_word.specs.declared.axis.Axis.TheVariants.{X, Y, Z}
use Rattle.cga_word.specs.declared.side.Side.{Side}
use Rattle.cga_word.specs.declared.side.Side.TheVariants.{Front, Right, Back, Left, Top, Bottom}
use Rattle.cga_frame.specs.Component.{IsFitting}
use Rattle.cga_comp.specs.Table.{face_of, edge_of, vertex_of}

pub vertex_fits : (x y z : Bool) → IsFitting (vertex_of x y z)
vertex_fits x y z = record { x = inl refl; y = inl refl; z = inl refl }

pub face_fits : (side : Side) → IsFitting (face_of side)
face_fits Front = record { x = inr (refl, refl); y = inr (refl, refl); z = inl refl }
face_fits Right = record { x = inl refl; y = inr (refl, refl); z = inr (refl, refl) }
face_fits Back = record { x = inr (refl, refl); y = inr (refl, refl); z = inl refl }
face_fits Left = record { x = inl refl; y = inr (refl, refl); z = inr (refl, refl) }
face_fits Top = record { x = inr (refl, refl); y = inl refl; z = inr (refl, refl) }
face_fits Bottom = record { x = inr (refl, refl); y = inl refl; z = inr (refl, refl) }

pub edge_fits : (a : Axis) (p q : Bool) → IsFitting (edge_of a p q)
edge_fits X p q = record { x = inr (refl, refl); y = inl refl; z = inl refl }
edge_fits Y p q = record { x = inl refl; y = inr (refl, refl); z = inl refl }
edge_fits Z p q = record { x = inl refl; y = inl refl; z = inr (refl, refl) }
