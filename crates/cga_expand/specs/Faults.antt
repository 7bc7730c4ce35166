-- The fault of a shape, of what refuses a step of its expansion.
use Rattle.std.specs.Prelude.{Result, Ok, Err}
use Rattle.cga_fraction.specs.declared.overflow.Overflow as Unit
use Rattle.cga_frame.specs.declared.scope_fault.ScopeFault.{ScopeFault}
use Rattle.cga_frame.specs.declared.scope_fault.ScopeFault.TheVariants as scope
use Rattle.cga_expr.specs.declared.expr_fault.ExprFault.{ExprFault}
use Rattle.cga_expr.specs.declared.expr_fault.ExprFault.TheVariants as expr
use Rattle.cga_split.specs.declared.split_fault.SplitFault.{SplitFault}
use Rattle.cga_split.specs.declared.split_fault.SplitFault.TheVariants as split
use Rattle.cga_comp.specs.declared.flat_scope.FlatScope as Flat
use Rattle.cga_solid.specs.declared.solid_fault.SolidFault.{SolidFault}
use Rattle.cga_solid.specs.declared.solid_fault.SolidFault.TheVariants as solid
use Rattle.cga_shape.specs.declared.shape_fault.ShapeFault.{ShapeFault}
use Rattle.cga_shape.specs.declared.shape_fault.ShapeFault.TheVariants.{Overflow, ZeroDivide, NegativeSize, FlatScope, PartNotPositive, SubdivSum, RepeatCount}

-- a result whose fault is that of the shape
abbrev pub faulted : {A F : Type 0} → (F → ShapeFault) → Result A F → Result A ShapeFault
faulted of_fault (Ok x) = Ok x
faulted of_fault (Err fault) = Err (of_fault fault)

abbrev pub of_overflow : Unit.Overflow → ShapeFault
of_overflow overflow = Overflow

abbrev pub of_expr : ExprFault → ShapeFault
of_expr expr.Overflow = Overflow
of_expr expr.ZeroDivide = ZeroDivide

abbrev pub of_scope : ScopeFault → ShapeFault
of_scope scope.NegativeSize = NegativeSize
of_scope scope.Overflow = Overflow

abbrev pub of_split : SplitFault → ShapeFault
of_split split.FlatScope = FlatScope
of_split split.PartNotPositive = PartNotPositive
of_split split.SubdivSum = SubdivSum
of_split split.RepeatCount = RepeatCount
of_split split.Overflow = Overflow

abbrev pub of_flat : Flat.FlatScope → ShapeFault
of_flat flat = FlatScope

abbrev pub of_solid : SolidFault → ShapeFault
of_solid solid.FlatScope = FlatScope
of_solid solid.Overflow = Overflow
