-- What an item makes of the current scope: another scope, or its parts.
use Rattle.std.specs.Prelude.{List, Result, Ok}
use Rattle.cga_fraction.specs.Rat.{Rat}
use Rattle.cga_fraction.specs.Arithmetic.{times}
use Rattle.cga_fraction.specs.Results.{and_then}
use Rattle.cga_fraction.specs.Refusals.{checked}
use Rattle.cga_word.specs.declared.axis.Axis.{Axis}
use Rattle.cga_word.specs.declared.axis.Axis.TheVariants.{X, Y, Z}
use Rattle.cga_word.specs.declared.turn.Turn.{Turn}
use Rattle.cga_word.specs.declared.selector.Selector.{Selector}
use Rattle.cga_frame.specs.Points.{coordinate}
use Rattle.cga_frame.specs.Scope.{Scope, existing, scope_of, translated, turned_scope}
use Rattle.cga_rule.specs.declared.expr.Expr.{Expr}
use Rattle.cga_rule.specs.declared.item.Size.{Size}
use Rattle.cga_rule.specs.declared.item.Size.TheVariants.{Relative, Absolute}
use Rattle.cga_expr.specs.Names.{Known}
use Rattle.cga_expr.specs.Value.{expr_value}
use Rattle.cga_split.specs.declared.part_size.PartSize.{PartSize}
use Rattle.cga_split.specs.declared.part_size.PartSize.TheVariants as part
use Rattle.cga_split.specs.Split.{subdiv_of, repeat_of}
use Rattle.cga_comp.specs.Components.{components_of}
use Rattle.cga_shape.specs.declared.shape_fault.ShapeFault.{ShapeFault}
use Rattle.cga_expand.specs.Collect.{collected}
use Rattle.cga_expand.specs.Faults.{faulted, of_overflow, of_expr, of_scope, of_split, of_flat}

-- what is known, with the sizes of the current scope
abbrev pub sized : Known → Scope → Known
sized k s = record k { size = s.size }

abbrev pub value_in : Known → Scope → Expr → Result Rat ShapeFault
value_in k s e = faulted of_expr (expr_value e (sized k s))

-- T: the three values, then the translation
abbrev pub moved_by : Expr → Expr → Expr → Known → Scope → Result Scope ShapeFault
moved_by x y z k s =
    and_then (value_in k s x) (λ a. and_then (value_in k s y) (λ b. and_then (value_in k s z) (λ c.
    faulted of_overflow (existing (translated s (record { x = a; y = b; z = c }))))))

-- a size of S: a value, or a factor times the current size along the axis
abbrev pub size_in : Known → Scope → Axis → Size → Result Rat ShapeFault
size_in k s axis (Relative factor) = faulted of_overflow (checked (times factor (coordinate s.size axis)))
size_in k s axis (Absolute e) = value_in k s e

-- S: the three sizes, then the resize
abbrev pub resized_by : Size → Size → Size → Known → Scope → Result Scope ShapeFault
resized_by x y z k s =
    and_then (size_in k s X x) (λ a. and_then (size_in k s Y y) (λ b. and_then (size_in k s Z z) (λ c.
    faulted of_scope (scope_of s.at s.frame (record { x = a; y = b; z = c })))))

-- Rx, Ry, Rz
abbrev pub turned_by : Axis → Turn → Scope → Result Scope ShapeFault
turned_by axis by s = faulted of_overflow (existing (turned_scope s axis by))

-- a size of Subdiv
abbrev pub part_in : Known → Scope → Size → Result PartSize ShapeFault
part_in k s (Relative factor) = Ok (part.Relative factor)
part_in k s (Absolute e) = and_then (value_in k s e) (λ x. Ok (part.Absolute x))

-- Subdiv: the absolute sizes in order, then the split
abbrev pub subdivided : Axis → List Size → Known → Scope → Result (List Scope) ShapeFault
subdivided axis sizes k s = and_then (collected (part_in k s) sizes) (λ ps. faulted of_split (subdiv_of s axis ps))

-- Repeat: the length, then the split
abbrev pub repeated : Axis → Expr → Known → Scope → Result (List Scope) ShapeFault
repeated axis length k s = and_then (value_in k s length) (λ x. faulted of_split (repeat_of s axis x))

-- Comp
abbrev pub taken_apart : Selector → Scope → Result (List Scope) ShapeFault
taken_apart selector s = faulted of_flat (components_of s selector)
