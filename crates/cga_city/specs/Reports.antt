-- What is reported of the members of a derivation.
use Rattle.std.specs.Prelude.{ℕ, List, [], ◌∷◌, flat_map, Bool, true, false, not, Option, Some, None, Result, Ok, Err, is_some, count_by, if◌then◌else◌}
use Rattle.cga_order.specs.World.{is_instance}
use Rattle.cga_word.specs.declared.primitive.Primitive.{Primitive}
use Rattle.cga_order.specs.declared.placed.Kind.{Kind}
use Rattle.cga_order.specs.declared.placed.Kind.TheVariants.{Waiting, Done, Faulted, Instance}
use Rattle.cga_shape.specs.declared.drawn.Drawn.{Drawn}
use Rattle.cga_shape.specs.declared.fault_line.FaultLine.{FaultLine}
use Rattle.cga_shape.specs.declared.lot.Lot.{Lot}
use Rattle.cga_shape.specs.declared.shape.Shape.{Shape}
use Rattle.cga_shape.specs.declared.shape_fault.ShapeFault.{ShapeFault}
use Rattle.cga_expand.specs.Children.{Member}
pub use Rattle.cga_forest.specs.Count.{is_faulted}
use Rattle.cga_city.specs.declared.no_lot.NoLot.{NoLot}
use Rattle.cga_city.specs.Lots.{lot_place, names_of}
use Rattle.cga_city.specs.Order.{members_of}

-- what is drawn for a member: an instance's solid
abbrev pub drawn_as : Shape → Kind ShapeFault Primitive → List Drawn
drawn_as shape Waiting = []
drawn_as shape Done = []
drawn_as shape (Faulted fault) = []
drawn_as shape (Instance p) = record { lot = shape.lot; symbol = shape.symbol; primitive = p; scope = shape.scope } ∷ []

abbrev pub drawn_of : Member → List Drawn
drawn_of m = drawn_as m.shape m.kind

abbrev pub faulted_as : Shape → Kind ShapeFault Primitive → List FaultLine
faulted_as shape Waiting = []
faulted_as shape Done = []
faulted_as shape (Faulted fault) = record { lot = shape.lot; path = shape.path; symbol = shape.symbol; fault = fault } ∷ []
faulted_as shape (Instance p) = []

-- the fault of a member that has one
abbrev pub fault_of : Member → List FaultLine
fault_of m = faulted_as m.shape m.kind

-- the instances of these lots in their order, and in a lot by their paths
unfoldable pub drawn_in : List (List ℕ) → List Member → List Drawn
drawn_in lots list = flat_map (λ lot. flat_map drawn_of (members_of lot list)) lots

-- the faults of these lots in their order, and in a lot by their paths
unfoldable pub faults_in : List (List ℕ) → List Member → List FaultLine
faults_in lots list = flat_map (λ lot. flat_map fault_of (members_of lot list)) lots

-- those of all lots, or of one that is named and is there
abbrev pub chosen : List Lot → Option (List ℕ) → Result (List (List ℕ)) NoLot
chosen lots None = Ok (names_of lots)
chosen lots (Some name) = if is_some (lot_place name lots) then Ok (name ∷ []) else Err (record {})

abbrev pub drawn_by : Result (List (List ℕ)) NoLot → List Member → Result (List Drawn) NoLot
drawn_by (Ok names) list = Ok (drawn_in names list)
drawn_by (Err none) list = Err none

-- what is printed: all instances, or those of one lot
abbrev pub instances_of : List Lot → Option (List ℕ) → List Member → Result (List Drawn) NoLot
instances_of lots name list = drawn_by (chosen lots name) list

abbrev pub faults_of : List Lot → List Member → List FaultLine
faults_of lots list = faults_in (names_of lots) list

-- how many members are instances
abbrev pub instance_count : List Member → ℕ
instance_count list = count_by (λ m. is_instance m.kind) list

-- how many aren't, each of which is expanded once
abbrev pub expanded_count : List Member → ℕ
expanded_count list = count_by (λ m. not (is_instance m.kind)) list

abbrev pub fault_count : List Member → ℕ
fault_count list = count_by (λ m. is_faulted m.kind) list
