-- The list of faults.
use Rattle.std.specs.Prelude.{ℕ, List, [], ◌∷◌, ◌++◌, codes, decimal, flat_map, length}
use Rattle.cga_shape.specs.declared.fault_line.FaultLine.{FaultLine}
use Rattle.cga_shape.specs.declared.shape_fault.ShapeFault.{ShapeFault}
use Rattle.cga_shape.specs.declared.shape_fault.ShapeFault.TheVariants as fault

-- one index of a path
unfoldable pub index_text : ℕ → List ℕ
index_text index = codes "/" ++ decimal index

-- a stroke for a root, and otherwise one before each index
unfoldable pub path_text : List ℕ → List ℕ
path_text [] = codes "/"
path_text (index ∷ path) = flat_map index_text (index ∷ path)

unfoldable pub fault_code : ShapeFault → List ℕ
fault_code fault.TooDeep = codes "TooDeep"
fault_code fault.Unmatched = codes "Unmatched"
fault_code fault.Overflow = codes "Overflow"
fault_code fault.ZeroDivide = codes "ZeroDivide"
fault_code fault.NegativeSize = codes "NegativeSize"
fault_code fault.FlatScope = codes "FlatScope"
fault_code fault.PartNotPositive = codes "PartNotPositive"
fault_code fault.SubdivSum = codes "SubdivSum"
fault_code fault.RepeatCount = codes "RepeatCount"
fault_code fault.TooManyParts = codes "TooManyParts"
fault_code fault.TooManyChildren = codes "TooManyChildren"

unfoldable pub fault_line : FaultLine → List ℕ
fault_line f =
    codes "# fault " ++ f.lot ++ codes " " ++ path_text f.path ++ codes " " ++ f.symbol ++ codes " " ++ fault_code f.fault ++ codes "\n"

-- how many there are, then each
unfoldable pub fault_text_of : List FaultLine → List ℕ
fault_text_of faults = codes "# faults " ++ decimal (length faults) ++ codes "\n" ++ flat_map fault_line faults
