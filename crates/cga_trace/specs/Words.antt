-- What the parts of a step are written as, and the words that are read.
use Rattle.std.specs.Prelude.{ℕ, Bool, List, [], ◌∷◌, Option, Some, None, codes, decimal, nat_eq, false, if◌then◌else◌}
use Rattle.std.specs.Char.{is_ascii_digit}
use lib.Pointwise.{pointwise}
use Rattle.cga_word.specs.declared.answer.Answer.{Answer}
use Rattle.cga_word.specs.declared.answer.Answer.TheVariants.{Nothing, Part, Full}
use Rattle.cga_shape.specs.declared.shape_fault.ShapeFault.{ShapeFault}
use Rattle.cga_shape.specs.declared.shape_fault.ShapeFault.TheVariants as fault
use Rattle.cga_shape.specs.declared.trace_step.Outcome.{Outcome}
use Rattle.cga_shape.specs.declared.trace_step.Outcome.TheVariants.{Grew, Faulted}
use Rattle.cga_obj.specs.Faults.{fault_code}

abbrev pub is : List ℕ → List ℕ → Bool
is = pointwise nat_eq

-- what was asked is answered by a word
unfoldable pub answer_word : Option Answer → List ℕ
answer_word None = codes "-"
answer_word (Some Nothing) = codes "none"
answer_word (Some Part) = codes "part"
answer_word (Some Full) = codes "full"

unfoldable pub read_answer : List ℕ → Option (Option Answer)
read_answer word =
    if is word (codes "-") then Some None
    else if is word (codes "none") then Some (Some Nothing)
    else if is word (codes "part") then Some (Some Part)
    else if is word (codes "full") then Some (Some Full)
    else None

unfoldable pub read_fault : List ℕ → Option ShapeFault
read_fault word =
    if is word (codes "TooDeep") then Some fault.TooDeep
    else if is word (codes "Unmatched") then Some fault.Unmatched
    else if is word (codes "Overflow") then Some fault.Overflow
    else if is word (codes "ZeroDivide") then Some fault.ZeroDivide
    else if is word (codes "NegativeSize") then Some fault.NegativeSize
    else if is word (codes "FlatScope") then Some fault.FlatScope
    else if is word (codes "PartNotPositive") then Some fault.PartNotPositive
    else if is word (codes "SubdivSum") then Some fault.SubdivSum
    else if is word (codes "RepeatCount") then Some fault.RepeatCount
    else if is word (codes "TooManyParts") then Some fault.TooManyParts
    else if is word (codes "TooManyChildren") then Some fault.TooManyChildren
    else None

abbrev pub begins_digit : List ℕ → Bool
begins_digit [] = false
begins_digit (first ∷ rest) = is_ascii_digit first

-- the number of children, or the code of the fault
unfoldable pub outcome_word : Outcome → List ℕ
outcome_word (Grew n) = decimal n
outcome_word (Faulted f) = fault_code f
