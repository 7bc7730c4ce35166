-- Boxes, and what a box is to others.
use Rattle.std.specs.Prelude.{List, Bool, true, false, ◌&&◌}
use Rattle.std.specs.List.{list_any}
use Rattle.cga_frame.specs.Box.{Box, meets, holds}
use Rattle.cga_word.specs.declared.answer.Answer.{Answer}
use Rattle.cga_word.specs.declared.answer.Answer.TheVariants.{Nothing, Part, Full}

abbrev pub graded : Bool → Bool → Answer
graded true part = Full
graded false true = Part
graded false false = Nothing

-- full when some member meets and holds the box, otherwise part when some member meets it, otherwise nothing
unfoldable pub answer_of : Box → List Box → Answer
answer_of box others = graded (list_any (λ m. meets m box && holds m box) others) (list_any (λ m. meets m box) others)

abbrev pub join : Answer → Answer → Answer
join Full other = Full
join Part Full = Full
join Part Part = Part
join Part Nothing = Part
join Nothing other = other
