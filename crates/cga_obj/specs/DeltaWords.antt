-- The words of an instance.
use Rattle.std.specs.Prelude.{ℕ, List, codes}
use Rattle.cga_frame.specs.declared.direction.Direction.{Direction}
use Rattle.cga_frame.specs.declared.direction.Direction.TheVariants.{PlusX, MinusX, PlusY, MinusY, PlusZ, MinusZ}
use Rattle.cga_word.specs.declared.primitive.Primitive.{Primitive}
use Rattle.cga_word.specs.declared.primitive.Primitive.TheVariants.{Cube, Quad, Shed, Gable, Hip}

unfoldable pub primitive_word : Primitive → List ℕ
primitive_word Cube = codes "cube"
primitive_word Quad = codes "quad"
primitive_word Shed = codes "shed"
primitive_word Gable = codes "gable"
primitive_word Hip = codes "hip"

-- a signed axis of the world
unfoldable pub direction_word : Direction → List ℕ
direction_word PlusX = codes "+X"
direction_word MinusX = codes "-X"
direction_word PlusY = codes "+Y"
direction_word MinusY = codes "-Y"
direction_word PlusZ = codes "+Z"
direction_word MinusZ = codes "-Z"
