-- The texts of refusals.
use Rattle.std.specs.Prelude.{ℕ, List, [], ◌++◌, Option, Some, None, codes, decimal}
use Rattle.cga_asset.specs.declared.fault.AssetFault.{AssetFault}
use Rattle.cga_asset.specs.declared.fault.AssetFault.TheVariants as asset
use Rattle.cga_asset.specs.declared.wardrobe_fault.WardrobeFault.{WardrobeFault}
use Rattle.cga_asset.specs.declared.wardrobe_fault.WardrobeFault.TheVariants as wardrobe
use Rattle.cga_rule.specs.declared.check_fault.CheckFault.{CheckFault}
use Rattle.cga_rule.specs.declared.check_fault.CheckFault.TheVariants as check
use Rattle.cga_form.specs.declared.line_fault.LineFault.{LineFault}
use Rattle.cga_form.specs.declared.line_fault.LineFault.TheVariants as fault
use Rattle.cga_shape.specs.declared.edit_refused.EditRefused.{EditRefused}
use Rattle.cga_shape.specs.declared.edit_refused.EditRefused.TheVariants as edit
use Rattle.cga_script.specs.declared.refused.Refused.{Refused}
use Rattle.cga_script.specs.declared.refused.Refused.TheVariants as r

-- ---- a code with what it carries

abbrev pub name_text : List ℕ → List ℕ
name_text name = codes " " ++ name

abbrev pub id_text : ℕ → List ℕ
id_text id = codes " " ++ decimal id

abbrev pub both_text : ℕ → List ℕ → List ℕ
both_text id name = id_text id ++ name_text name

abbrev pub with_name : List ℕ → List ℕ → List ℕ
with_name code name = code ++ name_text name

abbrev pub with_id : List ℕ → ℕ → List ℕ
with_id code id = code ++ id_text id

-- ---- faults of lines

unfoldable pub line_code : LineFault → List ℕ
line_code fault.LineTooLong = codes "LineTooLong"
line_code (fault.BadByte p) = codes "BadByte"
line_code (fault.BadNumber p) = codes "BadNumber"
line_code (fault.LongName p) = codes "LongName"
line_code (fault.OpenText p) = codes "OpenText"
line_code (fault.Unexpected p) = codes "Unexpected"
line_code (fault.TooNested p) = codes "TooNested"

-- where it is in the line; a long line as a whole is nowhere
abbrev pub place_in : LineFault → Option ℕ
place_in fault.LineTooLong = None
place_in (fault.BadByte p) = Some p
place_in (fault.BadNumber p) = Some p
place_in (fault.LongName p) = Some p
place_in (fault.OpenText p) = Some p
place_in (fault.Unexpected p) = Some p
place_in (fault.TooNested p) = Some p

-- where it is
abbrev pub at_place : Option ℕ → List ℕ
at_place None = []
at_place (Some p) = codes " at " ++ decimal p

abbrev pub line_text : LineFault → List ℕ
line_text f = line_code f ++ at_place (place_in f)

-- where it is behind the number of its line in a block
abbrev pub behind_line : Option ℕ → List ℕ
behind_line None = []
behind_line (Some p) = codes ":" ++ decimal p

abbrev pub block_text : ℕ → LineFault → List ℕ
block_text line f = line_code f ++ codes " at " ++ decimal line ++ behind_line (place_in f)

-- ---- edits

unfoldable pub check_code : CheckFault → List ℕ
check_code check.TooManyRules = codes "TooManyRules"
check_code check.TooManyAttributes = codes "TooManyAttributes"
check_code (check.DoubleAttribute name) = codes "DoubleAttribute"
check_code (check.DoubleId id) = codes "DoubleId"
check_code (check.SplitPriority id name) = codes "SplitPriority"
check_code (check.WrongArity id name) = codes "WrongArity"
check_code (check.DoubleName id name) = codes "DoubleName"
check_code (check.BadProbability id) = codes "BadProbability"
check_code (check.UnknownSymbol id name) = codes "UnknownSymbol"
check_code (check.PartsDiffer id) = codes "PartsDiffer"
check_code (check.UnknownName id name) = codes "UnknownName"

-- what it carries: the id of a rule, a name, both or neither
unfoldable pub carried_text : CheckFault → List ℕ
carried_text check.TooManyRules = []
carried_text check.TooManyAttributes = []
carried_text (check.DoubleAttribute name) = name_text name
carried_text (check.DoubleId id) = id_text id
carried_text (check.SplitPriority id name) = both_text id name
carried_text (check.WrongArity id name) = both_text id name
carried_text (check.DoubleName id name) = both_text id name
carried_text (check.BadProbability id) = id_text id
carried_text (check.UnknownSymbol id name) = both_text id name
carried_text (check.PartsDiffer id) = id_text id
carried_text (check.UnknownName id name) = both_text id name

abbrev pub check_text : CheckFault → List ℕ
check_text f = check_code f ++ carried_text f

-- want of memory has no text
unfoldable pub edit_text : EditRefused → List ℕ
edit_text (edit.NoRule id) = with_id (codes "NoRule") id
edit_text (edit.NoAttribute name) = with_name (codes "NoAttribute") name
edit_text (edit.NoSymbol name) = with_name (codes "NoSymbol") name
edit_text (edit.NoLot name) = with_name (codes "NoLot") name
edit_text (edit.BadLot name) = with_name (codes "BadLot") name
edit_text edit.TooManyLots = codes "TooManyLots"
edit_text (edit.Check f) = check_text f
edit_text edit.OverBudget = codes "OverBudget"
edit_text edit.NoMemory = []

-- ---- assets

-- in a line of a block
abbrev pub code_at : List ℕ → ℕ → List ℕ
code_at code line = code ++ codes " at " ++ decimal line

unfoldable pub asset_text : AssetFault → List ℕ
asset_text (asset.LineTooLong line) = code_at (codes "LineTooLong") line
asset_text (asset.UnknownLine line) = code_at (codes "UnknownLine") line
asset_text (asset.BadVertex line) = code_at (codes "BadVertex") line
asset_text (asset.BadFace line) = code_at (codes "BadFace") line
asset_text (asset.TooManyVertices line) = code_at (codes "TooManyVertices") line
asset_text (asset.TooManyFaces line) = code_at (codes "TooManyFaces") line
asset_text asset.NoFace = codes "NoFace"

-- want of memory has no text
unfoldable pub wardrobe_text : WardrobeFault → List ℕ
wardrobe_text wardrobe.TooManyAssets = codes "TooManyAssets"
wardrobe_text (wardrobe.NoAsset name) = with_name (codes "NoAsset") name
wardrobe_text wardrobe.TooManyDresses = codes "TooManyDresses"
wardrobe_text wardrobe.NoMemory = []

-- ---- all refusals

unfoldable pub cause_text : Refused → List ℕ
cause_text (r.Line f) = line_text f
cause_text (r.Block f) = block_text f.line f.fault
cause_text r.OpenBlock = codes "OpenBlock"
cause_text (r.Edit e) = edit_text e
cause_text (r.LongDump id) = with_id (codes "LongDump") id
cause_text (r.Asset f) = asset_text f
cause_text (r.Wardrobe f) = wardrobe_text f
cause_text (r.NoDress name) = with_name (codes "NoDress") name
cause_text r.ModelTooLarge = codes "ModelTooLarge"
cause_text r.NoUndo = codes "NoUndo"
cause_text r.NoRedo = codes "NoRedo"

unfoldable pub refusal_text_of : Refused → List ℕ
refusal_text_of x = codes "# refused " ++ cause_text x ++ codes "\n"
