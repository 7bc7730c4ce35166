-- Former sources, to go back to and to go on to.
use Rattle.std.specs.Prelude.{◌≡◌, ◌+◌, ◌-◌, ◌≤◌, List, [], ◌∷◌, ◌++◌, length, take, drop, Option, Some, None, Result, Ok, Err, nat_lt, slice_get, if◌then◌else◌}
use Rattle.cga_shape.specs.declared.sources.Sources.{Sources}
use Rattle.cga_undo.specs.declared.limits.TheConstants.{MOST_KEPT}

-- the sources that were left by edits, and those that were left by an undo; the latest stand last
pub record Kept : Type 0 where
  pub past : List Sources
  pub future : List Sources

-- at first nothing is kept
abbrev pub nothing : Kept
nothing = record { past = []; future = [] }

-- without the first, where there are too many
abbrev pub latest : List Sources → List Sources
latest list = if nat_lt MOST_KEPT (length list) then drop 1 list else list

-- after an accepted edit of these sources
abbrev pub noted : Kept → Sources → Kept
noted kept before = record { past = latest (kept.past ++ before ∷ []); future = [] }

-- what is taken, and what is kept then
pub record Step : Type 0 where
  pub taken : Sources
  pub left : Kept

-- the sources that were left last are taken, if there are any, and the current ones are left for a redo
abbrev pub back_to : Kept → Sources → Option Sources → Option Step
back_to kept now None = None
back_to kept now (Some last) = Some (record {
  taken = last;
  left = record { past = take (length kept.past - 1) kept.past; future = kept.future ++ now ∷ [] };
})

-- an undo, from the current sources; none where there is no past
unfoldable pub undone : Kept → Sources → Option Step
undone kept now = back_to kept now (slice_get kept.past (length kept.past - 1))

-- past and future exchanged
abbrev pub turned : Kept → Kept
turned kept = record { past = kept.future; future = kept.past }

abbrev pub turned_step : Option Step → Option Step
turned_step None = None
turned_step (Some s) = Some (record { taken = s.taken; left = turned s.left })

-- a redo is an undo with past and future exchanged
abbrev pub redone : Kept → Sources → Option Step
redone kept now = turned_step (undone (turned kept) now)

-- what is answered for a step, and kept then: the sources taken, or the current ones and nothing has changed
abbrev pub StepGives : Option Step → Kept → Sources → Result Sources Sources → Kept → Type 0
StepGives (Some s) old now result new = (result ≡ Ok s.taken) × (new ≡ s.left)
StepGives None old now result new = (result ≡ Err now) × (new ≡ old)

-- past and future together
abbrev pub IsFew : Kept → Type 0
IsFew kept = length kept.past + length kept.future ≤ MOST_KEPT
