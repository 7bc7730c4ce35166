-- What lines do.
use Rattle.std.specs.Prelude.{ℕ, ◌+◌, ◌-◌, ◌≡◌, ◌≤◌, List, [], ◌∷◌, ◌++◌, Option, Some, None, Result, Ok, Err}
use Rattle.cga_shape.specs.declared.edit_refused.EditRefused.{EditRefused}
use Rattle.cga_shape.specs.declared.edit_refused.EditRefused.TheVariants as cause
use Rattle.cga_shape.specs.declared.sources.Sources.{Sources}
use Rattle.cga_update.specs.Updates.{CountsTouched}
use Rattle.cga_city.specs.Derived.{members}
use Rattle.cga_top.specs.State.{State}

-- an edit that was asked for: of which sources, within which budget, and what it gave
pub record Tried : Type 0 where
  pub from : Sources
  pub budget : ℕ
  pub gave : Result Sources EditRefused

-- lines that were judged: where they differ from the run's, how many steps it has, and how many lines there are
pub record Judging : Type 0 where
  pub differs : Option ℕ
  pub steps : ℕ
  pub lines : ℕ

-- what expands shapes
pub data Work : Type 0 where
  editing : Tried → Work
  judging : Judging → Work

-- the state after them, the replies, and the works that they asked for
pub record Effect : Type 0 where
  pub state : State
  pub reply : List ℕ
  pub works : List Work

-- a reply, and no work
abbrev pub says : State → List ℕ → Effect
says s text = record { state = s; reply = text; works = [] }

-- no reply, and no work
abbrev pub silent : State → Effect
silent s = says s []

-- one thing, and then another
abbrev pub followed_by : Effect → Effect → Effect
followed_by e f = record { state = f.state; reply = e.reply ++ f.reply; works = e.works ++ f.works }

-- ---- expansions

-- the most expansions of a refused edit
abbrev pub most_of : EditRefused → ℕ → ℕ
most_of cause.OverBudget budget = budget + 1
most_of _ budget = 0

-- an edit that goes through expands each shape that it touches once, and no other
abbrev pub SpentBy : Sources → ℕ → Result Sources EditRefused → ℕ → ℕ → Type 0
SpentBy old budget (Ok new) before after = (before ≤ after) × CountsTouched old new (members budget old) (members budget new) (after - before)
SpentBy old budget (Err e) before after = (before ≤ after) × (after ≤ before + most_of e budget)

-- an accepted trace expands each shape of the run once, and a rejected one no more than it has lines
abbrev pub SpentJudging : Option ℕ → ℕ → ℕ → ℕ → ℕ → Type 0
SpentJudging None steps lines before after = after ≡ before + steps
SpentJudging (Some line) steps lines before after = (before ≤ after) × (after ≤ before + lines)

abbrev pub SpentOn : Work → ℕ → ℕ → Type 0
SpentOn (editing t) before after = SpentBy t.from t.budget t.gave before after
SpentOn (judging j) before after = SpentJudging j.differs j.steps j.lines before after

-- the works were done one after the other, and nothing else was expanded
abbrev pub HasSpent : List Work → ℕ → ℕ → Type 0
HasSpent [] before after = after ≡ before
HasSpent (w ∷ []) before after = SpentOn w before after
HasSpent (w ∷ v ∷ ws) before after = (mid : ℕ) × SpentOn w before mid × HasSpent (v ∷ ws) mid after
