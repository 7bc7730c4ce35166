-- The run of a city's sources, and what is said of lines beside it.
use Rattle.std.proofs.Common.{◌≡◌, ℕ, ◌+◌, ◌≤◌, List, [], ◌∷◌, length, map, false, cond, refl, sym, ap, ◌∙◌, subst, Option, Some, None, arith}
use Rattle.std.specs.Prelude.{IsSome}
use Rattle.cga_form.specs.Lines.{Line}
use Rattle.cga_shape.specs.declared.sources.Sources.{Sources}
use Rattle.cga_shape.specs.declared.trace_step.TraceStep.{TraceStep}
use Rattle.cga_expand.specs.Derivation.{NamesDiffer}
use Rattle.cga_expand.specs.Run.{run_to, IsRun}
use Rattle.cga_city.proofs.Door.{sound_valid}
use Rattle.cga_fraction.proofs.Door.{IsSome_from_Some as is_some_by}
use Rattle.cga_judge.proofs.Door.{run_is, run_short, within_more}
use Rattle.cga_trace.specs.Judged.{differs_at, is_headed, judged}
use Rattle.cga_trace.specs.JudgeLines.{AreOf, IsRead}
use Rattle.cga_trace.specs.Text.{step_text}
use Rattle.cga_trace.specs.declared.judge_reader.JudgeReader.{JudgeReader}
use Rattle.cga_city.specs.Derived.{derived, members}
use Rattle.cga_city.specs.Inside.{AreSound}
use Rattle.cga_city.specs.declared.limits.TheConstants.{BUDGET_TWO}
use Rattle.cga_top.specs.State.{State}
use Rattle.cga_top.specs.Effect.{SpentJudging}
use Rattle.cga_top.specs.Replies.{budget_of, run_of}
use Rattle.cga_top.specs.Session.{IsAt}
use Rattle.cga_top.specs.declared.session.Session.{Session}

names : (s : Sources) → AreSound s → NamesDiffer s.lots
names s sound = (sound_valid s sound).names

-- a run is what there is after as many steps as the budget
pub whole_run : (s : Sources) (budget : ℕ) → AreSound s → derived budget s ≡ Some (members budget s)
    → (steps : List TraceStep) → IsRun s steps → steps ≡ run_to s budget
unfolding derived
whole_run s budget sound fits steps run = run_is s (names s sound) budget (is_some_by _ (members budget s) fits) steps run

-- so that it may be judged
pub most_fit : (s : Sources) (budget most : ℕ) → AreSound s → derived budget s ≡ Some (members budget s) → budget ≤ most
    → IsSome (derived most s)
unfolding derived
most_fit s budget most sound fits less = within_more s (names s sound) budget most (is_some_by _ (members budget s) fits) less

pub run_few : (s : Sources) (budget most : ℕ) → budget ≤ most → length (run_to s budget) ≤ most
run_few s budget most less = let short = run_short s budget in omega (arith, short, less)

-- no more steps than lines were read
are_few : (steps : List TraceStep) (lines others : List Line) → AreOf steps lines others → length steps ≤ length lines
are_few [] lines others of = omega arith
are_few (s ∷ steps) [] others of = absurd of
are_few (s ∷ steps) (line ∷ lines) others of = let few = are_few steps lines others of.1 in omega (arith, few)

pub read_few : (reader : JudgeReader) (lines : List Line) → IsRead reader lines → length reader.steps ≤ length lines
read_few reader [] read = let none : length reader.steps ≡ 0 = ap length read.1 in omega (arith, none)
read_few reader (line ∷ lines) read = let few = are_few reader.steps lines read.1.others read.1.are in omega (arith, few)

-- another first line
pub other_head : (run : List TraceStep) (lines : List Line) → is_headed (length run) lines ≡ false
    → judged run lines ≡ Some 1
other_head run [] head = refl
other_head run (line ∷ lines) head = ap (λ b. cond b (differs_at 2 (map step_text run) lines) (Some 1)) head

-- ---- at a state

module _ (s : State) (session : Session) (at : IsAt s session) (x : Sources) (same : x ≡ session.city.sources)
    (sound : AreSound x) (fits : derived session.city.budget x ≡ Some (members session.city.budget x)) where
  state_sources : x ≡ s.sources
  state_sources = same ∙ at.sources

  state_sound : AreSound s.sources
  state_sound = subst AreSound state_sources sound

  state_fits : derived (budget_of s.version) s.sources ≡ Some (members (budget_of s.version) s.sources)
  state_fits = subst (λ (b : ℕ). derived b s.sources ≡ Some (members b s.sources)) at.budget
      (subst (λ (y : Sources). derived session.city.budget y ≡ Some (members session.city.budget y)) state_sources fits)

  pub state_run : (steps : List TraceStep) → IsRun session.city.sources steps → steps ≡ run_of s
  state_run steps run = whole_run s.sources (budget_of s.version) state_sound state_fits steps (subst (λ (y : Sources). IsRun y steps) at.sources run)

  pub state_run_of : (steps : List TraceStep) → IsRun x steps → steps ≡ run_of s
  state_run_of steps run = whole_run s.sources (budget_of s.version) state_sound state_fits steps (subst (λ (y : Sources). IsRun y steps) state_sources run)

  pub state_few : session.city.budget ≤ BUDGET_TWO → length (run_of s) ≤ BUDGET_TWO
  state_few less = run_few s.sources (budget_of s.version) BUDGET_TWO (subst (λ (b : ℕ). b ≤ BUDGET_TWO) at.budget less)

-- what judging came to: a place is told, and so much was expanded
pub spent_there : (place : Option ℕ) (k steps lines before after : ℕ) → place ≡ Some k → before ≤ after
    → after ≤ before + lines → SpentJudging place steps lines before after
spent_there None k steps lines before after is low high = let x : ◌≡◌ {A = Option ℕ} None (Some k) = is in cc
spent_there (Some l) k steps lines before after is low high = (low, high)

pub spent_accepted : (place : Option ℕ) (steps lines before after : ℕ) → after ≡ before + steps → steps ≤ lines
    → SpentJudging place steps lines before after
spent_accepted None steps lines before after is few = is
spent_accepted (Some l) steps lines before after is few = (omega (arith, is), omega (arith, is, few))
