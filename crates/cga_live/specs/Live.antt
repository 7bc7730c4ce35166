-- What is written of a script: the reply to each line, and behind it what the line changed.
use Rattle.std.specs.Prelude.{◌≡◌, ℕ, ◌+◌, ◌-◌, List, [], ◌∷◌, ◌++◌, take, Bool, count_by}
use Rattle.cga_bill.specs.Bill.{Balances}
use Rattle.cga_city.specs.Lots.{names_of}
use Rattle.cga_obj.specs.Delta.{delta_text_of}
use Rattle.cga_shape.specs.declared.drawn.Drawn.{Drawn}
use Rattle.cga_top.specs.Changed.{HasChanged}
use Rattle.cga_top.specs.Output.{output_of}
use Rattle.cga_top.specs.Replies.{drawn_by, effect}
use Rattle.cga_top.specs.State.{State, start}
use Rattle.cga_top.specs.Turns.{LineChanges, after, all_lines, end_of, lines_in, text_by}

-- what a `print` draws, of all lots
abbrev pub drawn_at : State → List Drawn
drawn_at s = drawn_by s (names_of s.sources.lots)

-- what is told is what the line changed: of an accepted edit the instances that went and came, of any other line none. What
-- is drawn before the line together with what came is what is drawn after it together with what went, each as often
pub record IsTold (s : State) (turn : LineChanges) : Type 0 where
  pub changed : HasChanged (effect s turn.line).works turn.changes
  pub balance : Balances (drawn_at s) (drawn_at (effect s turn.line).state) turn.changes

-- each of them
abbrev pub AreTold : State → List LineChanges → Type 0
AreTold s [] = Unit {0}
AreTold s (turn ∷ turns) = IsTold s turn × AreTold (effect s turn.line).state turns

-- ---- texts

-- of each turn the reply to its line, and then the text of what it changed
abbrev pub text_of : State → List LineChanges → List ℕ
text_of = text_by delta_text_of

-- the replies alone
abbrev pub replies_of : State → List LineChanges → List ℕ
replies_of s [] = []
replies_of s (turn ∷ turns) = (effect s turn.line).reply ++ replies_of (effect s turn.line).state turns

-- ---- who applies what is told

-- of each test, how many instances a reader has that meet it
abbrev pub Having : Type 0
Having = (Drawn → Bool) → ℕ

abbrev pub nothing : Having
nothing test = 0

-- a reader takes turns: what came is added, and what went is taken away
abbrev pub applied : Having → List LineChanges → Having
applied mine [] = mine
applied mine (turn ∷ turns) = applied (λ test. (mine test + count_by test turn.changes.come) - count_by test turn.changes.gone) turns

-- who has nothing at first has after each line what a `print` there draws, each as often
abbrev pub Follows : State → List LineChanges → Type 0
Follows s turns = (n : ℕ) (test : Drawn → Bool) → applied nothing (take n turns) test ≡ count_by test (drawn_at (after s (take n turns)))

-- ---- a whole script

-- each line with what it changed, and the end, where coordinates are printed with so many decimals. The replies alone are
-- the output that the script has without what was changed
pub record IsLiveOf (decimals : ℕ) (bytes text : List ℕ) : Type 0 where
  pub turns : List LineChanges
  pub lines : lines_in turns ≡ all_lines bytes
  pub told : AreTold (start decimals) turns
  pub whole : text ≡ text_of (start decimals) turns ++ end_of decimals bytes
  pub output : replies_of (start decimals) turns ++ end_of decimals bytes ≡ output_of decimals bytes
  pub follows : Follows (start decimals) turns
