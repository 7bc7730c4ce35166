-- When a session can go on, and what an edit of it comes to.
use Rattle.std.specs.Prelude.{◌≡◌, ◌≢◌, ◌≤◌, ℕ, List, All, Option, Some, None, Result, Ok, Err, IsTrue}
use Rattle.cga_bill.specs.Bill.{bill_of}
use Rattle.cga_city.specs.City.{CityState, IsDone, IsRefused}
use Rattle.cga_city.specs.Derived.{derived, members}
use Rattle.cga_city.specs.Inside.{AreSound}
use Rattle.cga_city.specs.Lots.{names_of}
use Rattle.cga_city.specs.Reports.{drawn_in}
use Rattle.cga_city.specs.declared.limits.TheConstants.{BUDGET_TWO}
use Rattle.cga_form.specs.Lines.{Line}
use Rattle.cga_shape.specs.declared.drawn.Drawn.{Drawn}
use Rattle.cga_shape.specs.declared.edit.Edit.{Edit}
use Rattle.cga_shape.specs.declared.edit_refused.EditRefused.{EditRefused}
use Rattle.cga_shape.specs.declared.edit_refused.EditRefused.TheVariants.{NoMemory}
use Rattle.cga_shape.specs.declared.sources.Sources.{Sources}
use Rattle.cga_syntax.specs.GrammarText.{ArePrintable}
use Rattle.cga_top.specs.Blocks.{AssetRead, RulesRead, SourcesRead, TraceRead}
use Rattle.cga_top.specs.Written.{AreWritten}
use Rattle.cga_top.specs.declared.open_block.OpenBlock.{OpenBlock}
use Rattle.cga_top.specs.declared.open_block.OpenBlock.TheVariants.{Rules, City, Asset, Judge}
use Rattle.cga_top.specs.declared.session.Session.{Session}

-- an open block has read some lines
abbrev pub HasRead : OpenBlock → Type 0
HasRead (Rules reader) = (lines : List Line) × RulesRead reader lines
HasRead (City reader) = (lines : List Line) × SourcesRead reader lines
HasRead (Asset name reader) = (lines : List Line) × AssetRead reader lines
HasRead (Judge reader) = (lines : List Line) × TraceRead reader lines

abbrev pub MayHaveRead : Option OpenBlock → Type 0
MayHaveRead None = Unit {0}
MayHaveRead (Some block) = HasRead block

-- what a city draws, of all its lots
abbrev pub drawn_by : CityState → List Drawn
drawn_by city = drawn_in (names_of city.sources.lots) (members city.budget city.sources)

-- reports may be asked for, the bill is that of what is drawn, and all sources, also the former ones, are such as lines write
pub record IsReady (session : Session) : Type 0 where
  pub warm : IsTrue session.city.warm
  pub bill : session.bill ≡ bill_of (drawn_by session.city)
  pub few : session.city.budget ≤ BUDGET_TWO
  pub rules : ArePrintable session.city.sources.grammar.rules
  pub past : All AreWritten session.history.past
  pub future : All AreWritten session.history.future
  pub block : MayHaveRead session.block

-- an edit was done, and the bill went with it
pub record Accepts (old : Session) (e : Edit) (before : Sources) (new : Session) (spent spent' : ℕ) : Type 0 where
  pub before_is : before ≡ old.city.sources
  pub sound : AreSound old.city.sources
  pub fits : derived old.city.budget old.city.sources ≡ Some (members old.city.budget old.city.sources)
  pub done : IsDone old.city e new.city spent spent'
  pub bill : new.bill ≡ bill_of (drawn_by new.city)
  pub others : new ≡ record old { city = new.city; bill = new.bill }

-- it was refused
pub record Refuses (old : Session) (e : Edit) (refused : EditRefused) (new : Session) (spent spent' : ℕ) : Type 0 where
  pub why : IsRefused old.city e refused new.city spent spent'
  pub known : refused ≢ NoMemory
  pub same : new ≡ old

-- by what an edit answers, or its refusal
abbrev pub Works : Session → Edit → Result (Unit {0}) EditRefused → Session → ℕ → ℕ → Type 0
Works old e (Ok u) new spent spent' = Accepts old e old.city.sources new spent spent'
Works old e (Err refused) new spent spent' = Refuses old e refused new spent spent'

-- by what an edit answers that returns the sources before it
abbrev pub Tells : Session → Edit → Result Sources EditRefused → Session → ℕ → ℕ → Type 0
Tells old e (Ok before) new spent spent' = Accepts old e before new spent spent'
Tells old e (Err refused) new spent spent' = Refuses old e refused new spent spent'
