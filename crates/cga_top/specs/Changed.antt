-- Which instances a line changed.
use Rattle.std.specs.Prelude.{◌≡◌, ◌≤◌, ℕ, List, [], ◌∷◌, Bool, count_by, Result, Ok, Err}
use Rattle.cga_bill.specs.Bill.{Balances}
use Rattle.cga_city.specs.Derived.{members}
use Rattle.cga_city.specs.Lots.{names_of}
use Rattle.cga_city.specs.Reports.{drawn_in}
use Rattle.cga_shape.specs.declared.changes.Changes.{Changes}
use Rattle.cga_shape.specs.declared.drawn.Drawn.{Drawn}
use Rattle.cga_shape.specs.declared.edit_refused.EditRefused.{EditRefused}
use Rattle.cga_shape.specs.declared.sources.Sources.{Sources}
use Rattle.cga_update.specs.Updates.{IsChange}
use Rattle.cga_top.specs.Effect.{Tried, Work, editing, judging}

abbrev pub no_changes : Changes
no_changes = record { gone = []; come = [] }

-- what is drawn of all lots of the derivation of sources from nothing
abbrev pub drawn_from : ℕ → Sources → List Drawn
drawn_from budget sources = drawn_in (names_of sources.lots) (members budget sources)

-- what went and what came from these sources to those: what came are children of touched shapes, what went was drawn
-- before, and what is drawn before together with what came is what is drawn after together with what went, each
-- instance as often
pub record AreChanges (budget : ℕ) (old new : Sources) (changes : Changes) : Type 0 where
  pub by : IsChange old new (members budget old) (members budget new) changes
  pub there : (test : Drawn → Bool) → count_by test changes.gone ≤ count_by test (drawn_from budget old)
  pub balance : Balances (drawn_from budget old) (drawn_from budget new) changes

-- by what an edit gave: a refused one changes nothing
abbrev pub GaveChanges : Tried → Result Sources EditRefused → Changes → Type 0
GaveChanges t (Ok new) changes = AreChanges t.budget t.from new changes
GaveChanges t (Err refused) changes = changes ≡ no_changes

abbrev pub WorkChanged : Work → Changes → Type 0
WorkChanged (editing t) changes = GaveChanges t t.gave changes
WorkChanged (judging j) changes = changes ≡ no_changes

-- what the works of one line changed: a line asks for no more than one
abbrev pub HasChanged : List Work → Changes → Type 0
HasChanged [] changes = changes ≡ no_changes
HasChanged (w ∷ []) changes = WorkChanged w changes
HasChanged (w ∷ v ∷ ws) changes = ⊥
