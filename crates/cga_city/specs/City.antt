-- A city as contracts see it, and what an edit gives.
use Rattle.std.specs.Prelude.{◌≡◌, ◌≢◌, ℕ, ◌+◌, ◌≤◌, [], Bool, true, bytes_eq, Result, Ok, Err}
use Rattle.std.specs.List.{IsDistinct}
use Rattle.cga_word.specs.declared.mode.Mode.{Mode}
use Rattle.cga_word.specs.declared.mode.Mode.TheVariants.{Breadth}
use Rattle.cga_shape.specs.declared.changes.Changes as record_of
use Rattle.cga_shape.specs.declared.edit.Edit.{Edit}
use Rattle.cga_shape.specs.declared.edit.Edit.TheVariants as edit
use Rattle.cga_shape.specs.declared.edit_refused.EditRefused.{EditRefused}
use Rattle.cga_shape.specs.declared.edit_refused.EditRefused.TheVariants.{OverBudget, NoMemory}
use Rattle.cga_shape.specs.declared.sources.Sources.{Sources}
use Rattle.cga_update.specs.Updates.{CountsTouched, IsChange, with_no_lots}
use Rattle.cga_city.specs.Lots.{names_of}
use Rattle.cga_city.specs.Apply.{apply, changed}
use Rattle.cga_city.specs.Derived.{members}
use Rattle.cga_city.specs.Reports.{expanded_count}

-- its sources, the most shapes that they may come to, and whether reports may be asked for; and of the last accepted
-- edit how many shapes it touched, and which instances went and came by it
pub record CityState : Type 0 where
  pub sources : Sources
  pub budget : ℕ
  pub warm : Bool
  pub expanded : ℕ
  pub changes : record_of.Changes

-- no attributes, rules or lots
abbrev pub empty_in : Mode → Sources
empty_in mode = record { grammar = record { attributes = []; rules = [] }; lots = []; mode = mode }

abbrev pub empty_sources : Sources
empty_sources = empty_in Breadth

-- a city without lots
abbrev pub empty_city : ℕ → CityState
empty_city budget = record { sources = empty_sources; budget = budget; warm = true; expanded = 0; changes = record { gone = []; come = [] } }

-- whole sources have lots of different names
abbrev pub HasDistinctLots : Edit → Type 0
HasDistinctLots (edit.Rules grammar) = Unit {0}
HasDistinctLots (edit.Put priority rule) = Unit {0}
HasDistinctLots (edit.Drop id) = Unit {0}
HasDistinctLots (edit.SetAttribute name value) = Unit {0}
HasDistinctLots (edit.SetPriority symbol priority) = Unit {0}
HasDistinctLots (edit.SetLot lot) = Unit {0}
HasDistinctLots (edit.Unlot name) = Unit {0}
HasDistinctLots (edit.SetOrder mode) = Unit {0}
HasDistinctLots (edit.Whole sources) = IsDistinct bytes_eq (names_of sources.lots)

-- the edit was done; so many expansions were made before and after it
pub record IsDone (old : CityState) (e : Edit) (new : CityState) (before after : ℕ) : Type 0 where
  pub applied : apply old.sources e old.budget ≡ Ok new.sources
  pub budget_stays : new.budget ≡ old.budget
  pub warm_then : new.warm ≡ true
  -- the touched shapes were counted, and there were as many expansions
  pub touched : CountsTouched old.sources new.sources (members old.budget old.sources) (members old.budget new.sources)
      new.expanded
  pub spent : after ≡ before + new.expanded
  pub changed : IsChange old.sources new.sources (members old.budget old.sources) (members old.budget new.sources)
      new.changes

-- it was refused for this cause, and nothing changed
pub record IsRefused (old : CityState) (e : Edit) (refused : EditRefused) (new : CityState) (before after : ℕ) : Type 0 where
  pub cause : apply old.sources e old.budget ≡ Err refused
  pub same : new ≡ old
  pub later : before ≤ after
  pub most : after ≤ before + (old.budget + 1)
  pub unspent : refused ≢ OverBudget → after ≡ before

-- memory was wanting: the city may be cold. Two more expansions than the budget, since a change of mode is two updates
pub record IsGivenUp (old new : CityState) (before after : ℕ) : Type 0 where
  pub sources_stay : new.sources ≡ old.sources
  pub budget_stays : new.budget ≡ old.budget
  pub expanded_stays : new.expanded ≡ old.expanded
  pub changes_stay : new.changes ≡ old.changes
  pub later : before ≤ after
  pub most : after ≤ before + (old.budget + 2)

-- a cold city was made warm: each member that is no instance was expanded once, and they are what is touched where all
-- its lots come
pub record IsWarmed (old : CityState) (before after : ℕ) : Type 0 where
  pub spent : after ≡ before + expanded_count (members old.budget old.sources)
  pub touched : CountsTouched (with_no_lots old.sources) old.sources (members old.budget (with_no_lots old.sources))
      (members old.budget old.sources) (expanded_count (members old.budget old.sources))

-- by what the edit answers
abbrev pub EditGives : CityState → Edit → Result (Unit {0}) EditRefused → CityState → ℕ → ℕ → Type 0
EditGives old e (Ok u) new before after = IsDone old e new before after
EditGives old e (Err NoMemory) new before after = IsGivenUp old new before after
EditGives old e (Err refused) new before after = IsRefused old e refused new before after

-- by what an edit answers that hands the former sources out
abbrev pub HandsOut : CityState → Edit → Result Sources EditRefused → CityState → ℕ → ℕ → Type 0
HandsOut old e (Ok former) new before after = (former ≡ old.sources) × IsDone old e new before after
HandsOut old e (Err refused) new before after = EditGives old e (Err refused) new before after

-- the new sources, or the first refusal, or want of memory
abbrev pub Changes : Result Sources EditRefused → Result Sources EditRefused → Type 0
Changes r (Ok new) = r ≡ Ok new
Changes r (Err NoMemory) = Unit {0}
Changes r (Err refused) = r ≡ Err refused

abbrev pub ChangeGives : Sources → Edit → Result Sources EditRefused → Type 0
ChangeGives s e result = Changes (changed s e) result
