-- What an edit makes of sources, and which lots differ.
use Rattle.std.specs.Prelude.{◌≡◌, ℕ, List, length, unwrap_or, Some, None, Result, Ok, Err, if◌then◌else◌}
use Rattle.cga_shape.specs.declared.edit.Edit.{Edit}
use Rattle.cga_shape.specs.declared.edit.Edit.TheVariants as edit
use Rattle.cga_shape.specs.declared.edit_refused.EditRefused.{EditRefused}
use Rattle.cga_shape.specs.declared.edit_refused.EditRefused.TheVariants.{NoMemory}
use Rattle.cga_shape.specs.declared.lot.Lot.{Lot}
use Rattle.cga_shape.specs.declared.sources.Sources.{Sources}
use Rattle.cga_update.specs.declared.changed_lots.ChangedLots.{ChangedLots}
use Rattle.cga_update.specs.declared.changed_lots.ChangedLots.TheVariants as differ
use Rattle.cga_city.specs.declared.edited.Edited.{Edited}
use Rattle.cga_city.specs.Apply.{changed}
use Rattle.cga_city.specs.Lots.{has_symbol, lot_place}

-- new sources with the lots that differ
abbrev pub told : ChangedLots → Result Sources EditRefused → Result Edited EditRefused
told lots (Ok new) = Ok (record { sources = new; lots = lots })
told lots (Err refused) = Err refused

-- the lots that another priority of a symbol changes: their roots have it
abbrev pub priced : List Lot → List ℕ → ChangedLots
priced lots symbol = if has_symbol symbol lots then differ.All else differ.Nothing

-- the lots that an edit changes
abbrev pub lots_of : Sources → Edit → ChangedLots
lots_of s (edit.Rules g) = differ.All
lots_of s (edit.Put priority rule) = differ.All
lots_of s (edit.Drop id) = differ.All
lots_of s (edit.SetAttribute name value) = differ.Nothing
lots_of s (edit.SetPriority symbol priority) = priced s.lots symbol
lots_of s (edit.SetLot lot) =
    let place = lot_place lot.name s.lots in differ.One place (Some (unwrap_or place (length s.lots)))
lots_of s (edit.Unlot name) = differ.One (lot_place name s.lots) None
lots_of s (edit.SetOrder mode) = differ.All
lots_of s (edit.Whole other) = differ.All

-- the new sources and the lots that differ, or the first refusal, or want of memory
abbrev pub Makes : Sources → Edit → Result Edited EditRefused → Type 0
Makes s e (Ok new) = (changed s e ≡ Ok new.sources) × (new.lots ≡ lots_of s e)
Makes s e (Err NoMemory) = Unit {0}
Makes s e (Err refused) = changed s e ≡ Err refused
