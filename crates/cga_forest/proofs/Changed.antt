-- What a change of an entry makes of its slot.
use Rattle.std.proofs.Common.{◌≡◌, ◌∙◌, Bool, ap}
use Rattle.std.specs.Prelude.{Option, Some, None}
use Rattle.cga_marked.specs.Slab.{Relates, touch_when}
use Rattle.cga_forest.specs.declared.slot_entry.SlotEntry.{SlotEntry}
use Rattle.cga_forest.specs.View.{touched_entry}

-- f becomes of the new entry what g makes of it
module _ {X : Type 0} (f : Option SlotEntry → X) (g : X → X) (none : f None ≡ g (f None)) (R : SlotEntry → SlotEntry → Type 0) (some : (x y : SlotEntry) → R x y → f (Some y) ≡ g (f (Some x))) where
  lifted : (s t : Option SlotEntry) → Relates R s t → f t ≡ g (f s)
  lifted None None h = none
  lifted None (Some y) h = absurd h
  lifted (Some x) None h = absurd h
  lifted (Some x) (Some y) h = some x y h

  -- also where it was touched before
  pub changed : (m : Bool) (s t : Option SlotEntry) → f (touch_when touched_entry m s) ≡ f s
      → Relates R (touch_when touched_entry m s) t → f t ≡ g (f s)
  changed m s t same h = lifted (touch_when touched_entry m s) t h ∙ ap g same

-- what holds of the slot before may be told with it
pub related_with : (P : Option SlotEntry → Type 0) (R : SlotEntry → SlotEntry → Type 0) (s t : Option SlotEntry)
    → P s → Relates R s t
    → Relates (λ x y. R x y × P (Some x)) s t
related_with P R None None p h = h
related_with P R None (Some y) p h = absurd h
related_with P R (Some x) None p h = absurd h
related_with P R (Some x) (Some y) p h = (h, p)
