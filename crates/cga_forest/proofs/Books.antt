-- What no mark on an entry changes: what its node is, and was at the mark.
use Rattle.std.proofs.Common.{◌≡◌, Bool, true, false, refl}
use Rattle.std.specs.Prelude.{Option, Some, None}
use Rattle.cga_marked.specs.Slab.{touch_when}
use Rattle.cga_forest.specs.declared.slot_entry.SlotEntry.{SlotEntry}
use Rattle.cga_forest.specs.View.{touched_entry, keeps_former, present_of, marked_of, hulls_of, marked_hulls_of}

pub when_present : (m : Bool) (s : Option SlotEntry) → present_of (touch_when touched_entry m s) ≡ present_of s
when_present false s = refl
when_present true None = refl
when_present true (Some e) = refl

pub when_marked : (m : Bool) (s : Option SlotEntry) → marked_of (touch_when touched_entry m s) ≡ marked_of s
when_marked false s = refl
when_marked true None = refl
when_marked true (Some e) = elim e.former as (λ o. marked_of (Some (record e { touched = true; former = o })) ≡ marked_of (Some (record e { former = o }))) [ None ↦ refl | Some f ↦ refl ]

pub when_hulls : (m : Bool) (s : Option SlotEntry) → hulls_of (touch_when touched_entry m s) ≡ hulls_of s
when_hulls false s = refl
when_hulls true None = refl
when_hulls true (Some e) = refl

pub when_marked_hulls : (m : Bool) (s : Option SlotEntry)
    → marked_hulls_of (touch_when touched_entry m s) ≡ marked_hulls_of s
when_marked_hulls false s = refl
when_marked_hulls true None = refl
when_marked_hulls true (Some e) = refl

pub when_keeps : (m marking : Bool) (s : Option SlotEntry)
    → keeps_former marking (touch_when touched_entry m s) ≡ keeps_former marking s
when_keeps false marking s = refl
when_keeps true marking None = refl
when_keeps true marking (Some e) = refl
