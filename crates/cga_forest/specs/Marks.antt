-- What an entry keeps for the mark is what a slab with a mark asks of it.
use Rattle.std.proofs.Common.{refl, sym}
use Rattle.std.specs.Prelude.{◌≡◌, Some, None, IfSome, Bool, true, false, if◌then◌else◌}
use Rattle.cga_marked.specs.Marked.{AreMarks, IsCalm}
use Rattle.cga_forest.specs.declared.slot_entry.SlotEntry.{SlotEntry}
use Rattle.cga_forest.specs.View.{IsPlain, touched_of, aside_of, touched_entry, hidden_entry, settled_entry, rolled_entry, restored, former_hulls}

settled_calm : (e : SlotEntry) → IsCalm touched_of IsPlain e → settled_entry e ≡ Some e
settled_calm e m = λ i. if m.plain.here i then None else Some (record e { created = sym m.plain.old i; touched = sym m.untouched i; former = sym m.plain.same i; former_hulls = sym m.plain.hulls i })

settles : (e : SlotEntry) → IfSome (settled_entry e) (IsCalm touched_of IsPlain)
settles e = by_flag e.aside refl
  where
    by_flag : (b : Bool) → e.aside ≡ b
        → IfSome (if b then None else Some
        (record e { created = false; touched = false; former = None; former_hulls = None })) (IsCalm touched_of IsPlain)
    by_flag true q = tt
    by_flag false q = record { untouched = refl; plain = record { here = q; old = refl; same = refl; hulls = refl } }

rolled_calm : (e : SlotEntry) → IsCalm touched_of IsPlain e → rolled_entry e ≡ Some e
rolled_calm e m = λ i. if m.plain.old i then None else Some
    (record (restored e (m.plain.same i)) {
      hulls = former_hulls e.hulls (m.plain.hulls i);
      aside = sym m.plain.here i;
      created = sym m.plain.old i;
      touched = sym m.untouched i;
      former = sym m.plain.same i;
      former_hulls = sym m.plain.hulls i;
    })

rolls : (e : SlotEntry) → IfSome (rolled_entry e) (IsCalm touched_of IsPlain)
rolls e = by_flag e.created
  where
    by_flag : (b : Bool)
        → IfSome (if b then None else Some
        (record (restored e e.former) {
          hulls = former_hulls e.hulls e.former_hulls;
          aside = false;
          created = false;
          touched = false;
          former = None;
          former_hulls = None;
        })) (IsCalm touched_of IsPlain)
    by_flag true = tt
    by_flag false = record { untouched = refl; plain = record { here = refl; old = refl; same = refl; hulls = refl } }

pub marks : AreMarks touched_of aside_of IsPlain touched_entry hidden_entry settled_entry rolled_entry
marks = record {
  touches = λ e. refl;
  touch_shows = λ e. refl;
  touch_again = λ e on i. record e { touched = sym on i };
  hides = λ e. refl;
  hide_touches = λ e. refl;
  hide_again = λ e on i. record e { aside = sym on i };
  shown = λ e p. p.here;
  settled_calm = settled_calm;
  settles = settles;
  rolled_calm = rolled_calm;
  rolls = rolls;
}
