-- The number that is printed is the one that the engine counted.
use Rattle.std.proofs.Common.{◌≡◌, ℕ, List, [], true, false, Option, Some, None, Ok, refl, subst}
use Rattle.std.specs.Prelude.{is_some, unwrap_or}
use Rattle.cga_shape.specs.declared.edit.Edit.{Edit}
use Rattle.cga_shape.specs.declared.edit.Edit.TheVariants as edit
use Rattle.cga_shape.specs.declared.sources.Sources.{Sources}
use Rattle.cga_city.specs.Apply.{apply}
use Rattle.cga_city.specs.City.{CityState, HasDistinctLots}
use Rattle.cga_city.specs.Derived.{derived, members}
use Rattle.cga_city.specs.Inside.{AreSound}
use Rattle.cga_city.proofs.Door.{applied_sound, names_differ}
use Rattle.cga_touched.proofs.Door.{touched_is_counted}
use Rattle.cga_expand.specs.Children.{Member}
use Rattle.cga_expand.specs.Derivation.{NamesDiffer}
use Rattle.cga_update.specs.Updates.{CountsTouched}
use Rattle.cga_touched.specs.Count.{touched_count}
use Rattle.cga_top.specs.State.{State}
use Rattle.cga_top.specs.Written.{IsWritten}
use Rattle.cga_top.specs.Replies.{budget_of}
use Rattle.cga_top.specs.Session.{IsAt}
use Rattle.cga_top.specs.declared.session.Session.{Session}

-- sources that an edit may be asked of
pub record CanBeLeft (budget : ℕ) (s : Sources) (e : Edit) : Type 0 where
  pub sound : AreSound s
  pub fits : derived budget s ≡ Some (members budget s)
  pub apart : HasDistinctLots e

-- lines write edits whose lots differ
pub distinct : (e : Edit) → IsWritten e → HasDistinctLots e
distinct (edit.Rules g) w = tt
distinct (edit.Put priority rule) w = tt
distinct (edit.Drop id) w = tt
distinct (edit.SetAttribute name value) w = tt
distinct (edit.SetPriority symbol priority) w = tt
distinct (edit.SetLot lot) w = tt
distinct (edit.Unlot name) w = tt
distinct (edit.SetOrder mode) w = tt
distinct (edit.Whole sources) w = w.names

pub can_be_left : (city : CityState) (x : Sources) (e : Edit) → x ≡ city.sources → AreSound x
    → derived city.budget x ≡ Some (members city.budget x) → HasDistinctLots e → CanBeLeft city.budget city.sources e
can_be_left city x e same sound fits apart = subst (λ (t : Sources). CanBeLeft city.budget t e) same (record { sound = sound; fits = fits; apart = apart })

pub left_at : (s : State) (old : Session) (e : Edit) → IsAt s old → CanBeLeft old.city.budget old.city.sources e
    → CanBeLeft (budget_of s.version) s.sources e
left_at s old e at can =
    subst (λ (b : ℕ). CanBeLeft b s.sources e) at.budget (subst (λ (x : Sources). CanBeLeft old.city.budget x e) at.sources can)

pub there : (r : Option (List Member)) → is_some r ≡ true → r ≡ Some (unwrap_or r [])
there (Some list) h = refl
there None h = absurd (let bad : false ≡ true = h in cc)

names : (s : Sources) → AreSound s → NamesDiffer s.lots
names s sound = names_differ s.lots sound.names

pub number_of : (s new : Sources) (e : Edit) (budget n : ℕ) → CanBeLeft budget s e → apply s e budget ≡ Ok new
    → CountsTouched s new (members budget s) (members budget new) n
    → n ≡ touched_count budget s new (members budget s) (members budget new)
unfolding derived
number_of s new e budget n can made touched =
    let (sound, fits) = applied_sound s new e budget can.sound can.apart made in
    (touched_is_counted budget s new (members budget s) (members budget new) (names s can.sound) (names new sound) can.fits (there (derived budget new) fits)).1 n touched
