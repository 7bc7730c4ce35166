-- What a city keeps: its forest has the members of its derivation, before and after an edit.
use Rattle.std.proofs.Common.{◌≡◌, ℕ, ◌+◌, ◌≤◌, List, [], length, Bool, true, Some, None, Ok, refl, sym, ap, ◌∙◌, subst, arith}
use Rattle.std.specs.List.{IsDistinct}
use Rattle.cga_check.specs.Faults.{check_fault, each_after}
use Rattle.cga_shape.specs.declared.changes.Changes.{Changes}
use Rattle.cga_shape.specs.declared.edit.Edit.{Edit}
use Rattle.cga_shape.specs.declared.edit_refused.EditRefused.TheVariants.{OverBudget}
use Rattle.cga_shape.specs.declared.sources.Sources.{Sources}
use Rattle.cga_derivation.specs.Derivation.{derive, AllApart, IsDerived, NothingWaits}
use Rattle.cga_derivation.proofs.Door.{derived_consistent, one, within}
use Rattle.cga_expand.proofs.Door.{sources_are_derivations}
use Rattle.cga_update.proofs.Door.{fresh_stands, no_nodes, standing_is_derived}
use Rattle.cga_expand.specs.Children.{Member}
use Rattle.cga_expand.specs.Derivation.{derivation_of}
use Rattle.cga_update.specs.declared.kept.Kept.{Kept}
use Rattle.cga_update.specs.Stands.{Stands}
use Rattle.cga_update.specs.Updates.{IsExact}
use Rattle.cga_word.specs.declared.mode.Mode.{Mode}
use Rattle.cga_city.specs.Apply.{changed}
use Rattle.cga_city.specs.City.{CityState, IsDone, IsRefused, empty_in, empty_sources}
use Rattle.cga_city.specs.Derived.{derived, members}
use Rattle.cga_city.specs.Inside.{AreSound}
use Rattle.cga_city.specs.Kept.{IsCity}
use Rattle.cga_city.specs.Nodes.{HasNodes}
use Rattle.cga_city.proofs.Deriving.{apply_ok, apply_over, empty_derived, few_members, is_derived, members_are}
use Rattle.cga_city.proofs.Drawable.{AllSound, derived_sound}
use Rattle.cga_city.proofs.Names.{names_differ}

pub the_list : (budget : ℕ) (s : Sources) (list : List Member) → derived budget s ≡ Some list
    → derive (derivation_of s) budget ≡ Some list
unfolding derived
the_list budget s list h = h

pub derived_is : (s : Sources) → AreSound s → (budget : ℕ) (list : List Member) → derived budget s ≡ Some list
    → IsDerived (derivation_of s) list
derived_is s sound budget list h = within (derivation_of s) (sources_are_derivations s (names_differ s.lots sound.names)) budget list (the_list budget s list h)

-- the forest has the members of the derivation
pub has_nodes : (s : Sources) (budget : ℕ) (list : List Member) (kept : Kept) → AreSound s
    → derived budget s ≡ Some list → Stands s kept → HasNodes kept.forest list
has_nodes s budget list kept sound h stands =
    let names = names_differ s.lots sound.names in
    let is = derived_is s sound budget list h in
    let same = standing_is_derived s kept.forest names stands.forest list is in
    let quiet = subst (NothingWaits (derivation_of s)) is.1 is.2 in
    let apart = subst (AllApart (derivation_of s)) (sym is.1) (derived_consistent (derivation_of s) (sources_are_derivations s names) is.0 quiet).apart in
    record {
      all = λ c e at. (same e.node.shape e.node.kind).1 (c, e, at, refl, refl);
      only = λ n k i. (same n k).0 i;
      apart = apart;
    }

-- and in the words of a city's members
pub has_members : (s : Sources) (budget : ℕ) (warm : Bool) (kept : Kept) → IsCity s budget warm kept → warm ≡ true
    → HasNodes kept.forest (members budget s)
has_members s budget warm kept city on =
    subst (HasNodes kept.forest) (sym (members_are budget s city.within.0 city.within.1)) (has_nodes s budget city.within.0 kept city.sound city.within.1 (city.stands on))

-- ---- the first city

-- a new forest and new dependents stand for sources without attributes, rules and lots
pub nothing_stands : (mode : Mode)
    → Stands (empty_in mode) (record { forest = no_nodes mode; dependents = record { nodes = [] } })
nothing_stands mode = fresh_stands (empty_in mode) (no_nodes mode) refl (record { nodes = [] }) refl

-- The empty sources are sound.
pub empty_sound : AreSound empty_sources
unfolding IsDistinct check_fault each_after
empty_sound = record { grammar = refl; rising = tt; few = omega arith; names = tt; good = λ k d h. absurd (omega arith); plain = λ k d h. absurd (omega arith) }

pub empty_city_is : (budget : ℕ) (kept : Kept) → Stands empty_sources kept → IsCity empty_sources budget true kept
empty_city_is budget kept stands = record { sound = empty_sound; within = ([], empty_derived budget); stands = λ on. stands }

-- ---- edits

-- an edit that was made of sound sources within the budget, and what the update told of it
pub record IsEdited (s new : Sources) (e : Edit) (budget n x y : ℕ) (warm : Bool) (before : List Member) (changes : Changes) : Type 0 where
  pub sound : AreSound s
  pub fits : derived budget s ≡ Some before
  pub made : changed s e ≡ Ok new
  pub exact : IsExact s new budget n changes
  pub spent : y ≡ x + n
  pub on : warm ≡ true

-- what an update counted is what the edit touched
pub done_gives : (s new : Sources) (e : Edit) (budget n x y k : ℕ) (warm : Bool) (before : List Member)
    (old changes : Changes) → IsEdited s new e budget n x y warm before changes
    → IsDone (record { sources = s; budget = budget; warm = warm; expanded = k; changes = old }) e (record { sources = new; budget = budget; warm = warm; expanded = n; changes = changes }) x y
done_gives s new e budget n x y k warm before old changes is =
    let after = is_derived budget new (Some is.exact.1) is.exact.3 in
    let was : is.exact.0 ≡ members budget s =
    one (derivation_of s) (sources_are_derivations s (names_differ s.lots is.sound.names)) is.exact.0 before
    is.exact.2 (derived_is s is.sound budget before is.fits) ∙ sym (members_are budget s before is.fits) in
    let now = sym (members_are budget new is.exact.1 after) in
    record {
      applied = apply_ok s new e budget is.exact.1 is.made after;
      budget_stays = refl;
      warm_then = is.on;
      touched = rw (← was, ← now) is.exact.4;
      spent = is.spent;
      changed = rw (← was, ← now) is.exact.5;
    }

-- and the new sources are within the budget
pub now_within : (s new : Sources) (budget n : ℕ) (changes : Changes) → IsExact s new budget n changes
    → (after : List Member) × (derived budget new ≡ Some after)
now_within s new budget n changes exact = (exact.1, is_derived budget new (Some exact.1) exact.3)

pub over_gives : (s new : Sources) (e : Edit) (budget x y k : ℕ) (warm : Bool) (old : Changes) → changed s e ≡ Ok new
    → derive (derivation_of new) budget ≡ None → x ≤ y → y ≤ x + (budget + 1)
    → IsRefused (record { sources = s; budget = budget; warm = warm; expanded = k; changes = old }) e OverBudget
    (record { sources = s; budget = budget; warm = warm; expanded = k; changes = old }) x y
over_gives s new e budget x y k warm old made over later most = record {
  cause = apply_over s new e budget made (is_derived budget new None over);
  same = refl;
  later = later;
  most = most;
  unspent = λ other. absurd (other refl);
}

-- ---- reports

pub warm_inside : (old now : CityState) → old ≡ now → now.warm ≡ true → old.warm ≡ true
warm_inside old now same on = ap (λ (v : CityState). v.warm) same ∙ on

pub few_there : (s : Sources) (budget : ℕ) (warm : Bool) (kept : Kept) → IsCity s budget warm kept
    → length (members budget s) ≤ budget
few_there s budget warm kept city = subst (λ (l : List Member). length l ≤ budget) (sym (members_are budget s city.within.0 city.within.1)) (few_members budget s city.within.0 city.within.1)

pub members_sound : (s : Sources) (budget : ℕ) (warm : Bool) (kept : Kept) → IsCity s budget warm kept
    → AllSound (members budget s)
members_sound s budget warm kept city = subst AllSound (sym (members_are budget s city.within.0 city.within.1)) (derived_sound budget s city.within.0 city.within.1)
