-- The sources of a city go through whole, whatever sources they take the place of.
use Rattle.std.proofs.Common.{◌≡◌, ℕ, ◌≤◌, ◌∙◌, length, true, false, nat_lt, Ok, refl, ap, subst, arith, not, Err}
use Rattle.std.proofs.lemmas.Bool.Decides.{nat_tests}
use Rattle.cga_shape.specs.declared.edit.Edit.{Edit}
use Rattle.cga_shape.specs.declared.edit.Edit.TheVariants as edit
use Rattle.cga_shape.specs.declared.edit_refused.EditRefused.TheVariants.{OverBudget}
use Rattle.cga_shape.specs.declared.sources.Sources.{Sources}
use Rattle.cga_city.specs.declared.limits.TheConstants.{MOST_LOTS}
use Rattle.cga_city.specs.Apply.{Changed, apply, changed, within}
use Rattle.cga_city.specs.City.{HasDistinctLots}
use Rattle.cga_city.specs.Derived.{is_within}
use Rattle.cga_city.specs.Inside.{AreSound}
use Rattle.cga_city.proofs.Plain.{good_accepted, plain_if}
use Rattle.cga_city.proofs.Rising.{ranked_same}
use Rattle.cga_city.proofs.Sound.{changed_sound}
use Rattle.cga_fraction.proofs.Door.{err_if-ok as err_if_ok}

pub fits : (n : ℕ) → n ≤ MOST_LOTS → nat_lt MOST_LOTS n ≡ false
fits n h = grind (arith, nat_tests)

whole_changed : (s t : Sources) → AreSound t → changed s (edit.Whole t) ≡ Ok t
whole_changed s t sound =
    rw (sound.grammar, ranked_same t.grammar sound.rising, fits (length t.lots) sound.few, good_accepted t.grammar t.lots sound.plain sound.good) refl

-- an edit that sets them whole is accepted, and they are the new sources
pub whole_applied : (s t : Sources) (budget : ℕ) → AreSound t → is_within budget t ≡ true
    → apply s (edit.Whole t) budget ≡ Ok t
unfolding apply
whole_applied s t budget sound fit = ap (within budget) (whole_changed s t sound) ∙ rw fit refl

within_ok : (budget : ℕ) (r : Changed) (new : Sources) → within budget r ≡ Ok new
    → (r ≡ Ok new) × (is_within budget new ≡ true)
within_ok budget (Ok made) new h =
    let k = err_if_ok (not (is_within budget made)) OverBudget (Ok made) new h in
    let same : made ≡ new = let e = k.1 in cc in
    (ap Ok same, subst (λ (x : Sources). is_within budget x ≡ true) same (plain_if (is_within budget made) k.0))
within_ok budget (Err e) new h = cc

-- what an accepted edit leaves is sound, and within the budget
pub applied_sound : (s new : Sources) (e : Edit) (budget : ℕ) → AreSound s → HasDistinctLots e
    → apply s e budget ≡ Ok new → AreSound new × (is_within budget new ≡ true)
unfolding apply
applied_sound s new e budget sound apart h = let (made, fit) = within_ok budget (changed s e) new h in (changed_sound s new e sound apart made, fit)
