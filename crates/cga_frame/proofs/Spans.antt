-- Whether an interval touches another one, by its two ends, of which either may be the lower one.
use Rattle.std.proofs.Common.{◌≡◌, refl, ◌∙◌, ap, Bool, true, false, ◌&&◌, ◌||◌, ◌⊎◌, inl, inr, if◌then◌else◌}
use Rattle.cga_fraction.specs.Rat.{Rat}
use Rattle.cga_fraction.specs.Order.{rat_le, rat_min, rat_max}
use Rattle.cga_fraction.proofs.Door.{le_trans, max_above, min_below}
use Rattle.cga_frame.specs.Box.{along_holds, along_touches}
use Rattle.cga_frame.proofs.Flags.{told, tells}
use Rattle.std.proofs.lemmas.Bool.{cases_Bool as either}

either_is : (a b c : Bool) → (c ≡ a) ⊎ (c ≡ b) → (a ≡ true → c ≡ true) → (b ≡ true → c ≡ true) → c ≡ (a || b)
either_is true b c one h k = h refl
either_is false true c one h k = k refl
either_is false false c one h k = elim one [ inl e ↦ e | inr e ↦ e ]

min_is : (a b u : Rat) → (rat_le (rat_min a b) u ≡ rat_le a u) ⊎ (rat_le (rat_min a b) u ≡ rat_le b u)
unfolding rat_min
min_is a b u = elim (either (rat_le a b)) [
  | inl e ↦ inl (ap (λ t. rat_le (if t then a else b) u) e)
  | inr e ↦ inr (ap (λ t. rat_le (if t then a else b) u) e)
]

max_is : (a b l : Rat) → (rat_le l (rat_max a b) ≡ rat_le l a) ⊎ (rat_le l (rat_max a b) ≡ rat_le l b)
unfolding rat_max
max_is a b l = elim (either (rat_le a b)) [
  | inl e ↦ inr (ap (λ t. rat_le l (if t then b else a)) e)
  | inr e ↦ inl (ap (λ t. rat_le l (if t then b else a)) e)
]

-- the lower end is at most a number exactly where one of the ends is
pub low_within : (a b u : Rat) → rat_le (rat_min a b) u ≡ (rat_le a u || rat_le b u)
low_within a b u = either_is (rat_le a u) (rat_le b u) (rat_le (rat_min a b) u) (min_is a b u)
    (λ h. tells _ (le_trans (rat_min a b) a u (min_below a b).0 (told _ h)))
    (λ h. tells _ (le_trans (rat_min a b) b u (min_below a b).1 (told _ h)))

-- the upper end is at least a number exactly where one of the ends is
pub high_within : (a b l : Rat) → rat_le l (rat_max a b) ≡ (rat_le l a || rat_le l b)
high_within a b l = either_is (rat_le l a) (rat_le l b) (rat_le l (rat_max a b)) (max_is a b l)
    (λ h. tells _ (le_trans l a (rat_max a b) (told _ h) (max_above a b).0))
    (λ h. tells _ (le_trans l b (rat_max a b) (told _ h) (max_above a b).1))

pub span_touches : (a b lower upper : Rat)
    → along_touches (rat_min a b) (rat_max a b) lower upper ≡
    ((rat_le a upper || rat_le b upper) && (rat_le lower a || rat_le lower b))
span_touches a b lower upper = ap (λ t. t && rat_le lower (rat_max a b)) (low_within a b upper) ∙ ap (λ t. (rat_le a upper || rat_le b upper) && t) (high_within a b lower)

pub span_holds : (a b lower upper : Rat)
    → along_holds (rat_min a b) (rat_max a b) lower upper ≡
    ((rat_le a lower || rat_le b lower) && (rat_le upper a || rat_le upper b))
span_holds a b lower upper = span_touches a b upper lower
