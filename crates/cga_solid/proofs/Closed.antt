-- Closedness by one computed test.
use Rattle.std.proofs.Common.{◌≡◌, ◌≢◌, ◌<◌, get_or, zero, suc, length, ap, sym, ◌∙◌, ℕ, List, [], ◌∷◌, Bool, true, ◌&&◌, refl, arith}
use Rattle.std.specs.Prelude.{nat_eq}
use Rattle.std.specs.List.{list_all}
use Rattle.std.proofs.lemmas.Bool.Decides.{nat_tests}
use Rattle.cga_solid.specs.declared.form.Form.{Form}
use Rattle.cga_solid.specs.declared.form.Form.TheVariants.{Cube, Shed, GableAlongX, GableAlongZ, HipAlongX, HipAlongZ, Pyramid, Quad}
use Rattle.cga_solid.specs.Faces.{faces_of, edges, times_in, IsClosed}
use Rattle.cga_fraction.proofs.Door.{and_first as first_of_two, and_second as second_of_two}

abbrev is_once : List (ℕ × ℕ) → ℕ × ℕ → Bool
is_once es e = nat_eq (times_in es e.0 e.1) 1 && nat_eq (times_in es e.1 e.0) 1

abbrev is_closed : List (List ℕ) → Bool
is_closed faces = list_all (is_once (edges faces)) (edges faces)

parts : (m n : ℕ) → (nat_eq m 1 && nat_eq n 1) ≡ true → (m ≡ 1) × (n ≡ 1)
parts m n h = grind (arith, nat_tests)

-- a test that all pass is passed by each
all_at : (p : ℕ × ℕ → Bool) (xs : List (ℕ × ℕ)) (k : ℕ) (d : ℕ × ℕ) → list_all p xs ≡ true → k < length xs
    → p (get_or xs k d) ≡ true
all_at p [] k d h l = absurd (omega arith)
all_at p (x ∷ xs) zero d h l = first_of_two (p x) (list_all p xs) h
all_at p (x ∷ xs) (suc k) d h l = all_at p xs k d (second_of_two (p x) (list_all p xs) h) (omega arith)

closed_from : (faces : List (List ℕ)) → is_closed faces ≡ true → IsClosed faces
closed_from faces h = λ e k. parts (times_in (edges faces) e.0 e.1) (times_in (edges faces) e.1 e.0) (ap (is_once (edges faces)) (sym k.2) ∙ all_at (is_once (edges faces)) (edges faces) k.0 e h k.1)

pub all_close : (form : Form) → form ≢ Quad → IsClosed (faces_of form)
unfolding faces_of
all_close Cube n = closed_from (faces_of Cube) refl
all_close Shed n = closed_from (faces_of Shed) refl
all_close GableAlongX n = closed_from (faces_of GableAlongX) refl
all_close GableAlongZ n = closed_from (faces_of GableAlongZ) refl
all_close HipAlongX n = closed_from (faces_of HipAlongX) refl
all_close HipAlongZ n = closed_from (faces_of HipAlongZ) refl
all_close Pyramid n = closed_from (faces_of Pyramid) refl
all_close Quad n = absurd (n refl)
