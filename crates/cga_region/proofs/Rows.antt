-- The worked rows, by computing.
use Rattle.std.proofs.Common.{◌≡◌, [], ◌∷◌, codes, false, true, inl, inr, refl, subst, arith}
use Rattle.cga_check.specs.Faults.{check_fault, each_after}
use Rattle.cga_city.specs.Grammars.{ranked}
use Rattle.cga_fraction.specs.Order.{rat_le}
use Rattle.cga_frame.specs.Box.{touches}
use Rattle.cga_shape.specs.declared.drawn.Drawn.{Drawn}
use Rattle.cga_region.specs.Changes.{is_named}
use Rattle.cga_region.specs.Rows.{EachRowIsSo}

pub each_row_is_so : EachRowIsSo
unfolding touches rat_le ranked check_fault each_after
each_row_is_so d e x s = record {
  own = refl;
  over = refl;
  nothing = λ test. omega arith;
  led = (
    (λ f h. refl),
    (λ test. omega arith),
    (
      (λ f h. elim h [
        | inl is ↦ subst (λ (g : Drawn). is_named (codes "a" ∷ []) g.lot ≡ is_named (codes "a" ∷ codes "b" ∷ []) g.lot) is refl
        | inr r ↦ absurd r
      ]),
      (λ test. omega arith),
      (refl, λ f h. refl),
    ),
  );
  created = refl;
  unled = λ h. let bad : false ≡ true = h (record e { lot = codes "b" }) (inr (inl refl)) in cc;
  back = refl;
  apart = refl;
  grown = refl;
  accepts = refl;
  refuses = refl;
  region = refl;
  goes = refl;
  other = refl;
  both = refl;
}
