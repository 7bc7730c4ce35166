-- A `Scope` from its value.
use Rattle.std.specs.Prelude.{◌≡◌, false}
use Rattle.std.proofs.Common.{ap, sym}
use Rattle.cga_frame.specs.Scope.{Scope, far_of, has_negative, Exists}
use Rattle.cga_frame.specs.declared.point.Point.{Point}
use Rattle.cga_frame.specs.declared.scope.Scope.TheInside.{Inside}

-- what every `Scope` is: no size is below 0, the far corner is its own, and it exists
pub record IsStanding (s : Scope) (far : Point) : Type 0 where
  pub sizes : has_negative s.size ≡ false
  pub corner : far ≡ far_of s
  pub exists : Exists s

-- the far corner is made anew
pub inverse_ok : (a : Inside) → IsStanding (record { at = a.at; frame = a.frame; size = a.size }) a.far
    → ◌≡◌ {A = Inside} (record { at = a.at; frame = a.frame; size = a.size; far = far_of (record { at = a.at; frame = a.frame; size = a.size }) }) a
inverse_ok a h =
    let f : Point → Inside = λ (p : Point). record { at = a.at; frame = a.frame; size = a.size; far = p } in
    ap f (sym h.corner)
