-- The roots of lots among their shapes.
use Rattle.std.proofs.Common.{◌≡◌, inl, inr, ℕ, suc, List, [], ◌∷◌, ◌++◌, refl, sym, ap, ◌∙◌, subst, Some, Ok, Err, Result, slice_get}
use Rattle.cga_order.specs.World.{Among}
use Rattle.cga_expand.specs.Derivation.{made, roots_of}
use Rattle.cga_frame.specs.declared.scope_fault.ScopeFault.{ScopeFault}
use Rattle.cga_shape.specs.Root.{root_of}
use Rattle.cga_shape.specs.declared.lot.Lot.{Lot}
use Rattle.cga_shape.specs.declared.shape.Shape.{Shape}

root_first : (x : Lot) (lots : List Lot) (s : Shape) → root_of x ≡ Ok s → Among s (made (root_of x) ++ roots_of lots)
root_first x lots s is = subst (λ r. Among s (made r ++ roots_of lots)) (sym is) (inl refl)

behind_root : (x : Lot) (lots : List Lot) (s : Shape) → Among s (roots_of lots)
    → Among s (made (root_of x) ++ roots_of lots)
behind_root x lots s h = by_root (root_of x)
  where
    by_root : (r : Result Shape ScopeFault) → Among s (made r ++ roots_of lots)
    by_root (Ok y) = inr h
    by_root (Err f) = h

-- the root of one of the lots
abbrev RootIn : List Lot → Shape → Type 0
RootIn lots s = (i : ℕ) × (lot : Lot) × (slice_get lots i ≡ Some lot) × (root_of lot ≡ Ok s)

in_first : (x : Lot) (lots : List Lot) (s : Shape) (r : Result Shape ScopeFault) → root_of x ≡ r
    → (Among s (roots_of lots) → RootIn lots s) → Among s (made r ++ roots_of lots) → RootIn (x ∷ lots) s
in_first x lots s (Ok y) is more (inl e) = (0, x, refl, is ∙ ap Ok e)
in_first x lots s (Ok y) is more (inr h) = let w = more h in (suc w.0, w.1, w.2, w.3)
in_first x lots s (Err f) is more h = let w = more h in (suc w.0, w.1, w.2, w.3)

pub among_root : (lots : List Lot) (s : Shape) → Among s (roots_of lots) → RootIn lots s
among_root [] s h = absurd h
among_root (x ∷ lots) s h = in_first x lots s (root_of x) refl (among_root lots s) h
