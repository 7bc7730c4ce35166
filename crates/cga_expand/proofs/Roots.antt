-- The roots of lots, one lot after the other.
use Rattle.std.proofs.Common.{◌≡◌, ℕ, zero, suc, List, [], ◌∷◌, ◌++◌, Ok, Err, Result, Some, append_assoc, inl, inr, refl, sym, ap, ◌∙◌, subst, slice_get}
use Rattle.cga_order.specs.World.{Among}
use Rattle.cga_fraction.proofs.Door.{None-not-Some, same_Some}
use Rattle.cga_frame.specs.declared.scope_fault.ScopeFault.{ScopeFault}
use Rattle.cga_shape.specs.Root.{root_of}
use Rattle.cga_shape.specs.declared.lot.Lot.{Lot}
use Rattle.cga_shape.specs.declared.shape.Shape.{Shape}
use Rattle.cga_expand.specs.Derivation.{made, roots_of}

-- the roots of lots that stand one behind the other are the roots of the first, and then of the others
pub roots_of-append : (xs ys : List Lot) → roots_of (xs ++ ys) ≡ roots_of xs ++ roots_of ys
roots_of-append [] ys = refl
roots_of-append (x ∷ xs) ys =
    ap (λ l. made (root_of x) ++ l) (roots_of-append xs ys) ∙ sym (append_assoc (made (root_of x)) (roots_of xs) (roots_of ys))

-- a root stays one behind that of a lot, if that has one
pub among_behind_made : (r : Result Shape ScopeFault) (ns : List Shape) (n : Shape) → Among n ns
    → Among n (made r ++ ns)
among_behind_made (Ok s) ns n h = inr h
among_behind_made (Err f) ns n h = h

-- the root of a lot is among the roots
pub root_among : (lots : List Lot) (i : ℕ) (lot : Lot) (n : Shape) → slice_get lots i ≡ Some lot → root_of lot ≡ Ok n
    → Among n (roots_of lots)
root_among [] i lot n at is = None-not-Some lot at
root_among (x ∷ lots) zero lot n at is =
    subst (λ r. Among n (made r ++ roots_of lots)) (sym (ap root_of (same_Some x lot at) ∙ is)) (inl refl)
root_among (x ∷ lots) (suc i) lot n at is =
    among_behind_made (root_of x) (roots_of lots) n (root_among lots i lot n at is)
