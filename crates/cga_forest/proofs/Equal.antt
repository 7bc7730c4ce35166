-- When an old child stays, as a fact.
use Rattle.std.proofs.Common.{◌≡◌, Bool, true, false, ◌&&◌, refl, sym, ap, subst, ◌∙◌, nat_eq, eqb-true, eq-eqb, IsTrue, ◌↔◌}
use denote.Enum.Bare.{same_true}
use lib.Pointwise.{pointwise}
use Rattle.cga_fraction.specs.contracts.fraction.FractionPartialEq.TheImpl as fraction
use Rattle.cga_word.specs.contracts.primitive.Primitive as primitive
use Rattle.cga_word.specs.contracts.primitive.PrimitiveEq.TheImpl.Laws as equal
use Rattle.cga_word.specs.declared.primitive.Primitive.{Primitive}
use Rattle.cga_order.specs.World.{is_instance}
use Rattle.cga_order.specs.declared.placed.Kind.{Kind}
use Rattle.cga_order.specs.declared.placed.Kind.TheVariants.{Instance}
use Rattle.cga_shape.specs.Equal.{same_shape}
use Rattle.cga_frame.specs.contracts.scope.ScopePartialEq.TheImpl as scope
use Rattle.cga_shape.specs.declared.shape.Shape.{Shape}
use Rattle.cga_shape.specs.declared.shape_fault.ShapeFault.{ShapeFault}
use Rattle.cga_fraction.proofs.Door.{false-not-true as not_so}
use Rattle.cga_shape.proofs.Door.{shape_equal}
use Rattle.cga_forest.specs.declared.node.Node.{Node}
use Rattle.cga_forest.specs.Node.{same_sort, fits, AreAlike}
use Rattle.std.proofs.lemmas.Bool.{and_from as pair, and_parts as both}

-- neither an instance, or instances of one primitive
sort_sound : (k l : Kind ShapeFault Primitive) → same_sort k l ≡ true
    → (is_instance k ≡ is_instance l) × (is_instance l ≡ true → k ≡ l)
sort_sound (Instance p) (Instance q) h = (refl, λ x. ap Instance (same_true primitive.the_type tt p q h))
sort_sound (Instance p) l h = not_so h
sort_sound k (Instance q) h = not_so h
sort_sound k l h = (refl, λ x. not_so x)

sort_whole : (k l : Kind ShapeFault Primitive) → is_instance k ≡ is_instance l → (is_instance l ≡ true → k ≡ l)
    → same_sort k l ≡ true
sort_whole (Instance p) (Instance q) e s = subst (λ k. same_sort (Instance p) k ≡ true) (s refl) (equal.laws-law.refl p)
sort_whole (Instance p) l e s = not_so (sym e)
sort_whole k (Instance q) e s = not_so e
sort_whole k l e s = refl

early : (l s p a c d : Bool) → (c && (l && (s && (p && (a && (c && d)))))) ≡ (l && (s && (p && (a && (c && d)))))
early l s p a true d = refl
early false s p a false d = refl
early true false p a false d = refl
early true true false a false d = refl
early true true true false false d = refl
early true true true true false d = refl

-- the scopes may be compared before the shapes as a whole
pub scope_first : (x y : Shape) → ((scope.ghosts).eq x.scope y.scope && same_shape x y) ≡ same_shape x y
scope_first x y =
    early (pointwise nat_eq x.lot y.lot) (pointwise nat_eq x.symbol y.symbol) (pointwise nat_eq x.path y.path) (pointwise (fraction.ghosts).eq x.args y.args)
    ((scope.ghosts).eq x.scope y.scope) (nat_eq x.seed y.seed)

-- Nodes that fit are alike.
pub fits_sound : (x y : Node) → fits x y ≡ true → AreAlike x y
unfolding fits
fits_sound x y h =
    let p = both (nat_eq x.priority y.priority) _ h in
    let s = both (same_sort x.kind y.kind) (same_shape x.shape y.shape) p.1 in
    let k = sort_sound x.kind y.kind s.0 in
    record { shape = (shape_equal x.shape y.shape).0 s.1; priority = eqb-true x.priority y.priority p.0; instances = k.0; primitive = k.1 }

-- Nodes that are alike fit.
pub fits_whole : (x y : Node) → AreAlike x y → fits x y ≡ true
unfolding fits
fits_whole x y a =
    pair (nat_eq x.priority y.priority) _ (eq-eqb x.priority y.priority a.priority)
    (pair (same_sort x.kind y.kind) (same_shape x.shape y.shape) (sort_whole x.kind y.kind a.instances a.primitive) ((shape_equal x.shape y.shape).1 a.shape))

-- the test of what stays, as a fact
pub fits_exact : (x y : Node) (r : Bool) → r ≡ fits x y → IsTrue r ↔ AreAlike x y
fits_exact x y r e = (λ t. fits_sound x y (sym e ∙ t), λ a. e ∙ fits_whole x y a)
