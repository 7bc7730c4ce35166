-- Districts of a town are derived apart.
use Rattle.std.proofs.Common.{◌≡◌, ◌+◌, List, [], ◌∷◌, ◌++◌, length, Bool, true, false, refl, sym, ap, ◌∙◌, subst, ◌⊎◌, inl, inr, Result, Ok, Err, arith, not, ◌&&◌, ◌||◌}
use Rattle.cga_word.specs.declared.answers.Answers.{Answers}
use Rattle.cga_word.specs.declared.primitive.Primitive.{Primitive}
use Rattle.cga_word.specs.declared.target.Target.{Target}
use Rattle.cga_word.specs.declared.target.Target.TheVariants.{Noparent, Active}
use Rattle.cga_frame.specs.Box.{box_of, meets}
use Rattle.cga_frame.specs.declared.scope_fault.ScopeFault.{ScopeFault}
use Rattle.cga_order.specs.World.{Among}
use Rattle.cga_expand.proofs.Door.{among_behind_made, root_is, sources_are_derivations}
use Rattle.cga_order.proofs.Door.{Among-index, slice_get-within}
use Rattle.cga_rule.specs.declared.grammar.Grammar.{Grammar}
use Rattle.cga_shape.specs.declared.lot.Lot.{Lot}
use Rattle.cga_shape.specs.declared.shape.Shape.{Shape}
use Rattle.cga_shape.specs.declared.shape_fault.ShapeFault.{ShapeFault}
use Rattle.cga_shape.specs.declared.sources.Sources.{Sources}
use Rattle.cga_shape.specs.Root.{root_of}
use Rattle.cga_expand.specs.Asked.{asks_for, on_path, sees}
use Rattle.cga_expand.specs.Children.{Member}
use Rattle.cga_expand.specs.Derivation.{derivation_of, NamesDiffer, roots_of, made}
use Rattle.cga_region.specs.Districts.{AreParts, DistrictsAreApart, SeesNone}
use Rattle.cga_region.specs.Towns.{with_lots, AreLots, NoneAsks, MeetsNone, LotsAreApart}
use Rattle.cga_region.proofs.Lists.{get-right}
use Rattle.std.proofs.lemmas.Bool.{or_cases as either_asks}
use Rattle.cga_fraction.proofs.Door.{slice_get-append_left}

-- ---- roots and their lots

from_first : (x : Lot) (lots : List Lot) (r : Result Shape ScopeFault) → root_of x ≡ r → (n : Shape)
    → ((m : Shape) → Among m (roots_of lots) → (y : Lot) × Among y lots × (root_of y ≡ Ok m))
    → Among n (made r ++ roots_of lots) → (y : Lot) × Among y (x ∷ lots) × (root_of y ≡ Ok n)
from_first x lots (Ok s) is n more h = elim h [
  | inl e ↦ (x, inl refl, is ∙ ap Ok e)
  | inr r ↦ let w = more n r in (w.0, inr w.1, w.2)
]
from_first x lots (Err f) is n more h = let w = more n h in (w.0, inr w.1, w.2)

pub lot_of_root : (lots : List Lot) (n : Shape) → Among n (roots_of lots)
    → (y : Lot) × Among y lots × (root_of y ≡ Ok n)
lot_of_root [] n h = absurd h
lot_of_root (x ∷ lots) n h = from_first x lots (root_of x) refl n (lot_of_root lots) h

pub root_of_lot : (lots : List Lot) (x : Lot) (n : Shape) → Among x lots → root_of x ≡ Ok n → Among n (roots_of lots)
root_of_lot [] x n h e = absurd h
root_of_lot (y ∷ lots) x n h e = elim h [
  | inl q ↦ subst (λ r. Among n (made r ++ roots_of lots)) (sym (ap root_of q ∙ e)) (inl refl)
  | inr r ↦ among_behind_made (root_of y) (roots_of lots) n (root_of_lot lots x n r e)
]

-- ---- names

-- where the names of lots differ, so do those of the first of them
pub differ_left : (xs ys : List Lot) → NamesDiffer (xs ++ ys) → NamesDiffer xs
differ_left xs ys differ i j a b e f = differ i j a b (slice_get-append_left xs ys i a e) (slice_get-append_left xs ys j b f)

-- where the names of lots differ, so do those of the last of them
pub differ_right : (xs ys : List Lot) → NamesDiffer (xs ++ ys) → NamesDiffer ys
differ_right xs ys differ i j a b e f same =
    let h = differ (length xs + i) (length xs + j) a b (get-right xs ys _ i a e refl) (get-right xs ys _ j b f refl) same in
    omega (arith, h)

-- where the names of lots differ, none of the first has the name of one of the last
pub two_names : (xs ys : List Lot) → NamesDiffer (xs ++ ys) → (x y : Lot) → Among x xs → Among y ys → x.name ≡ y.name
    → ⊥
two_names xs ys differ x y h g same =
    let i = Among-index xs x h in
    let j = Among-index ys y g in
    let below = slice_get-within xs i.0 x i.1 in
    let at = differ i.0 (length xs + j.0) x y (slice_get-append_left xs ys i.0 x i.1) (get-right xs ys _ j.0 y j.1 refl) same in
    omega (arith, below, at)

pub name_of : (x : Lot) (n : Shape) → root_of x ≡ Ok n → n.lot ≡ x.name
name_of x n e = ap (λ (s : Shape). s.lot) (sym (root_is x n e).1)

-- ---- what is seen

off : (a b c : Bool) → (a ≡ true → b ≡ false) → (a && (b && c)) ≡ false
off true b c h = ap (λ x. x && c) (h refl)
off false b c h = refl

sees_not : (grammar : Grammar) (s m : Shape)
    → ((target : Target) → asks_for grammar s.symbol target ≡ true → meets (box_of m.scope) (box_of s.scope) ≡ false)
    → sees grammar s m ≡ false
unfolding sees
sees_not grammar s m h = off (asks_for grammar s.symbol Noparent || asks_for grammar s.symbol Active)
    (meets (box_of m.scope) (box_of s.scope)) (not (on_path m s))
    (λ e. elim (either_asks (asks_for grammar s.symbol Noparent) (asks_for grammar s.symbol Active) e) [ inl a ↦ h Noparent a | inr a ↦ h Active a ])

module _ (sources : Sources) (differ : NamesDiffer sources.lots) (left right : List Lot) (lots : AreLots sources left right) where
  parts : AreParts (derivation_of sources) (roots_of left) (roots_of right)
  parts = record {
    each = λ n h.
        let w = lot_of_root sources.lots n h in
        elim (lots.each w.0 w.1) [ inl l ↦ inl (root_of_lot left w.0 n l w.2) | inr r ↦ inr (root_of_lot right w.0 n r w.2) ];
    left_roots = λ n h. let w = lot_of_root left n h in root_of_lot sources.lots w.0 n (lots.left_lots w.0 w.1) w.2;
    right_roots = λ n h. let w = lot_of_root right n h in root_of_lot sources.lots w.0 n (lots.right_lots w.0 w.1) w.2;
    lots = λ n m h g same.
        let v = lot_of_root left n h in
        let w = lot_of_root right m g in
        two_names left right lots.differ v.0 w.0 v.1 w.1 (sym (name_of v.0 n v.2) ∙ (same ∙ name_of w.0 m w.2));
  }

  unseen : (xs ys : List Member) → NoneAsks sources.grammar ⊎ MeetsNone sources.grammar xs ys
      → SeesNone (derivation_of sources) xs ys
  unseen xs ys h n m k j a p b = sees_not sources.grammar n m (λ target e. elim h [
    | inl quiet ↦ (let x : true ≡ false = sym e ∙ quiet n.symbol target in cc)
    | inr far ↦ far n m k j target a p e b
  ])

-- two districts that are apart are derived apart
pub towns : DistrictsAreApart Shape Answers ShapeFault Primitive → LotsAreApart
towns apart sources differ left right lots xs ys ends_left ends_right far =
    apart (derivation_of sources) (sources_are_derivations sources differ) (roots_of left) (roots_of right) (parts sources differ left right lots)
    (sources_are_derivations (with_lots sources left) (differ_left left right lots.differ))
    (sources_are_derivations (with_lots sources right) (differ_right left right lots.differ))
    xs ys ends_left ends_right
    (unseen sources differ left right lots xs ys (elim far [ inl q ↦ inl q | inr f ↦ inr f.0 ]))
    (unseen sources differ left right lots ys xs (elim far [ inl q ↦ inl q | inr f ↦ inr f.1 ]))
