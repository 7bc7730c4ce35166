-- One turn of the loops over items and parts.
use Rattle.std.proofs.Common.{◌≡◌, ℕ, ◌+◌, ◌<◌, ◌≤◌, List, [], ◌∷◌, map, drop, length, get_or, refl, ap, sym, ◌∙◌, Ok, Err}
use Rattle.std.specs.Prelude.{Result}
use Rattle.std.proofs.lemmas.List.{at_drop_more, at_drop_all}
use Rattle.cga_rule.specs.declared.item.Item.{Item}
use Rattle.cga_shape.specs.declared.shape_fault.ShapeFault.{ShapeFault}
use Rattle.cga_expand.specs.declared.progress.Progress.{Progress}
use Rattle.cga_rule.specs.declared.item.Body.{Body}
use Rattle.cga_fraction.specs.Results.{and_then}
use Rattle.cga_frame.specs.Scope.{Scope}
use Rattle.cga_expr.specs.Names.{Known}
use Rattle.cga_fraction.specs.Stops.{StopsAs}
use Rattle.cga_expand.specs.Walk.{Walk, with_scope, over_body, over_bodies, body_walk, item_walk, in_turn}
use Rattle.cga_fraction.specs.declared.stop.Stop.{Stop}
use Rattle.cga_fraction.specs.declared.stop.Stop.TheVariants.{Fault, NoMemory}

pub items_turn : (k : Known) (xs : List Item) (i : ℕ) (d : Item) (s : Progress) → i < length xs
    → in_turn (map item_walk (drop i xs)) k s ≡ and_then (item_walk (get_or xs i d) k s)
    (in_turn (map item_walk (drop (i + 1) xs)) k)
items_turn k xs i d s h = at_drop_more (λ r. in_turn (map item_walk r) k s) xs i d h

module _ (k : Known) (xs : List Item) (i : ℕ) (item : Item) (s : Progress) (lt : i < length xs) (at : item ≡ get_or xs i item) where
  turn : in_turn (map item_walk (drop i xs)) k s ≡ and_then (item_walk item k s)
      (in_turn (map item_walk (drop (i + 1) xs)) k)
  turn = items_turn k xs i item s lt ∙ ap (λ (m : Item). and_then (item_walk m k s) (in_turn (map item_walk (drop (i + 1) xs)) k)) (sym at)

  pub items_on : (new : Progress) (r : Result Progress ShapeFault) → item_walk item k s ≡ Ok new
      → in_turn (map item_walk (drop i xs)) k s ≡ r → in_turn (map item_walk (drop (i + 1) xs)) k new ≡ r
  items_on new r e g = ap (λ o. and_then o (in_turn (map item_walk (drop (i + 1) xs)) k)) (sym e) ∙ sym turn ∙ g

  pub items_stop : (f : ShapeFault) (r : Result Progress ShapeFault) → item_walk item k s ≡ Err f
      → in_turn (map item_walk (drop i xs)) k s ≡ r → r ≡ Err f
  items_stop f r e g = sym g ∙ turn ∙ ap (λ o. and_then o (in_turn (map item_walk (drop (i + 1) xs)) k)) e

  pub items_stops : (stop : Stop ShapeFault) (r : Result Progress ShapeFault) → StopsAs stop (item_walk item k s)
      → in_turn (map item_walk (drop i xs)) k s ≡ r → StopsAs stop r
  items_stops (Fault f) r e g = items_stop f r e g
  items_stops NoMemory r e g = tt

module _ (k : Known) (w : Walk) (xs : List Scope) (i : ℕ) (part : Scope) (s : Progress) (lt : i < length xs) (at : part ≡ get_or xs i part) where
  body_turn : over_body w (drop i xs) k s ≡ and_then (w k (with_scope part s)) (over_body w (drop (i + 1) xs) k)
  body_turn = at_drop_more (λ r. over_body w r k s) xs i part lt ∙ ap (λ (p : Scope). and_then (w k (with_scope p s)) (over_body w (drop (i + 1) xs) k)) (sym at)

  pub body_on : (new : Progress) (r : Result Progress ShapeFault) → w k (with_scope part s) ≡ Ok new
      → over_body w (drop i xs) k s ≡ r → over_body w (drop (i + 1) xs) k new ≡ r
  body_on new r e g = ap (λ o. and_then o (over_body w (drop (i + 1) xs) k)) (sym e) ∙ sym body_turn ∙ g

no_bodies : (k : Known) (parts : List Scope) (s : Progress) → over_bodies [] parts k s ≡ Ok s
no_bodies k [] s = refl
no_bodies k (p ∷ ps) s = refl

pub bodies_end : (k : Known) (parts : List Scope) (xs : List Body) (i : ℕ) (s : Progress)
    (r : Result Progress ShapeFault)
    → length xs ≤ i → over_bodies (map body_walk (drop i xs)) parts k s ≡ r → r ≡ Ok s
bodies_end k parts xs i s r h g = sym g ∙ at_drop_all (λ ys. over_bodies (map body_walk ys) parts k s) xs i h ∙ no_bodies k parts s
