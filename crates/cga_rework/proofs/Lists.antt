-- Lists of shapes, and instances of lists without the priorities of their paths.
use Rattle.std.proofs.Common.{◌≡◌, ◌+◌, List, [], ◌∷◌, map, Bool, cond, refl, sym, ap, ◌∙◌, subst, inl, inr}
use Rattle.std.specs.Prelude.{count_by}
use Rattle.std.proofs.lemmas.List.Sums.{sum_by-cons}
use Rattle.cga_order.specs.World.{Among}
use Rattle.cga_order.specs.declared.placed.Placed.{Placed}
use Rattle.cga_order.specs.declared.placed.Kind.{Kind}
use Rattle.cga_order.specs.declared.placed.Kind.TheVariants.{Waiting, Done, Faulted, Instance}
use Rattle.cga_rework.specs.Ranked.{Ranked, unranked}
use Rattle.cga_order.specs.Once.{Once}
use Rattle.cga_agenda.specs.Record.{drawn}
use Rattle.cga_rework.specs.Ranked.{unranked_drawn}
pub use Rattle.cga_order.proofs.Door.{Among-map, map-Among}

module _ {X Y : Type 0} (f : X → Y) where
  pub Once-map : (xs : List X) → Once xs → ((x y : X) → Among x xs → Among y xs → f x ≡ f y → x ≡ y) → Once (map f xs)
  Once-map [] o same = tt
  Once-map (x ∷ xs) o same = (
    (λ h. let w = Among-map f xs (f x) h in o.0 (subst (λ y. Among y xs) (same w.0 x (inr w.1) (inl refl) w.2) w.1)),
    Once-map xs o.1 (λ y z g h e. same y z (inr g) (inr h) e),
  )

  -- as many elements of a mapped list pass a test as elements of the list have images that do
  pub count-map : (test : Y → Bool) (xs : List X) → count_by test (map f xs) ≡ count_by (λ x. test (f x)) xs
  count-map test [] = refl
  count-map test (x ∷ xs) =
      sum_by-cons (λ y. cond (test y) 1 0) (f x) (map f xs)
      ∙ (ap (λ n. cond (test (f x)) 1 0 + n) (count-map test xs) ∙ sym (sum_by-cons (λ y. cond (test (f y)) 1 0) x xs))

module _ {S F P : Type 0} where
  pub drawn-unranked : (ms : List (Placed (Ranked S) F P)) → drawn (map unranked ms) ≡ map unranked_drawn (drawn ms)
  drawn-unranked [] = refl
  drawn-unranked (m ∷ ms) = by m.kind (drawn-unranked ms)
    where
      by : (k : Kind F P) → drawn (map unranked ms) ≡ map unranked_drawn (drawn ms)
          → drawn {N = S} {F = F} {P = P} (record { shape = m.shape.shape; kind = k } ∷ map unranked ms) ≡ map
          unranked_drawn (drawn (record { shape = m.shape; kind = k } ∷ ms))
      by Waiting e = e
      by Done e = e
      by (Faulted f) e = e
      by (Instance p) e = ap (λ l. record { shape = m.shape.shape; solid = p } ∷ l) e
