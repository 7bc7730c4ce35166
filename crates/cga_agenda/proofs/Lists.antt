-- Shapes and members of lists, and roots.
use Rattle.std.proofs.Common.{◌≡◌, List, [], ◌∷◌, map, refl, ap, inl, inr}
use Rattle.cga_order.specs.Once.{Once}
use Rattle.cga_order.specs.World.{World, IsWorld, Among, Has}
use Rattle.cga_order.specs.declared.placed.Placed.{Placed}
use Rattle.cga_order.specs.declared.placed.Kind.{Kind}
use Rattle.cga_order.proofs.Door.{Once-index}
use Rattle.cga_agenda.specs.Known.{shapes_of}

module _ {N F P : Type 0} where
  -- the shape of a member is among the members' shapes
  pub Has-Among : (ms : List (Placed N F P)) (n : N) (k : Kind F P) → Has ms n k → Among n (shapes_of ms)
  Has-Among [] n k h = absurd h
  Has-Among (m ∷ ms) n k h = elim h [ inl e ↦ inl e.0 | inr r ↦ inr (Has-Among ms n k r) ]

  -- a shape that is among the members' shapes is a member, of some kind
  pub Among-Has : (ms : List (Placed N F P)) (n : N) → Among n (shapes_of ms) → (k : Kind F P) × Has ms n k
  Among-Has [] n h = absurd h
  Among-Has (m ∷ ms) n h = elim h [ inl e ↦ (m.kind, inl (e, refl)) | inr r ↦ let w = Among-Has ms n r in (w.0, inr w.1) ]

  pub Has-map : (f : Placed N F P → Placed N F P) (ms : List (Placed N F P)) (n : N) (k : Kind F P) → Has (map f ms) n k
      → (m : Placed N F P) × Has ms m.shape m.kind × ((f m).shape ≡ n) × ((f m).kind ≡ k)
  Has-map f [] n k h = absurd h
  Has-map f (m ∷ ms) n k h = elim h [
    | inl e ↦ (m, inl (refl, refl), e.0, e.1)
    | inr r ↦ let w = Has-map f ms n k r in (w.0, inr w.1, w.2, w.3)
  ]

  pub map-Has : (f : Placed N F P → Placed N F P) (ms : List (Placed N F P)) (m : Placed N F P) → Has ms m.shape m.kind
      → Has (map f ms) (f m).shape (f m).kind
  map-Has f [] m h = absurd h
  map-Has f (z ∷ ms) m h = elim h [
    | inl e ↦ let same : z ≡ m = (λ i. record { shape = e.0 i; kind = e.1 i }) in inl (ap (λ x. (f x).shape) same, ap (λ x. (f x).kind) same)
    | inr r ↦ inr (map-Has f ms m r)
  ]

-- no root stands twice
pub roots_once : {N A F P : Type 0} (world : World N A F P) → IsWorld world → Once world.roots
roots_once world laws = Once-index world.roots (λ x i j e f. laws.roots_apart i j x x e f refl)
