-- Districts: two parts of the roots, by lots, whose shapes don't see one another.
use Rattle.std.specs.Prelude.{◌≡◌, ◌≢◌, ◌+◌, List, ◌++◌, false, ◌⊎◌, length}
use Rattle.cga_order.specs.declared.placed.Placed.{Placed}
use Rattle.cga_order.specs.declared.placed.Kind.{Kind}
use Rattle.cga_order.specs.World.{Has, Among, is_instance}
use Rattle.cga_order.specs.Consistent.{SameMembers}
use Rattle.cga_derivation.specs.Derivation.{Derivation, IsDerivation, IsDerived}

module _ {N A F P : Type 0} (derivation : Derivation N A F P) where
  -- the derivation from these roots alone
  abbrev pub district : List N → Derivation N A F P
  district roots = record derivation { roots = roots }

  -- each root is in one of the parts, and the parts have no lot in common
  pub record AreParts (left right : List N) : Type 0 where
    pub each : (n : N) → Among n derivation.roots → Among n left ⊎ Among n right
    pub left_roots : (n : N) → Among n left → Among n derivation.roots
    pub right_roots : (n : N) → Among n right → Among n derivation.roots
    pub lots : (n m : N) → Among n left → Among m right → derivation.lot n ≢ derivation.lot m

  -- what the first has beside instances sees no member of the second
  abbrev pub SeesNone : List (Placed N F P) → List (Placed N F P) → Type 0
  SeesNone xs ys =
      (n m : N) (k j : Kind F P) → Has xs n k → is_instance k ≡ false → Has ys m j
      → derivation.sees n m ≡ false

  -- what two such derivations end with are together the members of that from all roots, which ends
  abbrev pub AreApart : Type 0
  AreApart =
      (left right : List N) → AreParts left right
      → IsDerivation (district left) → IsDerivation (district right)
      → (xs ys : List (Placed N F P)) → IsDerived (district left) xs → IsDerived (district right) ys
      → SeesNone xs ys → SeesNone ys xs
      → (list : List (Placed N F P)) × IsDerived derivation list × SameMembers (xs ++ ys) list
      × (length list ≡ length xs + length ys)

abbrev pub DistrictsAreApart : (N A F P : Type 0) → Type 0
DistrictsAreApart N A F P = (derivation : Derivation N A F P) → IsDerivation derivation → AreApart derivation
