-- Which lots differ between old and new sources.
use Rattle.std.specs.Prelude.{◌≡◌, ℕ, Option, Some, None, refl, slice_get}
use Rattle.std.specs.Coded.{Coded-set}
use Rattle.std.proofs.Math.Path.{PathP, to_path_p}
use Rattle.std.proofs.Props.{props}
use Rattle.cga_expand.specs.Derivation.{NamesDiffer, priority_of}
use Rattle.cga_shape.specs.contracts.lot.Lot as of_lot
use Rattle.cga_shape.specs.declared.lot.Lot.{Lot}
use Rattle.cga_shape.specs.declared.sources.Sources.{Sources}
use Rattle.cga_update.specs.declared.changed_lots.ChangedLots.{ChangedLots}
use Rattle.cga_update.specs.declared.changed_lots.ChangedLots.TheVariants as changed

-- the lot stands in the second sources at the place j, which isn't q, and its symbol has the same priority in both
pub record StandsAt (first second : Sources) (q : Option ℕ) (lot : Lot) (j : ℕ) : Type 0 where
  pub listed : slice_get second.lots j ≡ Some lot
  pub other : q ≡ Some j → ⊥
  pub priority : priority_of first.grammar lot.symbol ≡ priority_of second.grammar lot.symbol

-- each lot of the first sources but the one at p stands so in the second
abbrev pub StayBut : Sources → Option ℕ → Sources → Option ℕ → Type 0
StayBut first p second q =
    (i : ℕ) (lot : Lot) → slice_get first.lots i ≡ Some lot → (p ≡ Some i → ⊥)
    → (j : ℕ) × StandsAt first second q lot j

-- no lots differ but an old one at the place gone and a new one at the place come, where these are places
pub record DifferAt (old new : Sources) (gone come : Option ℕ) : Type 0 where
  pub stay : StayBut old gone new come
  pub stood : StayBut new come old gone

-- no lots differ but those that are named
abbrev pub AreChanged : ChangedLots → Sources → Sources → Type 0
AreChanged changed.Nothing old new = DifferAt old new None None
AreChanged (changed.One gone come) old new = DifferAt old new gone come
AreChanged changed.All old new = Unit {0}

-- ---- this has one proof at most, since no two places have the same lot

lot_set : IsSet Lot
lot_set = Coded-set of_lot.the_row.coded

StandsAt-prop : (first second : Sources) (q : Option ℕ) (lot : Lot) (j : ℕ) → IsProp (StandsAt first second q lot j)
StandsAt-prop first second q lot j = hlevel (props, lot_set)

one_place : (first second : Sources) (q : Option ℕ) (lot : Lot) → NamesDiffer second.lots
    → IsProp ((j : ℕ) × StandsAt first second q lot j)
one_place first second q lot apart x y =
    let e : x.0 ≡ y.0 = apart x.0 y.0 lot lot x.1.listed y.1.listed refl in
    let stands : PathP (λ k. StandsAt first second q lot (e k)) x.1 y.1 = to_path_p (λ k. StandsAt first second q lot (e k)) (StandsAt-prop first second q lot y.0 _ y.1) in
    λ k. (e k, stands k)

StayBut-prop : (first second : Sources) (p q : Option ℕ) → NamesDiffer second.lots
    → IsProp (StayBut first p second q)
StayBut-prop first second p q apart x y k i lot at other = one_place first second q lot apart (x i lot at other) (y i lot at other) k

DifferAt-prop : (old new : Sources) (gone come : Option ℕ) → NamesDiffer old.lots → NamesDiffer new.lots
    → IsProp (DifferAt old new gone come)
DifferAt-prop old new gone come old_names names x y k = record {
  stay = StayBut-prop old new gone come names x.stay y.stay k;
  stood = StayBut-prop new old come gone old_names x.stood y.stood k;
}

pub AreChanged-prop : (lots : ChangedLots) (old new : Sources) → NamesDiffer old.lots → NamesDiffer new.lots
    → IsProp (AreChanged lots old new)
AreChanged-prop changed.Nothing old new old_names names = DifferAt-prop old new None None old_names names
AreChanged-prop (changed.One gone come) old new old_names names = DifferAt-prop old new gone come old_names names
AreChanged-prop changed.All old new old_names names = hlevel props
