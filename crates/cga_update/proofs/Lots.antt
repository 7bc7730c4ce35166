-- Lots by their names, and their roots.
use Rattle.std.proofs.Common.{◌≡◌, ◌⊎◌, inl, inr, ℕ, ◌+◌, ◌<◌, ◌≤◌, List, Bool, true, false, cond, refl, sym, ap, ◌∙◌, subst, Option, Some, None, Ok, Err, Result, arith, length, [], slice_get}
use Rattle.std.specs.Map.{lookup}
use Rattle.std.specs.Prelude.{IsOk, if◌then◌else◌}
use Rattle.std.proofs.lemmas.List.Elements.{All-contains}
use Rattle.std.proofs.lemmas.Option.{slice_get_within, get_or_from_slice_get}
use lib.Pointwise.{bytes_decides}
use Rattle.cga_check.specs.Uses.{same_name}
use Rattle.cga_expand.proofs.Door.{root_is}
use Rattle.cga_fraction.proofs.Door.{None-not-Some as none_some, eq_or_ne as nat_cases, lt_or_eq_from_lt_suc as at_or_below, same_Some as some_same}
use Rattle.cga_expand.specs.Derivation.{priority_of, NamesDiffer}
use Rattle.cga_expand.specs.Validity.{RootsExist}
use Rattle.cga_forest.specs.declared.node.Node.{Node}
use Rattle.cga_frame.specs.Scope.{Scope}
use Rattle.cga_frame.specs.declared.scope_fault.ScopeFault.{ScopeFault}
use Rattle.cga_shape.specs.Root.{root_in, root_of, root_scope}
use Rattle.cga_shape.specs.declared.lot.Lot.{Lot}
use Rattle.cga_shape.specs.declared.shape.Shape.{Shape}
use Rattle.cga_shape.specs.declared.sources.Sources.{Sources}
use Rattle.cga_update.specs.ChangedLots.{DifferAt}
use Rattle.cga_update.specs.Roots.{AreByName, IsLotNamed, IsRootFor, IsWanted, if_named, lot_at}

name_sound : (a b : List ℕ) → same_name a b ≡ true → a ≡ b
name_sound a b h = (bytes_decides a b).0 h

name_own : (a : List ℕ) → same_name a a ≡ true
name_own a = (bytes_decides a a).1 refl

pub none_by_name : (lots : List Lot) (named : List (List ℕ × Lot)) → named ≡ [] → AreByName lots 0 named
none_by_name lots named none = record {
  only = λ name lot e. none_some lot (sym (ap (lookup (same_name name)) none) ∙ e);
  all = λ i lot le e. absurd (omega (arith, le));
}

-- one lot more
pub more_by_name : (lots : List Lot) (before after : List (List ℕ × Lot)) (n : ℕ) (x : Lot) → slice_get lots n ≡ Some x
    → ((name : List ℕ) → lookup (same_name name) after ≡ cond (same_name x.name name) (Some x)
    (lookup (same_name name) before))
    → AreByName lots n before → AreByName lots (n + 1) after
more_by_name lots before after n x at updates named = record {
  only = λ name lot e. only name lot e (same_name x.name name) refl (updates name);
  all = λ i lot le e. all i lot le e (same_name x.name lot.name) refl (updates lot.name);
}
  where
    only : (name : List ℕ) (lot : Lot) → lookup (same_name name) after ≡ Some lot → (b : Bool)
        → same_name x.name name ≡ b
        → lookup (same_name name) after ≡ cond b (Some x) (lookup (same_name name) before)
        → (lot.name ≡ name) × ((i : ℕ) × (slice_get lots i ≡ Some lot))
    only name lot e true is q =
        let same : x ≡ lot = some_same x lot (sym q ∙ e) in
        (ap (λ (l : Lot). l.name) (sym same) ∙ name_sound x.name name is, (n, at ∙ ap Some same))
    only name lot e false is q = named.only name lot (sym q ∙ e)

    all : (i : ℕ) (lot : Lot) → i < n + 1 → slice_get lots i ≡ Some lot → (b : Bool) → same_name x.name lot.name ≡ b
        → lookup (same_name lot.name) after ≡ cond b (Some x) (lookup (same_name lot.name) before)
        → (other : Lot) × (lookup (same_name lot.name) after ≡ Some other)
    all i lot le e true is q = (x, q)
    all i lot le e false is q = elim (at_or_below i n le) [
      | inl lower ↦ (let w = named.all i lot lower e in (w.0, q ∙ w.1))
      | inr here ↦ (
          let same : x ≡ lot = some_same x lot (sym at ∙ (ap (λ k. slice_get lots k) (sym here) ∙ e)) in
          let z : false ≡ true = sym is ∙ (ap (λ (l : Lot). same_name x.name l.name) (sym same) ∙ name_own x.name) in absurd (cc))
    ]

-- the root of a lot is in it
pub root_name : (lot : Lot) (s : Shape) → root_of lot ≡ Ok s → s.lot ≡ lot.name
root_name lot s is = let w = root_is lot s is in ap (λ (x : Shape). x.lot) (sym w.1)

-- lots of one name are one
pub same_lot : (lots : List Lot) → NamesDiffer lots → (i j : ℕ) (a b : Lot) → slice_get lots i ≡ Some a
    → slice_get lots j ≡ Some b → a.name ≡ b.name → a ≡ b
same_lot lots differ i j a b at of same = some_same a b (sym at ∙ (ap (λ k. slice_get lots k) (differ i j a b at of same) ∙ of))

-- the lot that a wanted root is of, where the lot of its name is known
pub wanted_for : (new : Sources) → NamesDiffer new.lots → (i : ℕ) (lot : Lot) → slice_get new.lots i ≡ Some lot
    → (n : Node) → IsWanted new n → n.shape.lot ≡ lot.name
    → IsRootFor lot (priority_of new.grammar lot.symbol) n
wanted_for new differ i lot at n w name =
    let same : w.lot ≡ lot = same_lot new.lots differ w.place i w.lot lot w.listed at (sym (root_name w.lot n.shape w.root.shape) ∙ name) in
    subst (λ (l : Lot). IsRootFor l (priority_of new.grammar l.symbol) n) same w.root

-- fewer lots
pub fewer_by_name : (lots : List Lot) (n m : ℕ) (named : List (List ℕ × Lot)) → m ≤ n → AreByName lots n named
    → AreByName lots m named
fewer_by_name lots n m named le by_name = record {
  only = by_name.only;
  all = λ i lot lt e. by_name.all i lot (omega (arith, lt, le)) e;
}

-- names are equal, or aren't
pub name_cases : (a b : List ℕ) → (a ≡ b) ⊎ (a ≡ b → ⊥)
name_cases a b = by_test (same_name a b) refl
  where
    by_test : (t : Bool) → same_name a b ≡ t → (a ≡ b) ⊎ (a ≡ b → ⊥)
    by_test true is = inl (name_sound a b is)
    by_test false is = inr (λ e. let z : false ≡ true = sym is ∙ (ap (λ x. same_name a x) (sym e) ∙ name_own a) in absurd (cc))

-- ---- which roots are wanted

-- no root of a name that no lot has
pub not_wanted : (new : Sources) (name : List ℕ) (found : Option Lot) → IsLotNamed new.lots name found → found ≡ None
    → (n : Node) → n.shape.lot ≡ name → IsWanted new n → ⊥
not_wanted new name found named none n same w = named.none none w.place w.lot w.listed (sym (root_name w.lot n.shape w.root.shape) ∙ same)

pub scope_of_lot : (lots : List Lot) → RootsExist lots → (i : ℕ) (lot : Lot) → slice_get lots i ≡ Some lot
    → IsOk (root_scope lot)
scope_of_lot lots exist i lot at =
    All-contains (λ (l : Lot). IsOk (root_scope l)) lots lot exist (i, slice_get_within lots i lot at, get_or_from_slice_get lots i lot lot at)

pub wanted_by : (new : Sources) (i : ℕ) (lot : Lot) → slice_get new.lots i ≡ Some lot → (p : ℕ)
    → p ≡ priority_of new.grammar lot.symbol → (n : Node) → IsRootFor lot p n → IsWanted new n
wanted_by new i lot at p is n root = record { place = i; lot = lot; listed = at; root = subst (λ k. IsRootFor lot k n) is root }

-- a lot whose root has a scope has a root
pub root_exists : (lot : Lot) → IsOk (root_scope lot) → (s : Shape) × (root_of lot ≡ Ok s)
root_exists lot ok = by_scope (root_scope lot) refl ok
  where
    by_scope : (r : Result Scope ScopeFault) → root_scope lot ≡ r → IsOk r → (s : Shape) × (root_of lot ≡ Ok s)
    by_scope (Ok scope) is ok = (root_in lot scope, rw is refl)
    by_scope (Err fault) is ok = absurd (cc)

-- ---- a lot that is looked up

-- by its name
pub found_by_name : (lots : List Lot) (named : List (List ℕ × Lot)) → AreByName lots (length lots) named
    → (name : List ℕ) (found : Option Lot) → lookup (same_name name) named ≡ found → IsLotNamed lots name found
found_by_name lots named by_name name found is = record {
  only = λ lot e. by_name.only name lot (is ∙ e);
  none = λ none i lot at same.
      let e = by_name.all i lot (slice_get_within lots i lot at) at in
      none_some e.0 (sym (is ∙ none) ∙ (ap (λ m. lookup (same_name m) named) (sym same) ∙ e.1));
}

-- a place is this one, or isn't
pub place_cases : (place : Option ℕ) (i : ℕ) → (place ≡ Some i) ⊎ (place ≡ Some i → ⊥)
place_cases None i = inr (λ e. none_some i e)
place_cases (Some k) i = elim (nat_cases k i) [ inl e ↦ inl (ap Some e) | inr other ↦ inr (λ e. other (some_same k i e)) ]

-- who is found at a place
pub found_at : (lots : List Lot) (place : Option ℕ) (lot : Lot) → lot_at lots place ≡ Some lot
    → (i : ℕ) × (place ≡ Some i) × (slice_get lots i ≡ Some lot)
found_at lots None lot e = none_some lot e
found_at lots (Some i) lot e = (i, refl, e)

named_here : (name : List ℕ) (x lot : Lot) (b : Bool) → same_name x.name name ≡ b
    → (if b then Some x else None) ≡ Some lot → (lot.name ≡ name) × (x ≡ lot)
named_here name x lot true is e =
    let same : x ≡ lot = some_same x lot e in
    (ap (λ (l : Lot). l.name) (sym same) ∙ name_sound x.name name is, same)
named_here name x lot false is e = none_some lot e

named_at : (name : List ℕ) (found : Option Lot) (lot : Lot) → if_named name found ≡ Some lot
    → (lot.name ≡ name) × (found ≡ Some lot)
named_at name None lot e = none_some lot e
named_at name (Some x) lot e = let w = named_here name x lot (same_name x.name name) refl e in (w.0, ap Some w.1)

if_own : (lot : Lot) (name : List ℕ) → lot.name ≡ name → if_named name (Some lot) ≡ Some lot
if_own lot name same = ap (λ b. if b then Some lot else None) (ap (λ n. same_name n name) same ∙ name_own name)

-- of the lots that differ: the new one at its place is the one of the old one's name, or there is none of that name
pub found_again : (old new : Sources) (gone come : Option ℕ) → DifferAt old new gone come → NamesDiffer old.lots
    → (was : Lot) → lot_at old.lots gone ≡ Some was
    → IsLotNamed new.lots was.name (if_named was.name (lot_at new.lots come))
found_again old new gone come differ apart was at = record {
  only = λ lot e.
      let w = named_at was.name (lot_at new.lots come) lot e in
      let z = found_at new.lots come lot w.1 in
      (w.0, (z.0, z.2));
  none = λ none i lot is same. elim (place_cases come i) [
    | inl here ↦ none_some lot (sym none ∙ (ap (if_named was.name) (ap (lot_at new.lots) here ∙ is) ∙ if_own lot was.name same))
    | inr other ↦ (
        let stood = differ.stood i lot is other in
        let z = found_at old.lots gone was at in
        absurd (stood.1.other (z.1 ∙ ap Some (apart z.0 stood.0 was lot z.2 stood.1.listed (sym same)))))
  ];
}
