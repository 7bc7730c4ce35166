-- The loop over the lots.
use Rattle.std.proofs.Common.{◌≡◌, ℕ, zero, suc, ◌+◌, ◌<◌, ◌≤◌, List, [], ◌∷◌, ◌++◌, length, map, take, drop, sym, ap, ◌∙◌, subst, arith, get_or, Ok}
use Rattle.std.specs.BTreeMap.{insert_entry}
use Rattle.cga_order.specs.declared.placed.Kind.TheVariants.{Waiting}
use Rattle.cga_expand.proofs.Door.{root_is, roots_of-append, sources_are_derivations}
use Rattle.cga_fraction.proofs.Door.{length-map, map-append, take-all}
use Rattle.cga_order.proofs.Door.{agrees}
use Rattle.cga_derivation.specs.Sites.{chain_of}
use Rattle.cga_derivation.proofs.Door as ends
use Rattle.cga_shape.specs.declared.lot.Lot.{Lot}
use Rattle.cga_shape.specs.declared.sources.Sources.{Sources}
use Rattle.cga_order.specs.declared.stamp_key.StampKey.{StampKey}
use Rattle.cga_expand.specs.Derivation.{priority_of}
use Rattle.cga_expand.specs.Children.{Member}
use Rattle.cga_shape.specs.Root.{root_of}
use Rattle.cga_shape.specs.declared.shape.Shape.{Shape}
use Rattle.cga_expand.specs.Derivation.{made, roots_of, derivation_of, NamesDiffer}
use Rattle.cga_order.specs.Key.{chain_of_key, key_cmp}
use Rattle.cga_derive.specs.Run.{Sites, HasKeys, IsAfter}
use Rattle.cga_order.specs.ChildKeys.{IsRootKey}

-- the roots of so many lots, all waiting, and the same as sites
abbrev pub roots_up : List Lot → ℕ → List Member
roots_up lots n = map (λ r. record { shape = r; kind = Waiting }) (roots_of (take n lots))

abbrev pub root_sites_up : List Lot → ℕ → Sites
root_sites_up lots n = map (λ r. record { shape = record { shape = r; above = [] }; kind = Waiting }) (roots_of (take n lots))

split : {X : Type 0} (xs : List X) (i : ℕ) (x : X) → i < length xs → x ≡ get_or xs i x
    → (take (suc i) xs ≡ take i xs ++ x ∷ []) × (xs ≡ take i xs ++ x ∷ drop (suc i) xs)
split [] i x h e = absurd (omega (arith, h))
split (y ∷ xs) zero x h e = (ap (λ z. z ∷ []) (sym e), ap (λ z. z ∷ xs) (sym e))
split (y ∷ xs) (suc i) x h e =
    let w = split xs i x (omega (arith, h)) e in
    (ap (λ l. y ∷ l) w.0, ap (λ l. y ∷ l) w.1)

module _ (sources : Sources) (differ : NamesDiffer sources.lots) where
  module _ (i : ℕ) (lot : Lot) (within : i < length sources.lots) (item : lot ≡ get_or sources.lots i lot) (root : Shape) (is : root_of lot ≡ Ok root) where
    first_roots : roots_of (take (i + 1) sources.lots) ≡ roots_of (take i sources.lots) ++ root ∷ []
    first_roots =
        let w = split sources.lots i lot within item in
        let one : i + 1 ≡ suc i = omega arith in
        ap roots_of (ap (λ n. take n sources.lots) one ∙ w.0) ∙ (roots_of-append (take i sources.lots) (lot ∷ []) ∙ ap (λ r. roots_of (take i sources.lots) ++ (made r ++ [])) is)

    all_roots : roots_of sources.lots ≡ roots_of (take i sources.lots) ++ root ∷ roots_of (drop (suc i) sources.lots)
    all_roots =
        let w = split sources.lots i lot within item in
        ap roots_of w.1 ∙ (roots_of-append (take i sources.lots) (lot ∷ drop (suc i) sources.lots) ∙ ap (λ r. roots_of (take i sources.lots) ++ (made r ++ roots_of (drop (suc i) sources.lots))) is)

    pub roots-more : (list : List Member) → list ≡ roots_up sources.lots i
        → list ++ record { shape = root; kind = Waiting } ∷ [] ≡ roots_up sources.lots (i + 1)
    roots-more list up =
        ap (λ l. l ++ record { shape = root; kind = Waiting } ∷ []) up
        ∙ (sym (map-append (λ r. record { shape = r; kind = Waiting }) (roots_of (take i sources.lots))
        (root ∷ [])) ∙ ap (map (λ r. record { shape = r; kind = Waiting })) (sym first_roots))

    pub keys-more : (es new : List (StampKey × ℕ)) (key : StampKey) (place : ℕ) (list : List Member)
        → list ≡ roots_up sources.lots i → HasKeys sources (root_sites_up sources.lots i) es
        → IsRootKey sources.mode lot.name (priority_of sources.grammar lot.symbol) key → place ≡ length list
        → new ≡ insert_entry key_cmp es key place → HasKeys sources (root_sites_up sources.lots (i + 1)) new
    keys-more es new key place list up has top at inserted =
        let rs = roots_of (take i sources.lots) in
        let own = root_is lot root is in
        let chain = subst (λ n. chain_of_key key ≡ chain_of (derivation_of sources)
        (record { shape = n; above = [] })) own.1 (λ t. record { lot = top.lot t; path = top.path t; priorities = top.priorities t }) in
        let pushed = ends.start-push (derivation_of sources) (sources_are_derivations sources differ) (λ k. k.mode)
        chain_of_key key_cmp (agrees sources.mode) rs root (roots_of (drop (suc i) sources.lots)) all_roots es has key top.mode chain in
        let size : place ≡ length rs = at ∙ (ap length up ∙ length-map (λ r. record { shape = r; kind = Waiting }) rs) in
        subst (λ l. HasKeys sources (map (λ r. record { shape = record { shape = r; above = [] }; kind = Waiting })
        l) new) (sym first_roots) (subst
        (λ e. HasKeys sources (map (λ r. record { shape = record { shape = r; above = [] }; kind = Waiting })
        (rs ++ root ∷ [])) e) (sym (inserted ∙ ap (insert_entry key_cmp es key) size)) pushed)

  pub started : (i : ℕ) (list : List Member) (es : List (StampKey × ℕ)) → length sources.lots ≤ i
      → list ≡ roots_up sources.lots i → HasKeys sources (root_sites_up sources.lots i) es → IsAfter sources 0 list es
  started i list es end is has =
      let whole = take-all sources.lots i end in
      let all = ends.start-all (derivation_of sources) (sources_are_derivations sources differ) (λ k. k.mode)
      chain_of_key key_cmp (agrees sources.mode) es
      (subst (λ l. HasKeys sources (map (λ r. record { shape = record { shape = r; above = [] }; kind = Waiting }) (roots_of l)) es) whole has) in
      subst (λ l. IsAfter sources 0 l es) (sym (is ∙ ap (λ l. map (λ r. record { shape = r; kind = Waiting }) (roots_of l)) whole)) all
