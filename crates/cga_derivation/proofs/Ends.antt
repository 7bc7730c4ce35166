-- How a run begins, and how it ends.
use Rattle.std.proofs.Common.{◌≡◌, ℕ, ◌<◌, ◌≤◌, List, [], ◌∷◌, ◌++◌, length, map, not, refl, sym, ap, ◌∙◌, subst, Some, None, arith}
use Rattle.std.specs.Prelude.{count_by}
use Rattle.std.specs.declared.cmp.Ordering.{Ordering}
use Rattle.std.specs.BTreeMap.{insert_entry}
use Rattle.cga_word.specs.declared.mode.Mode.{Mode}
use Rattle.cga_order.specs.Chain.{Chain}
use Rattle.cga_order.specs.Stamp.{stamp_cmp}
use Rattle.cga_order.specs.declared.placed.Placed.{Placed}
use Rattle.cga_order.specs.declared.placed.Kind.TheVariants.{Waiting}
use Rattle.cga_order.specs.World.{Has, is_instance}
use Rattle.cga_order.specs.Run as run
use Rattle.cga_order.proofs.Door.{Has-index}
use Rattle.cga_derivation.proofs.Lists.{none_some}
use Rattle.cga_derivation.specs.Derivation.{Derivation, IsDerivation, start, reached, derive, NothingWaits}
use Rattle.cga_derivation.specs.Sites.{Site, chain_of, world_of, sites, SitesApart}
use Rattle.cga_derivation.specs.Turns.{expanded_in, HasWaiting, IsAt}
use Rattle.cga_derivation.proofs.Along.{erase-sites, length-map, map-map, map-append}
use Rattle.cga_derivation.proofs.Least.{Has-erased}
use Rattle.cga_derivation.proofs.Apart.{apart-start}
use Rattle.cga_derivation.proofs.Budget.{derive-some, derive-none}
use Rattle.cga_derivation.proofs.Counts.{expanded-below, expanded-waiting, expanded-settled}
use Rattle.cga_derivation.proofs.Keys.{key-push}
pub use Rattle.std.proofs.Common.{append_assoc as append_assoc_one}
use Rattle.cga_fraction.proofs.Door.{slice_get-append_left}

module _ {N A F P : Type 0} (derivation : Derivation N A F P) where
  abbrev rooted : N → Placed (Site N) F P
  rooted n = record { shape = record { shape = n; above = [] }; kind = Waiting }

  start-sites : run.start (world_of derivation) ≡ map rooted derivation.roots
  start-sites = map-map (λ (s : Site N). record { shape = s; kind = Waiting }) (λ (n : N). record { shape = n; above = [] }) derivation.roots

  -- where sites at two indices of joined lists have two places, those of the first list have
  pub apart-left : (xs ys : List (Placed (Site N) F P)) → SitesApart derivation (xs ++ ys) → SitesApart derivation xs
  apart-left xs ys apart i j m n e f = apart i j m n (slice_get-append_left xs ys i m e) (slice_get-append_left xs ys j n f)

  module _ (laws : IsDerivation derivation) {K : Type 0} (mode_of : K → Mode) (key_chain : K → Chain)
      (cmp : K → K → Ordering) (agrees : (a b : K) → mode_of a ≡ derivation.mode → mode_of b ≡ derivation.mode
      → cmp a b ≡ stamp_cmp derivation.mode (key_chain a) (key_chain b)) where
    -- no root, no key
    pub start-none : HasWaiting derivation mode_of key_chain [] []
    start-none = record { entry = λ k i h. absurd h; waits = λ i m e w. none_some m e }

    -- one more root
    pub start-push : (rs : List N) (r : N) (rest : List N) → derivation.roots ≡ rs ++ r ∷ rest → (es : List (K × ℕ))
        → HasWaiting derivation mode_of key_chain (map rooted rs) es → (k : K) → mode_of k ≡ derivation.mode
        → key_chain k ≡ chain_of derivation (record { shape = r; above = [] })
        → HasWaiting derivation mode_of key_chain (map rooted (rs ++ r ∷ [])) (insert_entry cmp es k (length rs))
    start-push rs r rest split es has k mode chain =
        let all : run.start (world_of derivation) ≡ (map rooted rs ++ rooted r ∷ []) ++ map rooted rest =
        start-sites ∙ (ap (map rooted) split ∙ (map-append rooted rs (r ∷ rest) ∙ sym (append_assoc_one (map rooted rs) (rooted r ∷ []) (map rooted rest)))) in
        let apart : SitesApart derivation (map rooted rs ++ rooted r ∷ []) = apart-left _ (map rooted rest) (subst (SitesApart derivation) all (apart-start derivation laws)) in
        let pushed = key-push derivation mode_of key_chain cmp agrees (map rooted rs) (rooted r) apart es has refl k mode chain in
        subst (λ l. HasWaiting derivation mode_of key_chain l (insert_entry cmp es k (length rs)))
        (sym (map-append rooted rs (r ∷ [])))
        (subst (λ n. HasWaiting derivation mode_of key_chain (map rooted rs ++ rooted r ∷ []) (insert_entry cmp es k n)) (length-map rooted rs) pushed)

    -- all roots
    pub start-all : (es : List (K × ℕ)) → HasWaiting derivation mode_of key_chain (map rooted derivation.roots) es
        → IsAt derivation mode_of key_chain 0 (start derivation) es
    unfolding reached sites
    start-all es has = record {
      list_is = refl;
      keys = subst (λ C. HasWaiting derivation mode_of key_chain C es) (sym start-sites) has;
      count = expanded-waiting F P derivation.roots;
    }

    -- where no key is left nothing waits
    settled-empty : (n : ℕ) (list : List (Placed N F P)) → IsAt derivation mode_of key_chain n list []
        → NothingWaits derivation list
    settled-empty n list at s h =
        let w = Has-erased (sites derivation n) s Waiting (subst (λ l. Has l s Waiting) (at.list_is ∙ sym (erase-sites derivation n)) h) in
        let i = Has-index (sites derivation n) w.0 Waiting w.1 in
        (at.keys.waits i.0 i.1 i.2 i.4).1

    -- nor where there are as many turns as there may be members
    settled-full : (n : ℕ) (list : List (Placed N F P)) (es : List (K × ℕ))
        → IsAt derivation mode_of key_chain n list es → length list ≤ n → NothingWaits derivation list
    settled-full n list es at full s h =
        let i = Has-index list s Waiting h in
        let below = expanded-below list i.0 i.1 i.2 i.4 in
        omega (arith, below, full, at.count)

    abbrev Ended : ℕ → List (Placed N F P) → Type 0
    Ended budget list = (derive derivation budget ≡ Some list) × (expanded_in list ≡ count_by (λ m. not (is_instance m.kind)) list)

    ends : (budget n : ℕ) (list : List (Placed N F P)) (es : List (K × ℕ)) → IsAt derivation mode_of key_chain n list es
        → n ≤ budget → length list ≤ budget → NothingWaits derivation list → Ended budget list
    ends budget n list es at turns fits settled = (
      derive-some derivation budget n turns (subst (NothingWaits derivation) at.list_is settled) (subst (λ l. length l ≤ budget) at.list_is fits) ∙ ap Some (sym at.list_is),
      expanded-settled list settled,
    )

    pub ends-empty : (budget n : ℕ) (list : List (Placed N F P)) → IsAt derivation mode_of key_chain n list []
        → n ≤ budget → length list ≤ budget
        → (derive derivation budget ≡ Some list) × (expanded_in list ≡ count_by (λ m. not (is_instance m.kind)) list)
    ends-empty budget n list at turns fits = ends budget n list [] at turns fits (settled-empty n list at)

    -- a list within the budget after as many turns is derived, and as many members had their turn as aren't instances
    pub ends-full : (budget : ℕ) (list : List (Placed N F P)) (es : List (K × ℕ))
        → IsAt derivation mode_of key_chain budget list es → length list ≤ budget
        → (derive derivation budget ≡ Some list) × (expanded_in list ≡ count_by (λ m. not (is_instance m.kind)) list)
    ends-full budget list es at fits = ends budget budget list es at (omega arith) fits (settled-full budget list es at fits)

    -- where a list after no more turns than the budget is longer than that, the derivation gives none
    pub ends-over : (budget n : ℕ) (list : List (Placed N F P)) (es : List (K × ℕ))
        → IsAt derivation mode_of key_chain n list es → n ≤ budget → budget < length list
        → derive derivation budget ≡ None
    ends-over budget n list es at turns over = derive-none derivation budget n turns (subst (λ l. budget < length l) at.list_is over)
