-- One turn: the member of the least key is the next, and what is written and appended is the next configuration.
use Rattle.std.proofs.Common.{◌≡◌, ℕ, suc, ◌+◌, List, [], ◌++◌, length, map, true, refl, sym, ap, ◌∙◌, subst, inl, Result, Ok, Err, Some, arith}
use Rattle.std.specs.Prelude.{slice_get, slice_set}
use Rattle.std.specs.declared.cmp.Ordering.{Ordering}
use Rattle.cga_word.specs.declared.mode.Mode.{Mode}
use Rattle.cga_order.specs.Chain.{Chain}
use Rattle.cga_order.specs.Stamp.{stamp_cmp}
use Rattle.cga_order.specs.Run as run
use Rattle.cga_order.specs.World as worlds
use Rattle.cga_order.proofs.Door as steps
use Rattle.cga_order.specs.declared.placed.Placed.{Placed}
use Rattle.cga_order.specs.declared.placed.Kind.{Kind}
use Rattle.cga_order.specs.declared.placed.Kind.TheVariants.{Waiting, Done, Faulted}
use Rattle.cga_derivation.proofs.Lists.{some_same}
use Rattle.cga_derivation.specs.Derivation.{Derivation, IsDerivation, told, asked, step_by, step, reached, next_of, AllApart}
use Rattle.cga_derivation.specs.Sites.{Site, erased, erase, sited, all_sited, chain_of, world_of, next_site, step_sites_by, sites, taken, SitesApart}
use Rattle.cga_derivation.specs.Turns.{HasWaiting, IsAt, IsInTurn}
use Rattle.cga_derivation.proofs.Sites.{world}
use Rattle.cga_derivation.proofs.Along.{reached-sites, erase-sites, next-along, asked-erase, length-map, option_of}
use Rattle.cga_derivation.proofs.Apart.{apart-sites, apart-reached}
use Rattle.cga_derivation.proofs.Counts.{expanded-set, expanded-append, expanded-new}
use Rattle.cga_derivation.proofs.Keys.{become-set, key-next, key-pop}
use Rattle.cga_fraction.proofs.Door.{slice_get-map_Some}

module _ {N A F P : Type 0} (derivation : Derivation N A F P) (laws : IsDerivation derivation) {K : Type 0}
    (mode_of : K → Mode) (key_chain : K → Chain) (cmp : K → K → Ordering) (agrees : (a b : K)
    → mode_of a ≡ derivation.mode → mode_of b ≡ derivation.mode → cmp a b ≡ stamp_cmp derivation.mode (key_chain a) (key_chain b)) where
  abbrev Members : Type 0
  Members = List (Placed N F P)

  abbrev Sites : Type 0
  Sites = List (Placed (Site N) F P)

  module _ (n : ℕ) (k : K) (at : ℕ) (list : Members) (entries : List (K × ℕ)) (turn : IsInTurn derivation mode_of key_chain cmp n k at list entries) where
    good : steps.IsOrdered (world_of derivation) (sites derivation n)
    good = steps.in_order (world_of derivation) (world derivation laws) (taken derivation n) (sites derivation n) (reached-sites derivation n)

    next : (m : Placed (Site N) F P) × (slice_get (sites derivation n) at ≡ Some m) × (m.kind ≡ Waiting)
        × (key_chain k ≡ chain_of derivation m.shape) × (next_site derivation (sites derivation n) ≡ Some m)
    next = key-next derivation mode_of key_chain cmp agrees (sites derivation n) good k at entries turn.keys turn.above

    erase-list : erase (sites derivation n) ≡ list
    erase-list = erase-sites derivation n ∙ sym turn.list_is

    -- the member at that place waits, and has the key's lot and path
    pub member : (x : Placed N F P) × (slice_get list at ≡ Some x) × (x.kind ≡ Waiting)
        × ((key_chain k).lot ≡ derivation.lot x.shape) × ((key_chain k).path ≡ derivation.path x.shape)
    member =
        let m = next in
        (erased m.0, subst (λ l. slice_get l at ≡ Some (erased m.0)) erase-list (slice_get-map_Some erased (sites derivation n) at m.0 m.1), m.2, ap (λ c. c.lot) m.3, ap (λ c. c.path) m.3)

    -- the key that was taken is of the derivation's mode
    pub mode_is : mode_of k ≡ derivation.mode
    mode_is = (turn.keys.entry k at (inl refl)).0

    module _ (x : Placed N F P) (there : slice_get list at ≡ Some x) where
      same_member : erased (next.0) ≡ x
      unfolding member
      same_member = some_same _ x (sym (member.1) ∙ there)

      waits : x.kind ≡ Waiting
      waits = ap (λ (y : Placed N F P). y.kind) (sym same_member) ∙ next.2

      apart : AllApart derivation list
      apart = subst (AllApart derivation) (sym turn.list_is) (apart-reached derivation laws n)

      -- the next configuration
      reached-next : (r : Result Members F) → derivation.expand x.shape (asked derivation list x.shape) ≡ r
          → reached derivation (suc n) ≡ told derivation list x.shape r
      unfolding reached step
      reached-next r e =
          let found : next_of derivation list ≡ Some x = ap (next_of derivation) (sym erase-list)
          ∙ (next-along derivation (sites derivation n) ∙ (ap (option_of erased) next.4 ∙ ap Some same_member)) in
          ap (λ l. step_by derivation l (next_of derivation l)) (sym turn.list_is) ∙ (ap (step_by derivation list) found ∙ ap (told derivation list x.shape) e)

      site : Site N
      site = next.0.shape

      site-shape : site.shape ≡ x.shape
      unfolding site
      site-shape = ap (λ (y : Placed N F P). y.shape) same_member

      -- the same of the members that know their ancestors' priorities
      sites-next : (r : Result Members F) → derivation.expand x.shape (asked derivation list x.shape) ≡ r
          → sites derivation (suc n) ≡ run.told (world_of derivation) (sites derivation n) site
          (all_sited (chain_of derivation site).priorities r)
      unfolding sites site
      sites-next r e =
          let answers = asked-erase derivation (sites derivation n) next.0.shape ∙ (λ i. asked derivation (erase-list i) (site-shape i)) in
          let result : derivation.expand next.0.shape.shape
          ((world_of derivation).answers next.0.shape (worlds.shapes_where (λ n k. true) (sites derivation n))
          (worlds.shapes_where (λ n k. worlds.is_waiting k) (sites derivation n))) ≡ r = (λ i. derivation.expand (site-shape i) (answers i)) ∙ e in
          ap (step_sites_by derivation (sites derivation n)) next.4
          ∙ ap (λ q. run.told (world_of derivation) (sites derivation n) next.0.shape (all_sited (chain_of derivation next.0.shape).priorities q)) result

      -- where the taken member expands to a fault, the list with that in its place and the keys left are one turn on
      pub turn-fault : (f : F) → derivation.expand x.shape (asked derivation list x.shape) ≡ Err f
          → IsAt derivation mode_of key_chain (suc n)
          (slice_set list at (record { shape = x.shape; kind = Faulted f })) entries
      unfolding site
      turn-fault f e = record {
        list_is = sym (reached-next (Err f) e ∙ become-set derivation list at x (Faulted f) apart there);
        keys = subst (λ C. HasWaiting derivation mode_of key_chain C entries) (sym (sites-next (Err f) e))
            (key-pop derivation mode_of key_chain cmp agrees (sites derivation n) (apart-sites derivation laws n) k
            at entries turn.keys turn.above next.0 next.1 (Faulted f) (λ q. let y : Faulted f ≡ Waiting = q in cc));
        count = expanded-set list at x (record { shape = x.shape; kind = Faulted f }) there waits refl ∙ (ap (λ c. c + 1) turn.count ∙ omega arith);
      }

      -- the sites before the children come, and what is left to show of the keys when they have come
      pub turn-done : (cs : Members) → derivation.expand x.shape (asked derivation list x.shape) ≡ Ok cs
          → (C : Sites) × (length C ≡ length list) × HasWaiting derivation mode_of key_chain C entries
          × SitesApart derivation (C ++ map (sited (key_chain k).priorities) cs)
          × ((entries' : List (K × ℕ))
          → HasWaiting derivation mode_of key_chain (C ++ map (sited (key_chain k).priorities) cs) entries'
          → IsAt derivation mode_of key_chain (suc n)
          (slice_set list at (record { shape = x.shape; kind = Done }) ++ cs) entries')
      unfolding site
      turn-done cs e =
          let C = map (run.become (world_of derivation) next.0.shape Done) (sites derivation n) in
          let above : (chain_of derivation next.0.shape).priorities ≡ (key_chain k).priorities = ap (λ c. c.priorities) (sym next.3) in
          let is : sites derivation (suc n) ≡ C ++ map (sited (key_chain k).priorities) cs = sites-next (Ok cs) e ∙ ap (λ ps. C ++ map (sited ps) cs) above in (
            C,
            length-map (run.become (world_of derivation) next.0.shape Done) (sites derivation n) ∙ (sym (length-map erased (sites derivation n)) ∙ ap length erase-list),
            key-pop derivation mode_of key_chain cmp agrees (sites derivation n) (apart-sites derivation laws n) k
                at entries turn.keys turn.above next.0 next.1 Done (λ q. let y : ◌≡◌ {A = Kind F P} Done Waiting = q in cc),
            subst (SitesApart derivation) is (apart-sites derivation laws (suc n)),
            λ entries' has. record {
              list_is = sym (reached-next (Ok cs) e ∙ ap (λ l. l ++ cs) (become-set derivation list at x Done apart there));
              keys = subst (λ D. HasWaiting derivation mode_of key_chain D entries') (sym is) has;
              count =
                  expanded-append (slice_set list at (record { shape = x.shape; kind = Done })) cs
                  ∙ (λ i. expanded-set list at x (record { shape = x.shape; kind = Done }) there waits refl i +
                  expanded-new derivation cs (λ j c h. (laws.child x.shape (asked derivation list x.shape) cs e
                  j c h).2) i) ∙ (ap (λ c. (c + 1) + 0) turn.count ∙ omega arith);
            },
          )
