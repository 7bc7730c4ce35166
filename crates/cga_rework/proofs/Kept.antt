-- A ranked shape is kept where its shape is, with the priorities on its path.
use Rattle.std.proofs.Common.{◌≡◌, ℕ, zero, suc, ◌+◌, ◌≤◌, ◌<◌, List, [], ◌∷◌, ◌++◌, map, length, take, true, false, refl, sym, ap, ◌∙◌, subst, ◌⊎◌, inl, inr, Result, Ok, Err, arith, length-append}
use Rattle.std.proofs.Math.Seq.{take-length}
use Rattle.std.proofs.lemmas.List.{take-append-le}
use Rattle.cga_order.specs.Chain.{IsChild}
use Rattle.cga_order.specs.World.{World, IsWorld, Has, is_instance}
use Rattle.cga_order.specs.declared.placed.Placed.{Placed}
use Rattle.cga_order.specs.declared.placed.Kind.{Kind}
use Rattle.cga_order.specs.declared.placed.Kind.TheVariants.{Waiting, Done, Faulted, Instance}
use Rattle.cga_order.specs.Run.{outcome, start, IsStep, Reached}
use Rattle.cga_agenda.proofs.Door.{path_not_empty}
use Rattle.cga_order.proofs.Door.{Has-index, Has-start, place_dec, slice_get-map, snoc-same}
use Rattle.cga_agenda.specs.Edit.{Edit, NonInstance}
use Rattle.cga_rework.specs.Ranked.{Ranked, placed_as, placed, all_placed, chain_of, ranked_world, edit_of, unranked}
use Rattle.cga_rework.proofs.Lists.{Among-map}
use Rattle.cga_derivation.specs.Derivation.{IsDerivation}
use Rattle.cga_rework.specs.Rules.{Shapes, Rules, derivation_of}
use Rattle.cga_rework.specs.Touched.{Kept}
use Rattle.cga_rework.proofs.Worlds.{is_world}
use Rattle.cga_rework.proofs.Runs.{unranked-Has, Has-unranked}
use Rattle.cga_order.proofs.Door as steps
use Rattle.cga_agenda.specs.Edit as agenda

module _ {S A B F P : Type 0} (shapes : Shapes S) (old new : Rules S A B F P) where
  abbrev Sited : Type 0
  Sited = List (Placed (Ranked S) F P)

  abbrev edit : Edit (Ranked S) A B F P
  edit = edit_of shapes old new

  module _ (rules : Rules S A B F P) (are : IsDerivation (derivation_of shapes rules)) where
    abbrev world : World (Ranked S) A F P
    world = ranked_world shapes rules

    laws : IsWorld world
    laws = is_world shapes rules are

    -- a ranked shape has its own priority last, below those of its parent
    abbrev SiteIs : Sited → Ranked S → Type 0
    SiteIs C n =
        ((shapes.path n.shape ≡ []) × (n.priorities ≡ rules.priority n.shape ∷ []))
        ⊎ ((p : Ranked S) × (i : ℕ) × Has C p Done × IsChild (chain_of shapes p) i (chain_of shapes n)
        × (n.priorities ≡ (chain_of shapes p).priorities ++ rules.priority n.shape ∷ []))

    abbrev SitesAre : Sited → Type 0
    SitesAre C = (n : Ranked S) (k : Kind F P) → Has C n k → is_instance k ≡ false → SiteIs C n

    all_ranked-start : SitesAre (start world)
    all_ranked-start n k h i =
        let w = Among-map (λ s. let m : Ranked S = record { shape = s; priorities = rules.priority s ∷ [] } in m) rules.roots n (Has-start world world.roots n k h).0 in
        subst (SiteIs (start world)) w.2 (inl (are.root w.0 w.1, refl))

    module _ (C D : Sited) (s : Ranked S) (good : steps.IsOrdered world C) (step : IsStep world C D s) where
      changes : steps.Changes world C D s (steps.kind_after world (outcome world C s))
          (steps.children_of world (outcome world C s))
      changes = steps.Changes-step world laws C D s good step

      done-stays : (p : Ranked S) → Has C p Done → Has D p Done
      done-stays p h = elim (place_dec world p s) [
        | inl same ↦ let x : Done ≡ Waiting = (good.distinct p s Done Waiting h step.waits same).1 in cc
        | inr apart ↦ changes.to p Done apart h
      ]

      ranked-stays : (n : Ranked S) → SiteIs C n → SiteIs D n
      ranked-stays n is = elim is [ inl r ↦ inl r | inr c ↦ inr (c.0, c.1, done-stays c.0 c.2, c.3, c.4) ]

      ranked-child : (r : Result (List (Placed S F P)) F) (a : A) → rules.expand s.shape a ≡ r
          → all_placed rules.priority (chain_of shapes s).priorities r ≡ outcome world C s
          → (n : Ranked S) (k : Kind F P)
          → Has (steps.children_of world (all_placed rules.priority (chain_of shapes s).priorities r)) n k
          → is_instance k ≡ false → SiteIs D n
      ranked-child (Err f) a e same n k h i = absurd h
      ranked-child (Ok es) a e same n k h i =
          let f = placed {F = F} {P = P} rules.priority (chain_of shapes s).priorities in
          let w = Has-index (map f es) n k h in
          let g = slice_get-map f es w.0 w.1 w.2 in
          let child = (steps.law world laws C D s good step n k (subst (λ r. Has (steps.children_of world r) n k) same h)).1 in
          by g.0.shape g.0.kind (ap (λ m. m.shape) g.2 ∙ w.3) (ap (λ m. m.kind) g.2 ∙ w.4) child (subst (Has D s) (ap (steps.kind_after world) (sym same)) changes.itself)
        where
          by : (t : S) (kind : Kind F P)
              → let m : Placed (Ranked S) F P = placed_as rules.priority (chain_of shapes s).priorities t kind in
              m.shape ≡ n
              → m.kind ≡ k → ((j : ℕ) × IsChild (chain_of shapes s) j (chain_of shapes n)) → Has D s Done → SiteIs D n
          by t Waiting is kind child done = inr (s, child.0, done, child.1, sym (ap (λ x. x.priorities) is) ∙ ap (λ x. (chain_of shapes s).priorities ++ rules.priority x ∷ []) (ap (λ x. x.shape) is))
          by t Done is kind child done = inr (s, child.0, done, child.1, sym (ap (λ x. x.priorities) is) ∙ ap (λ x. (chain_of shapes s).priorities ++ rules.priority x ∷ []) (ap (λ x. x.shape) is))
          by t (Faulted f) is kind child done = inr (
            s,
            child.0,
            done,
            child.1,
            sym (ap (λ x. x.priorities) is)
                ∙ ap (λ x. (chain_of shapes s).priorities ++ rules.priority x ∷ []) (ap (λ x. x.shape) is),
          )
          by t (Instance p) is kind child done = let x : true ≡ false = ap is_instance kind ∙ i in cc

      all_ranked-next : SitesAre C → SitesAre D
      all_ranked-next all_ranked n k h i = elim (changes.from n k h) [
        | inl x ↦ ranked-stays n (all_ranked n k x.1 i)
        | inr x ↦ elim x [
          | inl e ↦ subst (SiteIs D) (sym e.0) (ranked-stays s (all_ranked s Waiting step.waits refl))
          | inr c ↦ ranked-child (rules.expand s.shape _) _ refl refl n k c i
        ]
      ]

    pub all_ranked-reached : (taken : List (Ranked S)) (C : Sited) → Reached world taken C → SitesAre C
    all_ranked-reached [] C e = subst SitesAre (sym e) all_ranked-start
    all_ranked-reached (s ∷ taken) D (C, reached, step) = all_ranked-next C D s (steps.in_order world laws taken C reached) step (all_ranked-reached taken C reached)

    pub last_is : (C : Sited) (n : Ranked S) → SiteIs C n
        → (above : List ℕ) × (n.priorities ≡ above ++ rules.priority n.shape ∷ [])
    last_is C n is = elim is [ inl r ↦ ([], r.1) | inr c ↦ ((chain_of shapes c.0).priorities, c.4) ]

  module _ (olds : IsDerivation (derivation_of shapes old)) (news : IsDerivation (derivation_of shapes new))
      (taken_old taken_new : List (Ranked S)) (O W : Sited) (run_old : Reached (world old olds) taken_old O)
      (run_new : Reached (world new news) taken_new W) where
    good_old : steps.IsOrdered (world old olds) O
    good_old = steps.in_order (world old olds) (laws old olds) taken_old O run_old

    good_new : steps.IsOrdered (world new news) W
    good_new = steps.in_order (world new news) (laws new news) taken_new W run_new

    old_ranked : (n : Ranked S) → NonInstance O n → SiteIs old olds O n
    old_ranked n is = all_ranked-reached old olds taken_old O run_old n is.0 is.1 is.2

    new_ranked : (n : Ranked S) → NonInstance W n → SiteIs new news W n
    new_ranked n is = all_ranked-reached new news taken_new W run_new n is.0 is.1 is.2

    -- an equal shape has equal priorities in both
    same_priority : (n : Ranked S) → NonInstance O n → NonInstance W n → old.priority n.shape ≡ new.priority n.shape
    same_priority n was is =
        let u = last_is old olds O n (old_ranked n was) in
        let v = last_is new news W n (new_ranked n is) in
        (snoc-same u.0 v.0 (old.priority n.shape) (new.priority n.shape) (sym u.1 ∙ v.1)).1

    erased-non : (ms : Sited) (n : Ranked S) → NonInstance ms n → NonInstance (map unranked ms) n.shape
    erased-non ms n is = (is.0, unranked-Has ms n is.0 is.1, is.2)

    non-erased : (ms : Sited) (s : S) → NonInstance (map unranked ms) s
        → (n : Ranked S) × NonInstance ms n × (n.shape ≡ s)
    non-erased ms s is = let w = Has-unranked ms s is.0 is.1 in (w.0, (is.0, w.1, is.2), w.2)

    ranked_same : (n m : Ranked S) → n.shape ≡ m.shape → n.priorities ≡ m.priorities → n ≡ m
    ranked_same n m e f = λ i. record { shape = e i; priorities = f i }

    -- the ranked shape of the old list at the place of n, where its shape and priority are equal
    at_place : (n : Ranked S) → NonInstance W n → (m : S) → (shapes.lot m ≡ shapes.lot n.shape)
        → (shapes.path m ≡ shapes.path n.shape) → NonInstance (map unranked O) m → NonInstance (map unranked W) m
        → (old.priority m ≡ new.priority m)
        → (x : Ranked S) × NonInstance O x × (x.shape ≡ n.shape) × (old.priority x.shape ≡ new.priority n.shape)
    at_place n is m lot path was there priority =
        let y = non-erased W m there in
        let same : y.0 ≡ n = (good_new.distinct y.0 n y.1.0 is.0 y.1.1 is.1 (λ i. ((ap shapes.lot y.2 ∙ lot) i, (ap shapes.path y.2 ∙ path) i))).0 in
        let shape : m ≡ n.shape = sym y.2 ∙ ap (λ z. z.shape) same in
        let x = non-erased O m was in
        (x.0, x.1, x.2 ∙ shape, ap old.priority x.2 ∙ (priority ∙ ap new.priority shape))

    from_shape : (bound : ℕ) (n : Ranked S) → length (shapes.path n.shape) < bound → NonInstance W n
        → Kept shapes old new (map unranked O) (map unranked W) n.shape → agenda.Kept edit O W n
    from_shape zero n lt is kept = absurd (omega (arith, lt))
    from_shape (suc bound) n lt is kept =
        let m = kept (length (shapes.path n.shape)) (omega arith) in
        let x = at_place n is m.0 m.1 (m.2 ∙ take-length (shapes.path n.shape)) m.3 m.4 m.5 in
        elim (new_ranked n is) [
          | inl root ↦ elim (old_ranked x.0 x.1) [
            | inl r ↦
                let same = ranked_same x.0 n x.2 (r.1 ∙ (ap (λ p. p ∷ []) x.3 ∙ sym root.1)) in
                (0, (subst (NonInstance O) same x.1, is, root.0))
            | inr c ↦ absurd (path_not_empty (shapes.path c.0.shape) c.1 (sym c.3.path ∙ (ap shapes.path x.2 ∙ root.0)))
          ]
          | inr c ↦
              let longer : length (shapes.path n.shape) ≡ length (shapes.path c.0.shape) + 1 = ap length c.3.path ∙ length-append (shapes.path c.0.shape) (c.1 ∷ []) in
              let up = from_shape bound c.0 (omega (arith, lt, longer)) (Done, c.2, refl)
              (λ j le.
              let q = kept j (omega (arith, le, longer)) in
              (q.0, q.1 ∙ c.3.lot, q.2 ∙ (ap (take j) c.3.path ∙ take-append-le j (shapes.path c.0.shape) (c.1 ∷ []) le), q.3, q.4, q.5)) in
              let above = kept_old up.0 c.0 up.1 in
              elim (old_ranked x.0 x.1) [
                | inl r ↦ absurd (path_not_empty (shapes.path c.0.shape) c.1 (sym c.3.path ∙ (sym (ap shapes.path x.2) ∙ r.0)))
                | inr d ↦
                    let path = (snoc-same (shapes.path d.0.shape) (shapes.path c.0.shape) d.1 c.1 (sym d.3.path ∙ (ap shapes.path x.2 ∙ c.3.path))).0 in
                    let lot : shapes.lot d.0.shape ≡ shapes.lot c.0.shape = sym d.3.lot ∙ (ap shapes.lot x.2 ∙ c.3.lot) in
                    let parent : d.0 ≡ c.0 = (good_old.distinct d.0 c.0 Done above.0 d.2 above.1 (λ i. (lot i, path i))).0 in
                    let same = ranked_same x.0 n x.2 (d.4 ∙ ((λ i. (chain_of shapes (parent i)).priorities ++ x.3 i ∷ []) ∙ sym c.4)) in
                    (suc up.0, (subst (NonInstance O) same x.1, is, (c.0, c.1, c.3, up.1)))
              ]
        ]
      where
        kept_old : (depth : ℕ) (p : Ranked S) → agenda.KeptAt edit O W depth p → NonInstance O p
        kept_old zero p h = h.0
        kept_old (suc depth) p h = h.0

    pub kept_shape : ((n : Ranked S) → agenda.Kept edit O W n → (i : ℕ) → i ≤ length (shapes.path n.shape)
        → (m : Ranked S) × (shapes.lot m.shape ≡ shapes.lot n.shape)
        × (shapes.path m.shape ≡ take i (shapes.path n.shape)) × NonInstance O m × NonInstance W m)
        → (n : Ranked S) → NonInstance W n
        → (agenda.Kept edit O W n → Kept shapes old new (map unranked O) (map unranked W) n.shape)
        × (Kept shapes old new (map unranked O) (map unranked W) n.shape → agenda.Kept edit O W n)
    kept_shape prefixes n is = (
      (λ k i le.
          let m = prefixes n k i le in
          (m.0.shape, m.1, m.2, erased-non O m.0 m.3, erased-non W m.0 m.4, same_priority m.0 m.3 m.4)),
      from_shape (length (shapes.path n.shape) + 1) n (omega arith) is,
    )
