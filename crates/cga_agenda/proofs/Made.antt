-- The members of a run, each once, and those that it has made before a limit.
use Rattle.std.proofs.Common.{◌≡◌, ℕ, zero, suc, List, [], ◌∷◌, ◌++◌, length, map, Bool, true, false, cond, refl, sym, ap, ◌∙◌, subst, ◌⊎◌, inl, inr, Result, Ok, Err, Option, Some, None, arith}
use Rattle.std.specs.Prelude.{slice_get}
use Rattle.std.specs.Ordering.{is_lt}
use Rattle.std.specs.Cmp.{IsTotalOrder}
use Rattle.cga_order.specs.Rank.{Rank}
use Rattle.cga_order.specs.Chain.{IsChild}
use Rattle.cga_order.specs.Stamp.{stamps_cmp}
use Rattle.cga_order.specs.World.{World, IsWorld, Has, Among, stamp_of, birth_of, IsEarlier}
use Rattle.cga_order.specs.declared.placed.Placed.{Placed}
use Rattle.cga_order.specs.declared.placed.Kind.{Kind}
use Rattle.cga_order.specs.declared.placed.Kind.TheVariants.{Waiting}
use Rattle.cga_order.specs.Run.{same_place, become, outcome, Reached, AllEarlier, Rises}
use Rattle.cga_order.specs.Consistent.{IsBefore, IsConsistent, AllBefore, NothingWaits}
use Rattle.cga_order.specs.Agenda.{Node, Keeps}
use Rattle.cga_order.specs.Total.{stamps_total}
use Rattle.cga_order.proofs.Door.{Once-append, Once-index, has_made, place_dec, snoc-same}
use Rattle.std.proofs.lemmas.Bool.{cases_Bool as either}
use Rattle.cga_order.proofs.Door as stamps
use Rattle.cga_order.specs.Once.{Once}
use Rattle.cga_agenda.specs.Known.{shapes_of}
use Rattle.cga_agenda.proofs.Lists.{Has-Among, Among-Has}
pub use Rattle.cga_fraction.proofs.Door.{None-not-Some as none_some, length-map, map-append, same_Some as some_same}
use Rattle.cga_fraction.proofs.Door.{Less_from_is_lt}

module _ {N A F P : Type 0} (world : World N A F P) (laws : IsWorld world) where
  abbrev pub Members : Type 0
  Members = List (Placed N F P)

  pub order : IsTotalOrder (stamps_cmp world.mode)
  order = stamps_total world.mode

  pub shape_at : (cs : Members) (i : ℕ) (x : N) → slice_get (shapes_of cs) i ≡ Some x
      → (c : Placed N F P) × (slice_get cs i ≡ Some c) × (c.shape ≡ x)
  shape_at [] i x e = none_some x e
  shape_at (c ∷ cs) zero x e = (c, refl, some_same c.shape x e)
  shape_at (c ∷ cs) (suc i) x e = shape_at cs i x e

  -- the children of one expansion are shapes of their own
  pub once-children : (s : N) (a : A) (cs : Members) → world.expand s a ≡ Ok cs → Once (shapes_of cs)
  once-children s a cs e = Once-index (shapes_of cs) (λ x i j f g.
      let u = shape_at cs i x f in
      let v = shape_at cs j x g in
      let p = subst (λ y. IsChild (world.chain s) i (world.chain y)) u.2 (laws.child s a cs e i u.0 u.1).0 in
      let q = subst (λ y. IsChild (world.chain s) j (world.chain y)) v.2 (laws.child s a cs e j v.0 v.1).0 in
      (snoc-same (world.chain s).path (world.chain s).path i j (sym p.path ∙ q.path)).1)

  pub shapes-become : (s : N) (k : Kind F P) (xs : Members) → shapes_of (map (become world s k) xs) ≡ shapes_of xs
  shapes-become s k [] = refl
  shapes-become s k (m ∷ xs) =
      let head : (become world s k m).shape ≡ m.shape = elim (same_place (world.chain m.shape)
      (world.chain s)) as (λ b. (cond b (record { shape = m.shape; kind = k }) m).shape ≡ m.shape) [ true ↦ refl | false ↦ refl ] in
      λ i. head i ∷ shapes-become s k xs i

  pub shapes-start : (xs : List N)
      → shapes_of (map (λ n. let m : Placed N F P = record { shape = n; kind = Waiting } in m) xs) ≡ xs
  shapes-start [] = refl
  shapes-start (x ∷ xs) = ap (λ zs. x ∷ zs) (shapes-start xs)

  -- each shape stands once in a configuration
  pub once-reached : (taken : List N) (C : Members) → Reached world taken C → Once world.roots → Once (shapes_of C)
  once-reached [] C e o = subst (λ x. Once (shapes_of x)) (sym e) (subst Once (sym (shapes-start world.roots)) o)
  once-reached (s ∷ taken) D (C, reached, step) o =
      let good = stamps.in_order world laws taken C reached in
      let k = stamps.kind_after world (outcome world C s) in
      let cs = stamps.children_of world (outcome world C s) in
      let is : D ≡ map (become world s k) C ++ cs = step.told ∙ stamps.told-is world C s (outcome world C s) in
      let shapes : shapes_of D ≡ shapes_of C ++ shapes_of cs = ap (λ x. shapes_of x) is
      ∙ (map-append (λ m. m.shape) (map (become world s k) C) cs ∙ ap (λ x. x ++ shapes_of cs) (shapes-become s k C)) in
      subst Once (sym shapes) (Once-append (shapes_of C) (shapes_of cs) (once-reached taken C reached o) (children (outcome world C s) refl)
      (λ x h g.
      let u = Among-Has C x h in
      let v = Among-Has cs x g in
      let birth = stamps.child_birth world laws C D s good step x v.0 v.1 in
      stamps.not_self (stamps_cmp world.mode) order (stamp_of world s) (subst (λ b. IsEarlier world b (stamp_of world s)) birth (good.born x s u.0 u.1 step.waits))))
    where
      children : (r : Result Members F) → outcome world C s ≡ r → Once (shapes_of (stamps.children_of world r))
      children (Ok cs) e = once-children s _ cs e
      children (Err f) e = tt

  pub before_or_not : (limit : Option (List Rank)) (b : List Rank)
      → IsBefore world limit b ⊎ (IsBefore world limit b → ⊥)
  before_or_not None b = inl tt
  before_or_not (Some l) b = elim (either (is_lt (stamps_cmp world.mode b l))) [
    | inl e ↦ inl (Less_from_is_lt _ e)
    | inr e ↦ inr (stamps.less_not (stamps_cmp world.mode) order _ e)
  ]

  pub before-earlier : (limit : Option (List Rank)) (a b : List Rank) → IsEarlier world a b → IsBefore world limit b
      → IsBefore world limit a
  before-earlier None a b e h = tt
  before-earlier (Some l) a b e h = order.trans a b l e h

  pub all-before : (limit : Option (List Rank)) (s : N) (taken : List N) → AllEarlier world s taken
      → IsBefore world limit (stamp_of world s) → AllBefore world limit taken
  all-before limit s [] e h = tt
  all-before limit s (t ∷ taken) e h = (before-earlier limit (stamp_of world t) (stamp_of world s) e.0 h, all-before limit s taken e.1 h)

  -- the part of a run that comes before a limit
  pub cut : (limit : Option (List Rank)) (taken : List N) (C : Members) → Reached world taken C → Rises world taken
      → NothingWaits world limit C
      → (first : List N) × (B : Members) × Reached world first B × AllBefore world limit first
      × NothingWaits world limit B × ((n : N) (k : Kind F P) → Has B n k → (j : Kind F P) × Has C n j)
  cut limit [] C e rise quiet = ([], C, e, tt, quiet, λ n k h. (k, h))
  cut limit (s ∷ taken) D (C, reached, step) rise quiet = elim (before_or_not limit (stamp_of world s)) [
    | inl b ↦ (s ∷ taken, D, (C, reached, step), (b, all-before limit s taken rise.0 b), quiet, λ n k h. (k, h))
    | inr late ↦
        let good = stamps.in_order world laws taken C reached in
        let changes = stamps.Changes-step world laws C D s good step in
        let still : (n : N) (k : Kind F P) → Has C n k → (j : Kind F P) × Has D n j = λ n k h. elim (place_dec world n s) [
          | inl same ↦
              let one = (good.distinct n s k Waiting h step.waits same).0 in
              (stamps.kind_after world (outcome world C s), subst (λ x. Has D x (stamps.kind_after world (outcome world C s))) (sym one) changes.itself)
          | inr apart ↦ (k, changes.to n k apart h)
        ] in
        let rest = cut limit taken C reached rise.1 (λ x h b. elim (place_dec world x s) [
          | inl same ↦ late (subst (λ y. IsBefore world limit (stamp_of world y)) (good.distinct x s Waiting Waiting h step.waits same).0 b)
          | inr apart ↦ quiet x (changes.to x Waiting apart h) b
        ]) in
        (rest.0, rest.1, rest.2, rest.3, rest.4, λ n k h. let u = rest.5 n k h in still n u.0 u.1)
  ]

  -- what a list that is consistent as far as a limit has made before it, a whole run has
  pub made_before : (limit : Option (List Rank)) (list : Members) → IsConsistent world limit list
      → (taken : List N) (C : Members) → Reached world taken C → NothingWaits world None C → (n : N) (k : Kind F P)
      → Has list n k → IsBefore world limit (birth_of world n) → Among n (shapes_of C)
  made_before limit list con taken C reached quiet n k h b =
      let part = cut limit taken C reached (stamps.rises world laws taken C reached) (λ x g e. quiet x g tt) in
      let there = has_made world laws limit list con part.0 part.1 part.2 part.3 part.4 n k h b in
      let whole = part.5 n there.0 there.1 in
      Has-Among C n whole.0 whole.1

  -- of the nodes on the agenda one has the least stamp, if there is any
  pub least_queued : (queued : N → Bool) (nodes : List (Node N A F P))
      → ((n : N) (k : Kind F P) (a : A) → Keeps nodes n k a → queued n ≡ false)
      ⊎ ((s : N) × (k : Kind F P) × (a : A) × Keeps nodes s k a × (queued s ≡ true)
      × ((n : N) (j : Kind F P) (b : A) → Keeps nodes n j b → queued n ≡ true
      → IsEarlier world (stamp_of world n) (stamp_of world s) → ⊥))
  least_queued queued [] = inl (λ n k a h. absurd h)
  least_queued queued (m ∷ ms) = elim (either (queued m.shape)) [
    | inl on ↦ elim (least_queued queued ms) [
      | inl none ↦ inr (
        m.shape,
        m.kind,
        m.answers,
        inl (refl, refl, refl),
        on,
        λ n j b h q e. elim h [
          | inl is ↦ stamps.not_self (stamps_cmp world.mode) order (stamp_of world m.shape) (subst (λ x. IsEarlier world (stamp_of world x) (stamp_of world m.shape)) (sym is.0) e)
          | inr r ↦ (let x : true ≡ false = sym q ∙ none n j b r in cc)
        ],
      )
      | inr (s, k, a, there, q, least) ↦ elim (either (is_lt (stamps_cmp world.mode (stamp_of world m.shape) (stamp_of world s)))) [
        | inl less ↦
            let below = Less_from_is_lt _ less in
            inr (
              m.shape,
              m.kind,
              m.answers,
              inl (refl, refl, refl),
              on,
              λ n j b h t e. elim h [
                | inl is ↦ stamps.not_self (stamps_cmp world.mode) order (stamp_of world m.shape) (subst (λ x. IsEarlier world (stamp_of world x) (stamp_of world m.shape)) (sym is.0) e)
                | inr r ↦ least n j b r t (order.trans (stamp_of world n) (stamp_of world m.shape) (stamp_of world s) e below)
              ],
            )
        | inr not_less ↦ inr (
          s,
          k,
          a,
          inr there,
          q,
          λ n j b h t e. elim h [
            | inl is ↦ stamps.less_not (stamps_cmp world.mode) order _ not_less (subst (λ x. IsEarlier world (stamp_of world x) (stamp_of world s)) (sym is.0) e)
            | inr r ↦ least n j b r t e
          ],
        )
      ]
    ]
    | inr off ↦ elim (least_queued queued ms) [
      | inl none ↦ inl (λ n k a h. elim h [ inl is ↦ ap queued (sym is.0) ∙ off | inr r ↦ none n k a r ])
      | inr (s, k, a, there, q, least) ↦ inr (
        s,
        k,
        a,
        inr there,
        q,
        λ n j b h t e. elim h [
          | inl is ↦ (let x : true ≡ false = sym t ∙ (ap queued (sym is.0) ∙ off) in cc)
          | inr r ↦ least n j b r t e
        ],
      )
    ]
  ]
