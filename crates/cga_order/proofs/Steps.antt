-- Configurations that are reached are in order: their waiting members come after all that was done.
use Rattle.std.proofs.Common.{◌≡◌, ℕ, ◌+◌, List, [], ◌∷◌, ◌++◌, length, map, refl, sym, ap, ◌∙◌, subst, ◌⊎◌, inl, inr, Result, Ok, Err, Some, arith, length-append}
use Rattle.std.specs.Prelude.{slice_get}
use Rattle.std.specs.declared.cmp.Ordering.TheVariants.{Less}
use Rattle.std.specs.Cmp.{IsTotalOrder}
use Rattle.cga_order.specs.Rank.{Rank, rank_cmp}
use Rattle.cga_order.specs.Chain.{IsChild, rank}
use Rattle.cga_order.specs.Stamp.{stamps_cmp}
use Rattle.cga_order.specs.World.{World, IsWorld, Placed, Kind, Waiting, Done, Faulted, Instance, Has, Among, place_of, stamp_of, birth_of, IsEarlier}
use Rattle.cga_order.specs.Run.{become, outcome, start, IsStep, Reached, AllEarlier, Rises}
use Rattle.cga_order.specs.Total.{stamps_total}
use Rattle.cga_order.proofs.Chains.{stamps-place, rank-before, root-before, birth-stamp, birth-child, stamp-child, snoc-same}
use Rattle.cga_order.proofs.Members.{Has-left, Has-right, Has-append, Has-index, Among-index, Has-start, Has-become, become-Has_elsewhere, become-Has_there}
use Rattle.cga_order.proofs.Maxima as stamps
pub use Rattle.cga_order.proofs.Stepped.{SamePlace, Changes, kind_after, children_of, told-is, IsExpanded, expanded_after, not_waiting, expanded_kind}

module _ {N A F P : Type 0} (world : World N A F P) where
  abbrev pub Members : Type 0
  Members = List (Placed N F P)

  -- what a configuration that was reached keeps
  pub record IsOrdered (C : Members) : Type 0 where
    pub distinct : (n m : N) (k j : Kind F P) → Has C n k → Has C m j → SamePlace world n m → (n ≡ m) × (k ≡ j)
    pub under : (n : N) (k : Kind F P) → Has C n k
        → ((world.chain n).path ≡ []) ⊎ ((e : N) × (i : ℕ) × Has C e Done × IsChild (world.chain e) i (world.chain n))
    pub born : (n w : N) (k : Kind F P) → Has C n k → Has C w Waiting
        → IsEarlier world (birth_of world n) (stamp_of world w)
    pub done : (e w : N) (k : Kind F P) → Has C e k → IsExpanded world k → Has C w Waiting
        → IsEarlier world (stamp_of world e) (stamp_of world w)

  module _ (laws : IsWorld world) where
    order : IsTotalOrder (stamps_cmp world.mode)
    order = stamps_total world.mode

    pub later : (a b c : List Rank) → IsEarlier world a b → IsEarlier world b c → IsEarlier world a c
    later a b c = order.trans a b c

    -- the children of an expansion: below it, at places of their own, new
    pub child_of : (s : N) (a : A) (cs : Members) → world.expand s a ≡ Ok cs → (c : N) (k : Kind F P) → Has cs c k
        → (i : ℕ) × (m : Placed N F P) × (slice_get cs i ≡ Some m) × (m.shape ≡ c) × (m.kind ≡ k)
        × IsChild (world.chain s) i (world.chain c) × ((k ≡ Waiting) ⊎ ((p : P) × (k ≡ Instance p)))
    child_of s a cs e c k h =
        let w = Has-index cs c k h in
        let law = laws.child s a cs e w.0 w.1 w.2 in (
          w.0,
          w.1,
          w.2,
          w.3,
          w.4,
          subst (λ x. IsChild (world.chain s) w.0 (world.chain x)) w.3 law.0,
          subst (λ x. (x ≡ Waiting) ⊎ ((p : P) × (x ≡ Instance p))) w.4 law.1,
        )

    pub children_apart : (s : N) (a : A) (cs : Members) → world.expand s a ≡ Ok cs → (c d : N) (k j : Kind F P)
        → Has cs c k → Has cs d j → SamePlace world c d → (c ≡ d) × (k ≡ j)
    children_apart s a cs e c d k j h g same =
        let u = child_of s a cs e c k h in
        let v = child_of s a cs e d j g in
        let index : u.0 ≡ v.0 = (snoc-same (world.chain s).path (world.chain s).path u.0 v.0 (sym u.5.path ∙ (ap (λ p. p.1) same ∙ v.5.path))).1 in
        let one : Some u.1 ≡ Some v.1 = sym u.2 ∙ (ap (slice_get cs) index ∙ v.2) in
        let m : u.1 ≡ v.1 = cc in
        (sym u.3 ∙ (ap (λ x. x.shape) m ∙ v.3), sym u.4 ∙ (ap (λ x. x.kind) m ∙ v.4))

    pub fresh_kind : (s : N) (a : A) (cs : Members) → world.expand s a ≡ Ok cs → (c : N) (k : Kind F P) → Has cs c k
        → IsExpanded world k → ⊥
    fresh_kind s a cs e c k h x =
        let u = child_of s a cs e c k h in
        elim u.6 [
          | inl w ↦ not_waiting world k x w
          | inr p ↦ elim x [ inl d ↦ let y : Done ≡ Instance p.0 = sym d ∙ p.1 in cc | inr f ↦ let y : Faulted f.0 ≡ Instance p.0 = sym f.1 ∙ p.1 in cc ]
        ]

    -- what a step makes of a configuration in order
    pub Changes-step : (C D : Members) (s : N) → IsOrdered C → IsStep world C D s
        → Changes world C D s (kind_after world (outcome world C s)) (children_of world (outcome world C s))
    Changes-step C D s good step =
        let kind = kind_after world (outcome world C s) in
        let cs = children_of world (outcome world C s) in
        let is : D ≡ map (become world s kind) C ++ cs = step.told ∙ told-is world C s (outcome world C s) in
        record {
          from = λ n k h. elim (Has-append (map (become world s kind) C) cs n k (subst (λ x. Has x n k) is h)) [
            | inl a ↦ elim (Has-become world s kind C n k a) [
              | inl b ↦ inl b
              | inr b ↦ inr (inl ((good.distinct n s b.2.0 Waiting b.2.1 step.waits b.0).0, b.1))
            ]
            | inr c ↦ inr (inr c)
          ];
          to = λ n k d h. subst (λ x. Has x n k) (sym is) (Has-left (map (become world s kind) C) cs n k (become-Has_elsewhere world s kind C n k d h));
          itself = subst (λ x. Has x s kind) (sym is) (Has-left (map (become world s kind) C) cs s kind (become-Has_there world s kind C Waiting step.waits));
          created = λ n k h. subst (λ x. Has x n k) (sym is) (Has-right (map (become world s kind) C) cs n k h);
        }

    -- the waiting shape of least rank has the least stamp
    pub least_stamp : (C : Members) (s : N) → IsOrdered C → Has C s Waiting
        → ((w : N) → Has C w Waiting → rank_cmp world.mode (rank (world.chain w)) (rank (world.chain s)) ≡ Less → ⊥)
        → (w : N) → Has C w Waiting → (SamePlace world w s → ⊥) → IsEarlier world (stamp_of world s) (stamp_of world w)
    least_stamp C s good was least w h apart = elim (stamps.split (stamps_cmp world.mode) order (stamp_of world s) (stamp_of world w)) [
      | inl l ↦ l
      | inr r ↦ elim r [
        | inl t ↦ absurd (apart (sym (stamps-place world.mode (world.chain s) (world.chain w) t)))
        | inr g ↦ absurd (least w h (rank-before world.mode (world.chain w) (world.chain s) (good.born s w Waiting was h) g))
      ]
    ]

    -- one step, from a configuration in order
    module _ (C D : Members) (s : N) (good : IsOrdered C) (step : IsStep world C D s) where
      result : Result Members F
      result = outcome world C s

      changes : Changes world C D s (kind_after world (outcome world C s)) (children_of world (outcome world C s))
      changes = Changes-step C D s good step

      -- what is known of a child that came
      pub law : (c : N) (k : Kind F P) → Has (children_of world (outcome world C s)) c k
          → (kind_after world (outcome world C s) ≡ Done) × ((i : ℕ) × IsChild (world.chain s) i (world.chain c))
          × (IsExpanded world k → ⊥)
      law c k h = elim (outcome world C s) as (λ r. outcome world C s ≡ r → Has (children_of world r) c k
          → (kind_after world r ≡ Done) × ((i : ℕ) × IsChild (world.chain s) i (world.chain c)) × (IsExpanded world k → ⊥)) [
            | Ok cs ↦ λ e g. let u = child_of s _ cs e c k g in (refl, (u.0, u.5), fresh_kind s _ cs e c k g)
            | Err f ↦ λ e g. absurd g
          ] refl h

      pub apart_children : (c d : N) (k j : Kind F P) → Has (children_of world (outcome world C s)) c k
          → Has (children_of world (outcome world C s)) d j → SamePlace world c d → (c ≡ d) × (k ≡ j)
      apart_children c d k j h g same = elim (outcome world C s) as (λ r. outcome world C s ≡ r → Has (children_of world r) c k → Has (children_of world r) d j → (c ≡ d) × (k ≡ j)) [
        | Ok cs ↦ λ e x y. children_apart s _ cs e c d k j x y same
        | Err f ↦ λ e x y. absurd x
      ] refl h g

      pub least : (w : N) → Has C w Waiting → (SamePlace world w s → ⊥)
          → IsEarlier world (stamp_of world s) (stamp_of world w)
      least = least_stamp C s good step.waits step.least

      -- the birth of a child that came in a step is the stamp of the shape that was taken
      pub child_birth : (c : N) (k : Kind F P) → Has (children_of world (outcome world C s)) c k
          → birth_of world c ≡ stamp_of world s
      child_birth c k h = let l = law c k h in birth-child world.mode (world.chain s) l.1.0 (world.chain c) (laws.whole s) l.1.1

      pub child_after : (c : N) (k : Kind F P) → Has (children_of world (outcome world C s)) c k
          → IsEarlier world (stamp_of world s) (stamp_of world c)
      child_after c k h = let l = law c k h in stamp-child world.mode (world.chain s) l.1.0 (world.chain c) (laws.whole s) l.1.1

      -- whatever waits next comes after s
      pub after : (w : N) → Has D w Waiting → IsEarlier world (stamp_of world s) (stamp_of world w)
      after w h = elim (changes.from w Waiting h) [
        | inl a ↦ least w a.1 a.0
        | inr r ↦ elim r [ inl e ↦ absurd (not_waiting world _ (expanded_after world (outcome world C s)) (sym e.1)) | inr c ↦ child_after w Waiting c ]
      ]

      over : (a : List Rank) → IsEarlier world a (stamp_of world s) → (w : N) → Has D w Waiting
          → IsEarlier world a (stamp_of world w)
      over a e w h = later a (stamp_of world s) (stamp_of world w) e (after w h)

      -- no child has the place of a member of C
      pub fresh : (c m : N) (k j : Kind F P) → Has (children_of world (outcome world C s)) c k → Has C m j
          → SamePlace world c m → ⊥
      fresh c m k j h g same =
          let l = law c k h in
          let path : (world.chain m).path ≡ (world.chain s).path ++ l.1.0 ∷ [] = ap (λ p. p.1) (sym same) ∙ l.1.1.path in
          elim (good.under m j g) [
            | inl t ↦
                let size : 0 ≡ length (world.chain s).path + 1 = ap length (sym t ∙ path) ∙ length-append (world.chain s).path (l.1.0 ∷ []) in
                absurd (omega (arith, size))
            | inr u ↦
                let above = (snoc-same (world.chain u.0).path (world.chain s).path u.1 l.1.0 (sym u.3.path ∙ path)).0 in
                let lot : (world.chain u.0).lot ≡ (world.chain s).lot = sym u.3.lot ∙ (ap (λ p. p.0) (sym same) ∙ l.1.1.lot) in
                let kind : Done ≡ Waiting = (good.distinct u.0 s Done Waiting u.2 step.waits (λ i. (lot i, above i))).1 in
                cc
          ]

      kept : (e : N) → Has C e Done → Has D e Done
      kept e h = changes.to e Done (λ q. let x : Done ≡ Waiting = (good.distinct e s Done Waiting h step.waits q).1 in cc) h

      pub next : IsOrdered D
      next = record {
        distinct = λ n m k j h g e. elim (changes.from n k h) [
          | inl a ↦ elim (changes.from m j g) [
            | inl b ↦ good.distinct n m k j a.1 b.1 e
            | inr r ↦ elim r [
              | inl q ↦ absurd (a.0 (e ∙ ap (place_of world) q.0))
              | inr c ↦ absurd (fresh m n j k c a.1 (sym e))
            ]
          ]
          | inr r ↦ elim r [
            | inl p ↦ elim (changes.from m j g) [
              | inl b ↦ absurd (b.0 (sym e ∙ ap (place_of world) p.0))
              | inr t ↦ elim t [
                | inl q ↦ (p.0 ∙ sym q.0, p.1 ∙ sym q.1)
                | inr c ↦ absurd (fresh m s j Waiting c step.waits (sym e ∙ ap (place_of world) p.0))
              ]
            ]
            | inr c ↦ elim (changes.from m j g) [
              | inl b ↦ absurd (fresh n m k j c b.1 e)
              | inr t ↦ elim t [
                | inl q ↦ absurd (fresh n s k Waiting c step.waits (e ∙ ap (place_of world) q.0))
                | inr d ↦ apart_children n m k j c d e
              ]
            ]
          ]
        ];
        under = λ n k h. elim (changes.from n k h) [
          | inl a ↦ elim (good.under n k a.1) [ inl t ↦ inl t | inr u ↦ inr (u.0, u.1, kept u.0 u.2, u.3) ]
          | inr r ↦ elim r [
            | inl p ↦ elim (good.under s Waiting step.waits) [
              | inl t ↦ inl (ap (λ x. (world.chain x).path) p.0 ∙ t)
              | inr u ↦ inr (u.0, u.1, kept u.0 u.2, subst (λ x. IsChild (world.chain u.0) u.1 (world.chain x)) (sym p.0) u.3)
            ]
            | inr c ↦ let l = law n k c in inr (s, l.1.0, subst (Has D s) l.0 changes.itself, l.1.1)
          ]
        ];
        born = λ n w k h g. elim (changes.from n k h) [
          | inl a ↦ over (birth_of world n) (good.born n s k a.1 step.waits) w g
          | inr r ↦ elim r [
            | inl p ↦ over (birth_of world n) (subst (λ x. IsEarlier world (birth_of world x) (stamp_of world s)) (sym p.0) (birth-stamp world.mode (world.chain s))) w g
            | inr c ↦ subst (λ x. IsEarlier world x (stamp_of world w)) (sym (child_birth n k c)) (after w g)
          ]
        ];
        done = λ e w k h y g. elim (changes.from e k h) [
          | inl a ↦ over (stamp_of world e) (good.done e s k a.1 y step.waits) w g
          | inr r ↦ elim r [
            | inl p ↦ subst (λ x. IsEarlier world (stamp_of world x) (stamp_of world w)) (sym p.0) (after w g)
            | inr c ↦ absurd ((law e k c).2 y)
          ]
        ];
      }

    -- two roots of one place are one
    pub one_root : (n m : N) → Among n world.roots → Among m world.roots → place_of world n ≡ place_of world m → n ≡ m
    one_root n m h g e =
        let a = Among-index world.roots n h in
        let b = Among-index world.roots m g in
        let at = laws.roots_apart a.0 b.0 n m a.1 b.1 e in
        let same : Some n ≡ Some m = sym a.1 ∙ (ap (slice_get world.roots) at ∙ b.1) in
        cc

    in_order-start : IsOrdered (start world)
    in_order-start = record {
      distinct = λ n m k j h g e.
          let a = Has-start world world.roots n k h in
          let b = Has-start world world.roots m j g in
          (one_root n m a.0 b.0 e, a.1 ∙ sym b.1);
      under = λ n k h. inl (laws.root n (Has-start world world.roots n k h).0);
      born = λ n w k h g. root-before world.mode (world.chain n) (world.chain w) (laws.root n (Has-start world world.roots n k h).0);
      done = λ e w k h y g. absurd (not_waiting world k y (Has-start world world.roots e k h).1);
    }

    -- each configuration that is reached is in order
    pub in_order : (taken : List N) (C : Members) → Reached world taken C → IsOrdered C
    in_order [] C e = subst IsOrdered (sym e) in_order-start
    in_order (s ∷ taken) D (C, reached, step) = next C D s (in_order taken C reached) step

    -- what was taken is expanded
    pub taken_done : (taken : List N) (C : Members) → Reached world taken C → (t : N) → Among t taken
        → (k : Kind F P) × Has C t k × IsExpanded world k
    taken_done [] C r t h = absurd h
    taken_done (s ∷ taken) D (C, reached, step) t h =
        let good = in_order taken C reached in
        let changes = Changes-step C D s good step in
        elim h [
          | inl e ↦ (kind_after world (outcome world C s), subst (λ x. Has D x (kind_after world (outcome world C s))) e changes.itself, expanded_after world (outcome world C s))
          | inr g ↦
              let w = taken_done taken C reached t g in
              (w.0, changes.to t w.0 (λ q. not_waiting world w.0 w.2 (good.distinct t s w.0 Waiting w.1 step.waits q).1) w.1, w.2)
        ]

    all_earlier : (taken : List N) (s : N)
        → ((t : N) → Among t taken → IsEarlier world (stamp_of world t) (stamp_of world s)) → AllEarlier world s taken
    all_earlier [] s h = tt
    all_earlier (t ∷ taken) s h = (h t (inl refl), all_earlier taken s (λ u i. h u (inr i)))

    -- the shapes are taken by rising stamps
    pub rises : (taken : List N) (C : Members) → Reached world taken C → Rises world taken
    rises [] C r = tt
    rises (s ∷ taken) D (C, reached, step) =
        let good = in_order taken C reached in
        (all_earlier taken s (λ t i. let w = taken_done taken C reached t i in good.done t s w.0 w.1 w.2 step.waits), rises taken C reached)
