-- A turn of an agenda keeps what is off it right, and a list that is right is consistent.
use Rattle.std.proofs.Common.{◌≡◌, ℕ, List, [], ◌∷◌, Bool, true, false, refl, sym, ap, ◌∙◌, subst, ◌⊎◌, inl, inr, Result, Ok, Err, Option}
use Rattle.std.specs.Cmp.{IsTotalOrder}
use Rattle.cga_order.specs.Rank.{Rank}
use Rattle.cga_order.specs.Chain.{IsChild}
use Rattle.cga_order.specs.Stamp.{stamps_cmp}
use Rattle.cga_order.specs.World.{World, IsWorld, Placed, Kind, Done, Has, Among, shapes_where, is_instance, place_of, stamp_of, birth_of, IsEarlier}
use Rattle.cga_order.specs.Consistent.{exists_at, waits_at, outcome_at, Stands, IsBefore, HasOutcome, IsMade, IsConsistent}
use Rattle.cga_order.specs.Agenda.{Node, members_of, Keeps, asked, HasChildren, IsSettled, IsRight, AllRight, Created, Remains, IsTurn, IsTree, IsNext, QueuesOnly, Worked}
use Rattle.cga_order.specs.Run.{AllEarlier, Rises}
use Rattle.cga_order.specs.Total.{stamps_total}
use Rattle.cga_order.proofs.Chains.{birth-child, stamp-child, snoc-same}
use Rattle.cga_order.proofs.Members.{place_dec, Among-shapes_where, Has-from_shapes_where}
use Rattle.cga_order.proofs.Steps as steps
use Rattle.cga_order.proofs.Derived as derived
use Rattle.cga_order.proofs.Maxima.{either}
use Rattle.cga_order.proofs.Maxima as stamps
use Rattle.cga_fraction.proofs.Door.{Less_from_is_lt}

module _ {N A F P : Type 0} where
  -- a node is a member, of the same kind
  pub Has-Keeps : (nodes : List (Node N A F P)) (n : N) (k : Kind F P) (a : A) → Keeps nodes n k a
      → Has (members_of nodes) n k
  Has-Keeps [] n k a h = absurd h
  Has-Keeps (m ∷ ms) n k a h = elim h [ inl e ↦ inl (e.0, e.1) | inr r ↦ inr (Has-Keeps ms n k a r) ]

  -- a member of the nodes is a node of the same kind, with some answers
  pub Keeps-Has : (nodes : List (Node N A F P)) (n : N) (k : Kind F P) → Has (members_of nodes) n k
      → (a : A) × Keeps nodes n k a
  Keeps-Has [] n k h = absurd h
  Keeps-Has (m ∷ ms) n k h = elim h [ inl e ↦ (m.answers, inl (e.0, e.1, refl)) | inr r ↦ let w = Keeps-Has ms n k r in (w.0, inr w.1) ]

module _ {N A F P : Type 0} (world : World N A F P) (laws : IsWorld world) where
  abbrev Nodes : Type 0
  Nodes = List (Node N A F P)

  order : IsTotalOrder (stamps_cmp world.mode)
  order = stamps_total world.mode

  -- what n sees and exists at its stamp in the one list is in the other, an instance in both or in neither
  abbrev pub SameAt : N → Nodes → Nodes → Type 0
  SameAt n xs ys = (m : N) (k : Kind F P) (a : A) → world.sees n m ≡ true → IsEarlier world (birth_of world m)
      (stamp_of world n) → Keeps xs m k a → (j : Kind F P) × (b : A) × Keeps ys m j b × (is_instance j ≡ is_instance k)

  existing-on : (n : N) (xs ys : Nodes) → SameAt n xs ys → (m : N) → world.sees n m ≡ true
      → Among m (shapes_where (exists_at world n) (members_of xs))
      → Among m (shapes_where (exists_at world n) (members_of ys))
  existing-on n xs ys same m v h =
      let w = Has-from_shapes_where (exists_at world n) (members_of xs) m h in
      let g = Keeps-Has xs m w.0 w.1 in
      let u = same m w.0 g.0 v (Less_from_is_lt _ w.2) g.1 in
      Among-shapes_where (exists_at world n) (members_of ys) m u.0 (Has-Keeps ys m u.0 u.1 u.2) w.2

  waiting-on : (n : N) (xs ys : Nodes) → SameAt n xs ys → (m : N) → world.sees n m ≡ true
      → Among m (shapes_where (waits_at world n) (members_of xs))
      → Among m (shapes_where (waits_at world n) (members_of ys))
  waiting-on n xs ys same m v h =
      let w = Has-from_shapes_where (waits_at world n) (members_of xs) m h in
      let g = Keeps-Has xs m w.0 w.1 in
      let p = derived.waits_at-parts world laws n m w.0 w.2 in
      let u = same m w.0 g.0 v p.0 g.1 in
      Among-shapes_where (waits_at world n) (members_of ys) m u.0 (Has-Keeps ys m u.0 u.1 u.2) (derived.waits_at-true world laws n m u.0 p.0 (u.3 ∙ p.1) p.2)

  -- what n asks is the same where what it sees is
  pub asks_same : (n : N) (xs ys : Nodes) → SameAt n xs ys → SameAt n ys xs → asked world xs n ≡ asked world ys n
  asks_same n xs ys to from =
      laws.local n _ _ _ _
      (λ m v. (existing-on n xs ys to m v, existing-on n ys xs from m v))
      (λ m v. (waiting-on n xs ys to m v, waiting-on n ys xs from m v))

  module _ (before after : Nodes) (s : N) (queued requeued : N → Bool) (turn : IsTurn world before after s queued requeued) where
    -- between what was made at the stamp of s or later and n lies s
    across : (m n : N) → (IsEarlier world (birth_of world m) (stamp_of world s) → ⊥)
        → IsEarlier world (birth_of world m) (stamp_of world n) → IsEarlier world (stamp_of world s) (stamp_of world n)
    across m n late e = stamps.past_left (stamps_cmp world.mode) order (stamp_of world s) (birth_of world m) (stamp_of world n) late e

    created_late : (m : N) (k : Kind F P) → Created world after s m k requeued
        → IsEarlier world (birth_of world m) (stamp_of world s) → ⊥
    created_late m k created e =
        let birth = birth-child world.mode (world.chain s) created.0.0 (world.chain m) (laws.whole s) created.0.1 in
        stamps.not_self (stamps_cmp world.mode) order (stamp_of world s) (subst (λ x. IsEarlier world x (stamp_of world s)) birth e)

    -- a node of the new list is s, or stayed, or came
    where_from : (m : N) (k : Kind F P) (a : A) → Keeps after m k a
        → (m ≡ s) ⊎
        ((place_of world m ≡ place_of world s → ⊥) × (Keeps before m k a ⊎ Created world after s m k requeued))
    where_from m k a h = elim (place_dec world m s) [
      | inl same ↦ inl (turn.alone m k a h same)
      | inr apart ↦ inr (apart, turn.from m k a h (λ e. apart (ap (place_of world) e)))
    ]

    self_before : (m : N) (k : Kind F P) (a : A) → m ≡ s → Keeps after m k a
        → (j : Kind F P) × (b : A) × Keeps before m j b × (is_instance j ≡ is_instance k)
    self_before m k a e h =
        let w = turn.was in
        (w.0, w.1, subst (λ x. Keeps before x w.0 w.1) (sym e) w.2, w.3 ∙ sym (turn.now k a (subst (λ x. Keeps after x k a) e h)).0)

    remains : (m : N) (k : Kind F P) → Remains world after m k
        → (j : Kind F P) × (b : A) × Keeps after m j b × (is_instance j ≡ is_instance k)
    remains m k (now, b, has, alike, same) = (now, b, has, alike)

    -- a node that isn't on the agenda sees the same before and after
    same_to : (n : N) (j : Kind F P) (b : A) → Keeps after n j b → is_instance j ≡ false → requeued n ≡ false
        → SameAt n before after
    same_to n j b there y off m k a v e h = elim (turn.to m k a h) [
      | inl r ↦ remains m k r
      | inr removed ↦ let x : true ≡ false = sym (removed.seen n j b there y (across m n removed.late e) v) ∙ off in cc
    ]

    same_from : (n : N) (j : Kind F P) (b : A) → Keeps after n j b → is_instance j ≡ false → requeued n ≡ false
        → SameAt n after before
    same_from n j b there y off m k a v e h = elim (where_from m k a h) [
      | inl q ↦ self_before m k a q h
      | inr w ↦ elim w.1 [
        | inl g ↦ (k, a, g, refl)
        | inr created ↦ let x : true ≡ false = sym (created.2 n j b there y (across m n (created_late m k created) e) v) ∙ off in cc
      ]
    ]

    -- s itself sees the same, since nothing that went or came exists at its stamp
    self_to : SameAt s before after
    self_to m k a v e h = elim (turn.to m k a h) [ inl r ↦ remains m k r | inr removed ↦ absurd (removed.late e) ]

    self_from : SameAt s after before
    self_from m k a v e h = elim (where_from m k a h) [
      | inl q ↦ self_before m k a q h
      | inr w ↦ elim w.1 [ inl g ↦ (k, a, g, refl) | inr created ↦ absurd (created_late m k created e) ]
    ]

    -- the children of a node other than s stay
    children_stay : (m : N) (k : Kind F P) (a : A) (children : List (Placed N F P)) → Keeps before m k a
        → Keeps after m k a → (place_of world m ≡ place_of world s → ⊥)
        → ((c : N) (j : Kind F P) → Has children c j → (i : ℕ) × IsChild (world.chain m) i (world.chain c))
        → HasChildren world before m children → HasChildren world after m children
    children_stay m k a children had has apart below h = record {
      all = λ c j g. stand c j g (h.all c j g);
      only = λ c j b g i child. elim (where_from c j b g) [
        | inl q ↦ let w = self_before c j b q g in h.only c w.0 w.1 w.2 i child
        | inr w ↦ elim w.1 [
          | inl old ↦ h.only c j b old i child
          | inr created ↦ absurd (apart (one_parent c i created.0.0 child created.0.1))
        ]
      ];
    }
      where
        one_parent : (c : N) (i j : ℕ) → IsChild (world.chain m) i (world.chain c)
            → IsChild (world.chain s) j (world.chain c) → place_of world m ≡ place_of world s
        one_parent c i j u v =
            let path = (snoc-same (world.chain m).path (world.chain s).path i j (sym u.path ∙ v.path)).0 in
            let lot : (world.chain m).lot ≡ (world.chain s).lot = sym u.lot ∙ v.lot in
            λ x. (lot x, path x)

        stand : (c : N) (j : Kind F P) → Has children c j → Stands (members_of before) c j
            → Stands (members_of after) c j
        stand c j g (old, there, alike, same) =
            let w = Keeps-Has before c old there in
            elim (turn.to c old w.0 w.1) [
              | inl r ↦ (r.0, Has-Keeps after c r.0 r.1 r.2, r.3 ∙ alike, λ i. r.4 (alike ∙ i) ∙ same i)
              | inr removed ↦
                  let b = below c j g in
                  elim (removed.below m b.0 b.1) [ inl e ↦ absurd (apart e) | inr gone ↦ absurd (gone k a had has) ]
            ]

    settled_stays : (m : N) (k : Kind F P) (a : A) → Keeps before m k a → Keeps after m k a
        → (place_of world m ≡ place_of world s → ⊥) → (r : Result (List (Placed N F P)) F) → world.expand m a ≡ r
        → IsSettled world before m k r → IsSettled world after m k r
    settled_stays m k a had has apart (Ok children) e h =
        (h.0, children_stay m k a children had has apart (λ c j g. let u = steps.child_of world laws m a children e c j g in (u.0, u.5)) h.1)
    settled_stays m k a had has apart (Err fault) e h = (h.0, children_stay m k a [] had has apart (λ c j g. absurd g) h.1)

    -- where each node but instances is right or on the agenda before a turn, each is after it
    pub still_right : AllRight world before queued → AllRight world after requeued
    still_right all n k a h y = elim (where_from n k a h) [
      | inl q ↦
          let now = turn.now k a (subst (λ x. Keeps after x k a) q h) in
          inr (subst (λ x. IsRight world after x k a) (sym q) (now.1 ∙ asks_same s before after self_to self_from, now.2))
      | inr w ↦ elim w.1 [
        | inl old ↦ elim (all n k a old y) [
          | inl z ↦ inl (turn.queued_still n k a h y (λ e. w.0 (ap (place_of world) e)) z)
          | inr z ↦ elim (either (requeued n)) [
            | inl t ↦ inl t
            | inr f ↦ inr (z.0 ∙ asks_same n before after (same_to n k a h y f) (same_from n k a h y f), settled_stays n k a old h w.0 (world.expand n a) refl z.1)
          ]
        ]
        | inr created ↦ inl (created.1 y)
      ]
    ]

  -- a list that is right as far as a limit is consistent that far
  module _ (nodes : Nodes) (queued : N → Bool) (limit : Option (List Rank)) (tree : IsTree world nodes)
      (right : AllRight world nodes queued) (late : (n : N) (k : Kind F P) (a : A) → Keeps nodes n k a
      → queued n ≡ true → IsBefore world limit (stamp_of world n) → ⊥) where
    settled : (n : N) (k : Kind F P) (a : A) → Keeps nodes n k a → is_instance k ≡ false
        → IsBefore world limit (stamp_of world n) → IsRight world nodes n k a
    settled n k a h i before = elim (right n k a h i) [ inl q ↦ absurd (late n k a h q before) | inr r ↦ r ]

    outcome_is : (k : Kind F P) (n : N) (r : Result (List (Placed N F P)) F) → IsSettled world nodes n k r
        → HasOutcome (members_of nodes) k r
    outcome_is k n (Ok children) h = (h.0, h.1.all)
    outcome_is k n (Err fault) h = h.0

    made_of : (s n : N) (j k : Kind F P) (b a : A) (i : ℕ) → Keeps nodes s j b → Keeps nodes n k a
        → IsChild (world.chain s) i (world.chain n) → (r : Result (List (Placed N F P)) F)
        → outcome_at world (members_of nodes) s ≡ r → IsSettled world nodes s j r → IsMade world (members_of nodes) n
    made_of s n j k b a i has there child (Ok children) e h =
        (s, children, Has-Keeps nodes s Done b (subst (λ x. Keeps nodes s x b) h.0 has), e, h.1.only n k a there i child)
    made_of s n j k b a i has there child (Err fault) e h = absurd (h.1.only n k a there i child).1

    -- where a tree's nodes off the agenda are right and none on it is before the limit, it is consistent so far
    pub right_consistent : IsConsistent world limit (members_of nodes)
    right_consistent = record {
      distinct = λ n m k j h g e.
          let u = Keeps-Has nodes n k h in
          let v = Keeps-Has nodes m j g in
          tree.distinct n m k j u.0 v.0 u.1 v.1 e;
      roots = λ n r. let w = tree.roots n r in (w.0, Has-Keeps nodes n w.0 w.1 w.2, w.3, w.4);
      each = λ n k h i before.
          let w = Keeps-Has nodes n k h in
          let z = settled n k w.0 w.1 i before in
          subst (HasOutcome (members_of nodes) k) (ap (world.expand n) z.0) (outcome_is k n (world.expand n w.0) z.1);
      only = λ n k h before.
          let w = Keeps-Has nodes n k h in
          elim (tree.under n k w.0 w.1) [
            | inl r ↦ inl r
            | inr u ↦
                let birth = birth-child world.mode (world.chain u.0) u.3 (world.chain n) (laws.whole u.0) u.6 in
                let z = settled u.0 u.1 u.2 u.4 u.5 (subst (IsBefore world limit) birth before) in
                inr (made_of u.0 n u.1 k u.2 w.0 u.3 u.4 w.1 u.6 (world.expand u.0 u.2) (ap (world.expand u.0) (sym z.0)) z.1)
          ];
    }

  -- what is on the agenda comes after each shape that had its turn
  abbrev Later : List N → Nodes → (N → Bool) → Type 0
  Later turned nodes queued = (t : N) → Among t turned → (m : N) (k : Kind F P) (a : A) → Keeps nodes m k a → queued m ≡ true → IsEarlier world (stamp_of world t) (stamp_of world m)

  all_earlier : (turned : List N) (s : N)
      → ((t : N) → Among t turned → IsEarlier world (stamp_of world t) (stamp_of world s)) → AllEarlier world s turned
  all_earlier [] s h = tt
  all_earlier (t ∷ turned) s h = (h t (inl refl), all_earlier turned s (λ u i. h u (inr i)))

  module _ (start : Nodes) (queued : N → Bool) where
    after-turn : (before nodes : Nodes) (s : N) (then now : N → Bool) → IsNext world before s then
        → QueuesOnly world before nodes s then now → (m : N) (k : Kind F P) (a : A) → Keeps nodes m k a → now m ≡ true
        → IsEarlier world (stamp_of world s) (stamp_of world m)
    after-turn before nodes s then now next only m k a h q = elim (only m k a h q) [
      | inl w ↦ next.first m k a w.0 w.1 w.2
      | inr r ↦ elim r [
        | inl c ↦ stamp-child world.mode (world.chain s) c.0 (world.chain m) (laws.whole s) c.1
        | inr e ↦ e
      ]
    ]

    turned-earlier : (before : Nodes) (s : N) (then : N → Bool) (turned : List N) → IsNext world before s then
        → ((k : Kind F P) × (a : A) × Keeps before s k a × (is_instance k ≡ false)) → Later turned before then → (t : N)
        → Among t turned → IsEarlier world (stamp_of world t) (stamp_of world s)
    turned-earlier before s then turned next was later t i = later t i s was.0 was.1 was.2 next.there

    later-worked : (turned : List N) (nodes : Nodes) (now : N → Bool) → Worked world start queued turned nodes now
        → Later turned nodes now
    later-worked [] nodes now w t i m k a h q = absurd i
    later-worked (s ∷ turned) nodes now (before, then, worked, next, turn, only) t i m k a h q =
        let after = after-turn before nodes s then now next only m k a h q in
        elim i [
          | inl e ↦ subst (λ x. IsEarlier world (stamp_of world x) (stamp_of world m)) e after
          | inr j ↦ order.trans (stamp_of world t) (stamp_of world s) (stamp_of world m) (turned-earlier before s then turned next turn.was (later-worked turned before then worked) t j) after
        ]

    turns-rise : (turned : List N) (nodes : Nodes) (now : N → Bool) → Worked world start queued turned nodes now
        → Rises world turned
    turns-rise [] nodes now w = tt
    turns-rise (s ∷ turned) nodes now (before, then, worked, next, turn, only) =
        (all_earlier turned s (turned-earlier before s then turned next turn.was (later-worked turned before then worked)), turns-rise turned before then worked)

    right-worked : (turned : List N) (nodes : Nodes) (now : N → Bool) → Worked world start queued turned nodes now
        → AllRight world start queued → AllRight world nodes now
    right-worked [] nodes now w right = subst (λ q. AllRight world nodes q) (sym w.1) (subst (λ x. AllRight world x queued) (sym w.0) right)
    right-worked (s ∷ turned) nodes now (before, then, worked, next, turn, only) right = still_right before nodes s then now turn (right-worked turned before then worked right)

    pub worked_rises : (turned : List N) (nodes : Nodes) (now : N → Bool) → Worked world start queued turned nodes now
        → Rises world turned × (AllRight world start queued → AllRight world nodes now)
    worked_rises turned nodes now w = (turns-rise turned nodes now w, right-worked turned nodes now w)
