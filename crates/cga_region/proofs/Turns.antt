-- What turns leave, and that it stays.
use Rattle.std.proofs.Common.{◌≡◌, ℕ, zero, suc, ◌+◌, ◌-◌, ◌<◌, List, [], ◌∷◌, map, true, false, cond, refl, sym, ap, ◌∙◌, subst, ◌⊎◌, inl, inr, Option, Some, None, Result, Ok, Err, arith}
use Rattle.std.specs.Prelude.{slice_get, nat_eq, ◌&&◌}
use Rattle.std.proofs.lemmas.Bool.{and_parts as both, cases_Bool as either, cases_lt}
use lib.Pointwise.{pointwise, bytes_decides}
use Rattle.cga_order.specs.declared.placed.Placed.{Placed}
use Rattle.cga_order.specs.declared.placed.Kind.{Kind}
use Rattle.cga_order.specs.declared.placed.Kind.TheVariants.{Waiting, Done, Faulted}
use Rattle.cga_order.specs.World.{Has, is_instance, is_waiting}
use Rattle.cga_order.specs.Consistent.{Stands}
use Rattle.cga_order.proofs.Door.{Has-append, Has-index, Has-left, Has-right}
use Rattle.cga_derivation.specs.Derivation.{AllApart, Derivation, IsDerivation, NothingWaits, asked, become, is_next, next_of, outcome, place_of, reached, same_place, step, step_by, told}
use Rattle.cga_derivation.proofs.Door.{apart-reached, first_of-Has, first_of-passes, same_place-is, settled-reached, waiting_kind}

-- the kind that a turn leaves
abbrev pub kind_of : {N F P : Type 0} → Result (List (Placed N F P)) F → Kind F P
kind_of (Ok cs) = Done
kind_of (Err f) = Faulted f

abbrev pub children_of : {N F P : Type 0} → Result (List (Placed N F P)) F → List (Placed N F P)
children_of (Ok cs) = cs
children_of (Err f) = []

module _ {N A F P : Type 0} (derivation : Derivation N A F P) where
  abbrev Members : Type 0
  Members = List (Placed N F P)

  -- members of one place are one
  pub one_member : (list : Members) → AllApart derivation list → (n m : N) (k j : Kind F P) → Has list n k
      → Has list m j → place_of derivation n ≡ place_of derivation m → (n ≡ m) × (k ≡ j)
  one_member list apart n m k j h g same =
      let a = Has-index list n k h in
      let b = Has-index list m j g in
      let index : a.0 ≡ b.0 = apart a.0 b.0 a.1 b.1 a.2 b.2 (ap (place_of derivation) a.3 ∙ (same ∙ ap (place_of derivation) (sym b.3))) in
      let one : Some a.1 ≡ Some b.1 = sym a.2 ∙ (ap (slice_get list) index ∙ b.2) in
      let is : a.1 ≡ b.1 = cc in
      (sym a.3 ∙ (ap (λ (x : Placed N F P). x.shape) is ∙ b.3), sym a.4 ∙ (ap (λ (x : Placed N F P). x.kind) is ∙ b.4))

  same_self : (n : N) → same_place derivation n n ≡ true
  same_self n =
      let lots = (bytes_decides (derivation.lot n) (derivation.lot n)).1 refl in
      ap (λ b. b && pointwise nat_eq (derivation.path n) (derivation.path n)) lots ∙ (bytes_decides (derivation.path n) (derivation.path n)).1 refl

  become_at : (s : N) (kind : Kind F P) (ms : Members) (n : N) (k : Kind F P) → Has ms n k
      → same_place derivation n s ≡ true → Has (map (become derivation s kind) ms) n kind
  become_at s kind [] n k h e = absurd h
  become_at s kind (m ∷ ms) n k h e = elim h [
    | inl w ↦ let t : same_place derivation m.shape s ≡ true = ap (λ x. same_place derivation x s) w.0 ∙ e in
        inl (ap (λ b. (cond b (record { shape = m.shape; kind = kind }) m).shape) t ∙ w.0, ap (λ b. (cond b (record { shape = m.shape; kind = kind }) m).kind) t)
    | inr r ↦ inr (become_at s kind ms n k r e)
  ]

  become_off : (s : N) (kind : Kind F P) (ms : Members) (n : N) (k : Kind F P) → Has ms n k
      → same_place derivation n s ≡ false → Has (map (become derivation s kind) ms) n k
  become_off s kind [] n k h e = absurd h
  become_off s kind (m ∷ ms) n k h e = elim h [
    | inl w ↦ let t : same_place derivation m.shape s ≡ false = ap (λ x. same_place derivation x s) w.0 ∙ e in
        inl (ap (λ b. (cond b (record { shape = m.shape; kind = kind }) m).shape) t ∙ w.0, ap (λ b. (cond b (record { shape = m.shape; kind = kind }) m).kind) t ∙ w.1)
    | inr r ↦ inr (become_off s kind ms n k r e)
  ]

  become_from : (s : N) (kind : Kind F P) (ms : Members) (n : N) (k : Kind F P)
      → Has (map (become derivation s kind) ms) n k
      → Has ms n k ⊎ ((same_place derivation n s ≡ true) × (k ≡ kind) × ((j : Kind F P) × Has ms n j))
  become_from s kind [] n k h = absurd h
  become_from s kind (m ∷ ms) n k h = elim h [
    | inl w ↦ elim (either (same_place derivation m.shape s)) [
      | inl t ↦
          let shape : m.shape ≡ n = sym (ap (λ b. (cond b (record { shape = m.shape; kind = kind }) m).shape) t) ∙ w.0 in
          inr (ap (λ x. same_place derivation x s) (sym shape) ∙ t, sym w.1 ∙ ap (λ b. (cond b (record { shape = m.shape; kind = kind }) m).kind) t, (m.kind, inl (shape, refl)))
      | inr f ↦ inl (inl (sym (ap (λ b. (cond b (record { shape = m.shape; kind = kind }) m).shape) f) ∙ w.0, sym (ap (λ b. (cond b (record { shape = m.shape; kind = kind }) m).kind) f) ∙ w.1))
    ]
    | inr r ↦ elim (become_from s kind ms n k r) [
      | inl g ↦ inl (inr g)
      | inr g ↦ inr (g.0, g.1, (g.2.0, inr g.2.1))
    ]
  ]

  told_left : (list : Members) (s : N) (r : Result Members F) (n : N) (k : Kind F P)
      → Has (map (become derivation s (kind_of r)) list) n k → Has (told derivation list s r) n k
  told_left list s (Ok cs) n k h = Has-left (map (become derivation s Done) list) cs n k h
  told_left list s (Err f) n k h = h

  told_right : (list : Members) (s : N) (r : Result Members F) (n : N) (k : Kind F P) → Has (children_of r) n k
      → Has (told derivation list s r) n k
  told_right list s (Ok cs) n k h = Has-right (map (become derivation s Done) list) cs n k h
  told_right list s (Err f) n k h = absurd h

  told_from : (list : Members) (s : N) (r : Result Members F) (n : N) (k : Kind F P)
      → Has (told derivation list s r) n k
      → Has (map (become derivation s (kind_of r)) list) n k ⊎ Has (children_of r) n k
  told_from list s (Ok cs) n k h = Has-append (map (become derivation s Done) list) cs n k h
  told_from list s (Err f) n k h = inl h

  pub kind_plain : (r : Result Members F) → is_instance (kind_of r) ≡ false
  kind_plain (Ok cs) = refl
  kind_plain (Err f) = refl

  kind_done : (r : Result Members F) → is_waiting (kind_of r) ≡ false
  kind_done (Ok cs) = refl
  kind_done (Err f) = refl

  waiting_plain : (k : Kind F P) → k ≡ Waiting → is_instance k ≡ false
  waiting_plain k e = ap is_instance e

  module _ (laws : IsDerivation derivation) where
    -- a turn takes a waiting member
    pub taken_waits : (n : ℕ) (m : Placed N F P) → next_of derivation (reached derivation n) ≡ Some m
        → Has (reached derivation n) m.shape Waiting
    taken_waits n m e =
        let kind = waiting_kind m.kind (both _ _ (first_of-passes (is_next derivation (reached derivation n)) (reached derivation n) m e)).0 in
        subst (Has (reached derivation n) m.shape) kind (first_of-Has (is_next derivation (reached derivation n)) (reached derivation n) m e)

    abbrev pub created : ℕ → Placed N F P → Result Members F
    created n m = outcome derivation (reached derivation n) m.shape

    -- what a turn leaves
    turned : (n : ℕ) (m : Placed N F P) → next_of derivation (reached derivation n) ≡ Some m
        → reached derivation (suc n) ≡ told derivation (reached derivation n) m.shape (created n m)
    unfolding reached step
    turned n m e = ap (step_by derivation (reached derivation n)) e

    quiet : (n : ℕ) → next_of derivation (reached derivation n) ≡ None
        → reached derivation (suc n) ≡ reached derivation n
    unfolding reached step
    quiet n e = ap (step_by derivation (reached derivation n)) e

    -- a member stays, or is the one that was taken
    next_has : (n : ℕ) (x : N) (k : Kind F P) → Has (reached derivation n) x k
        → Has (reached derivation (suc n)) x k
        ⊎ ((k ≡ Waiting) × ((j : Kind F P) × Has (reached derivation (suc n)) x j × (is_instance j ≡ false)))
    next_has n x k h = by (next_of derivation (reached derivation n)) refl
      where
        by : (o : Option (Placed N F P)) → next_of derivation (reached derivation n) ≡ o
            → Has (reached derivation (suc n)) x k
            ⊎ ((k ≡ Waiting) × ((j : Kind F P) × Has (reached derivation (suc n)) x j × (is_instance j ≡ false)))
        by None e = inl (subst (λ l. Has l x k) (sym (quiet n e)) h)
        by (Some m) e = elim (either (same_place derivation x m.shape)) [
          | inl t ↦
              let one = one_member (reached derivation n) (apart-reached derivation laws n) x m.shape k Waiting h (taken_waits n m e) (same_place-is derivation x m.shape t) in
              let now = kind_of (created n m) in
              let there = told_left (reached derivation n) m.shape (created n m) x now (become_at m.shape now (reached derivation n) x k h t) in
              inr (one.1, (now, subst (λ l. Has l x now) (sym (turned n m e)) there, kind_plain (created n m)))
          | inr f ↦ inl (subst (λ l. Has l x k) (sym (turned n m e))
              (told_left (reached derivation n) m.shape (created n m) x k (become_off m.shape (kind_of (created n m)) (reached derivation n) x k h f)))
        ]

    -- so a member that doesn't wait stays
    pub done_stays : (n i : ℕ) (x : N) (k : Kind F P) → is_waiting k ≡ false → Has (reached derivation n) x k
        → Has (reached derivation (i + n)) x k
    done_stays n zero x k w h = let e : n ≡ zero + n = omega arith in subst (λ j. Has (reached derivation j) x k) e h
    done_stays n (suc i) x k w h =
        let e : suc (i + n) ≡ suc i + n = omega arith in
        subst (λ j. Has (reached derivation j) x k) e (elim (next_has (i + n) x k (done_stays n i x k w h)) [
          | inl g ↦ g
          | inr g ↦ let no : true ≡ false = sym (ap is_waiting g.0) ∙ w in absurd (cc)
        ])

    -- and each stands later
    pub stands_later : (n i : ℕ) (x : N) (k : Kind F P) → Has (reached derivation n) x k
        → Stands (reached derivation (i + n)) x k
    stands_later n zero x k h = let e : n ≡ zero + n = omega arith in (k, subst (λ j. Has (reached derivation j) x k) e h, refl, λ q. refl)
    stands_later n (suc i) x k h =
        let e : suc (i + n) ≡ suc i + n = omega arith in
        let (j, has, alike, same) = stands_later n i x k h in
        subst (λ l. Stands (reached derivation l) x k) e (elim (next_has (i + n) x j has) [
          | inl g ↦ (j, g, alike, same)
          | inr g ↦
              let plain : is_instance k ≡ false = sym alike ∙ waiting_plain j g.0 in
              (g.1.0, g.1.1, g.1.2 ∙ sym plain, λ q. let no : true ≡ false = sym q ∙ plain in absurd (cc))
        ])

    -- where a turn leaves its shape and children
    pub turn_left : (n : ℕ) (m : Placed N F P) → next_of derivation (reached derivation n) ≡ Some m
        → Has (reached derivation (suc n)) m.shape (kind_of (created n m))
        × ((c : N) (k : Kind F P) → Has (children_of (created n m)) c k → Has (reached derivation (suc n)) c k)
    turn_left n m e =
        let now = kind_of (created n m) in
        let there = become_at m.shape now (reached derivation n) m.shape Waiting (taken_waits n m e) (same_self m.shape) in (
          subst (λ l. Has l m.shape now) (sym (turned n m e)) (told_left (reached derivation n) m.shape (created n m) m.shape now there),
          λ c k h. subst (λ l. Has l c k) (sym (turned n m e)) (told_right (reached derivation n) m.shape (created n m) c k h),
        )

    -- where a member of the next configuration comes from
    pub next_from : (n : ℕ) (x : N) (k : Kind F P) → Has (reached derivation (suc n)) x k
        → Has (reached derivation n) x k
        ⊎ ((m : Placed N F P) × (next_of derivation (reached derivation n) ≡ Some m)
        × (((m.shape ≡ x) × (k ≡ kind_of (created n m))) ⊎ Has (children_of (created n m)) x k))
    next_from n x k h = by (next_of derivation (reached derivation n)) refl
      where
        by : (o : Option (Placed N F P)) → next_of derivation (reached derivation n) ≡ o
            → Has (reached derivation n) x k
            ⊎ ((m : Placed N F P) × (next_of derivation (reached derivation n) ≡ Some m)
            × (((m.shape ≡ x) × (k ≡ kind_of (created n m))) ⊎ Has (children_of (created n m)) x k))
        by None e = inl (subst (λ l. Has l x k) (quiet n e) h)
        by (Some m) e = elim (told_from (reached derivation n) m.shape (created n m) x k (subst (λ l. Has l x k) (turned n m e) h)) [
          | inl g ↦ elim (become_from m.shape (kind_of (created n m)) (reached derivation n) x k g) [
            | inl a ↦ inl a
            | inr a ↦
                let one = one_member (reached derivation n) (apart-reached derivation laws n) x m.shape a.2.0 Waiting a.2.1 (taken_waits n m e) (same_place-is derivation x m.shape a.0) in
                inr (m, e, inl (sym one.0, a.1))
          ]
          | inr g ↦ inr (m, e, inr g)
        ]

    -- a child is new
    pub child_new : (n : ℕ) (m : Placed N F P) (r : Result Members F) → created n m ≡ r → (c : N) (k : Kind F P)
        → Has (children_of r) c k
        → (derivation.lot c ≡ derivation.lot m.shape) × ((is_waiting k ≡ true) ⊎ (is_instance k ≡ true))
    child_new n m (Err f) e c k h = absurd h
    child_new n m (Ok cs) e c k h =
        let w = Has-index cs c k h in
        let law = laws.child m.shape (asked derivation (reached derivation n) m.shape) cs e w.0 w.1 w.2 in (
          ap derivation.lot (sym w.3) ∙ law.0,
          elim law.2 [
            | inl q ↦ inl (ap is_waiting (sym w.4 ∙ q))
            | inr q ↦ inr (ap is_instance (sym w.4 ∙ q.1))
          ],
        )

    -- what was expanded had a turn
    pub had_turn : (n : ℕ) (x : N) (k : Kind F P) → Has (reached derivation n) x k → is_waiting k ≡ false
        → is_instance k ≡ false
        → (i : ℕ) × (m : Placed N F P) × (next_of derivation (reached derivation i) ≡ Some m) × (m.shape ≡ x) × (i < n)
    unfolding reached
    had_turn zero x k h w p = let no : true ≡ false = sym (ap is_waiting (roots_wait derivation.roots x k h)) ∙ w in absurd (cc)
      where
        roots_wait : (rs : List N) (y : N) (j : Kind F P)
            → Has {N = N} {F = F} {P = P} (map (λ n. record { shape = n; kind = Waiting }) rs) y j → j ≡ Waiting
        roots_wait [] y j g = absurd g
        roots_wait (r ∷ rs) y j g = elim g [ inl e ↦ sym e.1 | inr q ↦ roots_wait rs y j q ]
    had_turn (suc n) x k h w p = elim (next_from n x k h) [
      | inl g ↦ let t = had_turn n x k g w p in (t.0, t.1, t.2, t.3, omega (arith, t.4))
      | inr g ↦ elim g.2 [
        | inl e ↦ (n, g.0, g.1, e.0, omega arith)
        | inr c ↦ elim (child_new n g.0 (created n g.0) refl x k c).1 [
          | inl q ↦ let no : true ≡ false = sym q ∙ w in absurd (cc)
          | inr q ↦ let no : true ≡ false = sym q ∙ p in absurd (cc)
        ]
      ]
    ]

    -- a turn comes before the end
    pub before_end : (end : ℕ) → NothingWaits derivation (reached derivation end) → (n : ℕ) (m : Placed N F P)
        → next_of derivation (reached derivation n) ≡ Some m → n < end
    before_end end ends n m e = elim (cases_lt n end) [
      | inl below ↦ below
      | inr above ↦
          let gap : (n - end) + end ≡ n = omega (arith, above) in
          let same : reached derivation n ≡ reached derivation end = ap (reached derivation) (sym gap) ∙ settled-reached derivation end (n - end) ends in
          absurd (ends m.shape (subst (λ l. Has l m.shape Waiting) same (taken_waits n m e)))
    ]

    -- what its turn left of a shape is there in the end
    pub turn_ends : (end : ℕ) (n : ℕ) (m : Placed N F P) → next_of derivation (reached derivation n) ≡ Some m → n < end
        → Has (reached derivation end) m.shape (kind_of (created n m))
        × ((c : N) (k : Kind F P) → Has (children_of (created n m)) c k → Stands (reached derivation end) c k)
    turn_ends end n m e below =
        let gap : (end - suc n) + suc n ≡ end = omega (arith, below) in
        let left = turn_left n m e in (
          subst (λ l. Has (reached derivation l) m.shape (kind_of (created n m))) gap (done_stays (suc n) (end - suc n) m.shape (kind_of (created n m)) (kind_done (created n m)) left.0),
          λ c k h. subst (λ l. Stands (reached derivation l) c k) gap (stands_later (suc n) (end - suc n) c k (left.1 c k h)),
        )
