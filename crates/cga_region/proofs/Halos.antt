-- Own members of jobs that see alike are, together, a consistent list.
use Rattle.std.proofs.Common.{◌≡◌, ◌+◌, List, ◌++◌, length, Bool, true, false, not, ◌&&◌, refl, sym, ap, ◌∙◌, subst}
use Rattle.std.proofs.Common.{◌⊎◌, inl, inr, Result, Ok, Err, arith}
use Rattle.std.specs.Ordering.{is_lt}
use Rattle.cga_order.specs.Stamp.{birth, stamp, stamps_cmp}
use Rattle.cga_order.specs.declared.placed.Placed.{Placed}
use Rattle.cga_order.specs.declared.placed.Kind.{Kind}
use Rattle.cga_order.specs.declared.placed.Kind.TheVariants.{Waiting, Done}
use Rattle.cga_order.specs.World.{Has, Among, shapes_where, is_instance}
use Rattle.cga_order.specs.Consistent.{SameMembers, Stands, HasOutcome}
use Rattle.cga_order.proofs.Door.{Among-append, Among-index, Among-shapes_where, Has-from_shapes_where, Has-index}
use Rattle.cga_order.proofs.Door.{slice_get-within}
use Rattle.cga_derivation.specs.Consistent.{IsConsistent, IsMade, exists_at, outcome_at, waits_at}
use Rattle.cga_derivation.specs.Derivation.{AllApart, Derivation, IsDerivation, IsDerived, NothingWaits, SameSeen}
use Rattle.cga_derivation.specs.Laws.{ConsistentIsWithin}
use Rattle.cga_derivation.specs.Stamps.{chain_in}
use Rattle.cga_derivation.proofs.Door.{derived_consistent, within}
use Rattle.cga_region.specs.Districts.{district}
use Rattle.cga_region.specs.Halos.{AreJobs, Job, SeesAlike, all_own, is_lot_of, own_of}
use Rattle.cga_region.proofs.Lists.{Has-filter, get-right}
use Rattle.cga_order.proofs.Door.{Among-left, Among-right}
use Rattle.cga_fraction.proofs.Door.{slice_get-append_left}
use Rattle.cga_region.proofs.Owned.{apart_of, chain_same, lot_of, root_in, own_in, own_from, one_job, own_once}

module _ {N A F P : Type 0} (derivation : Derivation N A F P) (laws : IsDerivation derivation) (jobs : List (Job N N F P)) (are : AreJobs derivation jobs) where
  abbrev pub zs : List (Placed N F P)
  zs = all_own derivation jobs

  abbrev job_of : Job N N F P → Derivation N A F P
  job_of job = district derivation (job.own ++ job.ring)

  good : (job : Job N N F P) → Among job jobs → IsConsistent (job_of job) job.members
  good job j =
      let d = are.derived job j in
      subst (IsConsistent (job_of job)) (sym d.1) (derived_consistent (job_of job) (are.laws job j) d.0 (subst (NothingWaits (job_of job)) d.1 d.2))

  pub apart : AllApart derivation zs
  apart = apart_of derivation zs (own_once derivation jobs are.lots (λ job j. (good job j).apart))

  module _ (job : Job N N F P) (j : Among job jobs) where
    abbrev pub IsOwn : N → Type 0
    IsOwn n = is_lot_of derivation job.own (derivation.lot n) ≡ true

    pub into : (n : N) (k : Kind F P) → IsOwn n → Has job.members n k → Has zs n k
    into n k o h = own_in derivation jobs job j n k (Has-filter (λ m. is_lot_of derivation job.own (derivation.lot m)) job.members n k h o)

    pub back : (n : N) (k : Kind F P) → IsOwn n → Has zs n k → Has job.members n k
    back n k o h =
        let w = own_from derivation jobs n k h in
        let q = root_in derivation w.0.own (derivation.lot n) w.3 in
        let r = root_in derivation job.own (derivation.lot n) o in
        subst (λ (y : Job N N F P). Has y.members n k) (one_job derivation jobs are.lots w.0 job w.1 j q.0 r.0 q.1 r.1 (q.2 ∙ sym r.2)) w.2

    lot_own : (n m : N) → derivation.lot m ≡ derivation.lot n → IsOwn n → IsOwn m
    lot_own n m e o = ap (is_lot_of derivation job.own) e ∙ o

    pub own_chain : (n : N) → IsOwn n → chain_in derivation job.members n ≡ chain_in derivation zs n
    own_chain n o = chain_same derivation job.members zs n apart (λ m k e h. into m k (lot_own n m e o) h) (λ m k e h. back m k (lot_own n m e o) h)

    module _ (alike : SeesAlike derivation jobs job) where
      module _ (n : N) (k : Kind F P) (h : Has job.members n k) (o : IsOwn n) (plain : is_instance k ≡ false) where
        mine : Has (own_of derivation job) n k
        mine = Has-filter (λ m. is_lot_of derivation job.own (derivation.lot m)) job.members n k h o

        exists_same : (m : N) (i : Kind F P) → chain_in derivation job.members m ≡ chain_in derivation zs m
            → exists_at derivation job.members n m i ≡ exists_at derivation zs n m i
        exists_same m i e = λ t. is_lt (stamps_cmp derivation.mode (birth derivation.mode (e t)) (stamp derivation.mode (own_chain n o t)))

        waits_same : (m : N) (i : Kind F P) → chain_in derivation job.members m ≡ chain_in derivation zs m
            → waits_at derivation job.members n m i ≡ waits_at derivation zs n m i
        waits_same m i e = λ t. (exists_same m i e t && not (is_instance i)) && is_lt (stamps_cmp derivation.mode (stamp derivation.mode (own_chain n o t)) (stamp derivation.mode (e t)))

        sees_same : (test other : N → Kind F P → Bool)
            → ((m : N) (i : Kind F P) → chain_in derivation job.members m ≡ chain_in derivation zs m
            → test m i ≡ other m i)
            → SameSeen derivation n (shapes_where test job.members) (shapes_where other zs)
        sees_same test other same m v = (
          (λ a.
              let w = Has-from_shapes_where test job.members m a in
              let s = alike n m k w.0 mine plain v (inl w.1) in
              Among-shapes_where other zs m w.0 s.1 (sym (same m w.0 s.2) ∙ w.2)),
          (λ a.
              let w = Has-from_shapes_where other zs m a in
              let s = alike n m k w.0 mine plain v (inr w.1) in
              Among-shapes_where test job.members m w.0 s.0 (same m w.0 s.2 ∙ w.2)),
        )

        outcome_same : outcome_at derivation job.members n ≡ outcome_at derivation zs n
        outcome_same =
            let existing = sees_same (exists_at derivation job.members n) (exists_at derivation zs n) exists_same in
            let waiting = sees_same (waits_at derivation job.members n) (waits_at derivation zs n) waits_same in
            ap (derivation.expand n) (laws.local n _ _ _ _ existing waiting)

      stands : (c : N) (k : Kind F P) → IsOwn c → Stands job.members c k → Stands zs c k
      stands c k o s = (s.0, into c s.0 o s.1, s.2, s.3)

      child_own : (n : N) (a : A) (cs : List (Placed N F P)) → derivation.expand n a ≡ Ok cs → IsOwn n → (c : N)
          (k : Kind F P) → Has cs c k → IsOwn c
      child_own n a cs e o c k h =
          let w = Has-index cs c k h in
          lot_own n c (ap derivation.lot (sym w.3) ∙ (laws.child n a cs e w.0 w.1 w.2).0) o

      has_outcome : (n : N) (a : A) (k : Kind F P) (r : Result (List (Placed N F P)) F) → derivation.expand n a ≡ r
          → IsOwn n → HasOutcome job.members k r → HasOutcome zs k r
      has_outcome n a k (Ok cs) e o h = (h.0, λ c i g. stands c i (child_own n a cs e o c i g) (h.1 c i g))
      has_outcome n a k (Err f) e o h = h

      each : (n : N) (k : Kind F P) → Has job.members n k → IsOwn n → is_instance k ≡ false
          → HasOutcome zs k (outcome_at derivation zs n)
      each n k h o plain = subst (HasOutcome zs k) (outcome_same n k h o plain) (has_outcome n _ k (outcome_at derivation job.members n) refl o ((good job j).each n k h plain))

      -- no own lot is one of the ring
      ring_differs : (n : N) → Among n job.ring → IsOwn n → ⊥
      ring_differs n g o =
          let law = are.laws job j in
          let r = root_in derivation job.own (derivation.lot n) o in
          let a = Among-index job.own r.0 r.1 in
          let b = Among-index job.ring n g in
          let below = slice_get-within job.own a.0 r.0 a.1 in
          let path = law.root r.0 (Among-left job.own job.ring r.0 r.1) ∙ sym (law.root n (Among-right job.own job.ring n g)) in
          let at = law.roots_apart a.0 (length job.own + b.0) r.0 n (slice_get-append_left job.own job.ring a.0 r.0 a.1) (get-right job.own job.ring _ b.0 n b.1 refl) (λ i. (r.2 i, path i)) in
          omega (arith, below, at)

      only : (n : N) (k : Kind F P) → Has job.members n k → IsOwn n → Among n derivation.roots ⊎ IsMade derivation zs n
      only n k h o = elim ((good job j).only n k h) [
        | inl root ↦ elim (Among-append job.own job.ring n root) [
          | inl l ↦ inl (are.roots job n j l)
          | inr r ↦ absurd (ring_differs n r o)
        ]
        | inr made ↦
            let child = Has-index made.1 n made.4.0 made.4.1 in
            let lot : derivation.lot n ≡ derivation.lot made.0 = ap derivation.lot (sym child.3) ∙ (laws.child made.0 _ made.1 made.3 child.0 child.1 child.2).0 in
            let own = lot_own n made.0 (sym lot) o in
            inr (made.0, made.1, into made.0 Done own made.2, sym (outcome_same made.0 Done made.2 own refl) ∙ made.3, made.4)
      ]

  module _ (alike : (job : Job N N F P) → Among job jobs → SeesAlike derivation jobs job) where
    consistent : IsConsistent derivation zs
    consistent = record {
      apart = apart;
      roots = λ n h.
          let w = are.each n h in
          stands w.0 w.1 (alike w.0 w.1) n Waiting (lot_of derivation w.0.own n w.2) ((good w.0 w.1).roots n (Among-left w.0.own w.0.ring n w.2));
      each = λ n k h plain. let w = own_from derivation jobs n k h in each w.0 w.1 (alike w.0 w.1) n k w.2 w.3 plain;
      only = λ n k h. let w = own_from derivation jobs n k h in only w.0 w.1 (alike w.0 w.1) n k w.2 w.3;
    }

    pub whole : ConsistentIsWithin N A F P
        → (list : List (Placed N F P)) × IsDerived derivation list × SameMembers zs list × (length list ≡ length zs)
    whole bound =
        let w = bound derivation laws zs consistent (length zs) (omega arith) in
        (w.0, within derivation laws (length zs) w.0 w.1, w.2, sym w.3)
