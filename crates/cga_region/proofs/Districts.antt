-- Districts that don't see one another are derived apart: they are jobs without a ring.
use Rattle.std.proofs.Common.{◌≡◌, ℕ, List, [], ◌∷◌, ◌++◌, length, true, false, refl, sym, ap, ◌∙◌, subst, inl, inr, Ok, length-append}
use Rattle.std.proofs.lemmas.List.{append-nil}
use Rattle.cga_order.specs.declared.placed.Placed.{Placed}
use Rattle.cga_order.specs.declared.placed.Kind.{Kind}
use Rattle.cga_order.specs.declared.placed.Kind.TheVariants.{Done}
use Rattle.cga_order.specs.World.{Has, Among, is_instance}
use Rattle.cga_order.specs.Consistent.{SameMembers}
use Rattle.cga_order.proofs.Door.{Has-index}
use Rattle.cga_derivation.proofs.Door.{derived_consistent, kept}
use Rattle.cga_derivation.specs.Derivation.{Derivation, IsDerivation, IsDerived, NothingWaits, reached}
use Rattle.cga_region.specs.Districts.{district, AreParts, DistrictsAreApart, SeesNone}
use Rattle.cga_region.specs.Halos.{AreJobs, Job, OwnMembersAreTheWhole, SeesAlike, all_own, is_lot_of, own_of}
use Rattle.cga_region.proofs.Halos.{into, own_chain}
use Rattle.cga_region.proofs.Lists.{filter-Has, filter_all}
use Rattle.cga_region.proofs.Owned.{lot_of, own_from}

-- each member has the lot of a root
module _ {N A F P : Type 0} (derivation : Derivation N A F P) (laws : IsDerivation derivation) (n : ℕ) (settled : NothingWaits derivation (reached derivation n)) where
  abbrev pub HasLot : N → Type 0
  HasLot x = (r : N) × Among r derivation.roots × (derivation.lot x ≡ derivation.lot r)

  child_lot : (s : N) (a : A) (cs : List (Placed N F P)) → HasLot s → derivation.expand s a ≡ Ok cs
      → (c : N) (k : Kind F P) → Has cs c k → HasLot c
  child_lot s a cs q e c k h =
      let w = Has-index cs c k h in
      let law = laws.child s a cs e w.0 w.1 w.2 in
      (q.0, q.1, ap derivation.lot (sym w.3) ∙ (law.0 ∙ q.2))

  pub lot_in : (x : N) (k : Kind F P) → Has (reached derivation n) x k → HasLot x
  lot_in x k h = elim ((derived_consistent derivation laws n settled).only x k h) [
    | inl r ↦ (x, r, refl)
    | inr m ↦ child_lot m.0 _ m.1 (kept derivation laws HasLot (λ r g. (r, g, refl)) (λ s a cs q e c j g p. child_lot s a cs q e c j g) n m.0 Done m.2 refl) m.3 x m.4.0 m.4.1
  ]

module _ {N A F P : Type 0} (derivation : Derivation N A F P) (laws : IsDerivation derivation) where
  abbrev Members : Type 0
  Members = List (Placed N F P)

  -- a part is a job without a ring
  abbrev alone : List N → Members → Job N N F P
  alone roots members = record { own = roots; ring = []; members = members }

  all_own_of : (roots : List N) (xs : Members) → IsDerivation (district derivation roots)
      → IsDerived (district derivation roots) xs → (n : N) (k : Kind F P) → Has xs n k
      → is_lot_of derivation roots (derivation.lot n) ≡ true
  all_own_of roots xs part ends n k h =
      let settled = subst (NothingWaits (district derivation roots)) ends.1 ends.2 in
      let r = lot_in (district derivation roots) part ends.0 settled n k (subst (λ l. Has l n k) ends.1 h) in
      ap (is_lot_of derivation roots) r.2 ∙ lot_of derivation roots r.0 r.1

  module _ (left right : List N) (parts : AreParts derivation left right)
      (left_laws : IsDerivation (district derivation left)) (right_laws : IsDerivation (district derivation right))
      (xs ys : Members) (left_ends : IsDerived (district derivation left) xs)
      (right_ends : IsDerived (district derivation right) ys) (left_sees : SeesNone derivation xs ys) (right_sees : SeesNone derivation ys xs) where
    abbrev one : Job N N F P
    one = alone left xs

    abbrev two : Job N N F P
    two = alone right ys

    abbrev jobs : List (Job N N F P)
    jobs = one ∷ two ∷ []

    -- what holds of both holds of each
    each_job : (Q : Job N N F P → Type 0) → Q one → Q two → (job : Job N N F P) → Among job jobs → Q job
    each_job Q p q job j = elim j [
      | inl e ↦ subst Q e p
      | inr r ↦ elim r [ inl e ↦ subst Q e q | inr none ↦ absurd none ]
    ]

    are : AreJobs derivation jobs
    are = record {
      each = λ n h. elim (parts.each n h) [ inl l ↦ (one, inl refl, l) | inr r ↦ (two, inr (inl refl), r) ];
      roots = λ job n j. each_job (λ job. Among n job.own → Among n derivation.roots) (parts.left_roots n) (parts.right_roots n) job j;
      lots = (
        (λ other n m o h g. elim o [
          | inl e ↦ parts.lots n m h (subst (λ (y : Job N N F P). Among m y.own) (sym e) g)
          | inr none ↦ absurd none
        ]),
        ((λ other n m o h g. absurd o), tt),
      );
      laws = each_job (λ job. IsDerivation (district derivation (job.own ++ job.ring)))
          (subst (λ rs. IsDerivation (district derivation rs)) (sym (append-nil left)) left_laws)
          (subst (λ rs. IsDerivation (district derivation rs)) (sym (append-nil right)) right_laws);
      derived = each_job (λ job. IsDerived (district derivation (job.own ++ job.ring)) job.members)
          (subst (λ rs. IsDerived (district derivation rs) xs) (sym (append-nil left)) left_ends)
          (subst (λ rs. IsDerived (district derivation rs) ys) (sym (append-nil right)) right_ends);
    }

    -- each member of a job is an own one
    owns : (job : Job N N F P) → Among job jobs → (n : N) (k : Kind F P) → Has job.members n k
        → is_lot_of derivation job.own (derivation.lot n) ≡ true
    owns = each_job (λ job. (n : N) (k : Kind F P) → Has job.members n k → is_lot_of derivation job.own (derivation.lot n) ≡ true)
        (all_own_of left xs left_laws left_ends) (all_own_of right ys right_laws right_ends)

    -- what a job sees of any job is its own
    abbrev Sees : Job N N F P → Job N N F P → Type 0
    Sees job other =
        (n m : N) (k i : Kind F P) → Has job.members n k → is_instance k ≡ false → derivation.sees n m ≡ true
        → Has other.members m i → Has job.members m i

    unseen : (us vs : Members) → SeesNone derivation us vs → (n m : N) (k i : Kind F P) → Has us n k
        → is_instance k ≡ false → derivation.sees n m ≡ true → Has vs m i → Has us m i
    unseen us vs none n m k i h plain v g = let no : true ≡ false = sym v ∙ none n m k i h plain g in absurd (cc)

    sees_own : (job : Job N N F P) → Among job jobs → (other : Job N N F P) → Among other jobs → Sees job other
    sees_own = each_job (λ job. (other : Job N N F P) → Among other jobs → Sees job other)
        (each_job (Sees one) (λ n m k i h plain v g. g) (unseen xs ys left_sees))
        (each_job (Sees two) (unseen ys xs right_sees) (λ n m k i h plain v g. g))

    alike : (job : Job N N F P) → Among job jobs → SeesAlike derivation jobs job
    alike job j n m k i h plain v some =
        let here : Has job.members m i = elim some [
          | inl g ↦ g
          | inr g ↦
              let w = own_from derivation jobs m i g in
              sees_own job j w.0 w.1 n m k i (filter-Has (λ s. is_lot_of derivation job.own (derivation.lot s)) job.members n k h).0 plain v w.2
        ] in
        let own = owns job j m i here in
        (here, into derivation laws jobs are job j m i own here, own_chain derivation laws jobs are job j m own)

    all_of_both : all_own derivation jobs ≡ xs ++ ys
    all_of_both =
        let first = filter_all (λ s. is_lot_of derivation left (derivation.lot s)) xs (all_own_of left xs left_laws left_ends) in
        let second = filter_all (λ s. is_lot_of derivation right (derivation.lot s)) ys (all_own_of right ys right_laws right_ends) in
        λ t. first t ++ (append-nil (own_of derivation two) ∙ second) t

pub districts : {N A F P : Type 0} → OwnMembersAreTheWhole N A F P → DistrictsAreApart N A F P
districts own derivation laws left right parts left_laws right_laws xs ys left_ends right_ends s t =
    let made = own derivation laws (jobs derivation laws left right parts left_laws right_laws xs ys left_ends right_ends s t)
    (are derivation laws left right parts left_laws right_laws xs ys left_ends right_ends s t)
    (alike derivation laws left right parts left_laws right_laws xs ys left_ends right_ends s t) in
    let both = all_of_both derivation laws left right parts left_laws right_laws xs ys left_ends right_ends s t in
    (made.0, made.1, subst (λ us. SameMembers us made.0) both made.2, made.3 ∙ (ap length both ∙ length-append xs ys))
