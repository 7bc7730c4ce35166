-- Jobs of a town that are settled see alike, and so they are the town.
use Rattle.std.proofs.Common.{◌≡◌, ℕ, List, [], ◌∷◌, ◌++◌, map, true, false, not, ◌&&◌, ◌||◌, refl, sym, ap, ◌∙◌, subst, ◌⊎◌, inl, inr, Ok, Some}
use Rattle.std.specs.Prelude.{slice_get}
use Rattle.std.proofs.lemmas.Bool.{and_parts as both, or_cases}
use Rattle.cga_word.specs.declared.answers.Answers.{Answers}
use Rattle.cga_word.specs.declared.primitive.Primitive.{Primitive}
use Rattle.cga_word.specs.declared.target.Target.{Target}
use Rattle.cga_word.specs.declared.target.Target.TheVariants.{Noparent, Active}
use Rattle.cga_frame.specs.Box.{box_of, meets}
use Rattle.cga_order.specs.World.{Among, Has, is_instance}
use Rattle.cga_order.specs.declared.placed.Kind.{Kind}
use Rattle.cga_order.proofs.Door.{Among-append, Among-index}
use Rattle.cga_rule.specs.declared.grammar.Grammar.{Grammar}
use Rattle.cga_shape.specs.declared.lot.Lot.{Lot}
use Rattle.cga_shape.specs.declared.shape.Shape.{Shape}
use Rattle.cga_shape.specs.declared.shape_fault.ShapeFault.{ShapeFault}
use Rattle.cga_shape.specs.declared.sources.Sources.{Sources}
use Rattle.cga_shape.specs.Root.{root_of}
use Rattle.cga_derivation.specs.Derivation.{AllApart, Derivation, IsDerivation, IsDerived, NothingWaits}
use Rattle.cga_derivation.specs.Laws.{ConsistentIsWithin}
use Rattle.cga_derivation.specs.Stamps.{chain_in}
use Rattle.cga_expand.specs.Asked.{asks_for, on_path, sees}
use Rattle.cga_expand.specs.Children.{Member}
use Rattle.cga_expand.specs.Derivation.{derivation_of, roots_of, NamesDiffer}
use Rattle.cga_expand.proofs.Door.{roots_of-append, sources_are_derivations}
use Rattle.cga_region.specs.Districts.{district}
use Rattle.cga_region.specs.Halos.{AreJobs, Job, LotsDiffer, SeesAlike, is_lot_of}
use Rattle.cga_region.specs.TownJobs.{AreJobsOf, AreSettled, HaveAlike, JobsAreTheTown, LotJob, lots_of, own_members, rooted}
use Rattle.cga_region.specs.TownParts.{joined}
use Rattle.cga_region.specs.Towns.{with_lots}
use Rattle.cga_region.proofs.Districts.{lot_in}
use Rattle.cga_region.proofs.Owned.{chain_same, lot_of, own_from, root_in}
use Rattle.cga_region.proofs.Halos.{apart, back, into, whole, zs}
use Rattle.cga_region.proofs.Lists.{filter-Has}
use Rattle.cga_order.proofs.Door.{Among-left, Among-map, Among-right, map-Among}
use Rattle.cga_region.proofs.TownRoots.{differ_right, lot_of_root, name_of, root_of_lot, two_names}

-- ---- the lots of jobs

pub in_joined : (jobs : List LotJob) (job : LotJob) (x : Lot) → Among job jobs → Among x job.own
    → Among x (joined (map (λ (job : LotJob). job.own) jobs))
in_joined [] job x j h = absurd j
in_joined (y ∷ jobs) job x j h = elim j [
  | inl e ↦ Among-left y.own (joined (map (λ (job : LotJob). job.own) jobs)) x (subst (λ (z : LotJob). Among x z.own) (sym e) h)
  | inr r ↦ Among-right y.own (joined (map (λ (job : LotJob). job.own) jobs)) x (in_joined jobs job x r h)
]

job_of_lot : (jobs : List LotJob) (x : Lot) → Among x (joined (map (λ (job : LotJob). job.own) jobs))
    → (job : LotJob) × Among job jobs × Among x job.own
job_of_lot [] x h = absurd h
job_of_lot (y ∷ jobs) x h = elim (Among-append y.own (joined (map (λ (job : LotJob). job.own) jobs)) x h) [
  | inl l ↦ (y, inl refl, l)
  | inr r ↦ let w = job_of_lot jobs x r in (w.0, inr w.1, w.2)
]

lots_differ : (sources : Sources) (jobs : List LotJob) → NamesDiffer (joined (map (λ (job : LotJob). job.own) jobs))
    → LotsDiffer (derivation_of sources) (map rooted jobs)
lots_differ sources [] differ = tt
lots_differ sources (job ∷ jobs) differ = (
  (λ other n m o h g same.
      let w = Among-map rooted jobs other o in
      let x = lot_of_root job.own n h in
      let y = lot_of_root w.0.own m (subst (λ (j : Job Shape Shape ShapeFault Primitive). Among m j.own) (sym w.2) g) in
      two_names job.own (joined (map (λ (job : LotJob). job.own) jobs)) differ x.0 y.0 x.1 (in_joined jobs w.0 y.0 w.1 y.1) (sym (name_of x.0 n x.2) ∙ (same ∙ name_of y.0 m y.2))),
  lots_differ sources jobs (differ_right job.own (joined (map (λ (job : LotJob). job.own) jobs)) differ),
)

-- lots of one name are one
pub one_lot : (lots : List Lot) → NamesDiffer lots → (x y : Lot) → Among x lots → Among y lots → x.name ≡ y.name
    → x ≡ y
one_lot lots differ x y h g same =
    let a = Among-index lots x h in
    let b = Among-index lots y g in
    let at = differ a.0 b.0 x y a.1 b.1 same in
    let one : Some x ≡ Some y = sym a.1 ∙ (ap (slice_get lots) at ∙ b.1) in
    cc

-- ---- what is seen

either_target : (grammar : Grammar) (s : Shape)
    → (asks_for grammar s.symbol Noparent || asks_for grammar s.symbol Active) ≡ true
    → (target : Target) × (asks_for grammar s.symbol target ≡ true)
either_target grammar s e = elim (or_cases (asks_for grammar s.symbol Noparent) (asks_for grammar s.symbol Active) e) [
  | inl a ↦ (Noparent, a)
  | inr a ↦ (Active, a)
]

saw : (grammar : Grammar) (s m : Shape) → sees grammar s m ≡ true
    → (target : Target) × (asks_for grammar s.symbol target ≡ true) × (meets (box_of m.scope) (box_of s.scope) ≡ true)
unfolding sees
saw grammar s m e =
    let parts = both (asks_for grammar s.symbol Noparent || asks_for grammar s.symbol Active) (meets (box_of m.scope) (box_of s.scope) && not (on_path m s)) e in
    let target = either_target grammar s parts.0 in
    (target.0, target.1, (both (meets (box_of m.scope) (box_of s.scope)) (not (on_path m s)) parts.1).0)

module _ (sources : Sources) (differ : NamesDiffer sources.lots) (jobs : List LotJob) (are : AreJobsOf sources jobs) where
  abbrev D : Derivation Shape Answers ShapeFault Primitive
  D = derivation_of sources

  abbrev Rooted : Type 0
  Rooted = Job Shape Shape ShapeFault Primitive

  abbrev roots_are : LotJob → List Shape
  roots_are job = roots_of job.own ++ roots_of job.ring

  job_laws : (job : LotJob) → Among job jobs → IsDerivation (district D (roots_are job))
  job_laws job j = subst (λ rs. IsDerivation (district D rs)) (roots_of-append job.own job.ring) (sources_are_derivations (with_lots sources (lots_of job)) (are.differ job j))

  job_derived : (job : LotJob) → Among job jobs → IsDerived (district D (roots_are job)) job.members
  job_derived job j = subst (λ rs. IsDerived (district D rs) job.members) (roots_of-append job.own job.ring) (are.derived job j)

  laws : IsDerivation D
  laws = sources_are_derivations sources differ

  roots_are_jobs : AreJobs D (map rooted jobs)
  roots_are_jobs = record {
    each = λ n h.
        let x = lot_of_root sources.lots n h in
        let w = job_of_lot jobs x.0 ((are.parts.same x.0).0 x.1) in
        (rooted w.0, map-Among rooted jobs w.0 w.1, root_of_lot w.0.own x.0 n w.2 x.2);
    roots = λ job n j h.
        let w = Among-map rooted jobs job j in
        let x = lot_of_root w.0.own n (subst (λ (y : Rooted). Among n y.own) (sym w.2) h) in
        root_of_lot sources.lots x.0 n ((are.parts.same x.0).1 (in_joined jobs w.0 x.0 w.1 x.1)) x.2;
    lots = lots_differ sources jobs are.parts.differ;
    laws = λ job j. let w = Among-map rooted jobs job j in subst (λ (y : Rooted). IsDerivation (district D (y.own ++ y.ring))) w.2 (job_laws w.0 w.1);
    derived = λ job j. let w = Among-map rooted jobs job j in subst (λ (y : Rooted). IsDerived (district D (y.own ++ y.ring)) y.members) w.2 (job_derived w.0 w.1);
  }

  -- the lot of a member of a job is one of its lots, and has a root
  member_lot : (job : LotJob) → Among job jobs → (m : Shape) (k : Kind ShapeFault Primitive) → Has job.members m k
      → (x : Lot) × (r : Shape) × Among x (lots_of job) × (root_of x ≡ Ok r) × (m.lot ≡ r.lot)
  member_lot job j m k h =
      let S = derivation_of (with_lots sources (lots_of job)) in
      let ends = are.derived job j in
      let settled = subst (NothingWaits S) ends.1 ends.2 in
      let r = lot_in S (sources_are_derivations (with_lots sources (lots_of job)) (are.differ job j)) ends.0 settled m k (subst (λ (l : List Member). Has l m k) ends.1 h) in
      let x = lot_of_root (lots_of job) r.0 r.1 in
      (x.0, r.0, x.1, x.2, r.2)

  -- an own lot has this name
  own_lot : (job : LotJob) (lot : List ℕ) → is_lot_of D (roots_of job.own) lot ≡ true
      → (x : Lot) × Among x job.own × (lot ≡ x.name)
  own_lot job lot e =
      let r = root_in D (roots_of job.own) lot e in
      let x = lot_of_root job.own r.0 r.1 in
      (x.0, x.1, sym r.2 ∙ name_of x.0 r.0 x.2)

  -- a lot that has a root, and the job that answers for it
  record Answered : Type 0 where
    job : LotJob
    there : Among job jobs
    lot : Lot
    own : Among lot job.own
    rooted : is_lot_of D (roots_of job.own) lot.name ≡ true

  module _ (settled : AreSettled sources.grammar jobs) (job : LotJob) (j : Among job jobs) where
    abbrev list : List Member
    list = zs D laws (map rooted jobs) roots_are_jobs

    -- of a lot that both jobs derived alike, the list has what they have
    as_derived : (a : Answered) → HaveAlike a.lot.name job.members a.job.members → (m : Shape)
        (i : Kind ShapeFault Primitive) → m.lot ≡ a.lot.name → Has a.job.members m i
        → Has job.members m i × Has list m i × (chain_in D job.members m ≡ chain_in D list m)
    as_derived a alike m i e h =
        let to = into D laws (map rooted jobs) roots_are_jobs (rooted a.job) (map-Among rooted jobs a.job a.there) in
        let from = back D laws (map rooted jobs) roots_are_jobs (rooted a.job) (map-Among rooted jobs a.job a.there) in
        let is_own : (n : Shape) → n.lot ≡ a.lot.name → is_lot_of D (roots_of a.job.own) n.lot ≡ true = λ n q. ap (is_lot_of D (roots_of a.job.own)) q ∙ a.rooted in
        let chain = chain_same D job.members list m (apart D laws (map rooted jobs) roots_are_jobs)
        (λ n k q g. to n k (is_own n (q ∙ e)) ((alike n k (q ∙ e)).0 g))
        (λ n k q g. (alike n k (q ∙ e)).1 (from n k (is_own n (q ∙ e)) g)) in
        ((alike m i e).1 h, to m i (is_own m e) h, chain)

    -- a lot of the job sees a lot that another answers for
    by_lots : (x : Lot) → Among x job.own → (a : Answered) (n m : Shape) (k i : Kind ShapeFault Primitive)
        → Has job.members n k → n.lot ≡ x.name → is_instance k ≡ false → sees sources.grammar n m ≡ true
        → m.lot ≡ a.lot.name → Has job.members m i ⊎ Has a.job.members m i
        → Has job.members m i × Has list m i × (chain_in D job.members m ≡ chain_in D list m)
    by_lots x mine a n m k i h e plain v f some = elim (settled job a.job x a.lot j a.there mine a.own) [
      | inl alike ↦ as_derived a alike m i f (elim some [ inl g ↦ (alike m i f).0 g | inr g ↦ g ])
      | inr far ↦
          let s = saw sources.grammar n m v in
          let off : meets (box_of m.scope) (box_of n.scope) ≡ false = elim some [
            | inl g ↦ far.0 n m k i s.0 h e plain s.1 g f
            | inr g ↦ far.1 n m k i s.0 h e plain s.1 g f
          ] in
          let no : true ≡ false = sym s.2 ∙ off in absurd (cc)
    ]

    sees_alike : SeesAlike D (map rooted jobs) (rooted job)
    sees_alike n m k i h plain v some =
        let mine = filter-Has (λ s. is_lot_of D (roots_of job.own) s.lot) job.members n k h in
        let x = own_lot job n.lot mine.1 in
        elim some [
          | inl g ↦
              let z = member_lot job j m i g in
              let town : Among z.0 sources.lots = elim (Among-append job.own job.ring z.0 z.2) [
                | inl l ↦ (are.parts.same z.0).1 (in_joined jobs job z.0 j l)
                | inr r ↦ are.rings job z.0 j r
              ] in
              let o = job_of_lot jobs z.0 ((are.parts.same z.0).0 town) in
              let lot : m.lot ≡ z.0.name = z.4 ∙ name_of z.0 z.1 z.3 in
              let root = root_of_lot o.0.own z.0 z.1 o.2 z.3 in
              let own : is_lot_of D (roots_of o.0.own) z.0.name ≡ true = ap (is_lot_of D (roots_of o.0.own)) (sym (name_of z.0 z.1 z.3)) ∙ lot_of D (roots_of o.0.own) z.1 root in
              let answered : Answered = record { job = o.0; there = o.1; lot = z.0; own = o.2; rooted = own } in
              by_lots x.0 x.1 answered n m k i mine.0 x.2 plain v lot (inl g)
          | inr g ↦
              let w = own_from D (map rooted jobs) m i g in
              let o = Among-map rooted jobs w.0 w.1 in
              let own : is_lot_of D (roots_of o.0.own) m.lot ≡ true = subst (λ (y : Rooted). is_lot_of D y.own m.lot ≡ true) (sym o.2) w.3 in
              let y = own_lot o.0 m.lot own in
              let rooted_y = ap (is_lot_of D (roots_of o.0.own)) (sym y.2) ∙ own in
              let answered : Answered = record { job = o.0; there = o.1; lot = y.0; own = y.1; rooted = rooted_y } in
              by_lots x.0 x.1 answered n m k i mine.0 x.2 plain v y.2 (inr (subst (λ (y : Rooted). Has y.members m i) (sym o.2) w.2))
        ]

  -- a lot of a job is one of the town
  pub of_town : (job : LotJob) → Among job jobs → (x : Lot) → Among x (lots_of job) → Among x sources.lots
  of_town job j x h = elim (Among-append job.own job.ring x h) [
    | inl l ↦ (are.parts.same x).1 (in_joined jobs job x j l)
    | inr r ↦ are.rings job x j r
  ]

  abbrev whole_list : List Member
  whole_list = zs D laws (map rooted jobs) roots_are_jobs

  -- of its own lots a job derived what stands in the list
  own_alike : (job : LotJob) (x : Lot) → Among job jobs → Among x job.own → HaveAlike x.name whole_list job.members
  own_alike job x j h s k e =
      let there = map-Among rooted jobs job j in
      let by_root : (z : Lot) (r : Shape) → Among z sources.lots → root_of z ≡ Ok r → s.lot ≡ r.lot → is_lot_of D (roots_of job.own) s.lot ≡ true =
      λ z r town root lot.
      let is = one_lot sources.lots differ z x town (of_town job j x (Among-left job.own job.ring x h)) (sym (name_of z r root) ∙ (sym lot ∙ e)) in
      ap (is_lot_of D (roots_of job.own)) lot ∙ lot_of D (roots_of job.own) r (root_of_lot job.own x r h (ap root_of (sym is) ∙ root)) in (
        λ g.
            let w = own_from D (map rooted jobs) s k g in
            let o = Among-map rooted jobs w.0 w.1 in
            let r = root_in D (roots_of o.0.own) s.lot (subst (λ (y : Rooted). is_lot_of D y.own s.lot ≡ true) (sym o.2) w.3) in
            let z = lot_of_root o.0.own r.0 r.1 in
            back D laws (map rooted jobs) roots_are_jobs (rooted job) there s k (by_root z.0 r.0 (of_town o.0 o.1 z.0 (Among-left o.0.own o.0.ring z.0 z.1)) z.2 (sym r.2)) g,
        λ g.
            let z = member_lot job j s k g in
            into D laws (map rooted jobs) roots_are_jobs (rooted job) there s k (by_root z.0 z.1 (of_town job j z.0 z.2) z.3 z.4) g,
      )

pub jobs_are_the_town : ConsistentIsWithin Shape Answers ShapeFault Primitive → JobsAreTheTown
jobs_are_the_town bound sources differ jobs are settled =
    let w = whole (derivation_of sources) (sources_are_derivations sources differ) (map rooted jobs) (roots_are_jobs sources differ jobs are)
    (λ job j.
    let w = Among-map rooted jobs job j in
    subst (SeesAlike (derivation_of sources) (map rooted jobs)) w.2 (sees_alike sources differ jobs are settled w.0 w.1))
    bound in (
      w.0,
      w.1,
      w.2,
      w.3,
      λ job x j h s k e.
          let own = own_alike sources differ jobs are job x j h s k e in
          ((λ g. own.0 ((w.2 s k).1 g)), (λ g. (w.2 s k).0 (own.1 g))),
    )

-- places stand once in the members that jobs answer for
pub own_apart : (sources : Sources) → NamesDiffer sources.lots → (jobs : List LotJob) → AreJobsOf sources jobs
    → AllApart (derivation_of sources) (own_members sources jobs)
own_apart sources differ jobs are = apart (derivation_of sources) (sources_are_derivations sources differ) (map rooted jobs) (roots_are_jobs sources differ jobs are)
