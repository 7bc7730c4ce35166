-- Jobs that are back are settled as before, and the region with them.
use Rattle.std.proofs.Common.{◌≡◌, List, [], ◌∷◌, refl, inl, inr, sym, subst}
use Rattle.std.specs.Prelude.{◌↔◌}
use Rattle.cga_derivation.specs.Derivation.{IsDerived}
use Rattle.cga_region.specs.TownJobs.{AreJobsOf, AreSettled, IsSettled, JobsAreTheTown, LotJob, lots_of}
use Rattle.cga_region.specs.Told.{ToldIsSettled}
use Rattle.cga_region.specs.Towns.{with_lots}
use Rattle.cga_expand.specs.Derivation.{derivation_of}
use Rattle.cga_order.proofs.Door.{Among-append, Among-left, Among-right}
use Rattle.cga_order.specs.Consistent.{SameMembers}
use Rattle.cga_order.specs.World.{Among}
use Rattle.cga_rule.specs.declared.grammar.Grammar.{Grammar}
use Rattle.cga_shape.specs.declared.lot.Lot.{Lot}
use Rattle.cga_shape.specs.declared.sources.Sources.{Sources}
use Rattle.cga_region.specs.Back.{AllBack, AreBack, BackByJobs, IsBack, UndoneByJobs, undone, undone_by_all}
use Rattle.cga_region.specs.Changes.{both, Course, told_by, told_by_all}
use Rattle.cga_region.specs.Kept.{IsKept}
use Rattle.cga_region.proofs.Jobs.{by_settled, kept_settled}
use Rattle.cga_region.proofs.Lots.{places_differ, tell_alike}
use Rattle.cga_region.proofs.Reordered.{reordered}

-- ---- what is told

pub undone_by_jobs : UndoneByJobs
undone_by_jobs courses = (each courses, λ before behind told balance test. sym (balance test))
  where
    each : (cs : List Course) → undone (told_by_all cs) ≡ undone_by_all cs
    each [] = refl
    each (c ∷ cs) = λ i. both (undone (told_by c.steps)) (each cs i)

-- ---- a job

same_lots_of : (was back : LotJob) → IsBack was back → (x : Lot) → Among x (lots_of back) ↔ Among x (lots_of was)
same_lots_of was back is x = (
  (λ h. elim (Among-append back.own back.ring x h) [ inl o ↦ Among-left was.own was.ring x ((is.own x).1 o) | inr r ↦ Among-right was.own was.ring x ((is.ring x).1 r) ]),
  (λ h. elim (Among-append was.own was.ring x h) [ inl o ↦ Among-left back.own back.ring x ((is.own x).0 o) | inr r ↦ Among-right back.own back.ring x ((is.ring x).0 r) ]),
)

-- the job that is back
was_of : (jobs backs : List LotJob) → AllBack jobs backs → (back : LotJob) → Among back backs
    → (was : LotJob) × Among was jobs × IsBack was back
was_of [] [] all back h = absurd h
was_of [] (b ∷ backs) all back h = absurd all
was_of (w ∷ jobs) [] all back h = absurd all
was_of (w ∷ jobs) (b ∷ backs) all back h = elim h [
  | inl e ↦ (w, inl refl, subst (IsBack w) e all.0)
  | inr r ↦ let found = was_of jobs backs all.1 back r in (found.0, inr found.1, found.2)
]

module _ (old back : Sources) (are : AreBack old back) where
  with_same : (lots : List Lot) → with_lots back lots ≡ with_lots old lots
  with_same lots = λ i. record { grammar = are.grammar i; lots = lots; mode = are.mode i }

  module _ (town : JobsAreTheTown) (jobs backs : List LotJob) (kept : IsKept old jobs) (all : AllBack jobs backs) (again : AreJobsOf back backs) where
    same_members : (was job : LotJob) → Among was jobs → Among job backs → IsBack was job
        → SameMembers was.members job.members
    same_members was job w j is =
        reordered town old (lots_of was) (lots_of job) (kept.are.differ was w) (again.differ job j) (same_lots_of was job is) was.members job.members (kept.are.derived was w)
        (subst (λ (s : Sources). IsDerived (derivation_of s) job.members) (with_same (lots_of job)) (again.derived job j))

    settled_still : AreSettled old.grammar jobs → AreSettled old.grammar backs
    settled_still settled job other x y j o h g =
        let a = was_of jobs backs all job j in
        let b = was_of jobs backs all other o in
        let one = same_members a.0 job a.1 j a.2 in
        let two = same_members b.0 other b.1 o b.2 in
        let was : IsSettled old.grammar a.0 b.0 x y = settled a.0 b.0 x y a.1 b.1 ((a.2.own x).1 h) ((b.2.own y).1 g) in
        elim was [
          | inl alike ↦ inl (λ n k e. (
            (λ i. (two n k).0 ((alike n k e).0 ((one n k).1 i))),
            (λ i. (one n k).0 ((alike n k e).1 ((two n k).1 i))),
          ))
          | inr far ↦ inr (
            (λ n m k i target has e plain asks there f. far.0 n m k i target ((one n k).1 has) e plain asks ((one m i).1 there) f),
            (λ n m k i target has e plain asks there f. far.1 n m k i target ((one n k).1 has) e plain asks ((two m i).1 there) f),
          )
        ]

pub back_by_jobs : JobsAreTheTown → ToldIsSettled → BackByJobs
back_by_jobs town told old back are jobs backs kept all again =
    let settled = kept_settled told old jobs kept in
    let still : AreSettled back.grammar backs = subst (λ (g : Grammar). AreSettled g backs) (sym are.grammar) (settled_still old back are town jobs backs kept all again settled) in
    let one = by_settled town old kept.names jobs kept.are settled in
    let two = by_settled town back are.names backs again still in
    let same = reordered town old old.lots back.lots kept.names are.names (λ x. ((are.lots x).1, (are.lots x).0)) one.0 two.0 one.1
    (subst (λ (s : Sources). IsDerived (derivation_of s) two.0) (with_same old back are back.lots) two.1) in (
      still,
      (
        one.0,
        two.0,
        one.1,
        two.1,
        (λ x h. tell_alike x.name one.0 two.0 (places_differ old kept.names one.0 one.1) (places_differ back are.names two.0 two.1)
            (λ s k i e. (same s k).0 i) (λ s k i e. (same s k).1 i)),
        two.2,
      ),
    )
