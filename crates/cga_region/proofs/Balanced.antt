-- What all jobs tell of an edit balances what the region's print draws before and behind.
use Rattle.std.proofs.Common.{◌≡◌, ◌+◌, List, [], ◌∷◌, Bool, inl, inr, refl, ap, arith}
use Rattle.std.specs.Prelude.{count_by, map, sum_by}
use Rattle.std.proofs.lemmas.List.Sums.{sum_by-append}
use Rattle.cga_agenda.proofs.Door.{count_append}
use Rattle.cga_city.specs.Lots.{names_of}
use Rattle.cga_city.specs.Reports.{drawn_in}
use Rattle.cga_region.specs.TownJobs.{JobsAreTheTown, LotJob}
use Rattle.cga_region.specs.TownParts.{joined}
use Rattle.cga_region.specs.Told.{ToldIsSettled}
use Rattle.cga_order.specs.World.{Among}
use Rattle.cga_shape.specs.declared.drawn.Drawn.{Drawn}
use Rattle.cga_shape.specs.declared.sources.Sources.{Sources}
use Rattle.cga_region.specs.Changes.{ChangesBalance, Course, Draws, drawn_for, parts_before, parts_behind, told_by, told_by_all}
use Rattle.cga_region.specs.Kept.{IsKept, own_of}
use Rattle.cga_region.proofs.Changes.{all_steps}
use Rattle.cga_region.proofs.Drawing.{own_drawn, own_number, region_drawn}
use Rattle.cga_region.proofs.Jobs.{by_settled, kept_settled}
use Rattle.cga_region.proofs.Joined.{among_joined, own_differ}

was_among : (courses : List Course) (course : Course) → Among course courses
    → Among course.was (map (λ (c : Course). c.was) courses)
was_among [] course h = absurd h
was_among (c ∷ courses) course h = elim h [ inl e ↦ inl (ap (λ (x : Course). x.was) e) | inr r ↦ inr (was_among courses course r) ]

now_among : (courses : List Course) (course : Course) → Among course courses
    → Among course.now (map (λ (c : Course). c.now) courses)
now_among [] course h = absurd h
now_among (c ∷ courses) course h = elim h [ inl e ↦ inl (ap (λ (x : Course). x.now) e) | inr r ↦ inr (now_among courses course r) ]

module _ (test : Drawn → Bool) where
  -- what a job tells is even with what its parts draw of their own lots
  abbrev IsEven : Course → Type 0
  IsEven course =
      sum_by (own_number test) course.was + count_by test (told_by course.steps).come
      ≡ sum_by (own_number test) course.now + count_by test (told_by course.steps).gone

  all_even : (courses : List Course) → ((course : Course) → Among course courses → IsEven course)
      → sum_by (own_number test) (parts_before courses) + count_by test (told_by_all courses).come
      ≡ sum_by (own_number test) (parts_behind courses) + count_by test (told_by_all courses).gone
  all_even [] h = refl
  all_even (course ∷ courses) h =
      let a = sum_by-append (own_number test) course.was (parts_before courses) in
      let b = sum_by-append (own_number test) course.now (parts_behind courses) in
      let c = count_append test (told_by course.steps).come (told_by_all courses).come in
      let d = count_append test (told_by course.steps).gone (told_by_all courses).gone in
      let e = h course (inl refl) in
      let f = all_even courses (λ other k. h other (inr k)) in
      omega (arith, a, b, c, d, e, f)

-- what a job's program draws of its own lots is what its parts do
job_drawn : JobsAreTheTown → ToldIsSettled → (sources : Sources) (lists : List (List LotJob))
    → IsKept sources (joined lists)
    → (parts : List LotJob) → Among parts lists → (drawn : List Drawn) → Draws sources parts drawn
    → (test : Drawn → Bool)
    → count_by test (drawn_for (names_of (own_of parts)) drawn) ≡ sum_by (own_number test) parts
job_drawn town told sources lists kept parts h drawn draws test =
    let settled = kept_settled told sources (joined lists) kept in
    let in_all : (part : LotJob) → Among part parts → Among part (joined lists) = λ part k. among_joined lists parts part h k in
    own_drawn town sources parts (own_differ lists parts h kept.are.parts.differ)
    (λ part k. kept.are.differ part (in_all part k)) (λ part k. kept.are.derived part (in_all part k))
    (λ part other x y j o. settled part other x y (in_all part j) (in_all other o)) drawn draws test

pub changes_balance : JobsAreTheTown → ToldIsSettled → ChangesBalance
changes_balance town told old new courses kept keeps led =
    let before = by_settled town old kept.names (parts_before courses) kept.are (kept_settled told old (parts_before courses) kept) in
    let behind = by_settled town new keeps.names (parts_behind courses) keeps.are (kept_settled told new (parts_behind courses) keeps) in
    let even : (test : Drawn → Bool) (course : Course) → Among course courses → IsEven test course
    = λ test course h.
    let is = led course h in
    let a = job_drawn town told old (map (λ (c : Course). c.was) courses) kept course.was (was_among courses course h) is.before is.drew test in
    let b = job_drawn town told new (map (λ (c : Course). c.now) courses) keeps course.now (now_among courses course h) is.behind is.draws test in
    let c = all_steps test (names_of (own_of course.was)) is.before course.steps (names_of (own_of course.now)) is.behind is.led in
    omega (arith, a, b, c) in (
      drawn_in (names_of old.lots) before.0,
      drawn_in (names_of new.lots) behind.0,
      record { members = before.0; derived = before.1; all = refl },
      record { members = behind.0; derived = behind.1; all = refl },
      λ all net test.
          let a = region_drawn test before.0 old kept.names (parts_before courses) kept.are before.2 in
          let b = region_drawn test behind.0 new keeps.names (parts_behind courses) keeps.are behind.2 in
          let c = all_even test courses (even test) in
          let d = net test in
          omega (arith, a, b, c, d),
    )
