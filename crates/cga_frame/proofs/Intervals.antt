-- Intervals by their bounds and by their points.
use Rattle.std.proofs.Common.{◌≡◌, refl, Bool, true, false, ◌&&◌, inl, inr}
use Rattle.std.specs.Prelude.{IsTrue}
use Rattle.cga_fraction.specs.Rat.{Rat}
use Rattle.cga_fraction.specs.Order.{rat_le, rat_lt, rat_min, rat_max}
use Rattle.cga_fraction.proofs.Door.{between, le_refl, le_trans, lt_le, lt_min, lt_of_le_lt, lt_of_lt_le, lt_trans, max_above, max_least, max_lt, mediant, min_below, min_greatest, not_le_lt}
use Rattle.cga_frame.specs.Box.{along_meets, along_holds, along_touches}
use Rattle.cga_frame.specs.Meeting.{IsBetween, IsInside}
use Rattle.cga_frame.proofs.Flags.{told, tells, both, pair, either, first_of_two, second_of_two}

abbrev Le : Rat → Rat → Type 0
Le a b = IsTrue (rat_le a b)

abbrev Lt : Rat → Rat → Type 0
Lt a b = IsTrue (rat_lt a b)

-- ---- holding

pub holds_at : (x l h m u : Rat) → along_holds l h m u ≡ true → IsBetween x m u → IsBetween x l h
holds_at x l h m u e b =
    let p = both (rat_le l m) (rat_le u h) e in
    record { from = le_trans l m x (told (rat_le l m) p.0) b.from; to = le_trans x u h b.to (told (rat_le u h) p.1) }

pub holds_from : (l h m u : Rat) → IsBetween m l h → IsBetween u l h → along_holds l h m u ≡ true
holds_from l h m u a b = pair (rat_le l m) (rat_le u h) (tells (rat_le l m) a.from) (tells (rat_le u h) b.to)

pub holds_chain : (l h m u p q : Rat) → along_holds l h m u ≡ true → along_holds m u p q ≡ true
    → along_holds l h p q ≡ true
holds_chain l h m u p q e f =
    let a = both (rat_le l m) (rat_le u h) e in
    let b = both (rat_le m p) (rat_le q u) f in
    pair (rat_le l p) (rat_le q h)
    (tells (rat_le l p) (le_trans l m p (told (rat_le l m) a.0) (told (rat_le m p) b.0)))
    (tells (rat_le q h) (le_trans q u h (told (rat_le q u) b.1) (told (rat_le u h) a.1)))

-- ---- touching

pub touches_at : (l h m u : Rat) → Le l h → Le m u → along_touches l h m u ≡ true
    → IsBetween (rat_max l m) l h × IsBetween (rat_max l m) m u
touches_at l h m u a b e =
    let p = both (rat_le l u) (rat_le m h) e in
    let above = max_above l m in (
      record { from = above.0; to = max_least h l m a (told (rat_le m h) p.1) },
      record { from = above.1; to = max_least u l m (told (rat_le l u) p.0) b },
    )

pub touches_from : (x l h m u : Rat) → IsBetween x l h → IsBetween x m u → along_touches l h m u ≡ true
touches_from x l h m u a b = pair (rat_le l u) (rat_le m h) (tells (rat_le l u) (le_trans l x u a.from b.to)) (tells (rat_le m h) (le_trans m x h b.from a.to))

-- ---- meeting

false_true : (b : Bool) → b ≡ false → b ≡ true → ⊥
false_true b e f = cc

-- a point of both interiors
pub record Common (l h m u : Rat) : Type 0 where
  pub point : Rat
  pub first : IsInside point l h
  pub second : IsInside point m u

overlap : (l h m u : Rat) → Le l h → Le m u → Lt l u → Lt m h → (s t : Bool) → rat_le h l ≡ s → rat_le u m ≡ t
    → Common l h m u
overlap l h m u a b p q true t e f = record {
  point = l;
  first = inr (record { flat = told (rat_le h l) e; within = record { from = le_refl l; to = a } });
  second = inl (record { from = lt_of_lt_le m h l q (told (rat_le h l) e); to = p });
}
overlap l h m u a b p q false true e f = record {
  point = m;
  first = inl (record { from = lt_of_lt_le l u m p (told (rat_le u m) f); to = q });
  second = inr (record { flat = told (rat_le u m) f; within = record { from = le_refl m; to = b } });
}
overlap l h m u a b p q false false e f =
    let lh : Lt l h = not_le_lt l h (λ k. false_true (rat_le h l) e (tells (rat_le h l) k)) in
    let mu : Lt m u = not_le_lt m u (λ k. false_true (rat_le u m) f (tells (rat_le u m) k)) in
    let w = between (rat_max l m) (rat_min h u) (lt_min (rat_max l m) h u (max_lt h l m lh q) (max_lt u l m p mu)) in
    let above = max_above l m in
    let below = min_below h u in
    let x : Rat = mediant (rat_max l m) (rat_min h u) in
    record {
      point = mediant (rat_max l m) (rat_min h u);
      first = inl (record { from = lt_of_le_lt l (rat_max l m) (mediant (rat_max l m) (rat_min h u)) above.0 w.0; to = lt_of_lt_le (mediant (rat_max l m) (rat_min h u)) (rat_min h u) h w.1 below.0 });
      second = inl (record {
        from = lt_of_le_lt m (rat_max l m) (mediant (rat_max l m) (rat_min h u)) above.1 w.0;
        to = lt_of_lt_le (mediant (rat_max l m) (rat_min h u)) (rat_min h u) u w.1 below.1;
      });
    }

one : (l h m u : Rat) → Le l h → Le l m → Le m l → Le h u → Le u h → (s : Bool) → rat_le h l ≡ s → Common l h m u
one l h m u a lm ml hu uh true e =
    let hl : Le h l = told (rat_le h l) e in
    record {
      point = l;
      first = inr (record { flat = hl; within = record { from = le_refl l; to = a } });
      second = inr (record { flat = le_trans u h m uh (le_trans h l m hl lm); within = record { from = ml; to = le_trans l h u a hu } });
    }
one l h m u a lm ml hu uh false e =
    let lh : Lt l h = not_le_lt l h (λ k. false_true (rat_le h l) e (tells (rat_le h l) k)) in
    let w = between l h lh in
    record {
      point = mediant l h;
      first = inl (record { from = w.0; to = w.1 });
      second = inl (record { from = lt_of_le_lt m l (mediant l h) ml w.0; to = lt_of_lt_le (mediant l h) h u w.1 hu });
    }

pub meets_at : (l h m u : Rat) → Le l h → Le m u → along_meets l h m u ≡ true → Common l h m u
meets_at l h m u a b e =
    elim (either (rat_lt l u && rat_lt m h) ((rat_le l m && rat_le m l) && (rat_le h u && rat_le u h)) e) [
      | inl k ↦ (let p = both (rat_lt l u) (rat_lt m h) k in overlap l h m u a b (told (rat_lt l u) p.0) (told (rat_lt m h) p.1) (rat_le h l) (rat_le u m) refl refl)
      | inr k ↦ (let p = both (rat_le l m && rat_le m l) (rat_le h u && rat_le u h) k in let q = both (rat_le l m) (rat_le m l) p.0 in let r = both (rat_le h u) (rat_le u h) p.1 in
          one l h m u a (told (rat_le l m) q.0) (told (rat_le m l) q.1) (told (rat_le h u) r.0) (told (rat_le u h) r.1) (rat_le h l) refl)
    ]

overlapping : (l h m u : Rat) → Lt l u → Lt m h → along_meets l h m u ≡ true
overlapping l h m u p q = first_of_two (rat_lt l u && rat_lt m h) ((rat_le l m && rat_le m l)
    && (rat_le h u && rat_le u h)) (pair (rat_lt l u) (rat_lt m h) (tells (rat_lt l u) p) (tells (rat_lt m h) q))

pub meets_from : (x l h m u : Rat) → IsInside x l h → IsInside x m u → along_meets l h m u ≡ true
meets_from x l h m u (inl a) (inl b) = overlapping l h m u (lt_trans l x u a.from b.to) (lt_trans m x h b.from a.to)
meets_from x l h m u (inl a) (inr b) = overlapping l h m u (lt_of_lt_le l x u a.from b.within.to) (lt_of_le_lt m x h b.within.from a.to)
meets_from x l h m u (inr a) (inl b) = overlapping l h m u (lt_of_le_lt l x u a.within.from b.to) (lt_of_lt_le m x h b.from a.within.to)
meets_from x l h m u (inr a) (inr b) =
    let lx = a.within.from in
    let xh = a.within.to in
    let mx = b.within.from in
    let xu = b.within.to in
    let lm : Le l m = le_trans l x m lx (le_trans x u m xu b.flat) in
    let ml : Le m l = le_trans m x l mx (le_trans x h l xh a.flat) in
    let hu : Le h u = le_trans h l u a.flat (le_trans l x u lx xu) in
    let uh : Le u h = le_trans u m h b.flat (le_trans m x h mx xh) in
    second_of_two (rat_lt l u && rat_lt m h) ((rat_le l m && rat_le m l) && (rat_le h u && rat_le u h))
    (pair (rat_le l m && rat_le m l) (rat_le h u && rat_le u h)
    (pair (rat_le l m) (rat_le m l) (tells (rat_le l m) lm) (tells (rat_le m l) ml))
    (pair (rat_le h u) (rat_le u h) (tells (rat_le h u) hu) (tells (rat_le u h) uh)))

-- ---- what meeting, touching and holding say of one another

pub meets_touches_at : (l h m u : Rat) → Le l h → along_meets l h m u ≡ true → along_touches l h m u ≡ true
meets_touches_at l h m u a e =
    elim (either (rat_lt l u && rat_lt m h) ((rat_le l m && rat_le m l) && (rat_le h u && rat_le u h)) e) [
      | inl k ↦ (let p = both (rat_lt l u) (rat_lt m h) k in
          pair (rat_le l u) (rat_le m h) (tells (rat_le l u) (lt_le l u (told (rat_lt l u) p.0))) (tells (rat_le m h) (lt_le m h (told (rat_lt m h) p.1))))
      | inr k ↦ (let p = both (rat_le l m && rat_le m l) (rat_le h u && rat_le u h) k in let q = both (rat_le l m) (rat_le m l) p.0 in let r = both (rat_le h u) (rat_le u h) p.1 in
          pair (rat_le l u) (rat_le m h) (tells (rat_le l u) (le_trans l h u a (told (rat_le h u) r.0))) (tells (rat_le m h) (le_trans m l h (told (rat_le m l) q.1) a)))
    ]

pub touches_up_at : (l h m u p q : Rat) → along_holds l h m u ≡ true → along_touches m u p q ≡ true
    → along_touches l h p q ≡ true
touches_up_at l h m u p q e f =
    let a = both (rat_le l m) (rat_le u h) e in
    let b = both (rat_le m q) (rat_le p u) f in
    pair (rat_le l q) (rat_le p h)
    (tells (rat_le l q) (le_trans l m q (told (rat_le l m) a.0) (told (rat_le m q) b.0)))
    (tells (rat_le p h) (le_trans p u h (told (rat_le p u) b.1) (told (rat_le u h) a.1)))

pub hull_first : (l h m u : Rat) → along_holds (rat_min l m) (rat_max h u) l h ≡ true
hull_first l h m u = let a = min_below l m in let b = max_above h u in pair (rat_le (rat_min l m) l) (rat_le h (rat_max h u)) (tells _ a.0) (tells _ b.0)

pub hull_second : (l h m u : Rat) → along_holds (rat_min l m) (rat_max h u) m u ≡ true
hull_second l h m u = let a = min_below l m in let b = max_above h u in pair (rat_le (rat_min l m) m) (rat_le u (rat_max h u)) (tells _ a.1) (tells _ b.1)

pub hull_least : (p q l h m u : Rat) → along_holds p q l h ≡ true → along_holds p q m u ≡ true
    → along_holds p q (rat_min l m) (rat_max h u) ≡ true
hull_least p q l h m u e f =
    let a = both (rat_le p l) (rat_le h q) e in
    let b = both (rat_le p m) (rat_le u q) f in
    pair (rat_le p (rat_min l m)) (rat_le (rat_max h u) q) (tells _ (min_greatest p l m (told _ a.0) (told _ b.0))) (tells _ (max_least q h u (told _ a.1) (told _ b.1)))

pub ordered_at : (a b : Rat) → rat_le (rat_min a b) (rat_max a b) ≡ true
ordered_at a b = let p = min_below a b in let q = max_above a b in tells _ (le_trans (rat_min a b) a (rat_max a b) p.0 q.0)

pub hull_ordered : (l h m u : Rat) → rat_le l h ≡ true → rat_le (rat_min l m) (rat_max h u) ≡ true
hull_ordered l h m u e = let p = min_below l m in let q = max_above h u in tells _ (le_trans (rat_min l m) l (rat_max h u) p.0 (le_trans l h (rat_max h u) (told (rat_le l h) e) q.0))
