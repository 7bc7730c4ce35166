-- Where lines differ from the text of a run.
use Rattle.std.proofs.Common.{◌≡◌, ℕ, zero, suc, ◌+◌, ◌<◌, ◌≤◌, List, [], ◌∷◌, ◌++◌, length, map, take, Bool, true}
use Rattle.std.proofs.Common.{false, not, ◌&&◌, cond, refl, sym, ap, ◌∙◌, subst, ◌⊎◌, inl, inr, Some, None}
use Rattle.std.proofs.Common.{arith, length-append}
use Rattle.std.specs.Prelude.{slice_get, bytes_eq, nat_lt}
use Rattle.std.proofs.lemmas.Bool.Decides.{nat_tests}
use Rattle.std.proofs.lemmas.Slice.Eq.{bytes_eq-Decides}
use Rattle.cga_form.specs.Lines.{Line, is_long}
use Rattle.std.proofs.lemmas.Bool.{cases_Bool as either}
use Rattle.cga_shape.specs.declared.trace_step.TraceStep.{TraceStep}
use Rattle.cga_trace.specs.Text.{AreSteps, header, step_text}
use Rattle.cga_trace.specs.Judged.{differs_at, is_headed, is_line, judged}
use Rattle.cga_trace.specs.JudgeLines.{AgreeBefore, AreOf, AreRead, IsOf, IsRead, Stops, are_some, kept}
use Rattle.cga_trace.specs.declared.judge_reader.JudgeReader.{JudgeReader}
use Rattle.cga_trace.specs.declared.limits.TheConstants.{MOST_STEPS}
use Rattle.cga_trace.proofs.Again.{both, some_value, none_not}
use Rattle.cga_trace.proofs.Cutting.{not_true}
use Rattle.cga_trace.proofs.Tells.{text_tells_step}
pub use Rattle.cga_fraction.proofs.Door.{Some_from_is_some as some_first}
use Rattle.std.proofs.lemmas.Option.{slice_get_past as none_behind}

-- ---- one line

line_is : (text : List ℕ) (line : Line) → is_long line ≡ false → line.bytes ≡ text → is_line text line ≡ true
line_is text line short same = ap (λ b. not b && bytes_eq text line.bytes) short ∙ (bytes_eq-Decides text line.bytes).1 (sym same)

is_text : (text : List ℕ) (line : Line) → is_line text line ≡ true → (is_long line ≡ false) × (line.bytes ≡ text)
is_text text line is =
    let parts = both (not (is_long line)) (bytes_eq text line.bytes) is in
    (not_true (is_long line) parts.0, sym ((bytes_eq-Decides text line.bytes).0 parts.1))

-- ---- lists

abbrev head_of : {X : Type 0} → X → List X → X
head_of d [] = d
head_of d (x ∷ xs) = x

abbrev tail_of : {X : Type 0} → List X → List X
tail_of [] = []
tail_of (x ∷ xs) = xs

no_cons : {X : Type 0} (x : X) (xs : List X) → [] ≡ x ∷ xs → ⊥
no_cons x xs e = let none : 0 ≡ suc (length xs) = ap length e in omega (arith, none)

-- lists that differ at a place are not both over there
pub apart_within : {X : Type 0} (xs ys : List X) (i most : ℕ) → length xs ≤ most → length ys ≤ most
    → (slice_get xs i ≡ slice_get ys i → ⊥) → i < most
apart_within xs ys i most a b apart = elim (either (nat_lt i most)) [
  | inl t ↦ grind (arith, nat_tests)
  | inr t ↦
      let ge : most ≤ i = grind (arith, nat_tests) in
      absurd (apart (none_behind xs i (omega (arith, a, ge)) ∙ sym (none_behind ys i (omega (arith, b, ge)))))
]

-- ---- a step that isn't the run's

differs : (n before : ℕ) (run steps : List TraceStep) (lines others : List Line) → AreSteps run
    → AreOf steps lines others → Stops (before + length steps) others → before + length run < MOST_STEPS → (i : ℕ)
    → take i run ≡ take i steps → (slice_get run i ≡ slice_get steps i → ⊥)
    → differs_at n (map step_text run) lines ≡ Some (i + n)
differs n before [] [] lines others fields of stops few i same apart = absurd (apart refl)
differs n before [] (s ∷ steps) [] others fields of stops few i same apart = absurd of
differs n before [] (s ∷ steps) (line ∷ lines) others fields of stops few zero same apart = let e : n ≡ 0 + n = omega arith in ap Some e
differs n before [] (s ∷ steps) (line ∷ lines) others fields of stops few (suc i) same apart = absurd (no_cons s (take i steps) same)
differs n before (r ∷ run) [] [] others fields of stops few zero same apart = let e : n ≡ 0 + n = omega arith in ap Some e
differs n before (r ∷ run) [] (line ∷ lines) others fields of stops few zero same apart =
    let e : n ≡ 0 + n = omega arith in
    let isnt : is_line (step_text r) line ≡ false = elim (either (is_line (step_text r) line)) [
      | inl met ↦
          let is = is_text (step_text r) line met in
          elim (subst (Stops (before + 0)) (sym of) stops) [
            | inl none ↦ absurd (none r (record { short = is.0; text = is.1; known = fields.0 }))
            | inr enough ↦ absurd (omega (arith, enough, few))
          ]
      | inr isnt ↦ isnt
    ] in
    ap (λ b. cond b (differs_at (suc n) (map step_text run) lines) (Some n)) isnt ∙ ap Some e
differs n before (r ∷ run) [] lines others fields of stops few (suc i) same apart = absurd (no_cons r (take i run) (sym same))
differs n before (r ∷ run) (s ∷ steps) [] others fields of stops few i same apart = absurd of
differs n before (r ∷ run) (s ∷ steps) (line ∷ lines) others fields of stops few zero same apart =
    let e : n ≡ 0 + n = omega arith in
    let isnt : is_line (step_text r) line ≡ false = elim (either (is_line (step_text r) line)) [
      | inl met ↦
          let is = is_text (step_text r) line met in
          absurd (apart (ap Some (text_tells_step r s fields.0 of.0.known (sym is.1 ∙ of.0.text))))
      | inr isnt ↦ isnt
    ] in
    ap (λ b. cond b (differs_at (suc n) (map step_text run) lines) (Some n)) isnt ∙ ap Some e
differs n before (r ∷ run) (s ∷ steps) (line ∷ lines) others fields of stops few (suc i) same apart =
    let heads : r ≡ s = ap (head_of r) same in
    let met = line_is (step_text r) line of.0.short (of.0.text ∙ ap step_text (sym heads)) in
    let place : before + suc (length steps) ≡ suc before + length steps = omega arith in
    let next : i + suc n ≡ suc i + n = omega arith in
    ap (λ b. cond b (differs_at (suc n) (map step_text run) lines) (Some n)) met
    ∙ (differs (suc n) (suc before) run steps lines others fields.1 of.1 (subst (λ m. Stops m others) place stops) (omega (arith, few)) i (ap tail_of same) apart ∙ ap Some next)

-- ---- the run's steps

agree : (n : ℕ) (steps : List TraceStep) (lines others : List Line) → AreOf steps lines others
    → differs_at n (map step_text steps) lines ≡ cond (are_some others) (Some (length steps + n)) None
agree n [] lines [] of = ap (λ l. differs_at n [] l) of
agree n [] lines (o ∷ others) of = let e : n ≡ 0 + n = omega arith in ap (λ l. differs_at n [] l) of ∙ ap Some e
agree n (s ∷ steps) [] others of = absurd of
agree n (s ∷ steps) (line ∷ lines) others of =
    let met = line_is (step_text s) line of.0.short of.0.text in
    let next : length steps + suc n ≡ suc (length steps) + n = omega arith in
    ap (λ b. cond b (differs_at (suc n) (map step_text steps) lines) (Some n)) met
    ∙ (agree (suc n) steps lines others of.1 ∙ ap (λ k. cond (are_some others) (Some k) None) next)

module _ (reader : JudgeReader) (lines : List Line) (read : IsRead reader lines) (run : List TraceStep) (fields : AreSteps run) (few : length run < MOST_STEPS) where
  -- The first step that differs is told at its place.
  pub wrong_there : is_headed (length run) lines ≡ true → (place : ℕ) → AgreeBefore run reader.steps (Some place)
      → (place ≤ MOST_STEPS) × (judged run lines ≡ Some (place + 1))
  wrong_there headed place wrong = by lines read headed
    where
      by : (ls : List Line) → IsRead reader ls → is_headed (length run) ls ≡ true
          → (place ≤ MOST_STEPS) × (judged run ls ≡ Some (place + 1))
      by [] none met = let x : false ≡ true = met in cc
      by (line ∷ ls) (first, are) met =
          let i = wrong.0 in
          let within = apart_within run reader.steps i MOST_STEPS (omega (arith, few)) are.few wrong.3 in
          let zero_more : length reader.steps ≡ 0 + length reader.steps = omega arith in
          let short : 0 + length run < MOST_STEPS = omega (arith, few) in
          let place_is : i + 2 ≡ place + 1 = omega (arith, wrong.1) in (
            omega (arith, within, wrong.1),
            ap (λ b. cond b (differs_at 2 (map step_text run) ls) (Some 1)) met
                ∙ (differs 2 0 run reader.steps ls are.others fields are.are (subst (λ m. Stops m are.others) zero_more are.stops) short i wrong.2 wrong.3 ∙ ap Some place_is),
          )

  pub all_there : is_headed (length run) lines ≡ true → run ≡ reader.steps
      → (length reader.steps ≤ MOST_STEPS)
      × (judged run lines ≡ cond reader.goes_on (Some (length reader.steps + 2)) None)
  all_there headed same = by lines read headed
    where
      by : (ls : List Line) → IsRead reader ls → is_headed (length run) ls ≡ true
          → (length reader.steps ≤ MOST_STEPS)
          × (judged run ls ≡ cond reader.goes_on (Some (length reader.steps + 2)) None)
      by [] none met = let x : false ≡ true = met in cc
      by (line ∷ ls) (first, are) met = (
        are.few,
        ap (λ b. cond b (differs_at 2 (map step_text run) ls) (Some 1)) met
            ∙ (ap (λ r. differs_at 2 (map step_text r) ls) same
            ∙ (agree 2 reader.steps ls are.others are.are ∙ ap (λ b. cond b (Some (length reader.steps + 2)) None) (sym are.behind))),
      )

-- ---- one more line

of_snoc : (steps : List TraceStep) (lines others : List Line) (line : Line) → AreOf steps lines others
    → AreOf steps (lines ++ line ∷ []) (others ++ line ∷ [])
of_snoc [] lines others line of = ap (λ l. l ++ line ∷ []) of
of_snoc (s ∷ steps) [] others line of = absurd of
of_snoc (s ∷ steps) (l ∷ lines) others line of = (of.0, of_snoc steps lines others line of.1)

of_more : (steps : List TraceStep) (lines : List Line) (step : TraceStep) (line : Line) → AreOf steps lines []
    → IsOf line step → AreOf (steps ++ step ∷ []) (lines ++ line ∷ []) []
of_more [] lines step line of is = subst (λ l. AreOf (step ∷ []) (l ++ line ∷ []) []) (sym of) (is, refl)
of_more (s ∷ steps) [] step line of is = absurd of
of_more (s ∷ steps) (l ∷ lines) step line of is = (of.0, of_more steps lines step line of.1 is)

none_of : (others : List Line) → false ≡ are_some others → others ≡ []
none_of [] e = refl
none_of (o ∷ others) e = let x : false ≡ true = e in cc

some_more : (others : List Line) (line : Line) → true ≡ are_some (others ++ line ∷ [])
some_more [] line = refl
some_more (o ∷ others) line = refl

module _ (steps : List TraceStep) (lines : List Line) (line : Line) where
  pub read_step_more : (step : TraceStep) → AreRead steps false lines → length steps < MOST_STEPS → IsOf line step
      → AreRead (steps ++ step ∷ []) false (lines ++ line ∷ [])
  read_step_more step are few is =
      let of = subst (AreOf steps lines) (none_of are.others are.behind) are.are in
      let long : length (steps ++ step ∷ []) ≡ length steps + 1 = length-append steps (step ∷ []) in record {
        others = [];
        are = of_more steps lines step line of is;
        behind = refl;
        stops = tt;
        few = omega (arith, few, long);
      }

  pub read_none_more : AreRead steps false lines
      → ((step : TraceStep) → IsOf line step → ⊥) ⊎ (MOST_STEPS ≤ length steps)
      → AreRead steps true (lines ++ line ∷ [])
  read_none_more are none =
      let of = subst (AreOf steps lines) (none_of are.others are.behind) are.are in record {
        others = line ∷ [];
        are = of_snoc steps lines [] line of;
        behind = refl;
        stops = none;
        few = are.few;
      }

  pub read_over_more : AreRead steps true lines → AreRead steps true (lines ++ line ∷ [])
  read_over_more are = record {
    others = are.others ++ line ∷ [];
    are = of_snoc steps lines are.others line are.are;
    behind = some_more are.others line;
    stops = still are.others are.behind are.stops;
    few = are.few;
  }
    where
      still : (others : List Line) → true ≡ are_some others → Stops (length steps) others
          → Stops (length steps) (others ++ line ∷ [])
      still [] some stops = let x : true ≡ false = some in cc
      still (o ∷ others) some stops = stops

-- ---- the first line

module _ (reader : JudgeReader) where
  pub no_line_yet : (lines : List Line) → IsRead reader lines → reader.first ≡ None
      → (lines ≡ []) × (reader.steps ≡ []) × (reader.goes_on ≡ false)
  no_line_yet [] read none = (refl, read.1, read.2)
  no_line_yet (l ∷ lines) read none = absurd (none_not (kept l) (sym none ∙ read.0))

  -- another reader, by what came behind the first line
  pub further : (new : JudgeReader) (line : Line) (lines : List Line) → IsRead reader lines → (first : List ℕ)
      → reader.first ≡ Some first → new.first ≡ reader.first
      → ((ls : List Line) → AreRead reader.steps reader.goes_on ls → AreRead new.steps new.goes_on (ls ++ line ∷ []))
      → IsRead new (lines ++ line ∷ [])
  further new line [] read first some same more = absurd (none_not first (sym read.0 ∙ some))
  further new line (l ∷ lines) read first some same more = (same ∙ read.0, more lines read.1)

  -- by the text of the first line
  pub head_told : (n : ℕ) (lines : List Line) → IsRead reader lines → (first : List ℕ) → reader.first ≡ Some first
      → bytes_eq (header n) first ≡ is_headed n lines
  unfolding header
  head_told n [] read first some = absurd (none_not first (sym read.0 ∙ some))
  head_told n (l ∷ lines) read first some =
      ap (bytes_eq (header n)) (some_value first (kept l) (sym some ∙ read.0)) ∙ by (is_long l) refl
    where
      by : (b : Bool) → is_long l ≡ b → bytes_eq (header n) (kept l) ≡ is_line (header n) l
      by true e = ap (λ b. bytes_eq (header n) (cond b [] l.bytes)) e ∙ ap (λ b. not b && bytes_eq (header n) l.bytes) (sym e)
      by false e = ap (λ b. bytes_eq (header n) (cond b [] l.bytes)) e ∙ ap (λ b. not b && bytes_eq (header n) l.bytes) (sym e)
