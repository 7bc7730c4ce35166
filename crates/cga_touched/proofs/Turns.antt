-- The turns of a derivation that has ended are the answers of its shapes.
use Rattle.std.proofs.Common.{◌≡◌, ℕ, zero, suc, ◌+◌, ◌-◌, ◌<◌, List, true, ◌&&◌, refl, ap, sym, ◌∙◌, subst, inl, inr, Some, None, arith}
use Rattle.std.specs.Prelude.{Option}
use Rattle.std.specs.List.{list_any}
use Rattle.std.proofs.lemmas.Bool.{cases_lt}
use Rattle.cga_word.specs.declared.answers.Answers.{Answers}
use Rattle.cga_order.specs.World.{Among, Has}
use Rattle.cga_shape.specs.declared.shape.Shape.{Shape}
use Rattle.cga_shape.specs.declared.sources.Sources.{Sources}
use Rattle.cga_derivation.specs.Derivation.{asked, is_next, next_of, reached, NothingWaits}
use Rattle.cga_derivation.proofs.Door.{first_of-Has, first_of-passes, settled-reached, waiting_kind}
use Rattle.std.proofs.lemmas.Bool.{and_parts as both}
use Rattle.cga_expand.specs.Children.{Member}
use Rattle.cga_expand.specs.Derivation.{derivation_of}
use Rattle.cga_expand.specs.Touched.{Answered}
use Rattle.cga_touched.specs.Words.{same_shape, same_answers}
use Rattle.cga_touched.specs.Count.{AnsweredTurn, with_turn, turns_of, is_turn, is_answered_alike}
use Rattle.cga_touched.proofs.Words.{pair, shape_tells, answers_tell}
use Rattle.cga_touched.proofs.Words as words
use Rattle.cga_touched.proofs.Lists.{any_found, any_by}

module _ (sources : Sources) where
  abbrev IsTurn : AnsweredTurn → Type 0
  IsTurn t = Answered sources t.shape t.answers

  listed_by : (list : List Member) (o : Option Member) (turns : List AnsweredTurn) (n : ℕ)
      → reached (derivation_of sources) n ≡ list → next_of (derivation_of sources) list ≡ o
      → ((t : AnsweredTurn) → Among t turns → IsTurn t) → (t : AnsweredTurn)
      → Among t (with_turn sources list o turns) → IsTurn t
  listed_by list None turns n is next before t h = before t h
  listed_by list (Some m) turns n is next before t h = elim h [
    | inl e ↦ subst IsTurn e (n, m, ap (next_of (derivation_of sources)) is ∙ next, refl, ap (λ l. asked (derivation_of sources) l m.shape) is)
    | inr r ↦ before t r
  ]

  -- what is listed was answered
  pub listed : (n : ℕ) (t : AnsweredTurn) → Among t (turns_of sources n) → IsTurn t
  unfolding turns_of
  listed zero t h = absurd h
  listed (suc n) t h =
      listed_by (reached (derivation_of sources) n) (next_of (derivation_of sources) (reached (derivation_of sources) n)) (turns_of sources n) n refl refl (λ u g. listed n u g) t h

  later : (list : List Member) (o : Option Member) (turns : List AnsweredTurn) (t : AnsweredTurn) → Among t turns
      → Among t (with_turn sources list o turns)
  later list None turns t h = h
  later list (Some m) turns t h = inr h

  here : (list : List Member) (o : Option Member) (turns : List AnsweredTurn) (m : Member) → o ≡ Some m
      → Among (record { shape = m.shape; answers = asked (derivation_of sources) list m.shape })
      (with_turn sources list o turns)
  here list o turns m e = subst (λ p. Among (record { shape = m.shape; answers = asked (derivation_of sources) list m.shape }) (with_turn sources list p turns)) (sym e) (inl refl)

  -- what is taken by a step is listed after it
  taken : (n k : ℕ) (m : Member) → next_of (derivation_of sources) (reached (derivation_of sources) k) ≡ Some m → k < n
      → Among (record {
        shape = m.shape;
        answers = asked (derivation_of sources) (reached (derivation_of sources) k)
            m.shape;
      }) (turns_of sources n)
  unfolding turns_of
  taken zero k m e lt = absurd (omega (arith, lt))
  taken (suc n) k m e lt = elim (cases_lt k n) [
    | inl below ↦ later (reached (derivation_of sources) n) (next_of (derivation_of sources) (reached (derivation_of sources) n)) (turns_of sources n) _ (taken n k m e below)
    | inr above ↦
        let at : k ≡ n = omega (arith, lt, above) in
        subst (λ j. Among (record {
          shape = m.shape;
          answers = asked (derivation_of sources)
              (reached (derivation_of sources) j) m.shape;
        }) (with_turn sources (reached (derivation_of sources) n)
        (next_of (derivation_of sources) (reached (derivation_of sources) n)) (turns_of sources n))) (sym at)
        (here (reached (derivation_of sources) n)
        (next_of (derivation_of sources) (reached (derivation_of sources) n)) (turns_of sources n) m
        (ap (λ j. next_of (derivation_of sources) (reached (derivation_of sources) j)) (sym at) ∙ e))
  ]

  -- no step takes one where nothing waits
  quiet_next : (list : List Member) (m : Member) → NothingWaits (derivation_of sources) list
      → next_of (derivation_of sources) list ≡ Some m → ⊥
  quiet_next list m quiet e =
      let kind = waiting_kind m.kind (both _ _ (first_of-passes (is_next (derivation_of sources) list) list m e)).0 in
      quiet m.shape (subst (Has list m.shape) kind (first_of-Has (is_next (derivation_of sources) list) list m e))

  -- where nothing waits after n steps, what was answered is listed
  pub answered_listed : (n : ℕ) → NothingWaits (derivation_of sources) (reached (derivation_of sources) n)
      → (s : Shape) (answers : Answers) → Answered sources s answers
      → Among (record { shape = s; answers = answers }) (turns_of sources n)
  answered_listed n quiet s answers (k, m, next, shape, asks) = elim (cases_lt k n) [
    | inl below ↦
        let is : ◌≡◌ {A = AnsweredTurn} (record { shape = m.shape; answers = asked (derivation_of sources) (reached (derivation_of sources) k) m.shape }) (record { shape = s; answers = answers }) =
        λ i. record { shape = shape i; answers = (ap (λ x. asked (derivation_of sources) (reached (derivation_of sources) k) x) shape ∙ asks) i } in
        subst (λ t. Among t (turns_of sources n)) is (taken n k m next below)
    | inr above ↦
        let gap : (k - n) + n ≡ k = omega (arith, above) in
        let same : reached (derivation_of sources) k ≡ reached (derivation_of sources) n = ap (reached (derivation_of sources)) (sym gap) ∙ settled-reached (derivation_of sources) n (k - n) quiet in
        absurd (quiet_next (reached (derivation_of sources) n) m quiet (ap (next_of (derivation_of sources)) (sym same) ∙ next))
  ]

-- ---- the same answers

abbrev AnsweredAlike : Sources → Sources → Shape → Type 0
AnsweredAlike old new s = (answers : Answers) × Answered old s answers × Answered new s answers

pub alike_sound : (old new : Sources) (n m : ℕ) (s : Shape)
    → is_answered_alike (turns_of old n) (turns_of new m) s ≡ true → AnsweredAlike old new s
alike_sound old new n m s h =
    let t = any_found (λ turn. same_shape turn.shape s && list_any (is_turn s turn.answers) (turns_of new m)) (turns_of old n) h in
    let w = words.both (same_shape t.0.shape s) (list_any (is_turn s t.0.answers) (turns_of new m)) t.2 in
    let u = any_found (is_turn s t.0.answers) (turns_of new m) w.1 in
    let v = words.both (same_shape u.0.shape s) (same_answers u.0.answers t.0.answers) u.2 in
    let first : Answered old s t.0.answers = subst (λ x. Answered old x t.0.answers) ((shape_tells t.0.shape).0 s w.0) (listed old n t.0 t.1) in
    let second : Answered new s u.0.answers = subst (λ x. Answered new x u.0.answers) ((shape_tells u.0.shape).0 s v.0) (listed new m u.0 u.1) in
    (t.0.answers, first, subst (Answered new s) ((answers_tell u.0.answers).0 t.0.answers v.1) second)

pub alike_whole : (old new : Sources) (n m : ℕ) (s : Shape)
    → NothingWaits (derivation_of old) (reached (derivation_of old) n)
    → NothingWaits (derivation_of new) (reached (derivation_of new) m)
    → AnsweredAlike old new s → is_answered_alike (turns_of old n) (turns_of new m) s ≡ true
alike_whole old new n m s quiet calm (answers, was, is) =
    let later : list_any (is_turn s answers) (turns_of new m) ≡ true =
    any_by (is_turn s answers) (turns_of new m) (record { shape = s; answers = answers })
    (answered_listed new m calm s answers is) (pair (same_shape s s) (same_answers answers answers) (shape_tells s).1 (answers_tell answers).1) in
    any_by (λ turn. same_shape turn.shape s && list_any (is_turn s turn.answers) (turns_of new m)) (turns_of old n)
    (record { shape = s; answers = answers }) (answered_listed old n quiet s answers was) (pair (same_shape s s) _ (shape_tells s).1 later)
