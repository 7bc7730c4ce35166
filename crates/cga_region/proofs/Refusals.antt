-- A region refuses what a job does.
use Rattle.std.proofs.Common.{◌≡◌, ℕ, ◌<◌, ◌≤◌, List, [], ◌∷◌, length, Bool, true, false, not, ◌⊎◌, inl, inr, refl, sym, ap, ◌∙◌, subst, arith, Option, Some, None, Result, Ok, Err}
use Rattle.std.specs.Prelude.{◌↔◌, nat_lt, position, remove}
use Rattle.std.specs.List.{position_or_len}
use Rattle.std.specs.Option.{option_map_or}
use Rattle.std.proofs.lemmas.Bool.{cases_Bool as decide}
use Rattle.std.proofs.lemmas.Grind.{common_steps}
use Rattle.cga_check.specs.Uses.{same_name}
use Rattle.cga_city.specs.Apply.{apply, Changed, changed, checked, repriced, ruled, valued, with_grammar, within}
use Rattle.cga_city.specs.Derived.{is_within}
use Rattle.cga_city.specs.Grammars.{attribute_place, has_rule, is_plain, ranked, rule_place, with_rule}
use Rattle.cga_city.specs.Lots.{accepted, finds_no_room, is_bad, rooted, with_lot}
use Rattle.cga_city.specs.declared.limits.TheConstants.{MOST_LOTS}
use Rattle.cga_region.specs.Towns.{with_lots}
use Rattle.cga_fraction.specs.Results.{and_then, err_if}
use Rattle.cga_order.specs.World.{Among}
use Rattle.cga_rule.specs.declared.grammar.Grammar.{Grammar}
use Rattle.cga_shape.specs.declared.edit.Edit.{Edit}
use Rattle.cga_shape.specs.declared.edit.Edit.TheVariants as edit
use Rattle.cga_shape.specs.declared.edit_refused.EditRefused.{EditRefused}
use Rattle.cga_shape.specs.declared.edit_refused.EditRefused.TheVariants.{BadLot, NoAttribute, NoLot, NoRule, NoSymbol, OverBudget, TooManyLots}
use Rattle.cga_shape.specs.declared.lot.Lot.{Lot}
use Rattle.cga_shape.specs.declared.sources.Sources.{Sources}
use Rattle.cga_region.proofs.Joined.{among_joined, joined_among}
use Rattle.cga_region.specs.Refusals.{AllRefuse, changed_in_region, GoesToAll, HaveLots, IsRefused, RefusalsAreOfJobs, SomeRefuses}

-- ---- lots of jobs

-- a lot of one who is asked is one of the region
lot_of : (sources : Sources) (jobs : List (List Lot)) → HaveLots sources jobs → (lots : List Lot)
    → Among lots ([] ∷ jobs)
    → (x : Lot) → Among x lots → Among x sources.lots
lot_of sources jobs have lots h x g = elim h [
  | inl e ↦ absurd (subst (Among x) (sym e) g)
  | inr r ↦ (have x).1 (among_joined jobs lots x r g)
]

-- ---- one test

module _ (k : Unit {0} → Changed) where
  by_one : (test : Bool) (c : EditRefused) (r : Result (Unit {0}) EditRefused)
      → IsRefused (and_then (err_if test c r) k)
      → (test ≡ true) ⊎ IsRefused (and_then r k)
  by_one true c r h = inl refl
  by_one false c r h = inr h

  by_test : (test : Bool) (c : EditRefused) (r : Result (Unit {0}) EditRefused) → IsRefused (Err c) → test ≡ true
      → IsRefused (and_then (err_if test c r) k)
  by_test true c r h e = h
  by_test false c r h e = absurd (let bad : false ≡ true = e in cc)

  by_rest : (test : Bool) (c : EditRefused) (r : Result (Unit {0}) EditRefused) → IsRefused (Err c)
      → IsRefused (and_then r k)
      → IsRefused (and_then (err_if test c r) k)
  by_rest true c r h g = h
  by_rest false c r h g = g

-- ---- lots without rules

module _ (g : Grammar) where
  unrooted : (k : Unit {0} → Sources) (lots : List Lot) → IsRefused (and_then (rooted g lots) (λ u. Ok (k u)))
      → (x : Lot) × Among x lots × (not (is_plain g x.symbol) ≡ true)
  unrooted k [] h = absurd h
  unrooted k (y ∷ lots) h = elim (by_one (λ u. Ok (k u)) (not (is_plain g y.symbol)) (NoSymbol y.symbol) (rooted g lots) h) [
    | inl e ↦ (y, inl refl, e)
    | inr r ↦ let w = unrooted k lots r in (w.0, inr w.1, w.2)
  ]

  not_rooted : (k : Unit {0} → Sources) (lots : List Lot) (x : Lot) → Among x lots → not (is_plain g x.symbol) ≡ true
      → IsRefused (and_then (rooted g lots) (λ u. Ok (k u)))
  not_rooted k [] x h e = absurd h
  not_rooted k (y ∷ lots) x h e = elim h [
    | inl is ↦ by_test (λ u. Ok (k u)) (not (is_plain g y.symbol)) (NoSymbol y.symbol) (rooted g lots) tt (ap (λ (l : Lot). not (is_plain g l.symbol)) is ∙ e)
    | inr r ↦ by_rest (λ u. Ok (k u)) (not (is_plain g y.symbol)) (NoSymbol y.symbol) (rooted g lots) tt (not_rooted k lots x r e)
  ]

  all_rooted : (lots : List Lot) → ((x : Lot) → Among x lots → not (is_plain g x.symbol) ≡ false)
      → rooted g lots ≡ Ok tt
  all_rooted [] h = refl
  all_rooted (y ∷ lots) h =
      ap (λ (b : Bool). err_if b (NoSymbol y.symbol) (rooted g lots)) (h y (inl refl)) ∙ all_rooted lots (λ x k. h x (inr k))

  -- a lot that is refused: by its symbol, or for its extent
  abbrev Bad : Lot → Type 0
  Bad x = (not (is_plain g x.symbol) ≡ true) ⊎ (is_bad x ≡ true)

  unaccepted : (k : Unit {0} → Sources) (lots : List Lot) → IsRefused (and_then (accepted g lots) (λ u. Ok (k u)))
      → (x : Lot) × Among x lots × Bad x
  unaccepted k [] h = absurd h
  unaccepted k (y ∷ lots) h = elim (by_one (λ u. Ok (k u)) (not (is_plain g y.symbol)) (NoSymbol y.symbol) (err_if (is_bad y) (BadLot y.name) (accepted g lots)) h) [
    | inl e ↦ (y, inl refl, inl e)
    | inr more ↦ elim (by_one (λ u. Ok (k u)) (is_bad y) (BadLot y.name) (accepted g lots) more) [
      | inl e ↦ (y, inl refl, inr e)
      | inr r ↦ let w = unaccepted k lots r in (w.0, inr w.1, w.2)
    ]
  ]

  not_accepted : (k : Unit {0} → Sources) (lots : List Lot) (x : Lot) → Among x lots → Bad x
      → IsRefused (and_then (accepted g lots) (λ u. Ok (k u)))
  not_accepted k [] x h bad = absurd h
  not_accepted k (y ∷ lots) x h bad =
      let rest = err_if (is_bad y) (BadLot y.name) (accepted g lots) in
      elim h [
        | inl is ↦ elim bad [
          | inl e ↦ by_test (λ u. Ok (k u)) (not (is_plain g y.symbol)) (NoSymbol y.symbol) rest tt (ap (λ (l : Lot). not (is_plain g l.symbol)) is ∙ e)
          | inr e ↦ by_rest (λ u. Ok (k u)) (not (is_plain g y.symbol)) (NoSymbol y.symbol) rest tt
              (by_test (λ u. Ok (k u)) (is_bad y) (BadLot y.name) (accepted g lots) tt (ap is_bad is ∙ e))
        ]
        | inr r ↦ by_rest (λ u. Ok (k u)) (not (is_plain g y.symbol)) (NoSymbol y.symbol) rest tt
            (by_rest (λ u. Ok (k u)) (is_bad y) (BadLot y.name) (accepted g lots) tt (not_accepted k lots x r bad))
      ]

-- ---- the place of a name

module _ (p : Lot → Bool) where
  none_before : (lots : List Lot) → ((x : Lot) → Among x lots → p x ≡ false) → position_or_len p lots ≡ length lots
  none_before [] h = refl
  none_before (y ∷ lots) h =
      let miss : p y ≡ false = h y (inl refl) in
      let rest : position_or_len p lots ≡ length lots = none_before lots (λ x r. h x (inr r)) in
      rw miss (omega (arith, rest))

  some_before : (lots : List Lot) (x : Lot) → Among x lots → p x ≡ true → position_or_len p lots < length lots
  some_before [] x h e = absurd h
  some_before (y ∷ lots) x h e = elim (decide (p y)) [
    | inl t ↦ rw t (omega arith)
    | inr f ↦ rw f (elim h [
      | inl is ↦ absurd (let bad : false ≡ true = sym f ∙ (ap p is ∙ e) in cc)
      | inr r ↦ let rest = some_before lots x r e in omega (arith, rest)
    ])
  ]

  no_place : (lots : List Lot) → ((x : Lot) → Among x lots → p x ≡ false) → position p lots ≡ None
  no_place lots h =
      let all = none_before lots h in
      let no : nat_lt (position_or_len p lots) (length lots) ≡ false = grind (arith, common_steps) in
      rw no refl

  a_place : (lots : List Lot) (x : Lot) → Among x lots → p x ≡ true → (i : ℕ) × (position p lots ≡ Some i)
  a_place lots x h e =
      let less = some_before lots x h e in
      let yes : nat_lt (position_or_len p lots) (length lots) ≡ true = grind (arith, common_steps) in
      (position_or_len p lots, rw yes refl)

module _ (s : Sources) (name : List ℕ) where
  abbrev without : Option ℕ → Changed
  without o = option_map_or (λ i. Ok (record s { lots = remove s.lots i })) o (Err (NoLot name))

  no_lot : ((x : Lot) → Among x s.lots → same_name x.name name ≡ false) → IsRefused (changed s (edit.Unlot name))
  no_lot h = subst (λ (o : Option ℕ). IsRefused (without o)) (sym (no_place (λ (x : Lot). same_name x.name name) s.lots h)) tt

  not_there : IsRefused (changed s (edit.Unlot name)) → (x : Lot) → Among x s.lots → same_name x.name name ≡ true → ⊥
  not_there refused x h e =
      let at = a_place (λ (y : Lot). same_name y.name name) s.lots x h e in
      subst (λ (o : Option ℕ). IsRefused (without o)) at.1 refused

-- ---- edits of the rules

module _ (s : Sources) (jobs : List (List Lot)) (have : HaveLots s jobs) where
  abbrev Some_of : (List Lot → Changed) → Type 0
  Some_of f = (lots : List Lot) × Among lots ([] ∷ jobs) × IsRefused (f lots)

  by_rules : (r : Result (Unit {0}) EditRefused) (g : Grammar)
      → IsRefused (and_then r (λ u. with_grammar s g))
      ↔ Some_of (λ lots. and_then r (λ u. with_grammar (with_lots s lots) g))
  by_rules (Err cause) g = ((λ h. ([], inl refl, h)), (λ w. w.2))
  by_rules (Ok u) g = (
    (λ h.
        let x = unrooted g (λ u. record s { grammar = g }) s.lots h in
        let job = joined_among jobs x.0 ((have x.0).0 x.1) in
        (job.0, inr job.1, not_rooted g (λ u. record (with_lots s job.0) { grammar = g }) job.0 x.0 job.2 x.2)),
    (λ w.
        let x = unrooted g (λ u. record (with_lots s w.0) { grammar = g }) w.0 w.2 in
        not_rooted g (λ u. record s { grammar = g }) s.lots x.0 (lot_of s jobs have w.0 w.1 x.0 x.1) x.2),
  )

  -- by what all have
  by_all : (r : List Lot → Changed) (whole : Changed) → ((lots : List Lot) → IsRefused whole ↔ IsRefused (r lots))
      → IsRefused whole ↔ Some_of r
  by_all r whole same = ((λ h. ([], inl refl, (same []).0 h)), (λ w. (same w.0).1 w.2))

  by_drop : (id : ℕ) (o : Option ℕ)
      → IsRefused (option_map_or (λ i. ruled s (remove s.grammar.rules i)) o (Err (NoRule id)))
      ↔ Some_of (λ lots. option_map_or (λ i. ruled (with_lots s lots) (remove s.grammar.rules i)) o (Err (NoRule id)))
  by_drop id None = ((λ h. ([], inl refl, h)), (λ w. tt))
  by_drop id (Some i) =
      let g : Grammar = record { attributes = s.grammar.attributes; rules = remove s.grammar.rules i } in
      by_rules (checked g) g

  by_attribute : (name : List ℕ) (f : List Lot → ℕ → Sources) (k : ℕ → Sources) (o : Option ℕ)
      → IsRefused (option_map_or (λ i. Ok (k i)) o (Err (NoAttribute name)))
      ↔ Some_of (λ lots. option_map_or (λ i. Ok (f lots i)) o (Err (NoAttribute name)))
  by_attribute name f k None = ((λ h. ([], inl refl, h)), (λ w. tt))
  by_attribute name f k (Some i) = ((λ h. absurd h), (λ w. w.2))

  by_symbol : (symbol : List ℕ) (f : List Lot → Sources) (k : Sources) (test : Bool)
      → IsRefused (err_if test (NoSymbol symbol) (Ok k)) ↔ Some_of (λ lots. err_if test (NoSymbol symbol) (Ok (f lots)))
  by_symbol symbol f k true = ((λ h. ([], inl refl, h)), (λ w. tt))
  by_symbol symbol f k false = ((λ h. absurd h), (λ w. w.2))

  rules : (e : Edit) → GoesToAll e → IsRefused (changed_in_region s e) ↔ SomeRefuses s jobs e
  rules (edit.Rules g) goes = by_rules (checked g) (ranked g)
  rules (edit.Put priority rule) goes =
      let g : Grammar = record { attributes = s.grammar.attributes; rules = with_rule (record { priority = priority; rule = rule }) s.grammar.rules } in
      by_rules (checked g) g
  rules (edit.Drop id) goes = by_drop id (rule_place id s.grammar.rules)
  rules (edit.SetAttribute name value) goes =
      by_attribute name (λ lots i. valued (with_lots s lots) name value i) (λ i. valued s name value i) (attribute_place name s.grammar.attributes)
  rules (edit.SetPriority symbol priority) goes =
      by_symbol symbol (λ lots. repriced (with_lots s lots) symbol priority) (repriced s symbol priority) (not (has_rule s.grammar symbol))
  rules (edit.SetLot lot) goes = absurd goes
  rules (edit.Unlot name) goes = absurd goes
  rules (edit.SetOrder mode) goes = ((λ h. absurd h), (λ w. w.2))
  rules (edit.Whole other) goes = absurd goes

  -- ---- edits of the rules that go through

  ok_same : (new other : Sources) → ◌≡◌ {A = Changed} (Ok new) (Ok other) → (lots : List Lot)
      → ◌≡◌ {A = Changed} (Ok (with_lots new lots)) (Ok (with_lots other lots))
  ok_same new other e lots = let is : new ≡ other = cc in ap (λ (n : Sources). Ok (with_lots n lots)) is

  no_ok : (cause : EditRefused) (new : Sources) (A : Type 0) → ◌≡◌ {A = Changed} (Err cause) (Ok new) → A
  no_ok cause new A e = absurd (let bad : ◌≡◌ {A = Changed} (Err cause) (Ok new) = e in cc)

  given_rules : (r : Result (Unit {0}) EditRefused) (g : Grammar) (new : Sources)
      → and_then r (λ u. with_grammar s g) ≡ Ok new
      → (lots : List Lot) → Among lots ([] ∷ jobs)
      → and_then r (λ u. with_grammar (with_lots s lots) g) ≡ Ok (with_lots new lots)
  given_rules (Err cause) g new e lots h = no_ok cause new _ e
  given_rules (Ok u) g new e lots h =
      let made : List Lot → Unit {0} → Sources = λ some u. record (with_lots s some) { grammar = g } in
      let plain : (x : Lot) → Among x s.lots → not (is_plain g x.symbol) ≡ false
      = λ x there. elim (decide (not (is_plain g x.symbol))) [
        | inl t ↦ absurd (subst IsRefused e (not_rooted g (made s.lots) s.lots x there t))
        | inr f ↦ f
      ] in
      let whole = ap (λ (r : Result (Unit {0}) EditRefused). and_then r (λ u. Ok (made s.lots u))) (all_rooted g s.lots plain) in
      let part = ap (λ (r : Result (Unit {0}) EditRefused). and_then r (λ u. Ok (made lots u))) (all_rooted g lots (λ x there. plain x (lot_of s jobs have lots h x there))) in
      part ∙ ok_same (made s.lots tt) new (sym whole ∙ e) lots

  given_drop : (id : ℕ) (o : Option ℕ) (new : Sources)
      → option_map_or (λ i. ruled s (remove s.grammar.rules i)) o (Err (NoRule id)) ≡ Ok new
      → (lots : List Lot) → Among lots ([] ∷ jobs)
      → option_map_or (λ i. ruled (with_lots s lots) (remove s.grammar.rules i)) o (Err (NoRule id))
      ≡ Ok (with_lots new lots)
  given_drop id None new e lots h = no_ok (NoRule id) new _ e
  given_drop id (Some i) new e lots h =
      let g : Grammar = record { attributes = s.grammar.attributes; rules = remove s.grammar.rules i } in
      given_rules (checked g) g new e lots h

  given_attribute : (name : List ℕ) (k : ℕ → Sources) (o : Option ℕ) (new : Sources)
      → option_map_or (λ i. Ok (k i)) o (Err (NoAttribute name)) ≡ Ok new → (lots : List Lot)
      → option_map_or (λ i. Ok (with_lots (k i) lots)) o (Err (NoAttribute name)) ≡ Ok (with_lots new lots)
  given_attribute name k None new e lots = no_ok (NoAttribute name) new _ e
  given_attribute name k (Some i) new e lots = ok_same (k i) new e lots

  given_symbol : (symbol : List ℕ) (k : Sources) (test : Bool) (new : Sources)
      → err_if test (NoSymbol symbol) (Ok k) ≡ Ok new
      → (lots : List Lot) → err_if test (NoSymbol symbol) (Ok (with_lots k lots)) ≡ Ok (with_lots new lots)
  given_symbol symbol k true new e lots = no_ok (NoSymbol symbol) new _ e
  given_symbol symbol k false new e lots = ok_same k new e lots

  given_all : (e : Edit) → GoesToAll e → (new : Sources) → changed_in_region s e ≡ Ok new → (lots : List Lot)
      → Among lots ([] ∷ jobs) → changed (with_lots s lots) e ≡ Ok (with_lots new lots)
  given_all (edit.Rules g) goes new e lots h = given_rules (checked g) (ranked g) new e lots h
  given_all (edit.Put priority rule) goes new e lots h =
      let g : Grammar = record { attributes = s.grammar.attributes; rules = with_rule (record { priority = priority; rule = rule }) s.grammar.rules } in
      given_rules (checked g) g new e lots h
  given_all (edit.Drop id) goes new e lots h = given_drop id (rule_place id s.grammar.rules) new e lots h
  given_all (edit.SetAttribute name value) goes new e lots h =
      given_attribute name (λ i. valued s name value i) (attribute_place name s.grammar.attributes) new e lots
  given_all (edit.SetPriority symbol priority) goes new e lots h =
      given_symbol symbol (repriced s symbol priority) (not (has_rule s.grammar symbol)) new e lots
  given_all (edit.SetLot lot) goes new e lots h = absurd goes
  given_all (edit.Unlot name) goes new e lots h = absurd goes
  given_all (edit.SetOrder mode) goes new e lots h = ok_same (record s { mode = mode }) new e lots
  given_all (edit.Whole other) goes new e lots h = absurd goes

  -- ---- a lot that goes

  unlot : (name : List ℕ) → IsRefused (changed_in_region s (edit.Unlot name)) ↔ AllRefuse s jobs (edit.Unlot name)
  unlot name = (
    (λ h lots asked.
        no_lot (with_lots s lots) name
        (λ x there. elim (decide (same_name x.name name)) [
          | inl t ↦ absurd (not_there s name h x (lot_of s jobs have lots asked x there) t)
          | inr f ↦ f
        ])),
    (λ all.
        no_lot s name
        (λ x there. elim (decide (same_name x.name name)) [
          | inl t ↦ (
              let job = joined_among jobs x ((have x).0 there) in
              absurd (not_there (with_lots s job.0) name (all job.0 (inr job.1)) x job.2 t)
              )
          | inr f ↦ f
        ])),
  )

-- ---- a lot

lot_causes : (a b c : Bool) (symbol name : List ℕ) (new other : Sources) (cause : EditRefused) → IsRefused (Err cause)
    → (err_if a (NoSymbol symbol) (err_if b (BadLot name) (Ok new)) ≡ Err cause)
    ↔ (err_if a (NoSymbol symbol) (err_if b (BadLot name) (err_if c TooManyLots (Ok other))) ≡ Err cause)
lot_causes true b c symbol name new other cause h = ((λ e. e), (λ e. e))
lot_causes false true c symbol name new other cause h = ((λ e. e), (λ e. e))
lot_causes false false true symbol name new other cause h = (
  (λ e. absurd (let bad : ◌≡◌ {A = Changed} (Ok new) (Err cause) = e in cc)),
  (λ e. absurd (let same : TooManyLots ≡ cause = cc in subst (λ (r : EditRefused). IsRefused (Err r)) (sym same) h)),
)
lot_causes false false false symbol name new other cause h = (
  (λ e. absurd (let bad : ◌≡◌ {A = Changed} (Ok new) (Err cause) = e in cc)),
  (λ e. absurd (let bad : ◌≡◌ {A = Changed} (Ok other) (Err cause) = e in cc)),
)

-- ---- the budget

by_budget : (budget : ℕ) (c : Changed) → (within budget c ≡ c) ⊎ (within budget c ≡ Err OverBudget)
by_budget budget (Err cause) = inl refl
by_budget budget (Ok new) = over (not (is_within budget new)) new
  where
    over : (b : Bool) (new : Sources)
        → (◌≡◌ {A = Changed} (err_if b OverBudget (Ok new)) (Ok new))
        ⊎ (◌≡◌ {A = Changed} (err_if b OverBudget (Ok new)) (Err OverBudget))
    over true new = inr refl
    over false new = inl refl

limit : (s : Sources) (e : Edit) (budget : ℕ)
    → (apply s e budget ≡ changed s e) ⊎ (apply s e budget ≡ Err OverBudget)
unfolding apply
limit s e budget = by_budget budget (changed s e)

-- ---- other sources

module _ (s other : Sources) (jobs : List (List Lot)) (have : HaveLots other jobs) (few : (lots : List Lot) → Among lots jobs → length lots ≤ MOST_LOTS) where
  abbrev given : Result (Unit {0}) EditRefused → List Lot → Changed
  given r lots =
      and_then r (λ u.
      err_if (nat_lt MOST_LOTS (length lots)) TooManyLots
      (and_then (accepted (ranked other.grammar) lots) (λ u. Ok (record (with_lots other lots) { grammar = ranked other.grammar }))))

  no_more : (lots : List Lot) → Among lots ([] ∷ jobs) → nat_lt MOST_LOTS (length lots) ≡ false
  no_more lots h =
      let most : length lots ≤ MOST_LOTS = elim h [ inl e ↦ subst (λ (l : List Lot). length l ≤ MOST_LOTS) e (omega arith) | inr r ↦ few lots r ] in
      grind (arith, common_steps)

  abbrev made : List Lot → Unit {0} → Sources
  made lots u = record (with_lots other lots) { grammar = ranked other.grammar }

  by_whole : (r : Result (Unit {0}) EditRefused)
      → IsRefused
      (and_then r (λ u. and_then (accepted (ranked other.grammar) other.lots) (λ u. Ok (made other.lots u))))
      ↔ ((lots : List Lot) × Among lots ([] ∷ jobs) × IsRefused (given r lots))
  by_whole (Err cause) = ((λ h. ([], inl refl, h)), (λ w. w.2))
  by_whole (Ok u) = (
    (λ h.
        let x = unaccepted (ranked other.grammar) (made other.lots) other.lots h in
        let job = joined_among jobs x.0 ((have x.0).0 x.1) in (
          job.0,
          inr job.1,
          subst (λ (b : Bool). IsRefused (err_if b TooManyLots (and_then (accepted (ranked other.grammar) job.0) (λ u. Ok (made job.0 u))))) (sym (no_more job.0 (inr job.1)))
              (not_accepted (ranked other.grammar) (made job.0) job.0 x.0 job.2 x.2),
        )),
    (λ w.
        let r = subst (λ (b : Bool). IsRefused (err_if b TooManyLots (and_then (accepted (ranked other.grammar) w.0) (λ u. Ok (made w.0 u))))) (no_more w.0 w.1) w.2 in
        let x = unaccepted (ranked other.grammar) (made w.0) w.0 r in
        not_accepted (ranked other.grammar) (made other.lots) other.lots x.0 (lot_of other jobs have w.0 w.1 x.0 x.1) x.2),
  )

pub refusals_are_of_jobs : RefusalsAreOfJobs
refusals_are_of_jobs s jobs have = record {
  rules = rules s jobs have;
  given = given_all s jobs have;
  lot = λ lot lots cause h. lot_causes (not (is_plain s.grammar lot.symbol)) (is_bad lot) (finds_no_room lot lots)
      lot.symbol lot.name (record s { lots = with_lot lot s.lots }) (record (with_lots s lots) { lots = with_lot lot lots }) cause h;
  unlot = unlot s jobs have;
  limit = λ lots e budget. limit (with_lots s lots) e budget;
  whole = λ other others having few. by_whole s other others having few (checked other.grammar);
}
