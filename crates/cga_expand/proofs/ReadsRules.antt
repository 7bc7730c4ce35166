-- Equal settings: the expansion reads of a grammar only the group of the symbol and the attributes that the
-- group mentions.
use Rattle.std.proofs.Common.{◌≡◌, ℕ, suc, arith, ◌+◌, ◌≤◌, List, [], ◌∷◌, map, filter, length, refl, ap, sym, ◌∙◌}
use Rattle.std.proofs.Common.{Ok, Err, Bool, true, false, not, ◌&&◌, ◌||◌, nat_eq, nat_lt, if◌then◌else◌, Some, None}
use Rattle.std.specs.Prelude.{Result, Option, find, flat_map, position, unwrap_or}
use Rattle.std.specs.List.{list_any, position_or_len}
use Rattle.std.proofs.lemmas.Bool.Decides.{nat_tests}
use lib.Pointwise.{bytes_decides}
use Rattle.cga_fraction.specs.Rat.{Rat, zero_rat}
use Rattle.cga_fraction.specs.Results.{and_then}
use Rattle.cga_word.specs.declared.answers.Answers.{Answers}
use Rattle.cga_word.specs.declared.target.Target.TheVariants.{Noparent, Active}
use Rattle.cga_rule.specs.declared.cond.Cond.{Cond}
use Rattle.cga_rule.specs.declared.grammar.Attribute.{Attribute}
use Rattle.cga_rule.specs.declared.grammar.Entry.{Entry}
use Rattle.cga_rule.specs.declared.grammar.Grammar.{Grammar}
use Rattle.cga_rule.specs.declared.grammar.Group.{Group}
use Rattle.cga_rule.specs.declared.item.Item.{Item}
use Rattle.cga_rule.specs.declared.rule.Alternative.{Alternative}
use Rattle.cga_rule.specs.declared.rule.Rule.{Rule}
use Rattle.cga_check.specs.declared.usage.Use.{Use}
use Rattle.cga_check.specs.declared.usage.Use.TheVariants as uses
use Rattle.cga_check.specs.Uses as used
use Rattle.cga_check.specs.Groups.{is_of, first_entry, rules_of, by_id, group, group_with, is_name, names, mentions_attribute}
use Rattle.cga_expr.specs.Names.{Known, number_of, value_at, attribute_of, same_name}
use Rattle.cga_shape.specs.declared.emitted.Emitted.{Emitted}
use Rattle.cga_shape.specs.declared.shape.Shape.{Shape}
use Rattle.cga_shape.specs.declared.shape_fault.ShapeFault.{ShapeFault}
use Rattle.cga_shape.specs.declared.shape_fault.ShapeFault.TheVariants.{TooDeep}
use Rattle.cga_expand.specs.declared.limits.TheConstants.{MOST_DEPTH}
use Rattle.cga_expand.specs.Asked.{answers_of, answer_if, asks_for, group_asks}
use Rattle.cga_expand.specs.Derivation.{children_of}
use Rattle.cga_expand.specs.Children.{placed_by}
use Rattle.cga_expand.specs.Expand.{expand_of, rules_by_id}
use Rattle.cga_expand.specs.Faults.{faulted, of_expr}
use Rattle.cga_expand.specs.Rules.{known_to, optional_holds, chosen, drawn_number, millionths, picked, start, successor, expansion}
use Rattle.cga_expand.specs.Settings.{Setting, setting_of, mentions, SettingsDecide}
use Rattle.cga_expand.proofs.ReadsExprs.{with_others, Agrees, AgreesAt, agrees_left, agrees_right}
use Rattle.cga_expand.proofs.ReadsConds.{cond_reads}
use Rattle.cga_expand.proofs.ReadsItems.{turn_reads}
use Rattle.std.proofs.lemmas.Bool.{or_left, or_right}

both : (a b : Bool) → a ≡ false → b ≡ true → (not a && b) ≡ true
both true b e f = cc
both false b e f = f

beyond : (n m : ℕ) (b : Bool) → nat_lt n m ≡ b → (if b then Some n else None) ≡ None → m ≤ n
beyond n m true e h = cc
beyond n m false e h = grind (arith, nat_tests)

nowhere_step : (b more : Bool) (n m : ℕ) → suc n ≤ (if not b then 1 + m else 0) → (n ≤ m → more ≡ false)
    → (b || more) ≡ false
nowhere_step true more n m h rest = absurd (omega arith)
nowhere_step false more n m h rest = rest (omega arith)

nowhere : {A : Type 0} (p : A → Bool) (xs : List A) → length xs ≤ position_or_len p xs → list_any p xs ≡ false
nowhere p [] h = refl
nowhere p (x ∷ xs) h = nowhere_step (p x) (list_any p xs) (length xs) (position_or_len p xs) h (nowhere p xs)

no_place : {A : Type 0} (p : A → Bool) (xs : List A) → position p xs ≡ None → list_any p xs ≡ false
no_place p xs e = nowhere p xs (beyond (position_or_len p xs) (length xs) (nat_lt (position_or_len p xs) (length xs)) refl e)

-- ---- rules that agree

module _ (olds news : List Attribute) (shape : Shape) (answers : Answers) where
  abbrev RuleAgrees : Rule → Type 0
  RuleAgrees rule = Agrees (known_to olds shape rule) news (used.rule_uses rule)

  abbrev AllAgree : List Rule → Type 0
  AllAgree [] = Unit {0}
  AllAgree (r ∷ rs) = RuleAgrees r × AllAgree rs

  holds_same : (rule : Rule) (cond : Option Cond) → Agrees (known_to olds shape rule) news (used.condition_uses cond)
      → optional_holds cond (known_to olds shape rule) answers ≡ optional_holds cond (known_to news shape rule) answers
  holds_same rule None h = refl
  holds_same rule (Some cond) h = ap (faulted of_expr) (cond_reads (known_to olds shape rule) news answers cond h)

  picked_step : (b : Bool) (k k' : Known) (items : List Item) (more : Option (List Item))
      → successor (Some items) k shape ≡ successor (Some items) k' shape
      → successor more k shape ≡ successor more k' shape
      → successor (if b then Some items else more) k shape ≡ successor (if b then Some items else more) k' shape
  picked_step true k k' items more e f = e
  picked_step false k k' items more e f = f

  picked_same : (rule : Rule) (number before : ℕ) (alternatives : List Alternative)
      → Agrees (known_to olds shape rule) news (flat_map used.alternative_uses alternatives)
      → successor (picked number before alternatives) (known_to olds shape rule) shape ≡ successor
      (picked number before alternatives) (known_to news shape rule) shape
  picked_same rule number before [] h = refl
  picked_same rule number before (a ∷ more) h =
      picked_step (nat_lt number (before + millionths a.prob)) (known_to olds shape rule) (known_to news shape rule) a.items (picked number (before + millionths a.prob) more)
      (ap (λ r. and_then r (λ s. Ok s.children)) (turn_reads (known_to olds shape rule) news a.items (agrees_left (known_to olds shape rule) news (used.alternative_uses a) _ h) (start shape)))
      (picked_same rule number (before + millionths a.prob) more (agrees_right (known_to olds shape rule) news (used.alternative_uses a) _ h))

  abbrev becomes : List Attribute → Rule → Result (List Emitted) ShapeFault
  becomes attributes rule = successor (picked (drawn_number shape) 0 rule.alternatives) (known_to attributes shape rule) shape

  becomes_same : (rule : Rule) → RuleAgrees rule → becomes olds rule ≡ becomes news rule
  unfolding used.rule_uses
  becomes_same rule h = picked_same rule (drawn_number shape) 0 rule.alternatives (agrees_right (known_to olds shape rule) news (used.condition_uses rule.cond) _ h)

  rule_holds : (rule : Rule) → RuleAgrees rule
      → optional_holds rule.cond (known_to olds shape rule) answers ≡ optional_holds rule.cond
      (known_to news shape rule) answers
  unfolding used.rule_uses
  rule_holds rule h = holds_same rule rule.cond (agrees_left (known_to olds shape rule) news (used.condition_uses rule.cond) _ h)

  chosen_step : (rule : Rule) (o o' : Result Bool ShapeFault) (more more' : Result Rule ShapeFault) → o ≡ o'
      → becomes olds rule ≡ becomes news rule → and_then more (becomes olds) ≡ and_then more' (becomes news)
      → and_then (and_then o (λ holds. if holds then Ok rule else more)) (becomes olds) ≡ and_then
      (and_then o' (λ holds. if holds then Ok rule else more')) (becomes news)
  chosen_step rule o o' more more' e here rest = ap (λ p. and_then (and_then p (λ holds. if holds then Ok rule else more)) (becomes olds)) e ∙ by_result o'
    where
      by_result : (p : Result Bool ShapeFault)
          → and_then (and_then p (λ holds. if holds then Ok rule else more)) (becomes olds) ≡ and_then
          (and_then p (λ holds. if holds then Ok rule else more')) (becomes news)
      by_result (Ok true) = here
      by_result (Ok false) = rest
      by_result (Err fault) = refl

  chosen_same : (rules : List Rule) → AllAgree rules
      → and_then (chosen olds shape answers rules) (becomes olds) ≡ and_then (chosen news shape answers rules)
      (becomes news)
  chosen_same [] h = refl
  chosen_same (r ∷ rs) h =
      chosen_step r (optional_holds r.cond (known_to olds shape r) answers) (optional_holds r.cond (known_to news shape r) answers) (chosen olds shape answers rs) (chosen news shape answers rs)
      (rule_holds r h.0) (becomes_same r h.0) (chosen_same rs h.1)

  pub expansion_same : (rules : List Rule) → AllAgree rules
      → expansion olds rules shape answers ≡ expansion news rules shape answers
  unfolding expansion
  expansion_same rules h = ap (λ r. if nat_eq (length shape.path) MOST_DEPTH then Err TooDeep else r) (chosen_same rules h)

  -- ---- what is mentioned agrees

  abbrev SameValue : List ℕ → Type 0
  SameValue name = attribute_of olds name ≡ attribute_of news name

  at_place : (k : Known) (name : List ℕ) (place : Option ℕ)
      → (place ≡ None → attribute_of k.attributes name ≡ attribute_of news name)
      → value_at k name place ≡ value_at (with_others k news) name place
  at_place k name None h = h refl
  at_place k name (Some place) h = refl

  at_name : (rule : Rule) (name : List ℕ) → (used.has_name rule.params name ≡ false → SameValue name)
      → number_of (known_to olds shape rule) name ≡ number_of (with_others (known_to olds shape rule) news) name
  unfolding number_of
  at_name rule name h =
      ap (λ o. unwrap_or o zero_rat)
      (at_place (known_to olds shape rule) name (position (λ param. same_name param name) rule.params) (λ none. h (no_place (λ param. same_name param name) rule.params none)))

  at_use : (rule : Rule) (u : Use)
      → ((name : List ℕ) → is_name name u ≡ true → used.has_name rule.params name ≡ false → SameValue name)
      → AgreesAt (known_to olds shape rule) news u
  at_use rule (uses.Answer target) h = tt
  at_use rule (uses.Child symbol args) h = tt
  at_use rule (uses.Parts sizes bodies) h = tt
  at_use rule (uses.Named name) h = at_name rule name (h name ((bytes_decides name name).1 refl))

  at_uses : (rule : Rule) (us : List Use)
      → ((name : List ℕ) → list_any (is_name name) us ≡ true → used.has_name rule.params name ≡ false → SameValue name)
      → Agrees (known_to olds shape rule) news us
  at_uses rule [] h = tt
  at_uses rule (u ∷ us) h = (
    at_use rule u (λ name here. h name (or_left (is_name name u) (list_any (is_name name) us) here)),
    at_uses rule us (λ name there. h name (or_right (is_name name u) (list_any (is_name name) us) there)),
  )

  rule_agrees : (rule : Rule) → ((name : List ℕ) → names name rule ≡ true → SameValue name) → RuleAgrees rule
  rule_agrees rule h = at_uses rule (used.rule_uses rule) (λ name here none. h name (both (used.has_name rule.params name) (list_any (is_name name) (used.rule_uses rule)) none here))

  pub all_agree : (rules : List Rule) → ((name : List ℕ) → list_any (names name) rules ≡ true → SameValue name)
      → AllAgree rules
  all_agree [] h = tt
  all_agree (r ∷ rs) h = (
    rule_agrees r (λ name here. h name (or_left (names name r) (list_any (names name) rs) here)),
    all_agree rs (λ name there. h name (or_right (names name r) (list_any (names name) rs) there)),
  )

-- ---- groups

abbrev rules_in : Option Group → List Rule
rules_in None = []
rules_in (Some g) = g.rules

filter_step : (b : Bool) (x : Entry) (xs : List Entry) (more : Option Entry)
    → (more ≡ None → map (λ (y : Entry). y.rule) xs ≡ []) → (if b then Some x else more) ≡ None
    → map (λ (y : Entry). y.rule) (if b then x ∷ xs else xs) ≡ []
filter_step true x xs more rest e = cc
filter_step false x xs more rest e = rest e

filter_none : (symbol : List ℕ) (entries : List Entry) → find (is_of symbol) entries ≡ None
    → rules_of entries symbol ≡ []
unfolding rules_of
filter_none symbol [] e = refl
filter_none symbol (x ∷ xs) e = filter_step (is_of symbol x) x (filter (is_of symbol) xs) (find (is_of symbol) xs) (filter_none symbol xs) e

in_group : (entries : List Entry) (symbol : List ℕ) (first : Option Entry) → first ≡ first_entry entries symbol
    → rules_in (group_with entries symbol first) ≡ by_id (rules_of entries symbol)
unfolding first_entry by_id
in_group entries symbol None e = sym (ap by_id (filter_none symbol entries (sym e)))
in_group entries symbol (Some x) e = refl

rules_are : (g : Grammar) (symbol : List ℕ) → rules_in (group g symbol) ≡ rules_by_id g symbol
unfolding group
rules_are g symbol = in_group g.rules symbol (first_entry g.rules symbol) refl

mentioned : (o : Option Group) (name : List ℕ) → mentions o name ≡ list_any (names name) (rules_in o)
unfolding mentions_attribute
mentioned None name = refl
mentioned (Some g) name = refl

chosen_value : (b b' : Bool) (x y : Option Rat) → b ≡ true → b ≡ b' → (if b then x else None) ≡ (if b' then y else None)
    → x ≡ y
chosen_value true true x y e f h = h
chosen_value true false x y e f h = cc
chosen_value false b' x y e f h = cc

module _ (old new : Grammar) (s : Shape) (same : setting_of old s.symbol ≡ setting_of new s.symbol) where
  same_group : group old s.symbol ≡ group new s.symbol
  unfolding setting_of
  same_group = ap (λ (t : Setting). t.group) same

  same_value : (name : List ℕ) → mentions (group old s.symbol) name ≡ true
      → attribute_of old.attributes name ≡ attribute_of new.attributes name
  unfolding setting_of
  same_value name here =
      chosen_value (mentions (group old s.symbol) name) (mentions (group new s.symbol) name) _ _ here (ap (λ o. mentions o name) same_group) (ap (λ (t : Setting). t.values name) same)

  same_rules : rules_by_id old s.symbol ≡ rules_by_id new s.symbol
  same_rules = sym (rules_are old s.symbol) ∙ ap rules_in same_group ∙ rules_are new s.symbol

  agree : (answers : Answers) → AllAgree old.attributes new.attributes s answers (rules_by_id old s.symbol)
  agree answers =
      all_agree old.attributes new.attributes s answers (rules_by_id old s.symbol)
      (λ name here. same_value name (mentioned (group old s.symbol) name ∙ ap (λ rules. list_any (names name) rules) (rules_are old s.symbol) ∙ here))

  expands_same : (answers : Answers) → expand_of old s answers ≡ expand_of new s answers
  unfolding expand_of
  expands_same answers =
      expansion_same old.attributes new.attributes s answers (rules_by_id old s.symbol) (agree answers) ∙ ap (λ rules. expansion new.attributes rules s answers) same_rules

  answers_same : (existing waiting : List Shape) → answers_of old s existing waiting ≡ answers_of new s existing waiting
  unfolding answers_of asks_for
  answers_same existing waiting =
      ap (λ o. record { noparent = answer_if (group_asks o Noparent) s existing; active = answer_if (group_asks o Active) s waiting }) same_group

  children_same : (answers : Answers) → children_of old s answers ≡ children_of new s answers
  unfolding children_of
  children_same answers = ap (placed_by s) (expands_same answers)

-- where two grammars give a shape's symbol one setting, the shape has the same answers, expansion and children
pub settings_decide : SettingsDecide
settings_decide old new s same = (answers_same old new s same, expands_same old new s same, children_same old new s same)
