-- How a text is read: one token after the other.
use Rattle.std.specs.Prelude.{ℕ, zero, suc, Bool, true, false, List, [], ◌∷◌, Option, Some, None, is_some}
use Rattle.cga_lexer.specs.declared.sign.Sign.TheVariants as s
use Rattle.cga_syntax.specs.declared.keyword.Keyword.TheVariants as k
use Rattle.cga_syntax.specs.declared.lexeme.Lexeme.{Lexeme}
use Rattle.cga_rule.specs.declared.expr.Expr.{Expr, roll-Expr}
use Rattle.cga_rule.specs.declared.expr.Term.{Term, roll-Term}
use Rattle.cga_rule.specs.declared.expr.Added.{Added, roll-Added}
use Rattle.cga_rule.specs.declared.expr.Scaled.{Scaled}
use Rattle.cga_rule.specs.declared.expr.Factor.{Factor}
use Rattle.cga_rule.specs.declared.expr.Primary.{Primary}
use Rattle.cga_rule.specs.declared.expr.Primary.TheVariants as v
use Rattle.cga_rule.specs.declared.cond.Cond.{Cond, roll-Cond}
use Rattle.cga_rule.specs.declared.cond.Conj.{Conj, roll-Conj}
use Rattle.cga_rule.specs.declared.cond.Test.{Test}
use Rattle.cga_rule.specs.declared.cond.Test.TheVariants as t
use Rattle.cga_word.specs.declared.axis.Axis.{Axis}
use Rattle.cga_word.specs.declared.target.Target.{Target}
use Rattle.cga_word.specs.declared.answer.Answer.{Answer}
use Rattle.cga_syntax.specs.Limits.{last_id, last_edge, most_further, most_steps}
use Rattle.cga_form.specs.declared.heads.ScopeWord.{ScopeWord}
use Rattle.cga_form.specs.declared.heads.ScopeWord.TheVariants as scope_word
use Rattle.std.specs.Prelude.{pos, ◌||◌}
use Rattle.cga_fraction.specs.Rat.{Rat, of_int}
use Rattle.cga_word.specs.declared.turn.Turn.{Turn}
use Rattle.cga_word.specs.declared.turn.Turn.TheVariants as turn
use Rattle.cga_word.specs.declared.primitive.Primitive.{Primitive}
use Rattle.cga_word.specs.declared.selector.Selector.{Selector}
use Rattle.cga_word.specs.declared.selector.Selector.TheVariants as chosen
use Rattle.cga_rule.specs.declared.item.Size.{Size}
use Rattle.cga_rule.specs.declared.item.Size.TheVariants as size_of
use Rattle.cga_rule.specs.declared.item.Body.{Body, roll-Body}
use Rattle.cga_rule.specs.declared.item.Item.{Item}
use Rattle.cga_rule.specs.declared.item.Item.TheVariants as i
use Rattle.cga_rule.specs.declared.rule.Alternative.{Alternative}
use Rattle.cga_rule.specs.declared.rule.Rule.{Rule}
use Rattle.cga_form.specs.declared.heads.ItemHead.{ItemHead}
use Rattle.cga_form.specs.declared.heads.ItemHead.TheVariants as item_head_of
use Rattle.cga_form.specs.declared.heads.SelectorHead.{SelectorHead}
use Rattle.cga_form.specs.declared.heads.SelectorHead.TheVariants as selector_head
use Rattle.cga_form.specs.Reader.{Reader, ◌>>=◌, ◌>>◌, pure, refuse, single, enter, drawn_word, peeked, many, many_from}
use Rattle.cga_form.specs.Tokens.{is_sign, is_keyword, a_sign, a_keyword, a_name, a_whole, a_number}
use Rattle.cga_form.specs.Words.{primary_head, size_axis, an_addition, a_scaling, a_relation, an_equality, a_target}
use Rattle.cga_form.specs.Words.{a_state, a_scope_word, item_head, a_relative, is_relative, a_turn, a_ninety, an_axis}
use Rattle.cga_form.specs.Words.{a_solid, a_side, a_selector}
use Rattle.cga_form.specs.declared.heads.PrimaryHead.{PrimaryHead}
use Rattle.cga_form.specs.declared.heads.PrimaryHead.TheVariants as head
pub use Rattle.cga_form.specs.Parts.{sign, any, finish}

-- ---- expressions, where so many brackets may be opened and `inside` reads what stands in one

abbrev pub is_addition : Lexeme → Bool
is_addition l = is_some (an_addition l)

abbrev pub is_scaling : Lexeme → Bool
is_scaling l = is_some (a_scaling l)

module _ (n : ℕ) (inside : Reader Expr) where
  unfoldable pub group : Reader Expr
  group = enter (a_sign s.LeftRound) n >> (inside >>= λ e. sign s.RightRound >> pure e)

  unfoldable pub rand_parts : Reader (Expr × Expr × ℕ)
  rand_parts =
      enter (a_sign s.LeftRound) n
      >> (inside >>= λ low. sign s.Comma >> (inside >>= λ high. sign s.Comma >> (single (a_whole 1 most_steps) >>= λ steps. sign s.RightRound >> pure (low, high, steps))))

  abbrev pub primary_rest : PrimaryHead → Reader Primary
  primary_rest (head.Number value) = pure (v.Number value)
  primary_rest (head.Named name) = pure (v.Named name)
  primary_rest head.Scope = sign s.Dot >> (single size_axis >>= λ a. pure (v.ScopeSize a))
  primary_rest head.Floor = group >>= λ e. pure (v.Floor e)
  primary_rest head.Ceil = group >>= λ e. pure (v.Ceil e)

  unfoldable pub primary : Reader Primary
  primary =
      peeked (is_sign s.LeftRound) (group >>= λ e. pure (v.Group e))
      (peeked (is_keyword k.Rand) (drawn_word (a_keyword k.Rand) >>= λ j. rand_parts >>= λ p. pure (v.Rand j p.0 p.1 p.2)) (single primary_head >>= primary_rest))

  abbrev pub signed : Bool → Reader Factor
  signed minus = primary >>= λ p. pure (record { minus = minus; primary = p })

  unfoldable pub factor : Reader Factor
  factor = peeked (is_sign s.Minus) (sign s.Minus >> signed true) (signed false)

  unfoldable pub scaled : Reader Scaled
  scaled = single a_scaling >>= λ divide. factor >>= λ f. pure (record { divide = divide; factor = f })

  abbrev pub term_after : Factor → Reader Term
  term_after f = many is_scaling scaled >>= λ rest. pure (roll-Term (record { first = f; rest = rest }))

  unfoldable pub term : Reader Term
  term = factor >>= term_after

  unfoldable pub added : Reader Added
  added = single an_addition >>= λ minus. term >>= λ t. pure (roll-Added (record { minus = minus; term = t }))

  abbrev pub expr_after : Term → Reader Expr
  expr_after t = many is_addition added >>= λ rest. pure (roll-Expr (record { first = t; rest = rest }))

  unfoldable pub expr_layer : Reader Expr
  expr_layer = term >>= expr_after

-- with so many brackets that may still be opened
unfoldable pub expr : ℕ → Reader Expr
expr zero = expr_layer zero refuse
expr (suc n) = expr_layer (suc n) (expr n)

-- what reads an expression in one more bracket
abbrev pub inside_of : ℕ → Reader Expr
inside_of zero = refuse
inside_of (suc n) = expr n

-- ---- conditions, where so many brackets may be opened and `inner` reads what stands in one

abbrev pub size_factor : Axis → Factor
size_factor a = record { minus = false; primary = v.ScopeSize a }

abbrev pub sum_of : Factor → List Scaled → List Added → Expr
sum_of f fs ts = roll-Expr (record { first = roll-Term (record { first = f; rest = fs }); rest = ts })

module _ (n : ℕ) (inner : Reader Cond) where
  unfoldable pub square : Reader Cond
  square = enter (a_sign s.LeftSquare) n >> (inner >>= λ c. sign s.RightSquare >> pure c)

  unfoldable pub compare_after : Expr → Reader Test
  compare_after left = single a_relation >>= λ r. expr n >>= λ right. pure (t.Compare left r right)

  unfoldable pub occ_parts : Reader (Target × Bool × Answer)
  occ_parts = enter (a_sign s.LeftRound) n >> (single a_target >>= λ target. sign s.RightRound >> (single an_equality >>= λ equal. single a_state >>= λ state. pure (target, equal, state)))

  -- after `Scope.` and a word
  abbrev pub scope_rest : ScopeWord → Reader Test
  scope_rest scope_word.Occ = occ_parts >>= λ p. pure (t.Occ p.0 p.1 p.2)
  scope_rest (scope_word.Size a) =
      many is_scaling (scaled n (inside_of n)) >>= λ fs. many is_addition (added n (inside_of n)) >>= λ ts. compare_after (sum_of (size_factor a) fs ts)

  unfoldable pub one_test : Reader Test
  one_test =
      peeked (is_sign s.LeftSquare) (square >>= λ c. pure (t.Group c))
      (peeked (is_keyword k.Not) (single (a_keyword k.Not) >> (square >>= λ c. pure (t.Not c)))
      (peeked (is_keyword k.Scope) (single (a_keyword k.Scope) >> (sign s.Dot >> (single a_scope_word >>= scope_rest))) (expr n >>= compare_after)))

  unfoldable pub further_test : Reader Test
  further_test = single (a_keyword k.And) >> (one_test >>= λ a. pure a)

  unfoldable pub conj : Reader Conj
  conj = one_test >>= λ a. many (is_keyword k.And) further_test >>= λ more. pure (roll-Conj (record { tests = a ∷ more }))

  unfoldable pub further_conj : Reader Conj
  further_conj = single (a_keyword k.Or) >> (conj >>= λ a. pure a)

  unfoldable pub cond_layer : Reader Cond
  cond_layer = conj >>= λ a. many (is_keyword k.Or) further_conj >>= λ more. pure (roll-Cond (record { conjs = a ∷ more }))

-- with so many brackets that may still be opened
unfoldable pub cond : ℕ → Reader Cond
cond zero = cond_layer zero refuse
cond (suc n) = cond_layer (suc n) (cond n)

-- what reads a condition in one more bracket
abbrev pub inner_of : ℕ → Reader Cond
inner_of zero = refuse
inner_of (suc n) = cond n

-- ---- items, where so many brackets may be opened, `inside` reads an expression in one more, and `inner` an item

abbrev pub begins_item : Lexeme → Bool
begins_item l = is_sign s.LeftSquare l || is_some (item_head l)

-- one or more items
abbrev pub items_by : Reader Item → Reader (List Item)
items_by p = p >>= λ a. many begins_item p >>= λ more. pure (a ∷ more)

-- items, or NIL
abbrev pub body_by : Reader Item → Reader (List Item)
body_by p = peeked (is_keyword k.Nil) (single (a_keyword k.Nil) >> pure []) (items_by p)

-- the last of three, and the bracket behind it
unfoldable pub last_of : {A : Type 0} → Reader A → Reader A
last_of p = sign s.Comma >> (p >>= λ z. sign s.RightRound >> pure z)

-- the last two of three
unfoldable pub last_two : {A : Type 0} → Reader A → Reader (A × A)
last_two p = sign s.Comma >> (p >>= λ y. last_of p >>= λ z. pure (y, z))

-- three with commas between them, and the bracket behind them
abbrev pub in_threes : {A : Type 0} → Reader A → Reader (A × A × A)
in_threes p = p >>= λ x. last_two p >>= λ rest. pure (x, rest.0, rest.1)

abbrev pub selector_rest : SelectorHead → Reader Selector
selector_rest selector_head.Faces = pure chosen.Faces
selector_rest selector_head.Sidefaces = pure chosen.Sidefaces
selector_rest selector_head.Face = sign s.Comma >> (single a_side >>= λ x. pure (chosen.Face x))
selector_rest selector_head.Edges = pure chosen.Edges
selector_rest selector_head.Edge = sign s.Comma >> (single (a_whole 1 last_edge) >>= λ x. pure (chosen.Edge x))
selector_rest selector_head.Vertices = pure chosen.Vertices

unfoldable pub selector : Reader Selector
selector = single a_selector >>= selector_rest

unfoldable pub minus_ninety : Reader (Unit {0})
minus_ninety = sign s.Minus >> (single a_ninety >>= λ u. pure u)

-- a turn, or -90
unfoldable pub quarter_turn : Reader Turn
quarter_turn = peeked (is_sign s.Minus) (minus_ninety >>= λ u. pure turn.By270) (single a_turn >>= λ a. pure a)

module _ (n : ℕ) (inside : Reader Expr) where
  unfoldable pub size : Reader Size
  size = peeked is_relative (single a_relative >>= λ r. pure (size_of.Relative r)) (inside >>= λ e. pure (size_of.Absolute e))

  unfoldable pub move_parts : Reader (Expr × Expr × Expr)
  move_parts = enter (a_sign s.LeftRound) n >> in_threes inside

  unfoldable pub resize_parts : Reader (Size × Size × Size)
  resize_parts = enter (a_sign s.LeftRound) n >> in_threes size

  unfoldable pub turn_part : Reader Turn
  turn_part = enter (a_sign s.LeftRound) n >> (quarter_turn >>= λ a. sign s.RightRound >> pure a)

  unfoldable pub solid_part : Reader Primitive
  solid_part = enter (a_sign s.LeftRound) n >> (single a_solid >>= λ a. sign s.RightRound >> pure a)

  unfoldable pub further_size : Reader Size
  further_size = sign s.Comma >> (size >>= λ a. pure a)

  unfoldable pub split_parts : Reader (Axis × List Size)
  split_parts =
      enter (a_sign s.LeftRound) n >> (single an_axis >>= λ a. further_size >>= λ x. many (is_sign s.Comma) further_size >>= λ more. sign s.RightRound >> pure (a, x ∷ more))

  unfoldable pub repeat_parts : Reader (Axis × Expr)
  repeat_parts = enter (a_sign s.LeftRound) n >> (single an_axis >>= λ a. sign s.Comma >> (inside >>= λ e. sign s.RightRound >> pure (a, e)))

  unfoldable pub selector_part : Reader Selector
  selector_part = enter (a_sign s.LeftRound) n >> (selector >>= λ a. sign s.RightRound >> pure a)

  unfoldable pub further_argument : Reader Expr
  further_argument = sign s.Comma >> (inside >>= λ e. pure e)

  -- at most four
  unfoldable pub some_arguments : Reader (List Expr)
  some_arguments = enter (a_sign s.LeftRound) n >> (inside >>= λ e. many_from (is_sign s.Comma) further_argument most_further [] >>= λ more. sign s.RightRound >> pure (e ∷ more))

  unfoldable pub arguments : Reader (List Expr)
  arguments = peeked (is_sign s.LeftRound) some_arguments (pure [])

  module _ (inner : Reader Item) where
    unfoldable pub scoped : Reader (List Item)
    scoped = enter (a_sign s.LeftSquare) n >> (items_by inner >>= λ is. sign s.RightSquare >> pure is)

    unfoldable pub braced_body : Reader Body
    braced_body = enter (a_sign s.LeftCurly) n >> (body_by inner >>= λ is. sign s.RightCurly >> pure (roll-Body (record { items = is })))

    unfoldable pub further_body : Reader Body
    further_body = sign s.Bar >> (body_by inner >>= λ is. pure (roll-Body (record { items = is })))

    unfoldable pub braced_bodies : Reader (List Body)
    braced_bodies = enter (a_sign s.LeftCurly) n >> (body_by inner >>= λ is. many (is_sign s.Bar) further_body >>= λ more. sign s.RightCurly >> pure (roll-Body (record { items = is }) ∷ more))

    abbrev pub item_rest : ItemHead → Reader Item
    item_rest item_head_of.Move = move_parts >>= λ p. pure (i.Move p.0 p.1 p.2)
    item_rest item_head_of.Resize = resize_parts >>= λ p. pure (i.Resize p.0 p.1 p.2)
    item_rest (item_head_of.Rotate a) = turn_part >>= λ t. pure (i.Rotate a t)
    item_rest item_head_of.Solid = solid_part >>= λ p. pure (i.Solid p)
    item_rest item_head_of.Subdiv = split_parts >>= λ p. braced_bodies >>= λ bs. pure (i.Subdiv p.0 p.1 bs)
    item_rest item_head_of.Repeat = repeat_parts >>= λ p. braced_body >>= λ b. pure (i.Repeat p.0 p.1 b)
    item_rest item_head_of.Comp = selector_part >>= λ x. braced_body >>= λ b. pure (i.Comp x b)
    item_rest (item_head_of.Child name) = arguments >>= λ es. pure (i.Child name es)

    unfoldable pub item_layer : Reader Item
    item_layer = peeked (is_sign s.LeftSquare) (scoped >>= λ is. pure (i.Scoped is)) (single item_head >>= item_rest)

-- with so many brackets that may still be opened
unfoldable pub item : ℕ → Reader Item
item zero = item_layer zero refuse refuse
item (suc n) = item_layer (suc n) (expr n) (item n)

abbrev pub inner_item : ℕ → Reader Item
inner_item zero = refuse
inner_item (suc n) = item n

-- ---- rules

unfoldable pub further_name : Reader (List ℕ)
further_name = sign s.Comma >> (single a_name >>= λ x. pure x)

unfoldable pub some_parameters : ℕ → Reader (List (List ℕ))
some_parameters n = enter (a_sign s.LeftRound) n >> (single a_name >>= λ x. many_from (is_sign s.Comma) further_name most_further [] >>= λ more. sign s.RightRound >> pure (x ∷ more))

unfoldable pub parameters : ℕ → Reader (List (List ℕ))
parameters n = peeked (is_sign s.LeftRound) (some_parameters n) (pure [])

unfoldable pub condition : ℕ → Reader (Option Cond)
condition n = peeked (is_sign s.Colon) (sign s.Colon >> (cond n >>= λ c. pure (Some c))) (pure None)

unfoldable pub given_probability : Reader Rat
given_probability = sign s.Colon >> (single a_number >>= λ p. pure p)

unfoldable pub probability : Reader Rat
probability = peeked (is_sign s.Colon) (given_probability >>= λ p. pure p) (pure (of_int (pos 1)))

unfoldable pub alternative : ℕ → Reader Alternative
alternative n = sign s.Arrow >> (body_by (item n) >>= λ is. probability >>= λ p. pure (record { items = is; prob = p }))

unfoldable pub rule : ℕ → Reader Rule
rule n =
    single (a_whole 1 last_id) >>= λ id. sign s.Colon >> (single a_name >>= λ name. parameters n >>= λ ps. condition n >>= λ c.
    alternative n >>= λ a. many (is_sign s.Arrow) (alternative n) >>= λ more. pure (record { id = id; symbol = name; params = ps; cond = c; alternatives = a ∷ more }))
