-- Portions of the forms, as functions of their own read them.
use Rattle.std.specs.Prelude.{ℕ, List, ◌∷◌}
use Rattle.cga_lexer.specs.declared.sign.Sign.{Sign}
use Rattle.cga_lexer.specs.declared.sign.Sign.TheVariants as s
use Rattle.cga_syntax.specs.declared.keyword.Keyword.TheVariants as k
use Rattle.cga_syntax.specs.Limits.{most_steps}
use Rattle.cga_rule.specs.declared.expr.Expr.{Expr}
use Rattle.cga_rule.specs.declared.expr.Primary.{Primary}
use Rattle.cga_rule.specs.declared.expr.Primary.TheVariants as v
use Rattle.cga_rule.specs.declared.cond.Cond.{Cond}
use Rattle.cga_rule.specs.declared.cond.Relation.{Relation}
use Rattle.cga_rule.specs.declared.cond.Test.{Test}
use Rattle.cga_rule.specs.declared.rule.Alternative.{Alternative}
use Rattle.cga_form.specs.Reader.{Reader, ◌>>=◌, ◌>>◌, pure, single, many}
use Rattle.cga_form.specs.Tokens.{is_sign, a_keyword, a_whole}
use Rattle.cga_form.specs.Words.{size_axis, a_relation, a_scope_word}
use Rattle.cga_parser.specs.Grammar.{sign, expr, compare_after, scope_rest, alternative}

-- something and the sign after it
abbrev pub until : {A : Type 0} → Reader A → Sign → Reader A
until p end = p >>= λ x. sign end >> pure x

-- the steps of a rand, and the bracket behind them
abbrev pub rand_steps : Reader ℕ
rand_steps = sign s.Comma >> (single (a_whole 1 most_steps) >>= λ steps. sign s.RightRound >> pure steps)

-- a size of the scope, after the word
abbrev pub scope_size : Reader Primary
scope_size = sign s.Dot >> (single size_axis >>= λ a. pure (v.ScopeSize a))

module _ (n : ℕ) (inner : Reader Cond) where
  -- a relation and what stands after it
  abbrev pub compared : Reader (Relation × Expr)
  compared = single a_relation >>= λ r. expr n >>= λ right. pure (r, right)

  -- a test that begins with the word `Scope`
  abbrev pub scope_test : Reader Test
  scope_test = single (a_keyword k.Scope) >> (sign s.Dot >> (single a_scope_word >>= scope_rest n inner))

  -- two expressions with a relation between them
  abbrev pub comparison : Reader Test
  comparison = expr n >>= compare_after n inner

-- one or more alternatives
abbrev pub alternatives : ℕ → Reader (List Alternative)
alternatives n = alternative n >>= λ a. many (is_sign s.Arrow) (alternative n) >>= λ more. pure (a ∷ more)
