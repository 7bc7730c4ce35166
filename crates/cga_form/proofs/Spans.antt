-- A line has no more tokens than bytes.
use Rattle.std.proofs.Common.{ℕ, ◌+◌, ◌≤◌, List, [], ◌∷◌, length, arith}
use Rattle.cga_lexer.specs.Line.{Rise}
use Rattle.cga_lexer.specs.declared.token.Token.{Token}

pub few_tokens : (place : ℕ) (ts : List Token) (last : ℕ) → Rise place ts last → place + length ts ≤ last
few_tokens place [] last h = omega (arith, h)
few_tokens place (t ∷ ts) last h = let r = few_tokens t.to ts last h.2 in let a = h.0 in let b = h.1 in omega arith
