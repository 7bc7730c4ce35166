-- Parts that lines of several forms have, and how they are read.
use Rattle.std.specs.Prelude.{ℕ, zero, suc, Bool, true, false, List, Option, Some, None, pos}
use Rattle.cga_fraction.specs.Rat.{Rat, of_int}
use Rattle.cga_fraction.specs.Arithmetic.{negated, divided}
use Rattle.cga_lexer.specs.declared.sign.Sign.{Sign}
use Rattle.cga_lexer.specs.declared.sign.Sign.TheVariants as s
use Rattle.cga_syntax.specs.declared.lexeme.Lexeme.{Lexeme}
use Rattle.cga_syntax.specs.declared.lexeme.Lexeme.TheVariants as lexeme
use Rattle.cga_syntax.specs.Limits.{last_id, last_priority}
use Rattle.cga_form.specs.Limits.{last_seed}
use Rattle.cga_form.specs.Reader.{Reader, ◌>>=◌, ◌>>◌, pure, refuse, single, peeked}
use Rattle.cga_form.specs.Tokens.{passing, is_sign, is_word, a_sign, a_name, a_number, a_whole, whole_of}

-- a sign
abbrev pub sign : Sign → Reader (Unit {0})
sign x = single (a_sign x)

-- every token
abbrev pub any : Lexeme → Bool
any _ = true

-- the end of the line
unfoldable pub finish : Reader (Unit {0})
finish = peeked any refuse (pure tt)

-- ---- tokens

-- a word that a form names
abbrev pub a_word : List ℕ → Lexeme → Option (Unit {0})
a_word bytes l = passing (is_word bytes l)

-- unless it is 0
abbrev pub above_zero : Option ℕ → Option ℕ
above_zero None = None
above_zero (Some zero) = None
above_zero (Some (suc n)) = Some (suc n)

-- a whole number that isn't 0
abbrev pub a_divisor : Lexeme → Option ℕ
a_divisor (lexeme.Number value) = above_zero (whole_of value)
a_divisor _ = None

-- ---- values

-- the negative where a minus stands before it
abbrev pub with_minus : Bool → Rat → Rat
with_minus true v = negated v
with_minus false v = v

-- a slash, and what divides
unfoldable pub divisor : Reader ℕ
divisor = sign s.Slash >> (single a_divisor >>= λ d. pure d)

-- after a number, which is whole or isn't
abbrev pub magnitude_rest : Bool → Rat → Option ℕ → Reader Rat
magnitude_rest minus v None = pure (with_minus minus v)
magnitude_rest minus v (Some n) = peeked (is_sign s.Slash) (divisor >>= λ d. pure (with_minus minus (divided (of_int (pos n)) (of_int (pos d))))) (pure (with_minus minus v))

-- a value without its minus
unfoldable pub magnitude : Bool → Reader Rat
magnitude minus = single a_number >>= λ v. magnitude_rest minus v (whole_of v)

-- a value
unfoldable pub value : Reader Rat
value = peeked (is_sign s.Minus) (sign s.Minus >> magnitude true) (magnitude false)

-- ---- other parts of lines

-- a word that isn't reserved
abbrev pub name : Reader (List ℕ)
name = single a_name

-- the id of a rule
abbrev pub id : Reader ℕ
id = single (a_whole 1 last_id)

-- a whole number within bounds
abbrev pub whole_between : ℕ → ℕ → Reader ℕ
whole_between low high = single (a_whole low high)

-- the seed of a lot
abbrev pub seed : Reader ℕ
seed = single (a_whole 0 last_seed)

-- the priority of a symbol
abbrev pub prio : Reader ℕ
prio = single (a_whole 0 last_priority)

-- ---- lines

-- a member and then the end of the line
abbrev pub complete : {A : Type 0} → Reader A → Reader A
complete p = p >>= λ a. finish >> pure a

-- one after the other
abbrev pub pair : {A B : Type 0} → Reader A → Reader B → Reader (A × B)
pair p q = p >>= λ a. q >>= λ b. pure (a, b)
