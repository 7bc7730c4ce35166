-- A line of a block is read as it is written.
use Rattle.std.proofs.Common.{◌≡◌, ℕ, ◌||◌, ◌&&◌, List, ◌∷◌, ◌++◌, Bool, true, false, nat_le, refl, codes, if◌then◌else◌}
use Rattle.cga_lexer.specs.declared.sign.Sign.TheVariants as s
use Rattle.cga_syntax.specs.declared.lexeme.Lexeme.{Lexeme}
use Rattle.cga_rule.specs.declared.grammar.Attribute.{Attribute}
use Rattle.cga_rule.specs.declared.rule.Rule.{Rule}
use Rattle.cga_syntax.specs.declared.print.space.Space.TheVariants.{Usual}
use Rattle.cga_syntax.specs.Pieces.{Pieces, token, never, number, whole, rule_pieces, Writes}
use Rattle.cga_parser.specs.declared.block_line.BlockLine.{BlockLine}
use Rattle.cga_parser.specs.declared.block_line.BlockLine.TheVariants as line
use Rattle.cga_form.specs.Reader.{begins}
use Rattle.cga_form.specs.Tokens.{a_sign, a_name, a_whole}
use Rattle.cga_form.specs.Parts.{a_word}
use Rattle.cga_parser.specs.Blocks as b
use Rattle.cga_parser.proofs.ExprsAgain.{neither}
use Rattle.cga_parser.proofs.Rules.{rule_is}
use Rattle.cga_parser.proofs.RulesAgain.{with_rule, rule_again}
use Rattle.cga_form.proofs.Door.{Begun, a_slash, after, begun_as, begun_token, by_name, ends, missed, misses_end}
use Rattle.cga_form.proofs.Door.{never_written, peek_no, peek_yes, plainly, starts_token, took, value_again}
use Rattle.cga_form.proofs.Door.{value_pieces, whole_leads}
use Rattle.cga_form.specs.Laws.{Again, Leads, nothing}
use Rattle.cga_form.proofs.Door.{name_read}

attribute_at : (a : Attribute) → Leads a_slash (b.attribute_pieces a) b.attribute a
unfolding b.attribute
attribute_at a =
    took (a_word (codes "attr")) tt refl (by_name a.name (λ e. took a_name a.name (name_read a.name e)
    (took (a_sign s.Assign) tt refl (plainly (after {v = value_pieces} _ a.value value_again (misses_end (λ l q. q)) ends)))))

attribute_again : Again b.attribute_pieces a_slash b.attribute
attribute_again = record { all = attribute_at }

priority_at : (n : ℕ) → Leads nothing (b.priority_pieces n) b.priority n
unfolding b.priority
priority_at n = took (a_word (codes "PRIORITY")) tt refl (whole_leads 0 65535 n (λ e. took (a_whole 0 65535) n e (took (a_sign s.Colon) tt refl ends)))

priority_again : Again b.priority_pieces nothing b.priority
priority_again = record { all = priority_at }

-- ---- what a rule begins with

-- a number is written as its lexeme, where it is in range
whole_begun_by : (test : Lexeme → Bool) (l : Lexeme) (qs : Pieces) → test l ≡ false → (t : Bool)
    → (c : ℕ) (x : List Lexeme) (d : ℕ) (r : List Lexeme) → Writes c ((if t then token Usual l else never) ∷ qs) x d
    → begins test (x ++ r) ≡ false
whole_begun_by test l qs e true c x d r w = (begun_token e).begun c x d r w
whole_begun_by test l qs e false c x d r w = absurd (never_written c qs x d w)

-- what begins with a number begins with its lexeme
begun_whole : {test : Lexeme → Bool} {qs : Pieces} (low high n : ℕ) → test (number n) ≡ false
    → Begun test (whole low high n ∷ qs)
begun_whole {test = test} {qs = qs} low high n e = record { begun = λ c x d r w. whole_begun_by test (number n) qs e (nat_le low n && nat_le n high) c x d r w }

-- what a rule is written as begins with its id
pub rule_begun : {test : Lexeme → Bool} (r : Rule) → test (number r.id) ≡ false → Begun test (rule_pieces r)
rule_begun r e = begun_as (rule_is r) (begun_whole 1 999999 r.id e)

-- ---- lines

-- the tokens that go on with a line
abbrev pub with_line : Lexeme → Bool
with_line l = with_rule l || a_slash l

block_at : (n : ℕ) (a : BlockLine) → Leads with_line (b.block_pieces a) (b.block n) a
unfolding b.block
block_at n (line.Attribute a) = peek_yes _ (starts_token refl) (plainly (after {v = b.attribute_pieces} _ a attribute_again (misses_end (λ l e. (neither (with_rule l) (a_slash l) e).1)) ends))
block_at n (line.Priority p) = peek_no _ (missed (begun_token refl)) (peek_yes _ (starts_token refl) (plainly (after {v = b.priority_pieces} _ p priority_again (misses_end (λ l e. refl)) ends)))
block_at n (line.Rule r) =
    peek_no _ (missed (rule_begun r refl)) (peek_no _ (missed (rule_begun r refl)) (peek_no _ (missed (rule_begun r refl))
    (plainly (after {v = rule_pieces} _ r (rule_again n) (misses_end (λ l e. (neither (with_rule l) (a_slash l) e).0)) ends))))
block_at n line.End = peek_no _ (missed (begun_token refl)) (peek_no _ (missed (begun_token refl)) (peek_yes _ (starts_token refl) (took (a_word (codes "end")) tt refl ends)))

pub block_again : (n : ℕ) → Again b.block_pieces with_line (b.block n)
block_again n = record { all = block_at n }
