use Rattle.std.proofs.Common.{◌≡◌, ◌↔◌, IsTrue, Option, Some, subst}
use Rattle.cga_syntax.specs.declared.lexeme.Lexeme.{Lexeme}
use Rattle.cga_syntax.specs.declared.lexeme.Lexeme.TheVariants as lexeme
use Rattle.cga_form.specs.Cursor.{input_of}
use Rattle.cga_form.proofs.Nexts.{keyword_next}
use Rattle.cga_form.proofs.tokens.Tokens.at_keyword.Goals as goal

pub returns : goal.returns
returns c = keyword_next c.args.keyword c.is_next.result (input_of c.args.self.now).left (subst (λ (o : Option Lexeme). IsTrue c.is_next.result ↔ (o ≡ Some (lexeme.Keyword c.args.keyword))) c.peek.ensures.value c.is_next.ensures)
