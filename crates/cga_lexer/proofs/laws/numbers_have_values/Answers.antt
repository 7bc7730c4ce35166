use Rattle.cga_lexer.proofs.Numbers.{number_value}
use Rattle.cga_lexer.proofs.laws.numbers_have_values.Goals as goal

pub returns : goal.returns
returns c = number_value
