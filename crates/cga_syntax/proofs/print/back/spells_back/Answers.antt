use Rattle.cga_syntax.specs.Pieces.{rule_pieces}
use Rattle.cga_syntax.proofs.Spelled.{spelled_again}
use Rattle.cga_syntax.proofs.print.back.spells_back.Goals as goal

pub returns : goal.returns
returns c = λ line rule h. spelled_again rule_pieces rule line h
