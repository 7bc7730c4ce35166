use Rattle.std.proofs.Common.{◌≡◌, map, drop}
use Rattle.cga_syntax.specs.Pieces.{concat, alternative_pieces}
use Rattle.cga_syntax.specs.Printing.{printed_on}
use Rattle.cga_syntax.proofs.print.rule.push_alternatives.Given as goal

abbrev pub invariant-loop-alternative : goal.invariant-loop-alternative
invariant-loop-alternative l =
    printed_on l.marks (concat (map alternative_pieces (drop l.alternative-index l.alternatives))) ≡ printed_on l.initial.marks (concat (map alternative_pieces l.alternatives))
