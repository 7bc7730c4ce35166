use Rattle.std.proofs.Common.{◌≡◌, map, drop}
use Rattle.cga_syntax.specs.Pieces.{concat, added_pieces, scaled_pieces}
use Rattle.cga_syntax.specs.Printing.{printed_on}
use Rattle.cga_syntax.proofs.print.expr.+print.Given as goal

abbrev pub invariant-push_all_added-loop-more : goal.invariant-push_all_added-loop-more
invariant-push_all_added-loop-more l =
    printed_on l.marks (concat (map added_pieces (drop l.more-index l.rest))) ≡ printed_on l.initial.marks (concat (map added_pieces l.rest))

abbrev pub invariant-push_all_scaled-loop-more : goal.invariant-push_all_scaled-loop-more
invariant-push_all_scaled-loop-more l =
    printed_on l.marks (concat (map scaled_pieces (drop l.more-index l.rest))) ≡ printed_on l.initial.marks (concat (map scaled_pieces l.rest))
