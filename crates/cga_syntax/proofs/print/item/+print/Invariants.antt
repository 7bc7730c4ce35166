use Rattle.std.proofs.Common.{◌≡◌, [], map, drop}
use Rattle.cga_lexer.specs.declared.sign.Sign.TheVariants as s
use Rattle.cga_syntax.specs.Pieces.{concat, separated, sign, item_pieces, body_pieces}
use Rattle.cga_syntax.specs.Printing.{printed_on}
use Rattle.cga_syntax.proofs.Printed.{spread}
use Rattle.cga_syntax.proofs.print.item.+print.Given as goal

abbrev pub invariant-push_items-loop-item : goal.invariant-push_items-loop-item
invariant-push_items-loop-item l =
    printed_on l.marks (concat (map item_pieces (drop l.item-index l.items))) ≡ printed_on l.initial.marks (concat (map item_pieces l.items))

abbrev pub invariant-push_all_bodies-loop-body : goal.invariant-push_all_bodies-loop-body
invariant-push_all_bodies-loop-body l =
    printed_on l.marks (spread (sign s.Bar) l.between (map body_pieces (drop l.body-index l.bodies))) ≡ printed_on l.initial.marks (separated (sign s.Bar) (map body_pieces l.bodies) [])
