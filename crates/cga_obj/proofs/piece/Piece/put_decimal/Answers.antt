use Rattle.cga_obj.proofs.Decimals.{signed}
use Rattle.cga_obj.proofs.piece.Piece.put_decimal.Goals as goal

pub returns-clause-value : goal.returns-clause-value
returns-clause-value c =
    signed c.args.number c.args.places c.narrow_rounded-rounded.result _ _ _ c.narrow_rounded-rounded.ensures c.put_pointed.ensures.value c.put_minus.ensures.value
