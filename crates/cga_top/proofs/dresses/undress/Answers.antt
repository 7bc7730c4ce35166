use Rattle.cga_top.proofs.Clothes.{never_dressed, undressed_did}
use Rattle.cga_top.proofs.dresses.undress.Goals as goal

pub returns-then-undress-clause-did : goal.returns-then-undress-clause-did
returns-then-undress-clause-did c = λ s n st. undressed_did s c.args.session.now c.args.symbol c.undress.new.self c.undress.result c.accepted.result n st c.undress.ensures.found c.if-undress.true c.undress.ensures.value c.accepted.ensures

pub returns-clause-did : goal.returns-clause-did
returns-clause-did c = λ s n st. never_dressed s c.args.session.now c.args.symbol c.undress.new.self c.undress.result c.refusal_text.result n st c.undress.ensures.found c.if-undress.false (c.undress.ensures.unchanged c.if-undress.false) c.refusal_text.ensures
