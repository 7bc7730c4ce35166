use Rattle.std.proofs.Common.{sym, ◌∙◌, arith}
use Rattle.cga_update.proofs.Emitted.{again_done, again_fault}
use Rattle.cga_update.proofs.again.outcome_again.Goals as goal

pub returns-in-Some-clause-again : goal.returns-in-Some-clause-again
returns-in-Some-clause-again c = λ e here inner done child. again_fault c.args.forest.now e c.in-Some.fault (sym (c.fault_of.ensures e here) ∙ c.in-Some.is) child

pub returns-in_ok-children_again-in-None-clause-again : goal.returns-in_ok-children_again-in-None-clause-again
returns-in_ok-children_again-in-None-clause-again c = λ e here inner done child. again_done c.args.forest.now e c.in_ok-children_again-in-None.field-0 (sym c.in-None.is ∙ c.fault_of.ensures e here) inner done (c.in_ok-children_again-in-None.ensures.emitted e here)

pub returns-in_ok-children_again-in-None-clause-no_more : goal.returns-in_ok-children_again-in-None-clause-no_more
returns-in_ok-children_again-in-None-clause-no_more c = λ e here. let z = (c.in_ok-children_again-in-None.ensures.emitted e here).sized in omega (arith, z)
