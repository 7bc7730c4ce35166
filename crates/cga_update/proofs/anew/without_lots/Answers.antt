use Rattle.cga_update.proofs.anew.without_lots.Goals as goal

pub returns : goal.returns
returns c = λ i. record { grammar = c.in_ok-grammar.ensures i; lots = c.new.ensures i; mode = c.args.sources.now.mode }
