-- A chain in memory, as the chain of the definitions.
use Rattle.cga_order.specs.declared.chain.Chain.{Chain as Lent}
use Rattle.cga_order.specs.Chain.{Chain}

abbrev pub chain_of : Lent → Chain
chain_of lent = record { lot = lent.lot; path = lent.path.now; priorities = lent.priorities.now }
