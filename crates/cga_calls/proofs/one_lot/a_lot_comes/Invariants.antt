use Rattle.cga_calls.proofs.one_lot.a_lot_comes.Given as goal

abbrev pub ghosts-worked-E-Ledger : goal.ghosts-worked-E-Ledger
ghosts-worked-E-Ledger g a = record { name = a.expansions.name; parts = a.expansions.parts }

abbrev pub ghosts-worked-T-Ledger : goal.ghosts-worked-T-Ledger
ghosts-worked-T-Ledger g a = record { name = a.tests.name; parts = a.tests.parts }
