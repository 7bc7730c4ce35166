use Rattle.cga_calls.proofs.derived.derived.Given as goal

abbrev pub ghosts-counted-E-Ledger : goal.ghosts-counted-E-Ledger
ghosts-counted-E-Ledger a = record { name = a.expansions.name; parts = a.expansions.parts }

abbrev pub ghosts-counted-T-Ledger : goal.ghosts-counted-T-Ledger
ghosts-counted-T-Ledger a = record { name = a.tests.name; parts = a.tests.parts }
