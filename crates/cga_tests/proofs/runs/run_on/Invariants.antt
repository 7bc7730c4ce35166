use Rattle.cga_tests.proofs.runs.run_on.Given as goal

abbrev pub ghosts-counted-E-Ledger : goal.ghosts-counted-E-Ledger
ghosts-counted-E-Ledger g a = record { name = a.expansions.name; parts = a.expansions.parts }

abbrev pub ghosts-counted-T-Ledger : goal.ghosts-counted-T-Ledger
ghosts-counted-T-Ledger g a = record { name = a.tests.name; parts = a.tests.parts }
