use Rattle.cga_live.proofs.main.Given as goal

abbrev pub ghosts-with_counters-E-Ledger : goal.ghosts-with_counters-E-Ledger
ghosts-with_counters-E-Ledger a = record { name = a.expansions.name; parts = a.expansions.parts }

abbrev pub ghosts-with_counters-T-Ledger : goal.ghosts-with_counters-T-Ledger
ghosts-with_counters-T-Ledger a = record { name = a.tests.name; parts = a.tests.parts }
