use Rattle.cga_calls.proofs.two_roots.a_leaf_sees_its_sibling_alone.Given as goal

abbrev pub ghosts-asked : goal.ghosts-asked
ghosts-asked g a = record { name = a.blank.name; parts = a.blank.parts }
