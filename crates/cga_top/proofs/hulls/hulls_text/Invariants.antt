use Rattle.cga_city.specs.Derived.{members}
use Rattle.cga_top.proofs.LotByLot.{Continues}
use Rattle.cga_top.proofs.hulls.hulls_text.Given as goal

abbrev pub invariant-loop-place : goal.invariant-loop-place
invariant-loop-place l = Continues (members l.city.budget l.city.sources) l.city.sources.lots l.place l.text
