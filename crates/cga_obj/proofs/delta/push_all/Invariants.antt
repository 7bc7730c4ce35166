use Rattle.std.proofs.Common.{◌≡◌, ◌++◌, take}
use Rattle.std.specs.Prelude.{flat_map}
use Rattle.cga_obj.specs.Delta.{line_text}
use Rattle.cga_obj.proofs.delta.push_all.Given as goal

abbrev pub invariant-loop-drawn : goal.invariant-loop-drawn
invariant-loop-drawn l = l.text ≡ l.fn.text ++ flat_map (line_text l.sign) (take l.drawn-index l.all)
