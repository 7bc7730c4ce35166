use Rattle.std.proofs.Common.{◌≡◌, ◌+◌, ◌-◌, ◌≤◌}
use Rattle.cga_agenda.specs.Loop.{KnowsEach}
use Rattle.cga_agenda.proofs.agenda.work.Given as goal

abbrev pub invariant-loop-turned : goal.invariant-loop-turned
invariant-loop-turned g l =
    KnowsEach (g.W.Worker.means l.fn.worker) (g.W.Worker.means l.worker) l.roots l.turns l.known l.fn.expansions l.expansions
    × (l.known ≤ l.budget) × (l.turns ≤ l.budget)
    × g.W.Worker.keeps l.fn.worker l.worker
    × (l.fn.expansions ≤ l.expansions) × (l.expansions ≤ l.fn.expansions + l.turns)
    × (l.expansions ≡ l.fn.expansions + l.calls) × (l.calls ≤ l.turns)

abbrev pub decreases-loop-turned : goal.decreases-loop-turned
decreases-loop-turned g l = l.budget - l.turns
