use Rattle.std.proofs.Common.{◌≡◌, ◌≤◌, ◌+◌, ◌-◌, List, ℕ, length}
use Rattle.cga_top.specs.Outside.{outside_of}
use Rattle.cga_top.specs.Ready.{IsReady}
use Rattle.cga_top.specs.Reads.{limit, read_limit, IsRead}
use Rattle.cga_top.proofs.reads.read_lines.Given as goal

abbrev pub invariant-loop-total : goal.invariant-loop-total
invariant-loop-total g l = record {
  most : l.total ≤ limit + read_limit;
  ready : IsReady l.session;
  calm : g.S.Source.faults l.script ≡ g.S.Source.faults l.initial.script;
  so_far : (read : List ℕ) × IsRead g.W.Talker.told l.initial.session.decimals read (outside_of g.S.Source g.K.Sink l.initial.script l.initial.out l.initial.expansions) (outside_of g.S.Source g.K.Sink l.script l.out l.expansions) l.session l.lines × (length read ≡ l.total);
}

abbrev pub decreases-loop-total : goal.decreases-loop-total
decreases-loop-total g l = 67108865 - l.total
