use Rattle.std.proofs.Common.{refl, arith, subst, ◌∙◌}
use Rattle.cga_depend.specs.Both.{BothGrammars}
use Rattle.cga_depend.specs.Changed.{IsNoted, KeepsNoted}
use Rattle.cga_fraction.proofs.Door.{slice_get_from_get_or}
use Rattle.cga_depend.proofs.Noted.{noted_next, noted_end}
use Rattle.cga_depend.proofs.changed.Grammars.note_all.Goals as goal

pub loop-entry-init : goal.loop-entry-init
loop-entry-init c = record {
  noted = λ i e le is. absurd (omega (arith, le));
  kept = λ symbol h. h;
  grammars = refl;
}

pub loop-entry-preserved : goal.loop-entry-preserved
loop-entry-preserved c =
    let same = c.loop-entry.invariant.grammars in
    let first = c.args.self.now in
    let before = c.loop-entry.list.items in
    let after = c.note.new.list.items in
    let item = slice_get_from_get_or c.args.entries.now c.loop-entry.entry-index c.entry-item.result c.loop-entry-test.true c.entry-item.is in
    let kept = subst (λ (g : BothGrammars). KeepsNoted g.before g.after before after) same c.in_ok-note.ensures.kept in
    let noted = subst (λ (g : BothGrammars). IsNoted g.before g.after after c.entry-item.result.rule.symbol) same c.in_ok-note.ensures.noted in record {
      noted = noted_next first.before first.after c.args.entries.now before after c.loop-entry.entry-index c.entry-item.result item kept noted c.loop-entry.invariant.noted;
      kept = λ symbol h. kept symbol (c.loop-entry.invariant.kept symbol h);
      grammars = c.note.ensures.grammars ∙ same;
    }

pub returns-clause-noted : goal.returns-clause-noted
returns-clause-noted c = noted_end c.args.self.now.before c.args.self.now.after c.args.entries.now c.loop-entry.entry-index c.loop-entry.list.items c.loop-entry-test.false c.loop-entry.invariant.noted
