use Rattle.std.specs.Prelude.{codes}
use Rattle.cga_top.proofs.Numbered.{with_number, line_is}
use Rattle.cga_top.proofs.stats.stats_text.Goals as goal

pub returns : goal.returns
returns c =
    let one = c.push_counted.new.text in
    let two = c.push_counted-2.new.text in
    let three = c.push_counted-3.new.text in
    let four = c.push_counted-4.new.text in
    line_is c.args.counts c.new-text.result one two three four c.push_counted-5.new.text c.push.new.self c.into_list.result
    (record {
      nothing = c.new-text.ensures;
      lots = with_number c.new-text.result one (codes "# stats lots ") c.into.result c.args.counts.lots (c.in_ok-push_counted.ensures {u = tt}) c.into.ensures;
      shapes = with_number one two (codes " shapes ") c.into-2.result c.args.counts.shapes (c.in_ok-push_counted-2.ensures {u = tt}) c.into-2.ensures;
      instances = with_number two three (codes " instances ") c.into-3.result c.args.counts.instances (c.in_ok-push_counted-3.ensures {u = tt}) c.into-3.ensures;
      faults = with_number three four (codes " faults ") c.into-4.result c.args.counts.faults (c.in_ok-push_counted-4.ensures {u = tt}) c.into-4.ensures;
      expanded = c.in_ok-push_counted-5.ensures {u = tt};
      line_end = c.in_ok-push.ensures {u = tt};
      handed_out = c.into_list.ensures;
    })
