use Rattle.cga_obj.proofs.Spans.{spans_from}
use Rattle.cga_obj.proofs.span.spans_by.Goals as goal

pub returns : goal.returns
returns c =
    spans_from c.args.scope.now c.at-near.result c.args.x.now c.args.y.now c.args.z.now c.span_by-along_x.result c.span_by-along_y.result c.span_by-along_z.result
    c.at-near.ensures.value c.at-near.ensures.exists c.requires.x c.requires.y c.requires.z
    c.span_by-along_x.ensures.near c.span_by-along_y.ensures.near c.span_by-along_z.ensures.near
    c.span_by-along_x.ensures.far c.span_by-along_y.ensures.far c.span_by-along_z.ensures.far
