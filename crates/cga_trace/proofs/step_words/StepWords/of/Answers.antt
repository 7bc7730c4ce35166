use Rattle.cga_trace.proofs.LineWords.{words}
use Rattle.cga_trace.proofs.step_words.StepWords.of.Goals as goal

pub returns : goal.returns
returns c = λ s is at.
    words s is c.args.line.now c.behind-text.result.now at c.behind-text.ensures
    (record { word = _; rest = _; front = c.cut.ensures.front; back = c.cut.ensures.rest })
    (record { word = _; rest = _; front = c.cut-2.ensures.front; back = c.cut-2.ensures.rest })
    (record { word = _; rest = _; front = c.cut-3.ensures.front; back = c.cut-3.ensures.rest })
    (record { word = _; rest = _; front = c.cut-4.ensures.front; back = c.cut-4.ensures.rest })
    (record { word = _; rest = _; front = c.cut-5.ensures.front; back = c.cut-5.ensures.rest })
