use Rattle.std.proofs.Common.{◌≡◌, ◌+◌, length, take, drop, rules}
use Rattle.cga_outside.proofs.Given.{given_on, left_on, none_on}
use Rattle.cga_outside.proofs.memory_source.MemorySourceSource.read.Goals.{else-count-eq0-via-then-count-eq0+else-not-is_empty, else-count-eq0-via-else-count-eq0}
use Rattle.cga_outside.proofs.memory_source.MemorySourceSource.read.Goals as goal

pub returns-else-count-eq0-clause-gave : goal.returns-else-count-eq0-clause-gave
returns-else-count-eq0-clause-gave c =
    let before : c.args.self.now.given ≡ take c.self.inside.taken c.self.inside.bytes = search rules in
    let now : c.else-count-eq0.self.given ≡ take (c.self.inside.taken + c.copy_some-count.result) c.self.inside.bytes =
    elim c.else-count-eq0.branch [ else-count-eq0-via-then-count-eq0+else-not-is_empty w ↦ search rules | else-count-eq0-via-else-count-eq0 w ↦ search rules ] in
    given_on c.as_slice-2.result.now c.self.inside.bytes c.copy_some-count.new.buf c.self.inside.taken c.copy_some-count.result
    c.as_slice-2.ensures c.copy_some-count.ensures.bytes _ _ before now

pub returns-else-count-eq0-clause-bytes : goal.returns-else-count-eq0-clause-bytes
returns-else-count-eq0-clause-bytes c =
    let before : c.args.self.now.left ≡ drop c.self.inside.taken c.self.inside.bytes = search rules in
    let now : c.else-count-eq0.self.left ≡ drop (c.self.inside.taken + c.copy_some-count.result) c.self.inside.bytes =
    elim c.else-count-eq0.branch [ else-count-eq0-via-then-count-eq0+else-not-is_empty w ↦ search rules | else-count-eq0-via-else-count-eq0 w ↦ search rules ] in (
      left_on c.as_slice-2.result.now c.self.inside.bytes c.copy_some-count.new.buf c.self.inside.taken c.copy_some-count.result
          c.as_slice-2.ensures c.copy_some-count.ensures.bytes _ _ before now,
      λ none room. none_on c.as_slice-2.result.now c.self.inside.bytes c.copy_some-count.new.buf c.self.inside.taken c.copy_some-count.result
          c.as_slice-2.ensures c.copy_some-count.ensures.bytes c.self.inside.most (length c.copy_some-count.new.buf) _ now (search rules) (search rules) room none,
    )
