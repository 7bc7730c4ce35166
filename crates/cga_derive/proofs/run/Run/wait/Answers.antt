use Rattle.std.proofs.Common.{ap, subst, ◌∙◌}
use Rattle.std.specs.BTreeMap.{insert_entry}
use Rattle.cga_check.specs.declared.said.Said.{Said}
use Rattle.cga_order.specs.Key.{key_cmp}
use Rattle.cga_order.specs.ChildKeys.{IsChildKey}
use Rattle.cga_expand.proofs.Door.{said_priority}
use Rattle.cga_derive.proofs.run.Run.wait.Goals as goal

pub returns-clause-key : goal.returns-clause-key
returns-clause-key c =
    let key = c.in_ok-key.key in
    let priority = ap (λ (s : Said). s.priority) c.in_ok-found.ensures.value ∙ said_priority c.args.self.now.symbols c.args.symbol in
    let place = c.len-place.ensures ∙ c.args.self.now.list.ok.0 in
    (key, subst (λ n. IsChildKey c.args.parent.now c.args.index n key) priority c.in_ok-key.ensures, c.in_ok-insert.ensures.entries ∙ ap (insert_entry key_cmp c.args.self.now.waiting.entries key) place)
