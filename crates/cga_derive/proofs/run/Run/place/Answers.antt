use Rattle.std.proofs.Common.{[], ◌∷◌, length, sym, ap, subst, ◌∙◌}
use Rattle.cga_derivation.specs.Sites.{sited}
use Rattle.cga_expand.specs.Children.{placed_at}
use Rattle.cga_derive.specs.declared.run.Run.{Run}
use Rattle.cga_derive.specs.Streaks.{IsBoxed}
use Rattle.cga_expand.specs.Derivation.{priority_of}
use Rattle.cga_derive.specs.Run.{AddsKey, KeepsKeys}
use Rattle.cga_derive.proofs.Streaks.{boxed_created, boxed_lent, boxed_still}
use Rattle.cga_derive.proofs.Placing.{wait-keys, skip-keys}
use Rattle.cga_derive.proofs.run.Run.place.Goals.{in-Some+in_ok-wait, in_default}
use Rattle.cga_derive.proofs.run.Run.place.Goals as goal

pub returns-clause-keys : goal.returns-clause-keys
returns-clause-keys c = λ sources reads.
    let parent = c.args.parent.now in
    let list = c.args.self.now.list.items in
    let old = c.args.self.now.waiting.entries in
    let created = sited parent.priorities (placed_at parent.lot parent.path c.args.own c.args.index c.args.emitted) ∷ [] in
    elim c.match-waiting_symbol.branch [
      | in-Some+in_ok-wait w ↦
          let entries = ap (λ (r : Run). r.waiting.entries) w.self-is in
          subst (KeepsKeys sources parent created list old) (sym entries)
          (wait-keys sources parent c.args.own c.args.index list old w.wait.new.self.waiting.entries c.args.emitted w.in-Some.symbol (sym c.waiting_symbol.ensures ∙ w.in-Some.is) (subst (λ g. AddsKey parent c.args.index (priority_of g w.in-Some.symbol) (length list) old w.wait.new.self.waiting.entries) reads w.in_ok-wait.ensures.key))
      | in_default w ↦
          skip-keys sources parent c.args.own c.args.index list old c.match-waiting_symbol.self.waiting.entries c.args.emitted (sym c.waiting_symbol.ensures ∙ w.in_default.is) (ap (λ (r : Run). r.waiting.entries) w.self-is)
    ]

pub returns-clause-symbols : goal.returns-clause-symbols
returns-clause-symbols c = elim c.match-waiting_symbol.branch [
  | in-Some+in_ok-wait w ↦ ap (λ (r : Run). r.symbols) w.self-is ∙ w.wait.ensures.symbols
  | in_default w ↦ ap (λ (r : Run). r.symbols) w.self-is
]

pub next_streak-streak-requires : goal.next_streak-streak-requires
next_streak-streak-requires c =
    let old = c.args.self.now in
    let now = c.match-waiting_symbol.self in
    let still : IsBoxed now.list.items now.streaks.items = elim c.match-waiting_symbol.branch [
      | in-Some+in_ok-wait w ↦
          boxed_still old.list.items now.list.items old.streaks.items now.streaks.items c.requires.boxed
          (ap (λ (r : Run). r.list.items) w.self-is ∙ ap (λ l. l.items) w.in_ok-wait.ensures.list)
          (ap (λ (r : Run). r.streaks.items) w.self-is ∙ ap (λ l. l.items) w.in_ok-wait.ensures.streaks)
      | in_default w ↦
          boxed_still old.list.items now.list.items old.streaks.items now.streaks.items c.requires.boxed
          (ap (λ (r : Run). r.list.items) w.self-is) (ap (λ (r : Run). r.streaks.items) w.self-is)
    ] in
    boxed_lent now.list.items now.streaks.items c.as_slice.result.now still c.as_slice.ensures.value

pub returns-clause-boxed : goal.returns-clause-boxed
returns-clause-boxed c =
    let old = c.args.self.now in
    let now = c.match-waiting_symbol.self in
    let still : IsBoxed now.list.items now.streaks.items = elim c.match-waiting_symbol.branch [
      | in-Some+in_ok-wait w ↦
          boxed_still old.list.items now.list.items old.streaks.items now.streaks.items c.requires.boxed
          (ap (λ (r : Run). r.list.items) w.self-is ∙ ap (λ l. l.items) w.in_ok-wait.ensures.list)
          (ap (λ (r : Run). r.streaks.items) w.self-is ∙ ap (λ l. l.items) w.in_ok-wait.ensures.streaks)
      | in_default w ↦
          boxed_still old.list.items now.list.items old.streaks.items now.streaks.items c.requires.boxed
          (ap (λ (r : Run). r.list.items) w.self-is) (ap (λ (r : Run). r.streaks.items) w.self-is)
    ] in
    boxed_created now.list.items c.push.new.self.items now.streaks.items c.as_slice.result.now c.push-2.new.self.items c.member_of-member.result c.world_box.result c.next_streak-streak.result still c.as_slice.ensures.value c.in_ok-push.ensures.items c.in_ok-push-2.ensures.items c.world_box.ensures.value c.next_streak-streak.ensures
