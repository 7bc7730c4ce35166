use Rattle.std.proofs.Common.{◌≡◌, ◌<◌, ◌++◌, length, sym, ap, ◌∙◌, subst, arith}
use Rattle.std.specs.Prelude.{slice_set}
use Rattle.cga_order.specs.declared.placed.Kind.TheVariants.{Done, Faulted}
use Rattle.cga_shape.specs.declared.trace_step.Outcome.TheVariants as trace
use Rattle.cga_shape.specs.declared.trace_step.Outcome.TheVariants.{Grew}
use Rattle.cga_check.specs.Said.{said}
use Rattle.cga_expand.specs.Children.{Member, placed_from}
use Rattle.cga_derive.specs.Run.{KeepsKeys, sited_children}
use Rattle.cga_derive.specs.Underway.{IsStepAfter}
use Rattle.cga_derive.proofs.Streaks.{boxed_set, boxed_still}
use Rattle.cga_derive.proofs.Stepping.{step-told, told_by}
use Rattle.cga_derive.proofs.Working.{asks-are, working-fault, working-done, same_read}
use Rattle.cga_derive.proofs.run.Run.turn.Goals as goal

pub returns-in_ok-place_all-in-Ok-clause-turn : goal.returns-in_ok-place_all-in-Ok-clause-turn
returns-in_ok-place_all-in-Ok-clause-turn g c = λ n turn.
    let sources = c.args.sources.now in
    let key = c.args.key in
    let list = c.args.self.now.list.items in
    let old = c.args.self.now.waiting.entries in
    let new = c.place_all.new.self.waiting.entries in
    let within : c.args.place < length list = omega (arith, c.requires.within, c.args.self.now.list.ok.0) in
    let same = same_read list c.args.place c.index.result.now c.index-2.result.now within c.index.ensures c.index-2.ensures in
    let asks = asks-are sources list c.as_slice.result.now c.index.result.now c.index-2.result.now c.in_ok-said.said c.asked-answers.result same (c.in_ok-said.ensures.value ∙ ap (λ g. said g c.index.result.now.shape.symbol) c.requires.symbols) c.as_slice.ensures.value c.asked-answers.ensures in
    let done = slice_set list c.args.place (record { shape = c.index_mut.result.now.shape; kind = Done }) in
    let created = c.in_ok-place_all-in-Ok.ensures.list ∙ ap (λ (m : Member). done ++ placed_from key.lot key.path m.shape.symbol 0 c.in-Ok.emitted) same in
    let keys = subst (λ (m : Member). KeepsKeys sources key (sited_children key m.shape.symbol 0 c.in-Ok.emitted) done old new) same (c.in_ok-place_all-in-Ok.ensures.keys sources (c.of.ensures.grammar ∙ c.requires.symbols)) in
    working-done sources c.requires.names n key c.args.place list old turn c.index_mut.result.now c.index-2.result.now c.asked-answers.result c.in_ok-emitted.field-0 c.in-Ok.emitted c.place_all.new.self.list.items new c.index_mut.ensures.value c.index-2.ensures asks c.in_ok-emitted.ensures.value c.in-Ok.is created keys

pub returns-in-Err-clause-turn : goal.returns-in-Err-clause-turn
returns-in-Err-clause-turn g c = λ n turn.
    let sources = c.args.sources.now in
    let list = c.args.self.now.list.items in
    let within : c.args.place < length list = omega (arith, c.requires.within, c.args.self.now.list.ok.0) in
    let same = same_read list c.args.place c.index.result.now c.index-2.result.now within c.index.ensures c.index-2.ensures in
    let asks = asks-are sources list c.as_slice.result.now c.index.result.now c.index-2.result.now c.in_ok-said.said c.asked-answers.result same (c.in_ok-said.ensures.value ∙ ap (λ g. said g c.index.result.now.shape.symbol) c.requires.symbols) c.as_slice.ensures.value c.asked-answers.ensures in
    working-fault sources c.requires.names n c.args.key c.args.place list c.args.self.now.waiting.entries turn c.index_mut-in-Err.result.now c.index-2.result.now c.asked-answers.result c.in_ok-emitted.field-0 c.in-Err.fault c.index_mut-in-Err.ensures.value c.index-2.ensures asks c.in_ok-emitted.ensures.value c.in-Err.is

pub asked-answers-requires : goal.asked-answers-requires
asked-answers-requires g c =
    boxed_still c.args.self.now.list.items c.as_slice.result.now c.args.self.now.streaks.items c.as_slice-2.result.now c.requires.boxed c.as_slice.ensures.value c.as_slice-2.ensures.value

pub place_all-requires-clause-boxed : goal.place_all-requires-clause-boxed
place_all-requires-clause-boxed g c =
    boxed_set c.args.self.now.list.items c.args.self.now.streaks.items c.args.place c.index_mut.result.now Done c.index_mut.ensures.value c.requires.boxed

pub returns-in-Err-clause-boxed : goal.returns-in-Err-clause-boxed
returns-in-Err-clause-boxed g c =
    boxed_set c.args.self.now.list.items c.args.self.now.streaks.items c.args.place c.index_mut-in-Err.result.now (Faulted c.in-Err.fault) c.index_mut-in-Err.ensures.value c.requires.boxed

pub returns-in_ok-place_all-in-Ok-clause-told : goal.returns-in_ok-place_all-in-Ok-clause-told
returns-in_ok-place_all-in-Ok-clause-told g c = λ n turn.
    let sources = c.args.sources.now in
    let list = c.args.self.now.list.items in
    let within : c.args.place < length list = omega (arith, c.requires.within, c.args.self.now.list.ok.0) in
    let same = same_read list c.args.place c.index.result.now c.index-2.result.now within c.index.ensures c.index-2.ensures in
    let asks = asks-are sources list c.as_slice.result.now c.index.result.now c.index-2.result.now c.in_ok-said.said c.asked-answers.result same (c.in_ok-said.ensures.value ∙ ap (λ g. said g c.index.result.now.shape.symbol) c.requires.symbols) c.as_slice.ensures.value c.asked-answers.ensures in
    let own = ap (λ (m : Member). m.shape.symbol) same in
    let tells : Grew c.len.result ≡ told_by c.in_ok-emitted.field-0 = ap Grew c.len.ensures ∙ ap told_by (sym c.in-Ok.is) in
    subst (IsStepAfter sources n) (sym c.told.ensures)
    (step-told sources c.requires.names n c.args.key c.args.place list c.args.self.now.waiting.entries turn c.index-2.result.now c.index.result.now.shape.symbol c.asked-answers.result c.in_ok-emitted.field-0 (Grew c.len.result) c.index-2.ensures own asks c.in_ok-emitted.ensures.value tells)

pub returns-in-Err-clause-told : goal.returns-in-Err-clause-told
returns-in-Err-clause-told g c = λ n turn.
    let sources = c.args.sources.now in
    let list = c.args.self.now.list.items in
    let within : c.args.place < length list = omega (arith, c.requires.within, c.args.self.now.list.ok.0) in
    let same = same_read list c.args.place c.index.result.now c.index-2.result.now within c.index.ensures c.index-2.ensures in
    let asks = asks-are sources list c.as_slice.result.now c.index.result.now c.index-2.result.now c.in_ok-said.said c.asked-answers.result same (c.in_ok-said.ensures.value ∙ ap (λ g. said g c.index.result.now.shape.symbol) c.requires.symbols) c.as_slice.ensures.value c.asked-answers.ensures in
    let own = ap (λ (m : Member). m.shape.symbol) same in
    subst (IsStepAfter sources n) (sym c.told-in-Err.ensures)
    (step-told sources c.requires.names n c.args.key c.args.place list c.args.self.now.waiting.entries turn c.index-2.result.now c.index.result.now.shape.symbol c.asked-answers.result c.in_ok-emitted.field-0 (trace.Faulted c.in-Err.fault) c.index-2.ensures own asks c.in_ok-emitted.ensures.value (ap told_by (sym c.in-Err.is)))
