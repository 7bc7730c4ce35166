use Rattle.std.proofs.Common.{ℕ, length, sym, ap, ◌∙◌}
use Rattle.std.specs.Prelude.{Option}
use Rattle.cga_kept_hulls.specs.declared.hulls.Hulls.{Hulls}
use Rattle.cga_kept_hulls.specs.Hull.{over}
use Rattle.cga_forest.specs.View.{at, hulls_of}
use Rattle.cga_forest.proofs.Right.{hulls_now_of}
use Rattle.cga_forest.proofs.hulls.hulls_over.Goals as goal

pub returns : goal.returns
returns c =
    let H : ℕ → Option Hulls = λ d. hulls_of (at c.args.store.now d) in
    sym (hulls_now_of H _ c.in_ok-entry.entry.now c.own_hulls-hulls.result _ (sym c.in_ok-entry.ensures) c.own_hulls-hulls.ensures
    (c.join_all.ensures ∙ ap (λ xs. over H c.own_hulls-hulls.result xs (length xs)) c.as_slice.ensures.value))
