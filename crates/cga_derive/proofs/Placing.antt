-- The keys go along when a child is placed.
use Rattle.std.proofs.Common.{◌≡◌, ℕ, Some, None, List, [], ◌∷◌, ◌++◌, length, refl, sym, ap, ◌∙◌, subst, length-append}
use Rattle.std.specs.BTreeMap.{insert_entry}
use Rattle.cga_word.specs.declared.primitive.Primitive.{Primitive}
use Rattle.cga_frame.specs.Scope.{Scope}
use Rattle.cga_fraction.specs.Rat.{Rat}
use Rattle.cga_order.specs.declared.placed.Kind.{Kind}
use Rattle.cga_order.specs.declared.placed.Kind.TheVariants.{Waiting, Instance}
use Rattle.cga_derivation.specs.Sites.{sited, chain_of}
use Rattle.cga_derivation.proofs.Door.{fitted-same, key-push, key-skip}
use Rattle.cga_fraction.proofs.Door.{None-not-Some as none_some, same_Some as some_same}
use Rattle.cga_order.proofs.Door.{agrees}
use Rattle.cga_shape.specs.declared.sources.Sources.{Sources}
use Rattle.cga_order.specs.declared.stamp_key.StampKey.{StampKey}
use Rattle.cga_shape.specs.declared.emitted.Emitted.{Emitted}
use Rattle.cga_shape.specs.declared.emitted.Emitted.TheVariants.{Child, Solid}
use Rattle.cga_shape.specs.declared.shape_fault.ShapeFault.{ShapeFault}
use Rattle.cga_expand.specs.Derivation.{priority_of}
use Rattle.cga_expand.specs.Children.{Member, placed_at}
use Rattle.cga_expand.specs.Derivation.{derivation_of}
use Rattle.cga_order.specs.Key.{chain_of_key, key_cmp}
use Rattle.cga_derive.specs.Run.{AddsKey, KeepsKeys, HasKeys, waiting_symbol}
use Rattle.cga_order.specs.ChildKeys.{IsChildKey}

module _ (sources : Sources) (parent : StampKey) (own : List ℕ) (index : ℕ) (list : List Member) (old new : List (StampKey × ℕ)) where
  pub child-keys : (symbol : List ℕ) (args : List Rat) (scope : Scope) (seed : ℕ) (key : StampKey) (place : ℕ)
      → IsChildKey parent index (priority_of sources.grammar symbol) key → place ≡ length list
      → new ≡ insert_entry key_cmp old key place
      → KeepsKeys sources parent
      (sited parent.priorities (placed_at parent.lot parent.path own index (Child symbol args scope seed)) ∷ []) list
      old new
  child-keys symbol args scope seed key place is at inserted = λ C mode size apart has.
      let x = sited parent.priorities (placed_at parent.lot parent.path own index (Child symbol args scope seed)) in
      let whole : length parent.priorities ≡ length (parent.path ++ index ∷ []) = parent.whole ∙ sym (length-append parent.path (index ∷ [])) in
      let above = fitted-same (length (parent.path ++ index ∷ [])) parent.priorities whole in
      let own_priority = priority_of sources.grammar symbol in
      let chain : chain_of_key key ≡ chain_of (derivation_of sources) x.shape =
      λ i. record { lot = is.lot i; path = is.path i; priorities = (is.priorities ∙ ap (λ ps. ps ++ own_priority ∷ []) (sym above)) i } in
      let pushed = key-push (derivation_of sources) (λ k. k.mode) chain_of_key key_cmp (agrees sources.mode) C x apart old has refl key (is.mode ∙ mode) chain in
      subst (λ es. HasKeys sources (C ++ x ∷ []) es) (sym (inserted ∙ ap (insert_entry key_cmp old key) (at ∙ sym size))) pushed

  pub solid-keys : (primitive : Primitive) (scope : Scope) (seed : ℕ) → new ≡ old
      → KeepsKeys sources parent
      (sited parent.priorities (placed_at parent.lot parent.path own index (Solid primitive scope seed)) ∷ []) list
      old new
  solid-keys primitive scope seed same = λ C mode size apart has.
      let x = sited parent.priorities (placed_at parent.lot parent.path own index (Solid primitive scope seed)) in
      subst (λ es. HasKeys sources (C ++ x ∷ []) es) (sym same)
      (key-skip (derivation_of sources) (λ k. k.mode) chain_of_key key_cmp (agrees sources.mode) C x old has
      (λ e. let q : ◌≡◌ {A = Kind ShapeFault Primitive} (Instance primitive) Waiting = e in cc))

  -- either, as the code tells them apart
  pub wait-keys : (e : Emitted) (symbol : List ℕ) → waiting_symbol e ≡ Some symbol
      → AddsKey parent index (priority_of sources.grammar symbol) (length list) old new
      → KeepsKeys sources parent (sited parent.priorities (placed_at parent.lot parent.path own index e) ∷ []) list old
      new
  wait-keys (Child own_symbol args scope seed) symbol is added =
      child-keys own_symbol args scope seed added.0 (length list)
      (subst (λ n. IsChildKey parent index (priority_of sources.grammar n) added.0) (sym (some_same own_symbol symbol is)) added.1) refl added.2
  wait-keys (Solid primitive scope seed) symbol is added = none_some symbol is

  pub skip-keys : (e : Emitted) → waiting_symbol e ≡ None → new ≡ old
      → KeepsKeys sources parent (sited parent.priorities (placed_at parent.lot parent.path own index e) ∷ []) list old
      new
  skip-keys (Child own_symbol args scope seed) is same = none_some own_symbol (sym is)
  skip-keys (Solid primitive scope seed) is same = solid-keys primitive scope seed same
