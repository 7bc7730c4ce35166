-- The test of a touched shape tells what is touched, and the list of those that pass names each once.
use Rattle.std.proofs.Common.{◌≡◌, ◌↔◌, ℕ, List, length, take, Bool, true, false, not, ◌&&◌, refl, subst, ◌⊎◌, inl, inr, eqb-true, eq-eqb}
use Rattle.std.specs.List.{list_any}
use Rattle.cga_word.specs.declared.primitive.Primitive.{Primitive}
use Rattle.cga_order.specs.World.{Has, Among, is_instance}
use Rattle.cga_order.specs.declared.placed.Kind.{Kind}
use Rattle.cga_order.proofs.Door.{Among-shapes_where, Has-from_shapes_where}
use Rattle.cga_check.specs.Uses.{same_name}
use Rattle.cga_shape.specs.declared.shape.Shape.{Shape}
use Rattle.cga_shape.specs.declared.shape_fault.ShapeFault.{ShapeFault}
use Rattle.cga_shape.specs.declared.sources.Sources.{Sources}
use Rattle.cga_derivation.specs.Derivation.{reached, NothingWaits}
use Rattle.cga_expand.specs.Children.{Member}
use Rattle.cga_expand.specs.Derivation.{derivation_of, priority_of}
use Rattle.cga_expand.specs.Touched.{NonInstance, Kept, SameInputs, Touched}
use Rattle.cga_touched.specs.Words.{same_mode, same_path, same_shape}
use Rattle.cga_touched.specs.Settings.{same_setting}
use Rattle.cga_touched.specs.Count.{is_there, has_same_priority, keeps_at, is_kept, has_same_inputs, is_touched, touched_shapes}
use Rattle.cga_touched.proofs.Words.{not_so, both, pair, name_tells, mode_tells, shape_tells, tells_equal}
use Rattle.cga_touched.proofs.Lists.{not_both, is_false, is_not, any_found, any_by, Among-Has, Has-Among, passes_at, passes_all}
use Rattle.cga_touched.proofs.Settings.{setting_sound, setting_whole}
use Rattle.cga_touched.proofs.Turns.{alike_sound, alike_whole}

there_sound : (list : List Member) (s : Shape) → is_there list s ≡ true → NonInstance list s
there_sound list s h =
    let m = any_found (λ m. not (is_instance m.kind) && same_shape m.shape s) list h in
    let w = both (not (is_instance m.0.kind)) (same_shape m.0.shape s) m.2 in
    let e = (shape_tells m.0.shape).0 s w.1 in
    (m.0.kind, subst (λ x. Has list x m.0.kind) e (Among-Has list m.0 m.1), is_false (is_instance m.0.kind) w.0)

there_whole : (list : List Member) (s : Shape) → NonInstance list s → is_there list s ≡ true
there_whole list s (k, has, plain) =
    any_by (λ m. not (is_instance m.kind) && same_shape m.shape s) list (record { shape = s; kind = k })
    (Has-Among list s k has) (pair (not (is_instance k)) (same_shape s s) (is_not (is_instance k) plain) (shape_tells s).1)

module _ (old new : Sources) where
  module _ (before after : List Member) (s : Shape) where
    abbrev KeptAt : ℕ → Type 0
    KeptAt i =
        (m : Shape) × (m.lot ≡ s.lot) × (m.path ≡ take i s.path) × NonInstance before m × NonInstance after m
        × (priority_of old.grammar m.symbol ≡ priority_of new.grammar m.symbol)

    at_sound : (i : ℕ) → list_any (keeps_at old new after s i) before ≡ true → KeptAt i
    at_sound i h =
        let m = any_found (keeps_at old new after s i) before h in
        let plain = both (not (is_instance m.0.kind)) _ m.2 in
        let lot = both (same_name m.0.shape.lot s.lot) _ plain.1 in
        let path = both (same_path m.0.shape.path (take i s.path)) _ lot.1 in
        let rest = both (is_there after m.0.shape) (has_same_priority old new m.0.shape) path.1 in (
          m.0.shape,
          (name_tells m.0.shape.lot).0 s.lot lot.0,
          (name_tells m.0.shape.path).0 (take i s.path) path.0,
          (m.0.kind, Among-Has before m.0 m.1, is_false (is_instance m.0.kind) plain.0),
          there_sound after m.0.shape rest.0,
          eqb-true _ _ rest.1,
        )

    at_whole : (i : ℕ) → KeptAt i → list_any (keeps_at old new after s i) before ≡ true
    at_whole i (m, lot, path, (k, has, plain), there, priority) =
        any_by (keeps_at old new after s i) before (record { shape = m; kind = k }) (Has-Among before m k has)
        (pair (not (is_instance k)) _ (is_not (is_instance k) plain)
        (pair (same_name m.lot s.lot) _ (tells_equal same_name m.lot s.lot (name_tells m.lot) lot)
        (pair (same_path m.path (take i s.path)) _ (tells_equal same_path m.path (take i s.path) (name_tells m.path) path)
        (pair (is_there after m) (has_same_priority old new m) (there_whole after m there) (eq-eqb _ _ priority)))))

    kept_sound : is_kept old new before after s ≡ true → Kept old new before after s
    unfolding is_kept
    kept_sound h =
        let w = both (same_mode old.mode new.mode) _ h in
        ((mode_tells old.mode).0 new.mode w.0, λ i le. at_sound i (passes_at (λ j. list_any (keeps_at old new after s j) before) (length s.path) w.1 i le))

    kept_whole : Kept old new before after s → is_kept old new before after s ≡ true
    unfolding is_kept
    kept_whole (mode, path) =
        pair (same_mode old.mode new.mode) _ (tells_equal same_mode old.mode new.mode (mode_tells old.mode) mode)
        (passes_all (λ j. list_any (keeps_at old new after s j) before) (length s.path) (λ i le. at_whole i (path i le)))

  -- nothing waits after so many steps
  module _ (steps : ℕ) (quiet : NothingWaits (derivation_of old) (reached (derivation_of old) steps)) (calm : NothingWaits (derivation_of new) (reached (derivation_of new) steps)) where
    inputs_sound : (s : Shape) → has_same_inputs old new steps s ≡ true → SameInputs old new s
    unfolding has_same_inputs
    inputs_sound s h =
        let w = both (same_setting old.grammar new.grammar s.symbol) _ h in
        (setting_sound old.grammar new.grammar s.symbol w.0, alike_sound old new steps steps s w.1)

    inputs_whole : (s : Shape) → SameInputs old new s → has_same_inputs old new steps s ≡ true
    unfolding has_same_inputs
    inputs_whole s (setting, answers) =
        pair (same_setting old.grammar new.grammar s.symbol) _ (setting_whole old.grammar new.grammar s.symbol setting) (alike_whole old new steps steps s quiet calm answers)

    module _ (before after : List Member) where
      abbrev Changed : Shape → Type 0
      Changed s = (Kept old new before after s → ⊥) ⊎ (Kept old new before after s × (SameInputs old new s → ⊥))

      changed_sound : (s : Shape) → is_touched old new steps before after s ≡ true → Changed s
      changed_sound s h = by (is_kept old new before after s) refl (has_same_inputs old new steps s) refl h
        where
          by : (k : Bool) → is_kept old new before after s ≡ k → (i : Bool) → has_same_inputs old new steps s ≡ i
              → not (k && i) ≡ true → Changed s
          by false e i f g = inl (λ kept. not_both (is_kept old new before after s) (kept_whole before after s kept) e)
          by true e false f g = inr (kept_sound before after s e, λ inputs. not_both (has_same_inputs old new steps s) (inputs_whole s inputs) f)
          by true e true f g = not_so g

      changed_whole : (s : Shape) → Changed s → is_touched old new steps before after s ≡ true
      changed_whole s c = by (is_kept old new before after s) refl (has_same_inputs old new steps s) refl
        where
          by : (k : Bool) → is_kept old new before after s ≡ k → (i : Bool) → has_same_inputs old new steps s ≡ i
              → not (k && i) ≡ true
          by false e i f = refl
          by true e false f = refl
          by true e true f = absurd (elim c [ inl gone ↦ gone (kept_sound before after s e) | inr other ↦ other.1 (inputs_sound s f) ])

      abbrev test : Shape → Kind ShapeFault Primitive → Bool
      test s kind = not (is_instance kind) && is_touched old new steps before after s

      pub names_touched : (s : Shape)
          → Among s (touched_shapes steps old new before after) ↔ Touched old new before after s
      unfolding touched_shapes
      names_touched s = (
        (λ h.
            let w = Has-from_shapes_where test after s h in
            let v = both (not (is_instance w.0)) (is_touched old new steps before after s) w.2 in
            ((w.0, w.1, is_false (is_instance w.0) v.0), changed_sound s v.1)),
        (λ t.
            Among-shapes_where test after s t.0.0 t.0.1
            (pair (not (is_instance t.0.0)) (is_touched old new steps before after s) (is_not (is_instance t.0.0) t.0.2) (changed_whole s t.1))),
      )
