use Rattle.std.proofs.Common.{◌≡◌, ◌∙◌, ap}
use Rattle.cga_frame.specs.Axes.{Frame}
use Rattle.cga_frame.specs.Scope.{Scope}
use Rattle.cga_frame.specs.Component.{component_of, corner, end_of}
use Rattle.cga_frame.specs.declared.signed.Signed.{Signed}
use Rattle.cga_frame.proofs.Components.{component_is, component_stands, same_point}
use Rattle.cga_frame.proofs.scope.Scope.component.Goals as goal

value_of : (c : goal.After-size_by-3)
    → record { at = record { x = c.ends-x.result.near; y = c.ends-y.result.near; z = c.ends-z.result.near }; frame = c.turn-frame.result; size = record { x = c.size_by.result; y = c.size_by-2.result; z = c.size_by-3.result } } ≡ component_of (record { at = c.self.inside.at; frame = c.self.inside.frame; size = c.self.inside.size }) c.args.part
value_of c =
    component_is (record { at = c.self.inside.at; frame = c.self.inside.frame; size = c.self.inside.size }) c.args.part c.self.inside.far _ _ _ c.self.invariant.corner c.turn-frame.ensures.value
    (same_point _ _ _ _ _ _
    (c.ends-x.ensures.near ∙ ap (λ (o : Signed). corner c.args.part o c.self.inside.at.x c.self.inside.far.x) c.along.ensures.value)
    (c.ends-y.ensures.near ∙ ap (λ (o : Signed). corner c.args.part o c.self.inside.at.y c.self.inside.far.y) c.along-3.ensures.value)
    (c.ends-z.ensures.near ∙ ap (λ (o : Signed). corner c.args.part o c.self.inside.at.z c.self.inside.far.z) c.along-5.ensures.value))
    (same_point _ _ _ _ _ _ c.size_by.ensures c.size_by-2.ensures c.size_by-3.ensures)

pub invariant_of-result : goal.invariant_of-result
invariant_of-result c =
    component_stands (record { at = c.self.inside.at; frame = c.self.inside.frame; size = c.self.inside.size }) _ c.args.part c.self.inside.far _ c.self.invariant c.requires (value_of c)
    (same_point _ _ _ _ _ _
    (c.ends-x.ensures.far ∙ ap (λ (o : Signed). end_of c.args.part o c.along-2.result c.self.inside.at.x c.self.inside.far.x) c.along.ensures.value ∙ ap (λ (i : Signed). end_of c.args.part c.self.inside.frame.x i c.self.inside.at.x c.self.inside.far.x) (c.along-2.ensures.value ∙ ap (λ (f : Frame). f.x) c.turn-frame.ensures.value))
    (c.ends-y.ensures.far ∙ ap (λ (o : Signed). end_of c.args.part o c.along-4.result c.self.inside.at.y c.self.inside.far.y) c.along-3.ensures.value ∙ ap (λ (i : Signed). end_of c.args.part c.self.inside.frame.y i c.self.inside.at.y c.self.inside.far.y) (c.along-4.ensures.value ∙ ap (λ (f : Frame). f.y) c.turn-frame.ensures.value))
    (c.ends-z.ensures.far ∙ ap (λ (o : Signed). end_of c.args.part o c.along-6.result c.self.inside.at.z c.self.inside.far.z) c.along-5.ensures.value ∙ ap (λ (i : Signed). end_of c.args.part c.self.inside.frame.z i c.self.inside.at.z c.self.inside.far.z) (c.along-6.ensures.value ∙ ap (λ (f : Frame). f.z) c.turn-frame.ensures.value)))

pub returns-clause-value : goal.returns-clause-value
returns-clause-value c = value_of c ∙ ap (λ (s : Scope). component_of s c.args.part) c.self.view_is

pub returns-clause-exists : goal.returns-clause-exists
returns-clause-exists c = (invariant_of-result c).exists
