-- A text as its lines.
use Rattle.std.proofs.Common.{◌≡◌, ℕ, List, [], ◌∷◌, ◌++◌, length, map, refl, ap, ◌∙◌}
use Rattle.std.specs.Prelude.{codes, flat_map}
use Rattle.cga_shape.specs.declared.trace_step.TraceStep.{TraceStep}
use Rattle.cga_trace.specs.Text.{header, step_text, trace_text_of}

each_line : (steps : List TraceStep)
    → flat_map (λ step. step_text step ++ codes "\n") steps ≡ flat_map (λ line. line ++ codes "\n")
    (map step_text steps)
each_line [] = refl
each_line (s ∷ steps) = ap (λ rest. (step_text s ++ codes "\n") ++ rest) (each_line steps)

-- what is added in three parts
pub whole : (steps : List TraceStep) (n : ℕ) (a b c : List ℕ) → n ≡ length steps → a ≡ header n → b ≡ a ++ codes "\n"
    → c ≡ b ++ flat_map (λ step. step_text step ++ codes "\n") steps → c ≡ trace_text_of steps
unfolding trace_text_of
whole steps n a b c long is more all =
    all ∙ (ap (λ x. x ++ flat_map (λ step. step_text step ++ codes "\n") steps)
    (more ∙ ap (λ x. x ++ codes "\n") (is ∙ ap header long)) ∙ ap (λ rest. (header (length steps) ++ codes "\n") ++ rest) (each_line steps))
