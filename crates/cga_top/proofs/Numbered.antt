-- The line of numbers, piece after piece.
use Rattle.std.proofs.Common.{◌≡◌, ◌∙◌, ℕ, List, [], ◌++◌, ap}
use Rattle.std.specs.Prelude.{codes}
use Rattle.cga_shape.specs.declared.counts.Counts.{Counts}
use Rattle.cga_top.specs.Stats.{counted, stats_text_of}

pub with_number : (old new word : List ℕ) (n m : ℕ) → new ≡ old ++ counted word n → n ≡ m → new ≡ old ++ counted word m
with_number old new word n m e same = e ∙ ap (λ (k : ℕ). old ++ counted word k) same

-- the line was pushed onto nothing, piece after piece, and handed out; t0 to t6 are what stood there before and after each
pub record IsPushed (c : Counts) (t0 t1 t2 t3 t4 t5 t6 text : List ℕ) : Type 0 where
  pub nothing : t0 ≡ []
  pub lots : t1 ≡ t0 ++ counted (codes "# stats lots ") c.lots
  pub shapes : t2 ≡ t1 ++ counted (codes " shapes ") c.shapes
  pub instances : t3 ≡ t2 ++ counted (codes " instances ") c.instances
  pub faults : t4 ≡ t3 ++ counted (codes " faults ") c.faults
  pub expanded : t5 ≡ t4 ++ counted (codes " expanded ") c.expanded
  pub line_end : t6 ≡ t5 ++ codes "\n"
  pub handed_out : text ≡ t6

pub line_is : (c : Counts) (t0 t1 t2 t3 t4 t5 t6 text : List ℕ) → IsPushed c t0 t1 t2 t3 t4 t5 t6 text
    → text ≡ stats_text_of c
unfolding stats_text_of
line_is c t0 t1 t2 t3 t4 t5 t6 text p =
    p.handed_out ∙ p.line_end ∙ ap (λ t. t ++ codes "\n") (p.expanded ∙ ap (λ t. t ++ counted (codes " expanded ") c.expanded)
    (p.faults ∙ ap (λ t. t ++ counted (codes " faults ") c.faults) (p.instances ∙ ap (λ t. t ++ counted (codes " instances ") c.instances)
    (p.shapes ∙ ap (λ t. t ++ counted (codes " shapes ") c.shapes) (p.lots ∙ ap (λ t. t ++ counted (codes "# stats lots ") c.lots) p.nothing)))))
