-- The line of a lot is a form.
use Rattle.std.proofs.Common.{refl, codes}
use Rattle.cga_form.specs.Laws.{IsForm}
use Rattle.cga_form.specs.Limits.{last_seed}
use Rattle.cga_form.proofs.Door.{begun_named, begun_nothing, begun_valued, both, made, name_part, value_part, whole_part, word_part}
use Rattle.cga_script.specs.Lots.{lot_pieces, lot, lot_of, parts_of}

pub lot_form : IsForm lot_pieces (λ n. lot)
unfolding lot
lot_form =
    made lot_of parts_of (λ b. refl) (λ b. refl) (λ a. refl)
    (both (word_part (codes "lot") refl) (λ b. begun_nothing) (both name_part (λ b. begun_nothing) (both (whole_part 0 last_seed refl) (λ b. begun_nothing)
    (both value_part (λ b. begun_valued b.0) (both value_part (λ b. begun_valued b.0) (both value_part (λ b. begun_valued b.0) (both value_part (λ b. begun_named b refl) name_part)))))))
