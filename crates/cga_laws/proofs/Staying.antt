-- What was told stays told.
use Rattle.std.proofs.Common.{◌≡◌, ℕ, List, [], ◌++◌, Option, None, refl, sym, ap, subst, ◌∙◌, append_assoc}
use Rattle.std.proofs.lemmas.List.{append-nil}
use Rattle.cga_script.proofs.Door.{lines_append}
use Rattle.cga_script.specs.Lines.{cut, lines_of}
use Rattle.cga_script.specs.Pending.{kept_of}
use Rattle.cga_top.proofs.Door.{all_append}
use Rattle.cga_top.specs.Effect.{Effect}
use Rattle.cga_top.specs.Output.{effect_of_all, effect_of_lines, last_effect, output_of, replies_of}
use Rattle.cga_top.specs.Replies.{open_reply}
use Rattle.cga_top.specs.State.{Block, State, start}
use Rattle.cga_laws.specs.Staying.{Begins, RepliesStay, RepliesBeginOutput, OutputsStay}

begins_more : (a b c : List ℕ) → Begins a b → Begins a (b ++ c)
begins_more a b c h = (h.0 ++ c, ap (λ x. x ++ c) h.1 ∙ append_assoc a h.0 c)

pub replies_stay : RepliesStay
unfolding replies_of
replies_stay decimals script more =
    let lines = lines_append script more in
    let e = ap (effect_of_all (start decimals)) lines ∙ all_append (start decimals) (lines_of script) (lines_of (kept_of (cut script).rest ++ more)) in
    ((effect_of_all (effect_of_lines decimals script).state (lines_of (kept_of (cut script).rest ++ more))).reply, ap (λ (x : Effect). x.reply) e)

-- the output is the replies to the lines, and then those at the end
output_is : (decimals : ℕ) (script : List ℕ)
    → output_of decimals script ≡
    replies_of decimals script ++ (last_effect (effect_of_lines decimals script).state (cut script).rest).reply
unfolding output_of replies_of
output_is decimals script = refl

pub replies_begin_output : RepliesBeginOutput
replies_begin_output decimals script more =
    subst (Begins (replies_of decimals script)) (sym (output_is decimals (script ++ more)))
    (begins_more (replies_of decimals script) (replies_of decimals (script ++ more)) _ (replies_stay decimals script more))

-- at the end of a line and outside of a block nothing more is told
nothing_last : (s : State) (rest : List ℕ) (open_block : Option Block) → rest ≡ [] → s.block ≡ open_block
    → open_block ≡ None
    → (last_effect s rest).reply ≡ []
nothing_last s rest o e k none = ap (λ r. (last_effect s r).reply) e ∙ ap open_reply (k ∙ none)

pub outputs_stay : OutputsStay
outputs_stay decimals script more ended none =
    let nothing = nothing_last (effect_of_lines decimals script).state (cut script).rest (effect_of_lines decimals script).state.block ended refl none in
    let same : output_of decimals script ≡ replies_of decimals script =
    output_is decimals script ∙ ap (λ x. replies_of decimals script ++ x) nothing ∙ append-nil (replies_of decimals script) in
    subst (λ x. Begins x (output_of decimals (script ++ more))) (sym same) (replies_begin_output decimals script more)
