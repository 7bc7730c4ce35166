use Rattle.std.proofs.Common.{◌≡◌, ℕ, List, [], ◌++◌, Result, Ok, Err, OnOk, length, take, drop, sym, ap, ◌∙◌, le_of_eq, drop_of_length-le, take-append-drop, subst}
use Rattle.std.specs.Io.KnownBytes.{Appends}
use Rattle.std.proofs.KnownBytes.{append_known-moved}
use Rattle.cga_outside.proofs.buffered_sink.hand_on.Goals as goal

-- where all was handed on, nothing waits
none_waits : {X E : Type 0} (r : Result X E) (xs left : List ℕ) (n : ℕ) → left ≡ drop n xs → OnOk r (n ≡ length xs) → OnOk r (left ≡ [])
none_waits (Ok x) xs left n e all = e ∙ ap (λ k. drop k xs) all ∙ drop_of_length-le xs (le_of_eq (sym all ∙ all))
none_waits (Err e) xs left n is all = tt

pub returns-clause-all : goal.returns-clause-all
returns-clause-all g c =
    let n = c.handed-sent.result.0 in
    none_waits c.handed-sent.result.1 c.as_slice.result.now _ n (c.remove_front.ensures.items ∙ ap (drop n) (sym c.as_slice.ensures.value)) c.handed-sent.ensures.all

pub returns-clause-held : goal.returns-clause-held
returns-clause-held g c =
    let n = c.handed-sent.result.0 in
    let held = c.as_slice.result.now in
    let rest = c.remove_front.ensures.items ∙ ap (drop n) (sym c.as_slice.ensures.value) in
    append_known-moved _ _ _ _ _ c.handed-sent.ensures.bytes (sym c.as_slice.ensures.value ∙ sym (take-append-drop n held) ∙ ap (λ l. take n held ++ l) (sym rest))

pub returns-clause-front : goal.returns-clause-front
returns-clause-front g c =
    (c.handed-sent.result.0, subst (λ (l : List ℕ). Appends (g.K.Sink.held c.args.below.now) (g.K.Sink.held c.handed-sent.new.below) (take c.handed-sent.result.0 l)) c.as_slice.ensures.value c.handed-sent.ensures.bytes, c.remove_front.ensures.items)
