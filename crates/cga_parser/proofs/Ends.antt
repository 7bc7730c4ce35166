-- Which line ends a block.
use Rattle.std.proofs.Common.{◌≡◌, ℕ, List, [], ◌∷◌, map, Bool, true, false, Some, Result, Ok, Err, refl, ap, sym, ◌∙◌, subst, ◌↔◌, codes, length, ◌+◌}
use Rattle.cga_lexer.specs.Line.{tokens_of}
use Rattle.cga_lexer.specs.declared.token.Token.{Token}
use Rattle.cga_lexer.specs.declared.fault.LexFault.{LexFault}
use Rattle.cga_syntax.specs.declared.lexeme.Lexeme.{Lexeme}
use Rattle.cga_syntax.specs.declared.lexeme.Lexeme.TheVariants as lexeme
use Rattle.cga_syntax.specs.Brackets.{walk}
use Rattle.cga_syntax.specs.declared.print.space.Space.TheVariants.{Usual}
use Rattle.cga_syntax.specs.Pieces.{Writes}
use Rattle.cga_parser.specs.declared.block_line.BlockLine.{BlockLine}
use Rattle.cga_parser.specs.declared.block_line.BlockLine.TheVariants as line
use Rattle.cga_form.specs.declared.fault.Fault.{Fault}
use Rattle.cga_form.specs.declared.line_fault.LineFault.{LineFault}
use Rattle.cga_form.specs.Tells.{Tells}
use Rattle.cga_parser.specs.Blocks.{block_pieces}
use Rattle.cga_form.specs.Cursor.{seen}
use Rattle.cga_form.specs.LineTells.{with_place}
use Rattle.cga_form.specs.Lines.{Line, is_long}
use Rattle.cga_form.specs.BlockTells.{Found, as_line, unless_blank, unless_long}
use Rattle.cga_parser.specs.BlockTells.{EndsBlock, BlockTells}
use Rattle.cga_form.proofs.Door.{end_of, head_of, nothing, token_first}

abbrev end_word : Lexeme
end_word = lexeme.Name (codes "end")

-- ---- the word is read as the end

spelled : (x : Lexeme) → x ≡ end_word → Writes 0 (block_pieces line.End) (x ∷ []) 0
spelled x e = subst (λ z. Writes 0 (block_pieces line.End) (z ∷ []) 0) (sym e) (token_first 0 Usual end_word [] [] 0 (nothing 0))

walked : (x : Lexeme) → x ≡ end_word → walk 32 (x ∷ []) ≡ Some 32
unfolding walk
walked x e = ap (λ z. walk 32 (z ∷ [])) e

says : (end : ℕ) (t : Token) → seen t ≡ end_word → unless_blank block_pieces end (Ok (t ∷ [])) (Ok (Some line.End))
says end t e = (Ok line.End, (Ok line.End, ((0, spelled (seen t) e), walked (seen t) e), refl), refl)

ends : (l : Line) → EndsBlock l → BlockTells l (Ok (Some line.End))
ends l h =
    subst (λ b. unless_long block_pieces l.bytes b (Ok (Some line.End))) (sym h.1)
    (subst (λ o. unless_blank block_pieces (length l.bytes + 1) o (Ok (Some line.End))) (sym h.2) (says (length l.bytes + 1) h.0 h.3))

-- ---- what says the end is the word

only : (t : Token) (ts : List Token) (d : ℕ) → Writes 0 (block_pieces line.End) (map seen (t ∷ ts)) d
    → (ts ≡ []) × (seen t ≡ end_word)
only t [] d w = let h = head_of 0 Usual end_word [] (seen t ∷ []) d w in (refl, let q : seen t ∷ [] ≡ end_word ∷ h.0 = h.1 in cc)
only t (u ∷ ts) d w =
    let h = head_of 0 Usual end_word [] (seen t ∷ map seen (u ∷ ts)) d w in
    let e = end_of 0 h.0 d h.2 in
    absurd (let q : seen t ∷ seen u ∷ map seen ts ≡ end_word ∷ h.0 = h.1 in let r : h.0 ≡ [] = e.0 in cc)

found_end : (end : ℕ) (t : Token) (ts : List Token) (f : Result BlockLine Fault) (g : Result BlockLine LineFault)
    → Tells block_pieces 32 (map seen (t ∷ ts)) f → g ≡ with_place end (t ∷ ts) f
    → ◌≡◌ {A = Found BlockLine} (Ok (Some line.End)) (as_line g) →
    (ts ≡ []) × (seen t ≡ end_word)
found_end end t ts (Ok a) (Ok b) h e q =
    let p : b ≡ a = cc in
    let r : line.End ≡ b = cc in
    only t ts h.0.0 (subst (λ z. Writes 0 (block_pieces z) (map seen (t ∷ ts)) h.0.0) (sym (r ∙ p)) h.0.1)
found_end end t ts (Ok a) (Err b) h e q = absurd (cc)
found_end end t ts (Err a) (Ok b) h e q = absurd (cc)
found_end end t ts (Err a) (Err b) h e q = absurd (cc)

of_tokens : (l : Line) (o : Result (List Token) LexFault) → is_long l ≡ false → tokens_of l.bytes ≡ o
    → unless_blank block_pieces (length l.bytes + 1) o (Ok (Some line.End)) → EndsBlock l
of_tokens l (Err f) b e h = absurd (cc)
of_tokens l (Ok []) b e h = absurd (cc)
of_tokens l (Ok (t ∷ ts)) b e h =
    let q = found_end (length l.bytes + 1) t ts h.1.0 h.0 h.1.1 h.1.2 h.2 in
    (t, b, e ∙ ap (λ z. Ok (t ∷ z)) q.0, q.1)

of_length : (l : Line) (b : Bool) → is_long l ≡ b → unless_long block_pieces l.bytes b (Ok (Some line.End))
    → EndsBlock l
of_length l true e h = absurd (cc)
of_length l false e h = of_tokens l (tokens_of l.bytes) e refl h

pub end_said : (l : Line) → EndsBlock l ↔ BlockTells l (Ok (Some line.End))
end_said l = (ends l, of_length l (is_long l) refl)
