-- Forms made of forms.
use Rattle.std.proofs.Common.{◌≡◌, ℕ, List, ◌++◌, Some, refl, subst, sym}
use Rattle.cga_syntax.specs.declared.lexeme.Lexeme.TheVariants as lexeme
use Rattle.cga_syntax.specs.Pieces.{Pieces, number}
use Rattle.cga_form.specs.Reader.{Reader, ◌>>=◌, pure, single}
use Rattle.cga_form.specs.Tokens.{a_name, a_whole}
use Rattle.cga_form.specs.Parts.{a_word, name, whole_between, value, pair}
use Rattle.cga_form.specs.Laws.{IsForm, Leads, nothing}
use Rattle.cga_form.proofs.Forms.{next, done, one_token}
use Rattle.cga_form.proofs.Beginnings.{Begun, missed, misses_end}
use Rattle.cga_form.proofs.Again.{ends, took_last, by_name, whole_leads, after, plainly}
use Rattle.cga_form.proofs.Singles.{name_token, whole_token, word_token, name_read, word_pieces, name_pieces, whole_pieces}
use Rattle.cga_form.proofs.Values.{value_pieces, value_reads}
use Rattle.cga_form.proofs.ValuesAgain.{a_slash, value_again}

-- where a word is taken as itself, it is a form
abbrev pub word_part : (bytes : List ℕ) → a_word bytes (lexeme.Name bytes) ≡ Some tt
    → IsForm (word_pieces bytes) (λ n. single (a_word bytes))
word_part bytes e = record { follows = nothing; exact = λ n. one_token (word_token bytes n e); again = λ n. record { all = λ u. took_last (a_word bytes) u e } }

-- names are a form
abbrev pub name_part : IsForm name_pieces (λ n. name)
name_part = record { follows = nothing; exact = λ n. one_token (name_token n); again = λ n. record { all = λ x. by_name x (λ e. took_last a_name x (name_read x e)) } }

-- where the lower bound is taken as itself, whole numbers within both bounds are a form
abbrev pub whole_part : (low high : ℕ) → a_whole low high (number low) ≡ Some low
    → IsForm (whole_pieces low high) (λ n. whole_between low high)
whole_part low high e = record {
  follows = nothing;
  exact = λ n. one_token (whole_token low high n e);
  again = λ n. record { all = λ x. whole_leads low high x (λ e. took_last (a_whole low high) x e) };
}

-- values are a form
abbrev pub value_part : IsForm value_pieces (λ n. value)
value_part = record { follows = a_slash; exact = value_reads; again = λ n. value_again }

-- one after the other, where what goes on with the first never begins the second
abbrev pub both : {A B : Type 0} {v : A → Pieces} {w : B → Pieces} {p : ℕ → Reader A} {q : ℕ → Reader B} (f : IsForm v p)
    → ((b : B) → Begun f.follows (w b)) → IsForm w q → IsForm (λ x. v x.0 ++ w x.1) (λ n. pair (p n) (q n))
both {v = v} {w = w} f apart g = record {
  follows = g.follows;
  exact = λ n. next (f.exact n) (λ a. next (g.exact n) (λ b. done refl));
  again = λ n. record { all = λ x. after {v = v} _ x.0 (f.again n) (missed (apart x.1)) (plainly (after {v = w} _ x.1 (g.again n) (misses_end (λ l e. e)) ends)) };
}

-- the parts as the fields of a member
abbrev pub made : {A B : Type 0} {v : A → Pieces} {w : B → Pieces} {p : ℕ → Reader A} (of : A → B) (parts : B → A)
    → ((b : B) → of (parts b) ≡ b) → ((b : B) → w b ≡ v (parts b)) → ((a : A) → w (of a) ≡ v a) → IsForm v p
    → IsForm w (λ n. p n >>= λ a. pure (of a))
made {v = v} {w = w} {p = p} of parts same written again f = record {
  follows = f.follows;
  exact = λ n. next (f.exact n) (λ a. done (again a));
  again = λ n. record {
    all = λ b. subst (λ z. Leads f.follows z (p n >>= λ a. pure (of a)) b) (sym (written b))
        (subst (λ z. Leads f.follows (v (parts b)) (p n >>= λ a. pure (of a)) z) (same b) (plainly (after {v = v} _ (parts b) (f.again n) (misses_end (λ l e. e)) ends)));
  };
}
