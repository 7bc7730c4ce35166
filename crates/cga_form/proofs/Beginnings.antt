-- With which tokens written pieces begin, and which tests they miss.
use Rattle.std.proofs.Common.{◌≡◌, ℕ, ◌+◌, List, [], ◌∷◌, ◌++◌, map, append_assoc, Bool, true}
use Rattle.std.proofs.Common.{false, Ok, Err, refl, ap, sym, ◌∙◌, subst, if◌then◌else◌}
use Rattle.cga_form.specs.declared.fault.Fault.TheVariants.{Unexpected, TooNested}
use Rattle.cga_syntax.specs.declared.lexeme.Lexeme.{Lexeme}
use Rattle.cga_syntax.specs.declared.lexeme.Lexeme.TheVariants as lexeme
use Rattle.cga_syntax.specs.declared.keyword.Keyword.TheVariants as k
use Rattle.cga_syntax.specs.Lexemes.{is_reserved}
use Rattle.cga_syntax.specs.declared.print.space.Space.{Space}
use Rattle.cga_syntax.specs.Pieces.{token, drawn, never, named, word, Pieces, concat, Writes}
use Rattle.cga_form.specs.Reader.{Input, ReadResult, Reader, and_then, begins}
pub use Rattle.cga_form.specs.Laws.{Agrees, Leads, Again, nothing}
use Rattle.cga_form.proofs.Written.{cut, head_of, end_of}

pub then_agrees : {A B : Type 0} (f : A → Reader B) (o : ReadResult A) (a : A) (i : Input) (b : B) (j : Input)
    → Agrees o a i → Agrees (f a i) b j → Agrees (and_then o f) b j
then_agrees f (Ok q) a i b j h g = subst (λ x. Agrees (f x q.1) b j) (sym h.0) (subst (λ x. Agrees (f a x) b j) (sym h.1) g)
then_agrees f (Err (Unexpected n)) a i b j h g = absurd h
then_agrees f (Err (TooNested n)) a i b j h g = tt

-- what is written begins with none of the tokens, whatever follows it
pub record Begun (test : Lexeme → Bool) (ps : Pieces) : Type 0 where
  pub begun : (c : ℕ) (x : List Lexeme) (d : ℕ) (r : List Lexeme) → Writes c ps x d → begins test (x ++ r) ≡ false

-- it begins with one of them
pub record Starts (test : Lexeme → Bool) (ps : Pieces) : Type 0 where
  pub starts : (c : ℕ) (x : List Lexeme) (d : ℕ) (r : List Lexeme) → Writes c ps x d → begins test (x ++ r) ≡ true

-- what is written and what follows it begin with none of the tokens
pub record Misses (test : Lexeme → Bool) (ps : Pieces) (s : Lexeme → Bool) : Type 0 where
  pub misses : (c : ℕ) (x : List Lexeme) (d : ℕ) (r : List Lexeme) → Writes c ps x d → begins s r ≡ false
      → begins test (x ++ r) ≡ false

-- ---- beginnings

-- a token first is none that the test passes, if it doesn't pass it
pub begun_token : {test : Lexeme → Bool} {sp : Space} {l : Lexeme} {qs : Pieces} → test l ≡ false
    → Begun test (token sp l ∷ qs)
begun_token {test = test} {sp = sp} {l = l} {qs = qs} e = record { begun = λ c x d r w. ap (λ z. begins test (z ++ r)) (head_of c sp l qs x d w).1 ∙ e }

-- a token first is one that the test passes, if it does
pub starts_token : {test : Lexeme → Bool} {sp : Space} {l : Lexeme} {qs : Pieces} → test l ≡ true
    → Starts test (token sp l ∷ qs)
starts_token {test = test} {sp = sp} {l = l} {qs = qs} e = record { starts = λ c x d r w. ap (λ z. begins test (z ++ r)) (head_of c sp l qs x d w).1 ∙ e }

pub rand_of : (c j : ℕ) (ps : Pieces) (x : List Lexeme) (d : ℕ) → Writes c (drawn j ∷ ps) x d
    → (y : List Lexeme) × (x ≡ lexeme.Keyword k.Rand ∷ y) × (j ≡ c + 1) × Writes (c + 1) ps y d
unfolding Writes
rand_of c j ps x d w = (w.1, w.3 ∙ ap (λ z. z ++ w.1) w.4.0, w.4.1, subst (λ n. Writes n ps w.1 d) w.4.2 w.5)

-- what is never written isn't written
pub never_written : (c : ℕ) (ps : Pieces) (x : List Lexeme) (d : ℕ) → Writes c (never ∷ ps) x d → ⊥
unfolding Writes
never_written c ps x d w = w.4

-- a drawn word first is no token that the test passes, if it doesn't pass `rand`
pub begun_drawn : {test : Lexeme → Bool} {j : ℕ} {qs : Pieces} → test (lexeme.Keyword k.Rand) ≡ false
    → Begun test (drawn j ∷ qs)
begun_drawn {test = test} {j = j} {qs = qs} e = record { begun = λ c x d r w. ap (λ z. begins test (z ++ r)) (rand_of c j qs x d w).1 ∙ e }

named_by : (test : Lexeme → Bool) (name : List ℕ) (qs : Pieces) → test (lexeme.Name name) ≡ false → (t : Bool)
    → (c : ℕ) (x : List Lexeme) (d : ℕ) (r : List Lexeme) → Writes c ((if t then never else word name) ∷ qs) x d
    → begins test (x ++ r) ≡ false
named_by test name qs e true c x d r w = absurd (never_written c qs x d w)
named_by test name qs e false c x d r w = (begun_token e).begun c x d r w

-- a name first is no token that the test passes, if it doesn't pass the name
pub begun_named : {test : Lexeme → Bool} {qs : Pieces} (name : List ℕ) → test (lexeme.Name name) ≡ false
    → Begun test (named name ∷ qs)
begun_named {test = test} {qs = qs} name e = record { begun = λ c x d r w. named_by test name qs e (is_reserved name) c x d r w }

-- pieces that begin with no token that the test passes don't with more behind them, either
pub begun_append : {test : Lexeme → Bool} {ps : Pieces} (qs : Pieces) → Begun test ps → Begun test (ps ++ qs)
begun_append {test = test} {ps = ps} qs h = record {
  begun = λ c x d r w.
      let t = cut ps qs x c d w in
      ap (begins test) (ap (λ z. z ++ r) t.3 ∙ append_assoc t.0 t.1 r) ∙ h.begun c t.0 t.2 (t.1 ++ r) t.4;
}

pub starts_append : {test : Lexeme → Bool} {ps : Pieces} (qs : Pieces) → Starts test ps → Starts test (ps ++ qs)
starts_append {test = test} {ps = ps} qs h = record {
  starts = λ c x d r w.
      let t = cut ps qs x c d w in
      ap (begins test) (ap (λ z. z ++ r) t.3 ∙ append_assoc t.0 t.1 r) ∙ h.starts c t.0 t.2 (t.1 ++ r) t.4;
}

-- pieces that begin with no token that the test passes miss it, whatever comes behind them
pub missed : {test s : Lexeme → Bool} {ps : Pieces} → Begun test ps → Misses test ps s
missed h = record { misses = λ c x d r w e. h.begun c x d r w }

-- what begins with no lexeme of one test begins with none of a test that passes of less
pub begins_weaker : {test s : Lexeme → Bool} → ((l : Lexeme) → s l ≡ false → test l ≡ false) → (r : List Lexeme)
    → begins s r ≡ false → begins test r ≡ false
begins_weaker h [] e = refl
begins_weaker h (l ∷ r) e = h l e

-- the end misses a test, if what may come behind it passes none
pub misses_end : {test s : Lexeme → Bool} → ((l : Lexeme) → s l ≡ false → test l ≡ false) → Misses test [] s
misses_end {test = test} {s = s} h = record { misses = λ c x d r w e. ap (λ z. begins test (z ++ r)) (end_of c x d w).0 ∙ begins_weaker h r e }

misses_all : {A : Type 0} {test s : Lexeme → Bool} {w : A → Pieces} {qs : Pieces} → ((a : A) → Begun test (w a))
    → Misses test qs s → (xs : List A) → (c : ℕ) (x : List Lexeme) (d : ℕ) (r : List Lexeme)
    → Writes c (concat (map w xs) ++ qs) x d → begins s r ≡ false → begins test (x ++ r) ≡ false
misses_all h g [] c x d r v e = g.misses c x d r v e
misses_all {w = w} {qs = qs} h g (a ∷ xs) c x d r v e = (begun_append (concat (map w xs) ++ qs) (h a)).begun c x d r (subst (λ z. Writes c z x d) (append_assoc (w a) (concat (map w xs)) qs) v)

-- a list misses a test that none of its members begins with and that what is behind it misses
pub misses_each : {A : Type 0} {test s : Lexeme → Bool} {w : A → Pieces} {qs : Pieces} (xs : List A)
    → ((a : A) → Begun test (w a)) → Misses test qs s → Misses test (concat (map w xs) ++ qs) s
misses_each xs h g = record { misses = λ c x d r w e. misses_all h g xs c x d r w e }

nothing_begins : (z : List Lexeme) → begins nothing z ≡ false
nothing_begins [] = refl
nothing_begins (l ∷ z) = refl

-- all pieces miss the test that passes no token
pub misses_nothing : {s : Lexeme → Bool} {qs : Pieces} → Misses nothing qs s
misses_nothing {s = s} {qs = qs} = record { misses = λ c x d r w e. nothing_begins (x ++ r) }

-- no pieces begin with a token of the test that passes none
pub begun_nothing : {qs : Pieces} → Begun nothing qs
begun_nothing {qs = qs} = record { begun = λ c x d r w. nothing_begins (x ++ r) }

-- a drawn word first is a token that the test passes, if it passes `rand`
pub starts_drawn : {test : Lexeme → Bool} {j : ℕ} {qs : Pieces} → test (lexeme.Keyword k.Rand) ≡ true
    → Starts test (drawn j ∷ qs)
starts_drawn {test = test} {j = j} {qs = qs} e = record { starts = λ c x d r w. ap (λ z. begins test (z ++ r)) (rand_of c j qs x d w).1 ∙ e }

-- the same pieces
pub begun_as : {test : Lexeme → Bool} {ps qs : Pieces} → ps ≡ qs → Begun test qs → Begun test ps
begun_as {test = test} e h = subst (λ z. Begun test z) (sym e) h

-- equal pieces start alike
pub starts_as : {test : Lexeme → Bool} {ps qs : Pieces} → ps ≡ qs → Starts test qs → Starts test ps
starts_as {test = test} e h = subst (λ z. Starts test z) (sym e) h
