-- What lines say of the sources of a script, each part of them.
use Rattle.std.proofs.Common.{◌≡◌, ℕ, ◌+◌, ◌≤◌, ◌&&◌, ◌||◌, nat_le, nat_lt, Bool, true, false, List, [], ◌∷◌, length, map, Some, Ok, Err}
use Rattle.std.proofs.Common.{arith, refl, ap, sym, ◌∙◌, subst, codes, if◌then◌else◌}
use Rattle.std.proofs.lemmas.Bool.Decides.{nat_tests}
use Rattle.cga_fraction.specs.Rat.{Rat}
use Rattle.cga_form.proofs.Door.{head_of, never_written}
use Rattle.cga_form.specs.BlockTells.{BlockTells, unless_blank, unless_long}
use Rattle.cga_form.specs.Cursor.{seen}
use Rattle.cga_form.specs.LineTells.{by_length, by_tokens}
use Rattle.cga_form.specs.Lines.{Line, is_long}
use Rattle.cga_form.specs.Tells.{Tells}
use Rattle.cga_lexer.specs.Line.{Lexed, tokens_of}
use Rattle.cga_lexer.specs.declared.sign.Sign.TheVariants as s
use Rattle.cga_lexer.specs.declared.token.Token.{Token}
use Rattle.cga_parser.specs.Blocks.{block_pieces}
use Rattle.cga_parser.specs.GrammarLines.{IsSaid, IsSpelled}
use Rattle.cga_parser.specs.declared.block_line.BlockLine.TheVariants as says
use Rattle.cga_rule.specs.declared.rule.Rule.{Rule}
use Rattle.cga_script.proofs.Door.{tokens_tell}
use Rattle.cga_script.specs.CityLines.{city_pieces}
use Rattle.cga_script.specs.Commands.{command_pieces, CommandTells}
use Rattle.cga_script.specs.DumpLines.{IsSaidLot}
use Rattle.cga_script.specs.declared.city_line.CityLine.TheVariants as line
use Rattle.cga_script.specs.declared.script_command.ScriptCommand.TheVariants.{Change}
use Rattle.cga_script.specs.declared.version.Version.{Version}
use Rattle.cga_shape.specs.declared.edit.Edit.{Edit}
use Rattle.cga_shape.specs.declared.edit.Edit.TheVariants as edit
use Rattle.cga_shape.specs.declared.lot.Lot.{Lot}
use Rattle.cga_shape.specs.declared.sources.Sources.{Sources}
use Rattle.std.specs.Prelude.{All}
use Rattle.cga_syntax.specs.Brackets.{walk}
use Rattle.cga_syntax.specs.Lexemes.{is_reserved, lexeme_of}
use Rattle.cga_syntax.specs.Limits.{last_priority}
use Rattle.cga_syntax.specs.Pieces.{Pieces, token, never, number, whole, word, named, sign as signed, valued, rule_pieces, Writes}
use Rattle.cga_syntax.specs.declared.lexeme.Lexeme.{Lexeme}
use Rattle.cga_syntax.specs.declared.lexeme.Lexeme.TheVariants as lexeme
use Rattle.cga_syntax.specs.declared.print.space.Space.TheVariants.{Usual}
use Rattle.cga_laws.proofs.Suffix.{kinds, without_first}

-- ---- sources, and edits, of which lines say each part

pub record AreSaid (s : Sources) : Type 0 where
  pub grammar : IsSpelled s.grammar
  pub lots : All IsSaidLot s.lots

abbrev pub IsSaidEdit : Edit → Type 0
IsSaidEdit (edit.Rules g) = IsSpelled g
IsSaidEdit (edit.Put priority rule) = (priority ≤ last_priority) × IsSaid (says.Rule rule)
IsSaidEdit (edit.Drop id) = Unit {0}
IsSaidEdit (edit.SetAttribute name value) = IsSaid (says.Attribute (record { name = name; value = value }))
IsSaidEdit (edit.SetPriority symbol priority) = priority ≤ last_priority
IsSaidEdit (edit.SetLot lot) = IsSaidLot lot
IsSaidEdit (edit.Unlot name) = Unit {0}
IsSaidEdit (edit.SetOrder mode) = Unit {0}
IsSaidEdit (edit.Whole x) = AreSaid x

-- ---- the tokens of a line that tells a member

pub record HasTokens {A : Type 0} (w : A → Pieces) (a : A) (l : Line) : Type 0 where
  pub short : is_long l ≡ false
  pub tokens : List Token
  pub lexed : tokens_of l.bytes ≡ Ok tokens
  pub tells : Tells w 32 (map seen tokens) (Ok a)

module _ {A : Type 0} (w : A → Pieces) (a : A) (l : Line) where
  by_lexed : is_long l ≡ false → (o : Lexed) → tokens_of l.bytes ≡ o → by_tokens w (length l.bytes + 1) o (Ok a)
      → HasTokens w a l
  by_lexed short (Ok ts) e h = record { short = short; tokens = ts; lexed = e; tells = tokens_tell w a (length l.bytes + 1) ts h }
  by_lexed short (Err f) e h = absurd (cc)

  by_long : (long : Bool) → is_long l ≡ long → by_length w l.bytes long (Ok a) → HasTokens w a l
  by_long true e h = absurd (cc)
  by_long false e h = by_lexed e (tokens_of l.bytes) refl h

  pub has_tokens : by_length w l.bytes (is_long l) (Ok a) → HasTokens w a l
  has_tokens h = by_long (is_long l) refl h

-- a line with these tokens says the member, where they aren't none
module _ {B : Type 0} (w : B → Pieces) (b : B) where
  not_blank : (end : ℕ) (ts : List Token) (k : Lexeme) (y : List Lexeme) → map seen ts ≡ k ∷ y
      → Tells w 32 (map seen ts) (Ok b) → unless_blank w end (Ok ts) (Ok (Some b))
  not_blank end [] k y e h = absurd (cc)
  not_blank end (t ∷ ts) k y e h = (Ok b, (Ok b, h, refl), refl)

  pub line_says : (l : Line) (ts : List Token) (k : Lexeme) (y : List Lexeme) → is_long l ≡ false
      → tokens_of l.bytes ≡ Ok ts → map seen ts ≡ k ∷ y → Tells w 32 (map seen ts) (Ok b) → BlockTells w l (Ok (Some b))
  line_says l ts k y short lexed e h =
      subst (λ t. unless_long w l.bytes t (Ok (Some b))) (sym short)
      (subst (λ o. unless_blank w (length l.bytes + 1) o (Ok (Some b))) (sym lexed) (not_blank (length l.bytes + 1) ts k y e h))

-- ---- an attribute and a lot are said by the line of the command itself

attribute_said : (v : Version) (l : Line) (x : List ℕ) (a : Rat)
    → CommandTells v l (Ok (Change (edit.SetAttribute x a)))
    → IsSaid (says.Attribute (record { name = x; value = a }))
attribute_said v l x a h =
    let t = has_tokens (command_pieces v) (Change (edit.SetAttribute x a)) l h in
    let first = head_of 0 Usual (lexeme.Name (codes "attr")) (named x ∷ signed s.Assign ∷ valued a ∷ []) (map seen t.tokens) t.tells.0.0 t.tells.0.1 in
    (l, line_says block_pieces (says.Attribute (record { name = x; value = a })) l t.tokens (lexeme.Name (codes "attr")) first.0 t.short t.lexed first.1 t.tells)

lot_said : (v : Version) (l : Line) (lot : Lot) → CommandTells v l (Ok (Change (edit.SetLot lot))) → IsSaidLot lot
lot_said v l lot h =
    let t = has_tokens (command_pieces v) (Change (edit.SetLot lot)) l h in
    let first = head_of 0 Usual (lexeme.Name (codes "lot")) _ (map seen t.tokens) t.tells.0.0 t.tells.0.1 in
    (l, line_says city_pieces (line.Lot lot) l t.tokens (lexeme.Name (codes "lot")) first.0 t.short t.lexed first.1 t.tells)

-- ---- a priority

bounded : (n : ℕ) → (nat_le 0 n && nat_le n 65535) ≡ true → n ≤ 65535
bounded n e = grind (arith, nat_tests)

few_by : (n : ℕ) (ps : Pieces) (x : List Lexeme) (c d : ℕ) (t : Bool) → (nat_le 0 n && nat_le n 65535) ≡ t
    → Writes c ((if t then token Usual (number n) else never) ∷ ps) x d
    → (n ≤ 65535) × ((y : List Lexeme) × (x ≡ number n ∷ y) × Writes c ps y d)
few_by n ps x c d true e w = (bounded n e, head_of c Usual (number n) ps x d w)
few_by n ps x c d false e w = absurd (never_written c ps x d w)

few_read : (n : ℕ) (ps : Pieces) (x : List Lexeme) (c d : ℕ) → Writes c (whole 0 65535 n ∷ ps) x d
    → (n ≤ 65535) × ((y : List Lexeme) × (x ≡ number n ∷ y) × Writes c ps y d)
few_read n ps x c d w = few_by n ps x c d (nat_le 0 n && nat_le n 65535) refl w

named_read : (name : List ℕ) (ps : Pieces) (x : List Lexeme) (c d : ℕ) (t : Bool)
    → Writes c ((if t then never else word name) ∷ ps) x d → (y : List Lexeme) × Writes c ps y d
named_read name ps x c d true w = absurd (never_written c ps x d w)
named_read name ps x c d false w = let h = head_of c Usual (lexeme.Name name) ps x d w in (h.0, h.2)

priority_said : (v : Version) (l : Line) (x : List ℕ) (p : ℕ) → CommandTells v l (Ok (Change (edit.SetPriority x p)))
    → p ≤ last_priority
priority_said v l x p h =
    let t = has_tokens (command_pieces v) (Change (edit.SetPriority x p)) l h in
    let first = head_of 0 Usual (lexeme.Name (codes "priority")) (named x ∷ whole 0 last_priority p ∷ []) (map seen t.tokens) t.tells.0.0 t.tells.0.1 in
    let name = named_read x (whole 0 last_priority p ∷ []) first.0 0 t.tells.0.0 (is_reserved x) first.2 in
    (few_read p [] name.0 0 t.tells.0.0 name.1).0

-- ---- a rule that is put is said by what stands behind the priority

seen_kinds : (ts : List Token) → map seen ts ≡ map lexeme_of (kinds ts)
seen_kinds [] = refl
seen_kinds (t ∷ ts) = ap (λ z. seen t ∷ z) (seen_kinds ts)

seen_same : (ts us : List Token) → kinds ts ≡ kinds us → map seen ts ≡ map seen us
seen_same ts us e = seen_kinds ts ∙ ap (map lexeme_of) e ∙ sym (seen_kinds us)

-- no more bytes, which have the tokens behind the first
pub record Rest (bytes : List ℕ) (y : List Lexeme) : Type 0 where
  pub rest : List ℕ
  pub few : length rest ≤ length bytes
  pub tokens : List Token
  pub lexed : tokens_of rest ≡ Ok tokens
  pub same : map seen tokens ≡ y

rest_of : (bytes : List ℕ) (ts : List Token) (k : Lexeme) (y : List Lexeme) → tokens_of bytes ≡ Ok ts
    → map seen ts ≡ k ∷ y → Rest bytes y
rest_of bytes [] k y e q = absurd (cc)
rest_of bytes (t ∷ ts) k y e q =
    let r = without_first bytes t ts e in
    let z : map seen ts ≡ y = cc in
    record { rest = r.rest; few = r.few; tokens = r.us; lexed = r.made; same = seen_same r.us ts r.same ∙ z }

short_of : (m n : ℕ) → nat_lt 4096 m ≡ false → n ≤ m → nat_lt 4096 n ≡ false
short_of m n e h = grind (arith, nat_tests)

not_long : (long : Bool) (m n : ℕ) → (long || nat_lt 4096 m) ≡ false → n ≤ m → nat_lt 4096 n ≡ false
not_long true m n e h = absurd (cc)
not_long false m n e h = short_of m n e h

-- no bracket is opened by the word and the priority
walk_rest : (p : ℕ) (z : List Lexeme) → walk 32 (lexeme.Name (codes "put") ∷ number p ∷ z) ≡ walk 32 z
unfolding walk
walk_rest p z = refl

-- a rule is written as some tokens
begins_by : (n : ℕ) (ps : Pieces) (x : List Lexeme) (d : ℕ) (t : Bool)
    → Writes 0 ((if t then token Usual (number n) else never) ∷ ps) x d
    → (k : Lexeme) × (y : List Lexeme) × (x ≡ k ∷ y)
begins_by n ps x d true w = let h = head_of 0 Usual (number n) ps x d w in (number n, h.0, h.1)
begins_by n ps x d false w = absurd (never_written 0 ps x d w)

rule_begins : (r : Rule) (x : List Lexeme) (d : ℕ) → Writes 0 (rule_pieces r) x d
    → (k : Lexeme) × (y : List Lexeme) × (x ≡ k ∷ y)
unfolding rule_pieces
rule_begins r x d w = begins_by r.id _ x d (nat_le 1 r.id && nat_le r.id 999999) w

put_said : (v : Version) (l : Line) (p : ℕ) (r : Rule) → CommandTells v l (Ok (Change (edit.Put p r)))
    → (p ≤ last_priority) × IsSaid (says.Rule r)
put_said v l p r h =
    let t = has_tokens (command_pieces v) (Change (edit.Put p r)) l h in
    let d = t.tells.0.0 in
    let first = head_of 0 Usual (lexeme.Name (codes "put")) (whole 0 last_priority p ∷ rule_pieces r) (map seen t.tokens) d t.tells.0.1 in
    let second = few_read p (rule_pieces r) first.0 0 d first.2 in
    let z = second.1.0 in
    let one = rest_of l.bytes t.tokens (lexeme.Name (codes "put")) first.0 t.lexed first.1 in
    let two = rest_of one.rest one.tokens (number p) z one.lexed (one.same ∙ second.1.1) in
    let some = rule_begins r z d second.1.2 in
    let whole_text : map seen t.tokens ≡ lexeme.Name (codes "put") ∷ number p ∷ z = first.1 ∙ ap (λ y. lexeme.Name (codes "put") ∷ y) second.1.1 in
    let walked : walk 32 z ≡ Some 32 = sym (walk_rest p z) ∙ ap (walk 32) (sym whole_text) ∙ t.tells.1 in
    let tells : Tells block_pieces 32 z (Ok (says.Rule r)) = ((d, second.1.2), walked) in
    let near : length two.rest ≤ length l.bytes = let a = one.few in let b = two.few in omega arith in
    let again : Line = record { bytes = two.rest; long = false } in
    let short = not_long l.long (length l.bytes) (length two.rest) t.short near in
    let same = subst (λ q. Tells block_pieces 32 q (Ok (says.Rule r))) (sym two.same) tells in
    (second.0, (again, line_says block_pieces (says.Rule r) again two.tokens some.0 some.1 short two.lexed (two.same ∙ some.2) same))

-- ---- no line tells another grammar or other sources

never_told : (v : Version) (l : Line) (e : Edit) → command_pieces v (Change e) ≡ never ∷ []
    → CommandTells v l (Ok (Change e)) → ⊥
never_told v l e same h =
    let t = has_tokens (command_pieces v) (Change e) l h in
    never_written 0 [] (map seen t.tokens) t.tells.0.0 (subst (λ (ps : Pieces). Writes 0 ps (map seen t.tokens) t.tells.0.0) same t.tells.0.1)

pub command_said : (v : Version) (l : Line) (e : Edit) → CommandTells v l (Ok (Change e)) → IsSaidEdit e
command_said v l (edit.Rules g) h = absurd (never_told v l (edit.Rules g) refl h)
command_said v l (edit.Put p r) h = put_said v l p r h
command_said v l (edit.Drop id) h = tt
command_said v l (edit.SetAttribute x a) h = attribute_said v l x a h
command_said v l (edit.SetPriority x p) h = priority_said v l x p h
command_said v l (edit.SetLot lot) h = lot_said v l lot h
command_said v l (edit.Unlot x) h = tt
command_said v l (edit.SetOrder m) h = tt
command_said v l (edit.Whole x) h = absurd (never_told v l (edit.Whole x) refl h)
