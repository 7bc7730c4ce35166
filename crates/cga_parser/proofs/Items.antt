-- Items are read exactly.
use Rattle.std.proofs.Common.{◌≡◌, ℕ, zero, suc, ◌≤◌, List, [], ◌∷◌, ◌++◌, map, length, append_assoc, Bool, true, false}
use Rattle.std.proofs.Common.{refl, ap, sym, ◌∙◌, subst, if◌then◌else◌, arith, codes, append-nil as nil_right}
use Rattle.cga_lexer.specs.declared.sign.Sign.TheVariants as s
use Rattle.cga_word.specs.declared.axis.Axis.{Axis}
use Rattle.cga_word.specs.declared.primitive.Primitive.TheVariants as solid
use Rattle.cga_syntax.specs.Lexemes.{is, is_reserved}
use Rattle.cga_syntax.specs.declared.keyword.Keyword.TheVariants as k
use Rattle.cga_syntax.specs.declared.lexeme.Lexeme.{Lexeme}
use Rattle.cga_syntax.specs.declared.lexeme.Lexeme.TheVariants as lexeme
use Rattle.cga_rule.specs.declared.expr.Expr.{Expr}
use Rattle.cga_rule.specs.declared.item.Size.{Size}
use Rattle.cga_rule.specs.declared.item.Body.{Body, roll-Body}
use Rattle.cga_rule.specs.declared.item.Item.{Item, Item-F, roll-Item, out-Item, roll-out-Item}
use Rattle.cga_rule.specs.declared.item.Item.TheVariants as i
use Rattle.cga_rule.specs.declared.item.Item.TheVariants.{rolls-Move, rolls-Resize, rolls-Rotate, rolls-Scoped}
use Rattle.cga_rule.specs.declared.item.Item.TheVariants.{rolls-Solid, rolls-Subdiv, rolls-Repeat, rolls-Comp}
use Rattle.cga_rule.specs.declared.item.Item.TheVariants.{rolls-Child}
use Rattle.cga_rule.specs.declared.item.Item.TheOpen as layer
use Rattle.cga_syntax.specs.declared.print.space.Space.TheVariants.{Usual}
use Rattle.cga_syntax.specs.Pieces.{token, never, sign, keyword, word, Pieces, concat, Writes, nonempty, separated}
use Rattle.cga_syntax.specs.Pieces.{arguments, in_curly, expr_pieces, item_pieces, body_pieces}
use Rattle.cga_form.specs.Reader.{Reader, ◌>>=◌, ◌>>◌, pure, refuse, enter, many}
use Rattle.cga_form.specs.Tokens.{a_sign, is_sign, is_keyword}
use Rattle.cga_parser.specs.Grammar as g
use Rattle.cga_form.specs.declared.heads.ItemHead.{ItemHead}
use Rattle.cga_form.specs.declared.heads.ItemHead.TheVariants as head
use Rattle.cga_form.proofs.Door.{Long, a_sign_is, as_token, bracketed, done, either, keyword_token, listed, long_of}
use Rattle.cga_form.proofs.Door.{never_written, next, one_token, opening, plain_written, refusing, sign_token}
use Rattle.cga_form.specs.Laws.{After, Goes, Reads, Some_text}
use Rattle.cga_parser.proofs.Lists.{separated_is}
use Rattle.cga_parser.proofs.Exprs.{IsInside, close_square, inside_reads}
use Rattle.cga_parser.proofs.ItemLayers.{move_layer, resize_layer, rotate_layer, scoped_layer, solid_layer}
use Rattle.cga_parser.proofs.ItemLayers.{subdiv_layer, repeat_layer, comp_layer, child_layer, list_pieces, body_layer}
use Rattle.cga_parser.proofs.ItemTokens.{head_pieces, head_token}
use Rattle.cga_parser.proofs.ItemParts.{move_reads, resize_reads, turn_reads, solid_reads, split_pieces, split_reads}
use Rattle.cga_parser.proofs.ItemParts.{repeat_reads, selector_part_reads, arguments_reads}

solid_some : Some_text (After [] item_pieces)
solid_some c =
    let ls : List Lexeme = lexeme.Keyword k.I ∷ lexeme.Sign s.LeftRound ∷ lexeme.Text (codes "cube") ∷ lexeme.Sign s.RightRound ∷ [] in
    (ls, i.Solid solid.Cube, c, (map (token Usual) ls, solid_layer solid.Cube, plain_written c ls))

pub refused_item : (m : ℕ) → Reads m m item_pieces refuse
refused_item m = refusing solid_some

named_long : (t : Bool) (c : ℕ) (name : List ℕ) (qs : Pieces) (x : List Lexeme) (d : ℕ)
    → Writes c ((if t then never else word name) ∷ qs) x d → 1 ≤ length x
named_long true c name qs x d w = absurd (never_written c qs x d w)
named_long false c name qs x d w = long_of c Usual (lexeme.Name name) qs x d w

-- an item begins with a token
item_long_by : (q : Item-F Item Body) (c : ℕ) (x : List Lexeme) (d : ℕ) → Writes c (item_pieces (roll-Item q)) x d
    → 1 ≤ length x
item_long_by (layer.Move x y z) c t d w = long_of c Usual _ _ t d (subst (λ ps. Writes c ps t d) (ap item_pieces (rolls-Move x y z) ∙ move_layer x y z) w)
item_long_by (layer.Resize x y z) c t d w = long_of c Usual _ _ t d (subst (λ ps. Writes c ps t d) (ap item_pieces (rolls-Resize x y z) ∙ resize_layer x y z) w)
item_long_by (layer.Rotate a by) c t d w = long_of c Usual _ _ t d (subst (λ ps. Writes c ps t d) (ap item_pieces (rolls-Rotate a by) ∙ rotate_layer a by) w)
item_long_by (layer.Scoped items) c t d w = long_of c Usual _ _ t d (subst (λ ps. Writes c ps t d) (ap item_pieces (rolls-Scoped items) ∙ scoped_layer items) w)
item_long_by (layer.Solid p) c t d w = long_of c Usual _ _ t d (subst (λ ps. Writes c ps t d) (ap item_pieces (rolls-Solid p) ∙ solid_layer p) w)
item_long_by (layer.Subdiv a sizes bodies) c t d w = long_of c Usual _ _ t d (subst (λ ps. Writes c ps t d) (ap item_pieces (rolls-Subdiv a sizes bodies) ∙ subdiv_layer a sizes bodies) w)
item_long_by (layer.Repeat a e body) c t d w = long_of c Usual _ _ t d (subst (λ ps. Writes c ps t d) (ap item_pieces (rolls-Repeat a e body) ∙ repeat_layer a e body) w)
item_long_by (layer.Comp x body) c t d w = long_of c Usual _ _ t d (subst (λ ps. Writes c ps t d) (ap item_pieces (rolls-Comp x body) ∙ comp_layer x body) w)
item_long_by (layer.Child name args) c t d w = named_long (is_reserved name) c name
    (arguments (map expr_pieces args)) t d (subst (λ ps. Writes c ps t d) (ap item_pieces (rolls-Child name args) ∙ child_layer name args) w)

pub item_long : Long item_pieces
item_long c x a d w = item_long_by (out-Item a) c x d (subst (λ z. Writes c (item_pieces z) x d) (sym (roll-out-Item a)) w)

-- one or more items
items_reads : {w : List Item → Pieces} (m : ℕ) (p : Reader Item)
    → ((a : Item) (more : List Item) → w (a ∷ more) ≡ item_pieces a ++ concat (map item_pieces more))
    → Reads m m item_pieces p → Reads m m w (g.items_by p)
items_reads m p e h = next h (λ a. next (listed g.begins_item item_long h) (λ more. done (e a more)))

abbrev pub some_pieces : List Item → Pieces
some_pieces is = nonempty (map item_pieces is) []

some_is : (a : Item) (more : List Item) → some_pieces (a ∷ more) ≡ item_pieces a ++ concat (map item_pieces more)
some_is a more = ap (λ z. item_pieces a ++ z) (nil_right (concat (map item_pieces more)))

pub body_reads : (m : ℕ) (p : Reader Item) → Reads m m item_pieces p → Reads m m list_pieces (g.body_by p)
body_reads m p h = either (is_keyword k.Nil) (next (one_token (keyword_token k.Nil m refl)) (λ _. done refl)) (items_reads m p (λ a more. refl) h)

abbrev pub IsInnerItem : ℕ → Reader Item → Type 0
IsInnerItem n inner = (m : ℕ) → n ≡ suc m → Reads m m item_pieces inner

abbrev pub scoped_pieces : List Item → Pieces
scoped_pieces is = sign s.LeftSquare ∷ nonempty (map item_pieces is) (sign s.RightSquare ∷ [])

pub scoped_is : (is : List Item)
    → scoped_pieces is ≡ ((sign s.LeftSquare ∷ []) ++ some_pieces is) ++ (sign s.RightSquare ∷ [])
scoped_is [] = refl
scoped_is (a ∷ more) = simp append_assoc

close_curly : (n : ℕ) → Reads n (suc n) (as_token Usual (lexeme.Sign s.RightCurly)) (g.sign s.RightCurly)
close_curly n = one_token (sign_token Usual s.RightCurly n (suc n) refl refl)

scoped_rest : (m : ℕ) (p : Reader Item) → Reads m m item_pieces p
    → Goes m (suc m) (sign s.LeftSquare ∷ []) scoped_pieces (g.items_by p >>= λ is. g.sign s.RightSquare >> pure is)
scoped_rest m p h = next (items_reads {w = some_pieces} m p some_is h) (λ is. next (close_square m) (λ _. done (scoped_is is)))

-- a form in curly brackets
in_curly_brackets : {A : Type 0} {w : A → Pieces} {q : Reader A} (n : ℕ) → Some_text (After (sign s.LeftCurly ∷ []) w)
    → ((m : ℕ) → n ≡ suc m → Goes m (suc m) (sign s.LeftCurly ∷ []) w q)
    → Reads n n w (enter (a_sign s.LeftCurly) n >>= λ _. q)
in_curly_brackets n some h = bracketed n (opening s.LeftCurly refl refl) (λ i e. a_sign_is s.LeftCurly i tt e) some h

abbrev pub braced_body_pieces : Body → Pieces
braced_body_pieces b = in_curly (body_pieces b)

braced_body_rest : (m : ℕ) (p : Reader Item) → Reads m m item_pieces p
    → Goes m (suc m) (sign s.LeftCurly ∷ []) braced_body_pieces
    (g.body_by p >>= λ is. g.sign s.RightCurly >> pure (roll-Body (record { items = is })))
braced_body_rest m p h = next (body_reads m p h) (λ is. next (close_curly m) (λ _. done (ap in_curly (body_layer is))))

abbrev pub further_body_pieces : Body → Pieces
further_body_pieces b = sign s.Bar ∷ body_pieces b

pub further_body_long : Long further_body_pieces
further_body_long c x a d w = long_of c Usual (lexeme.Sign s.Bar) (body_pieces a) x d w

pub further_body_reads : (n m : ℕ) (inside : Reader Expr) (p : Reader Item) → Reads m m item_pieces p
    → Reads m m further_body_pieces (g.further_body n inside p)
unfolding g.further_body
further_body_reads n m inside p h = next (one_token (sign_token Usual s.Bar m m refl refl)) (λ _. next (body_reads m p h) (λ is. done (ap (λ z. sign s.Bar ∷ z) (body_layer is))))

abbrev pub braced_bodies_pieces : List Body → Pieces
braced_bodies_pieces bs = sign s.LeftCurly ∷ separated (sign s.Bar) (map body_pieces bs) (sign s.RightCurly ∷ [])

braced_bodies_is : (is : List Item) (more : List Body)
    → braced_bodies_pieces (roll-Body (record { items = is }) ∷ more) ≡
    (((sign s.LeftCurly ∷ []) ++ list_pieces is) ++ concat (map further_body_pieces more)) ++ (sign s.RightCurly ∷ [])
braced_bodies_is is more =
    ap (λ z. sign s.LeftCurly ∷ z) (separated_is (sign s.Bar) body_pieces (roll-Body (record { items = is })) more (sign s.RightCurly ∷ []))
    ∙ ap (λ z. sign s.LeftCurly ∷ (z ++ (concat (map further_body_pieces more) ++ (sign s.RightCurly ∷ [])))) (body_layer is) ∙ simp append_assoc

braced_bodies_rest : (n m : ℕ) (inside : Reader Expr) (p : Reader Item) → Reads m m item_pieces p →
    Goes m (suc m) (sign s.LeftCurly ∷ []) braced_bodies_pieces
    (g.body_by p >>= λ is. many (is_sign s.Bar) (g.further_body n inside p) >>= λ more. g.sign s.RightCurly >>
    pure (roll-Body (record { items = is }) ∷ more))
braced_bodies_rest n m inside p h =
    next (body_reads m p h) (λ is. next (listed (is_sign s.Bar) further_body_long (further_body_reads n m inside p h)) (λ more. next (close_curly m) (λ _. done (braced_bodies_is is more))))

pub subdiv_is : (a : Axis) (sizes : List Size) (bodies : List Body)
    → item_pieces (i.Subdiv a sizes bodies) ≡ (keyword k.Subdiv ∷ split_pieces (a, sizes)) ++ braced_bodies_pieces
    bodies
subdiv_is a [] bodies = subdiv_layer a [] bodies
subdiv_is a (x ∷ more) bodies = subdiv_layer a (x ∷ more) bodies ∙ simp append_assoc

module _ (n : ℕ) (inside : Reader Expr) (inner : Reader Item) (h : IsInside n inside) (r : IsInnerItem n inner) where
  scoped_reads : Reads n n scoped_pieces (g.scoped n inside inner)
  unfolding g.scoped
  scoped_reads = bracketed n (opening s.LeftSquare refl refl) (λ i e. a_sign_is s.LeftSquare i tt e) (scoped_rest 0 refuse (refused_item 0)).some (λ m e. scoped_rest m inner (r m e))

  braced_body_reads : Reads n n braced_body_pieces (g.braced_body n inside inner)
  unfolding g.braced_body
  braced_body_reads = in_curly_brackets n (braced_body_rest 0 refuse (refused_item 0)).some (λ m e. braced_body_rest m inner (r m e))

  braced_bodies_reads : Reads n n braced_bodies_pieces (g.braced_bodies n inside inner)
  unfolding g.braced_bodies
  braced_bodies_reads = in_curly_brackets n (braced_bodies_rest n 0 inside refuse (refused_item 0)).some (λ m e. braced_bodies_rest n m inside inner (r m e))

  rest_reads : (x : ItemHead) → Goes n n (head_pieces x) item_pieces (g.item_rest n inside inner x)
  rest_reads head.Move = next (move_reads n inside h) (λ p. done (move_layer p.0 p.1 p.2))
  rest_reads head.Resize = next (resize_reads n inside h) (λ p. done (resize_layer p.0 p.1 p.2))
  rest_reads (head.Rotate a) = next (turn_reads n inside) (λ by. done (rotate_layer a by))
  rest_reads head.Solid = next (solid_reads n inside) (λ p. done (solid_layer p))
  rest_reads head.Subdiv = next (split_reads n inside h) (λ p. next braced_bodies_reads (λ bs. done (subdiv_is p.0 p.1 bs)))
  rest_reads head.Repeat = next (repeat_reads n inside h) (λ p. next braced_body_reads (λ b. done (repeat_layer p.0 p.1 b ∙ simp append_assoc)))
  rest_reads head.Comp = next (selector_part_reads n inside) (λ x. next braced_body_reads (λ b. done (comp_layer x b ∙ simp append_assoc)))
  rest_reads (head.Child name) = next (arguments_reads n inside h) (λ es. done (child_layer name es))

  pub layer_reads : Reads n n item_pieces (g.item_layer n inside inner)
  unfolding g.item_layer
  layer_reads = either (is_sign s.LeftSquare) (next scoped_reads (λ is. done (scoped_layer is))) (next (one_token (head_token n)) rest_reads)

pub no_inner_item : IsInnerItem 0 refuse
no_inner_item m e = absurd (omega arith)

pub one_inner_item : (n : ℕ) (p : Reader Item) → Reads n n item_pieces p → IsInnerItem (suc n) p
one_inner_item n p r m e = let q : n ≡ m = omega arith in subst (λ i. Reads i i item_pieces p) q r

pub item_reads : (n : ℕ) → Reads n n item_pieces (g.item n)
unfolding g.item
item_reads zero = layer_reads zero refuse refuse (inside_reads 0) no_inner_item
item_reads (suc n) = layer_reads (suc n) (g.expr n) (g.item n) (inside_reads (suc n)) (one_inner_item n (g.item n) (item_reads n))

pub inner_item_reads : (n : ℕ) → IsInnerItem n (g.inner_item n)
inner_item_reads zero = no_inner_item
inner_item_reads (suc n) = one_inner_item n (g.item n) (item_reads n)
