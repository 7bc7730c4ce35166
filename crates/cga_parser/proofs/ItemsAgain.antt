-- An item is read as it is written.
use Rattle.std.proofs.Common.{◌≡◌, ℕ, zero, suc, List, [], ◌∷◌, ◌++◌, map, append_assoc, false, Some, refl, ap, sym}
use Rattle.std.proofs.Common.{◌∙◌, subst, arith, append-nil as nil_right}
use Rattle.cga_lexer.specs.declared.sign.Sign.TheVariants as s
use Rattle.cga_word.specs.declared.axis.Axis.{Axis}
use Rattle.cga_word.specs.declared.axis.Axis.TheVariants as axis
use Rattle.cga_word.specs.declared.selector.Selector.{Selector}
use Rattle.cga_syntax.specs.declared.keyword.Keyword.TheVariants as k
use Rattle.cga_syntax.specs.declared.lexeme.Lexeme.{Lexeme}
use Rattle.cga_syntax.specs.declared.lexeme.Lexeme.TheVariants as lexeme
use Rattle.cga_rule.specs.declared.expr.Expr.{Expr}
use Rattle.cga_rule.specs.declared.item.Body.{Body, roll-Body, out-Body, roll-out-Body}
use Rattle.cga_rule.specs.declared.item.Item.{Item, Item-F, roll-Item, out-Item, roll-out-Item}
use Rattle.cga_rule.specs.declared.item.Item.TheVariants as i
use Rattle.cga_rule.specs.declared.item.Item.TheVariants.{rolls-Move, rolls-Resize, rolls-Rotate, rolls-Scoped}
use Rattle.cga_rule.specs.declared.item.Item.TheVariants.{rolls-Solid, rolls-Subdiv, rolls-Repeat, rolls-Comp}
use Rattle.cga_rule.specs.declared.item.Item.TheVariants.{rolls-Child}
use Rattle.cga_rule.specs.declared.item.Item.TheOpen as layer
use Rattle.cga_syntax.specs.Pieces.{sign, keyword, concat, turn_keyword, size_pieces, expr_pieces, item_pieces}
use Rattle.cga_syntax.specs.Pieces.{body_pieces}
use Rattle.cga_form.specs.Reader.{Reader, refuse}
use Rattle.cga_form.specs.Tokens.{a_sign, a_keyword, is_sign, unless}
use Rattle.cga_form.specs.Words.{item_head}
use Rattle.cga_parser.specs.Grammar as g
use Rattle.cga_form.specs.declared.heads.ItemHead.TheVariants as head
use Rattle.cga_form.proofs.Door.{after, all_of, begun_append, begun_named, begun_token, by_name, ends, entered, missed}
use Rattle.cga_form.proofs.Door.{misses_each, misses_end, misses_nothing, never_leads, peek_no, peek_yes, plainly}
use Rattle.cga_form.proofs.Door.{starts_token, took, turned as unrolled, written_as}
use Rattle.cga_form.specs.Laws.{Again, Leads, Reads, nothing}
use Rattle.cga_parser.proofs.Lists.{separated_is}
use Rattle.cga_parser.proofs.Exprs.{IsInside, inside_reads}
use Rattle.cga_parser.proofs.ExprsAgain.{AgainInside, inside_again, neither}
use Rattle.cga_parser.proofs.ItemLayers.{move_layer, resize_layer, rotate_layer, scoped_layer, solid_layer}
use Rattle.cga_parser.proofs.ItemLayers.{repeat_layer, comp_layer, child_layer, list_pieces, body_layer}
use Rattle.cga_parser.proofs.ItemParts.{triple, turn_part_pieces, solid_pieces, split_pieces, repeat_pieces}
use Rattle.cga_parser.proofs.ItemParts.{selector_part_pieces, arguments_pieces}
use Rattle.cga_parser.proofs.Items.{item_long, some_pieces, IsInnerItem, scoped_pieces, scoped_is, braced_body_pieces}
use Rattle.cga_parser.proofs.Items.{further_body_pieces, further_body_long, further_body_reads, braced_bodies_pieces}
use Rattle.cga_parser.proofs.Items.{subdiv_is, no_inner_item, one_inner_item, item_reads}
use Rattle.cga_parser.proofs.ItemFronts.{with_bracket, with_item, item_begun, item_starts, bracket_spares, nil_spares}
use Rattle.cga_parser.proofs.ItemPartsAgain.{move_again, resize_again, turn_part_again, solid_again, split_again}
use Rattle.cga_parser.proofs.ItemPartsAgain.{repeat_again, selector_part_again, arguments_again}

abbrev pub AgainInnerItem : ℕ → Reader Item → Type 0
AgainInnerItem n inner = (m : ℕ) → n ≡ suc m → Again item_pieces with_bracket inner

repeat_is : (a : Axis) (x : Expr) (body : Body)
    → item_pieces (i.Repeat a x body) ≡ keyword k.Repeat ∷ (repeat_pieces (a, x) ++ braced_body_pieces body)
repeat_is a x body = repeat_layer a x body ∙ simp append_assoc

comp_is : (x : Selector) (body : Body)
    → item_pieces (i.Comp x body) ≡ keyword k.Comp ∷ (selector_part_pieces x ++ braced_body_pieces body)
comp_is x body = comp_layer x body ∙ simp append_assoc

-- ---- lists of items

abbrev stops_bracket : (l : Lexeme) → with_item l ≡ false → with_bracket l ≡ false
stops_bracket l e = (neither (with_bracket l) (g.begins_item l) e).0

abbrev stops_item : (l : Lexeme) → with_item l ≡ false → g.begins_item l ≡ false
stops_item l e = (neither (with_bracket l) (g.begins_item l) e).1

module _ (m : ℕ) (p : Reader Item) (h : Again item_pieces with_bracket p) (r : Reads m m item_pieces p) where
  -- the items after the first
  items_rest : (a : Item) (more : List Item)
      → Leads with_item (item_pieces a ++ (concat (map item_pieces more) ++ [])) (g.items_by p) (a ∷ more)
  items_rest a more =
      after _ a h (misses_each more (item_begun bracket_spares) (misses_end stops_bracket))
      (all_of _ g.begins_item more (record { again = h; starting = item_starts; apart = item_begun bracket_spares }) (unrolled item_pieces m g.begins_item p item_long r)
      (record { no_more = misses_end stops_bracket; no_member = misses_end stops_item; leads = ends }))

  items_at : (is : List Item) → Leads with_item (some_pieces is) (g.items_by p) is
  items_at [] = never_leads
  items_at (a ∷ more) = items_rest a more

  items_again : Again some_pieces with_item (g.items_by p)
  items_again = record { all = items_at }

  body_at : (is : List Item) → Leads with_item (list_pieces is) (g.body_by p) is
  body_at [] = peek_yes _ (starts_token refl) (took (a_keyword k.Nil) tt refl ends)
  body_at (a ∷ more) =
      written_as (ap (λ z. item_pieces a ++ z) (sym (nil_right (concat (map item_pieces more)))))
      (peek_no _ (missed (begun_append (concat (map item_pieces more) ++ []) (item_begun nil_spares a))) (items_rest a more))

  pub body_again : Again list_pieces with_item (g.body_by p)
  body_again = record { all = body_at }

module _ (n : ℕ) (inside : Reader Expr) (h : AgainInside n inside) (r : IsInside n inside) (inner : Reader Item) (hi : AgainInnerItem n inner) (ri : IsInnerItem n inner) where
  scoped_again : Again scoped_pieces nothing (g.scoped n inside inner)
  unfolding g.scoped
  scoped_again = record {
    all = λ is. written_as (scoped_is is)
        (entered (a_sign s.LeftSquare) n refl (λ m e. after _ is (items_again m inner (hi m e) (ri m e))
        (missed (begun_token refl)) (took (a_sign s.RightSquare) tt refl ends)));
  }

  braced_body_at : (is : List Item)
      → Leads nothing (braced_body_pieces (roll-Body (record { items = is }))) (g.braced_body n inside inner)
      (roll-Body (record { items = is }))
  unfolding g.braced_body
  braced_body_at is =
      written_as (ap (λ z. sign s.LeftCurly ∷ (z ++ (sign s.RightCurly ∷ []))) (body_layer is))
      (entered (a_sign s.LeftCurly) n refl (λ m e. after _ is (body_again m inner (hi m e) (ri m e)) (missed (begun_token refl)) (took (a_sign s.RightCurly) tt refl ends)))

  braced_body_again : Again braced_body_pieces nothing (g.braced_body n inside inner)
  braced_body_again = record { all = λ b. subst (λ z. Leads nothing (braced_body_pieces z) (g.braced_body n inside inner) z) (roll-out-Body b) (braced_body_at (out-Body b).items) }

  further_body_at : (m : ℕ) → n ≡ suc m → (is : List Item)
      → Leads with_item (further_body_pieces (roll-Body (record { items = is }))) (g.further_body n inside inner)
      (roll-Body (record { items = is }))
  unfolding g.further_body
  further_body_at m e is =
      written_as (ap (λ z. sign s.Bar ∷ z) (body_layer is)) (took (a_sign s.Bar) tt refl (plainly (after _ is (body_again m inner (hi m e) (ri m e)) (misses_end (λ l q. q)) ends)))

  further_body_again : (m : ℕ) → n ≡ suc m → Again further_body_pieces with_item (g.further_body n inside inner)
  further_body_again m e = record { all = λ b. subst (λ z. Leads with_item (further_body_pieces z) (g.further_body n inside inner) z) (roll-out-Body b) (further_body_at m e (out-Body b).items) }

  braced_bodies_of : (is : List Item) (more : List Body)
      → Leads nothing (braced_bodies_pieces (roll-Body (record { items = is }) ∷ more))
      (g.braced_bodies n inside inner) (roll-Body (record { items = is }) ∷ more)
  unfolding g.braced_bodies
  braced_bodies_of is more =
      written_as (ap (λ z. sign s.LeftCurly ∷ z)
      (separated_is (sign s.Bar) body_pieces (roll-Body (record { items = is })) more (sign s.RightCurly ∷ []))
      ∙ ap (λ z. sign s.LeftCurly ∷ (z ++ (concat (map further_body_pieces more) ++ (sign s.RightCurly ∷ [])))) (body_layer is))
      (entered (a_sign s.LeftCurly) n refl (λ m e. after _ is (body_again m inner (hi m e) (ri m e)) (misses_each more (λ z. begun_token refl) (missed (begun_token refl)))
      (all_of _ (is_sign s.Bar) more (record { again = further_body_again m e; starting = λ z. starts_token refl; apart = λ z. begun_token refl })
      (unrolled further_body_pieces m (is_sign s.Bar) (g.further_body n inside inner) further_body_long (further_body_reads n m inside inner (ri m e)))
      (record { no_more = missed (begun_token refl); no_member = missed (begun_token refl); leads = took (a_sign s.RightCurly) tt refl ends }))))

  braced_bodies_at : (bs : List Body) → Leads nothing (braced_bodies_pieces bs) (g.braced_bodies n inside inner) bs
  unfolding g.braced_bodies
  braced_bodies_at [] = entered (a_sign s.LeftCurly) n refl (λ m e. never_leads)
  braced_bodies_at (b ∷ more) = subst (λ z. Leads nothing (braced_bodies_pieces (z ∷ more)) (g.braced_bodies n inside inner) (z ∷ more)) (roll-out-Body b) (braced_bodies_of (out-Body b).items more)

  braced_bodies_again : Again braced_bodies_pieces nothing (g.braced_bodies n inside inner)
  braced_bodies_again = record { all = braced_bodies_at }

  abbrev At_item : Item → Type 0
  At_item a = Leads with_bracket (item_pieces a) (g.item_layer n inside inner) a

  turn_head : (a : Axis) → item_head (lexeme.Keyword (turn_keyword a)) ≡ Some (head.Rotate a)
  turn_head axis.X = refl
  turn_head axis.Y = refl
  turn_head axis.Z = refl

  item_at : (q : Item-F Item Body) → At_item (roll-Item q)
  unfolding g.item_layer
  item_at (layer.Move x y z) =
      subst At_item (sym (rolls-Move x y z)) (written_as (move_layer x y z) (peek_no _ (missed (begun_token refl)) (took item_head head.Move refl
      (plainly (after {v = triple expr_pieces} _ (x, y, z) (move_again n inside h r) misses_nothing ends)))))
  item_at (layer.Resize x y z) =
      subst At_item (sym (rolls-Resize x y z)) (written_as (resize_layer x y z) (peek_no _ (missed (begun_token refl)) (took item_head head.Resize refl
      (plainly (after {v = triple size_pieces} _ (x, y, z) (resize_again n inside h r) misses_nothing ends)))))
  item_at (layer.Rotate a by) =
      subst At_item (sym (rolls-Rotate a by)) (written_as (rotate_layer a by) (peek_no _ (missed (begun_token refl)) (took item_head (head.Rotate a) (turn_head a)
      (plainly (after {v = turn_part_pieces} _ by (turn_part_again n inside h r) misses_nothing ends)))))
  item_at (layer.Scoped items) =
      subst At_item (sym (rolls-Scoped items)) (written_as (scoped_layer items) (peek_yes _ (starts_token refl)
      (plainly (after {v = scoped_pieces} _ items scoped_again misses_nothing ends))))
  item_at (layer.Solid p) =
      subst At_item (sym (rolls-Solid p)) (written_as (solid_layer p) (peek_no _ (missed (begun_token refl)) (took item_head head.Solid refl
      (plainly (after {v = solid_pieces} _ p (solid_again n inside h r) misses_nothing ends)))))
  item_at (layer.Subdiv a sizes bodies) =
      subst At_item (sym (rolls-Subdiv a sizes bodies)) (written_as (subdiv_is a sizes bodies) (peek_no _ (missed (begun_token refl)) (took item_head head.Subdiv refl
      (after {v = split_pieces} _ (a, sizes) (split_again n inside h r) misses_nothing (plainly (after {v = braced_bodies_pieces} _ bodies braced_bodies_again misses_nothing ends))))))
  item_at (layer.Repeat a x body) =
      subst At_item (sym (rolls-Repeat a x body)) (written_as (repeat_is a x body) (peek_no _ (missed (begun_token refl)) (took item_head head.Repeat refl
      (after {v = repeat_pieces} _ (a, x) (repeat_again n inside h r) misses_nothing (plainly (after {v = braced_body_pieces} _ body braced_body_again misses_nothing ends))))))
  item_at (layer.Comp x body) =
      subst At_item (sym (rolls-Comp x body)) (written_as (comp_is x body) (peek_no _ (missed (begun_token refl)) (took item_head head.Comp refl
      (after {v = selector_part_pieces} _ x (selector_part_again n inside h r) misses_nothing (plainly (after {v = braced_body_pieces} _ body braced_body_again misses_nothing ends))))))
  item_at (layer.Child name args) =
      subst At_item (sym (rolls-Child name args)) (written_as (child_layer name args) (peek_no _ (missed (begun_named name refl))
      (by_name name (λ e. took item_head (head.Child name) (ap (λ b. unless b (head.Child name)) e)
      (plainly (after {v = arguments_pieces} _ args (arguments_again n inside h r) (misses_end (λ l q. q)) ends))))))

  pub layer_again : Again item_pieces with_bracket (g.item_layer n inside inner)
  layer_again = record { all = λ a. subst At_item (roll-out-Item a) (item_at (out-Item a)) }

no_inner_again : AgainInnerItem 0 refuse
no_inner_again m e = absurd (omega arith)

pub item_again : (n : ℕ) → Again item_pieces with_bracket (g.item n)
unfolding g.item
item_again zero = layer_again zero refuse (inside_again 0) (inside_reads 0) refuse no_inner_again no_inner_item
item_again (suc n) = layer_again (suc n) (g.expr n) (inside_again (suc n)) (inside_reads (suc n)) (g.item n) (λ m e. item_again n) (one_inner_item n (g.item n) (item_reads n))
