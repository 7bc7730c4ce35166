-- Which tokens items begin with.
use Rattle.std.proofs.Common.{◌≡◌, ℕ, ◌||◌, List, Bool, true, false, is_some, refl, ap, ◌∙◌, subst}
use Rattle.cga_lexer.specs.declared.sign.Sign.TheVariants as s
use Rattle.cga_word.specs.declared.axis.Axis.{Axis}
use Rattle.cga_word.specs.declared.axis.Axis.TheVariants as axis
use Rattle.cga_syntax.specs.declared.keyword.Keyword.TheVariants as k
use Rattle.cga_syntax.specs.declared.lexeme.Lexeme.{Lexeme}
use Rattle.cga_syntax.specs.declared.lexeme.Lexeme.TheVariants as lexeme
use Rattle.cga_rule.specs.declared.item.Body.{Body}
use Rattle.cga_rule.specs.declared.item.Item.{Item, Item-F, roll-Item, out-Item, roll-out-Item}
use Rattle.cga_rule.specs.declared.item.Item.TheVariants.{rolls-Move, rolls-Resize, rolls-Rotate, rolls-Scoped}
use Rattle.cga_rule.specs.declared.item.Item.TheVariants.{rolls-Solid, rolls-Subdiv, rolls-Repeat, rolls-Comp}
use Rattle.cga_rule.specs.declared.item.Item.TheVariants.{rolls-Child}
use Rattle.cga_rule.specs.declared.item.Item.TheOpen as layer
use Rattle.cga_syntax.specs.Pieces.{turn_keyword, item_pieces}
use Rattle.cga_form.specs.Tokens.{is_sign, is_keyword, unless}
use Rattle.cga_parser.specs.Grammar as g
use Rattle.cga_form.specs.declared.heads.ItemHead.TheVariants as head
use Rattle.cga_form.proofs.Door.{Begun, Starts, begun_as, begun_named, begun_token, starts_as, starts_named}
use Rattle.cga_form.proofs.Door.{starts_token}
use Rattle.cga_parser.proofs.ItemLayers.{move_layer, resize_layer, rotate_layer, scoped_layer, solid_layer}
use Rattle.cga_parser.proofs.ItemLayers.{subdiv_layer, repeat_layer, comp_layer, child_layer}

-- a bracket goes on with an item, which may be a name
abbrev pub with_bracket : Lexeme → Bool
with_bracket l = is_sign s.LeftRound l

-- and a further item with a list of them
abbrev pub with_item : Lexeme → Bool
with_item l = with_bracket l || g.begins_item l

-- ---- beginnings of items

-- none of the tokens begins an item
pub record SparesItems (test : Lexeme → Bool) : Type 0 where
  pub move : test (lexeme.Keyword k.T) ≡ false
  pub resize : test (lexeme.Keyword k.S) ≡ false
  pub rotate : (a : Axis) → test (lexeme.Keyword (turn_keyword a)) ≡ false
  pub scoped : test (lexeme.Sign s.LeftSquare) ≡ false
  pub solid : test (lexeme.Keyword k.I) ≡ false
  pub subdiv : test (lexeme.Keyword k.Subdiv) ≡ false
  pub «repeat» : test (lexeme.Keyword k.Repeat) ≡ false
  pub comp : test (lexeme.Keyword k.Comp) ≡ false
  pub name : (name : List ℕ) → test (lexeme.Name name) ≡ false

begun_by : {test : Lexeme → Bool} → SparesItems test → (q : Item-F Item Body) → Begun test (item_pieces (roll-Item q))
begun_by h (layer.Move x y z) = begun_as (ap item_pieces (rolls-Move x y z) ∙ move_layer x y z) (begun_token h.move)
begun_by h (layer.Resize x y z) = begun_as (ap item_pieces (rolls-Resize x y z) ∙ resize_layer x y z) (begun_token h.resize)
begun_by h (layer.Rotate a by) = begun_as (ap item_pieces (rolls-Rotate a by) ∙ rotate_layer a by) (begun_token (h.rotate a))
begun_by h (layer.Scoped items) = begun_as (ap item_pieces (rolls-Scoped items) ∙ scoped_layer items) (begun_token h.scoped)
begun_by h (layer.Solid p) = begun_as (ap item_pieces (rolls-Solid p) ∙ solid_layer p) (begun_token h.solid)
begun_by h (layer.Subdiv a sizes bodies) = begun_as (ap item_pieces (rolls-Subdiv a sizes bodies) ∙ subdiv_layer a sizes bodies) (begun_token h.subdiv)
begun_by h (layer.Repeat a e body) = begun_as (ap item_pieces (rolls-Repeat a e body) ∙ repeat_layer a e body) (begun_token h.«repeat»)
begun_by h (layer.Comp x body) = begun_as (ap item_pieces (rolls-Comp x body) ∙ comp_layer x body) (begun_token h.comp)
begun_by h (layer.Child name args) = begun_as (ap item_pieces (rolls-Child name args) ∙ child_layer name args) (begun_named name (h.name name))

pub item_begun : {test : Lexeme → Bool} → SparesItems test → (a : Item) → Begun test (item_pieces a)
item_begun {test} h a = subst (λ z. Begun test (item_pieces z)) (roll-out-Item a) (begun_by h (out-Item a))

turn_starts : (a : Axis) → g.begins_item (lexeme.Keyword (turn_keyword a)) ≡ true
turn_starts axis.X = refl
turn_starts axis.Y = refl
turn_starts axis.Z = refl

starts_by : (q : Item-F Item Body) → Starts g.begins_item (item_pieces (roll-Item q))
starts_by (layer.Move x y z) = starts_as (ap item_pieces (rolls-Move x y z) ∙ move_layer x y z) (starts_token refl)
starts_by (layer.Resize x y z) = starts_as (ap item_pieces (rolls-Resize x y z) ∙ resize_layer x y z) (starts_token refl)
starts_by (layer.Rotate a by) = starts_as (ap item_pieces (rolls-Rotate a by) ∙ rotate_layer a by) (starts_token (turn_starts a))
starts_by (layer.Scoped items) = starts_as (ap item_pieces (rolls-Scoped items) ∙ scoped_layer items) (starts_token refl)
starts_by (layer.Solid p) = starts_as (ap item_pieces (rolls-Solid p) ∙ solid_layer p) (starts_token refl)
starts_by (layer.Subdiv a sizes bodies) = starts_as (ap item_pieces (rolls-Subdiv a sizes bodies) ∙ subdiv_layer a sizes bodies) (starts_token refl)
starts_by (layer.Repeat a e body) = starts_as (ap item_pieces (rolls-Repeat a e body) ∙ repeat_layer a e body) (starts_token refl)
starts_by (layer.Comp x body) = starts_as (ap item_pieces (rolls-Comp x body) ∙ comp_layer x body) (starts_token refl)
starts_by (layer.Child name args) =
    starts_as (ap item_pieces (rolls-Child name args) ∙ child_layer name args) (starts_named name (λ e. ap (λ b. is_some (unless b (head.Child name))) e))

pub item_starts : (a : Item) → Starts g.begins_item (item_pieces a)
item_starts a = subst (λ z. Starts g.begins_item (item_pieces z)) (roll-out-Item a) (starts_by (out-Item a))

turn_no_bracket : (a : Axis) → with_bracket (lexeme.Keyword (turn_keyword a)) ≡ false
turn_no_bracket a = refl

pub bracket_spares : SparesItems with_bracket
bracket_spares = record { move = refl; resize = refl; rotate = turn_no_bracket; scoped = refl; solid = refl; subdiv = refl; «repeat» = refl; comp = refl; name = λ n. refl }

turn_no_nil : (a : Axis) → is_keyword k.Nil (lexeme.Keyword (turn_keyword a)) ≡ false
turn_no_nil axis.X = refl
turn_no_nil axis.Y = refl
turn_no_nil axis.Z = refl

pub nil_spares : SparesItems (is_keyword k.Nil)
nil_spares = record { move = refl; resize = refl; rotate = turn_no_nil; scoped = refl; solid = refl; subdiv = refl; «repeat» = refl; comp = refl; name = λ n. refl }
