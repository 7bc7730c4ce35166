-- The lines of a block of a whole city are a form.
use Rattle.std.proofs.Common.{ℕ, refl, codes}
use Rattle.cga_rule.specs.declared.rule.Rule.{Rule}
use Rattle.cga_form.specs.Laws.{IsForm, Leads}
use Rattle.cga_form.specs.Parts.{any}
use Rattle.cga_form.specs.Tokens.{is_word}
use Rattle.cga_form.proofs.Door.{Begun, after, begun_token, done, either, ends, missed, misses_end, next, peek_no, peek_yes, plainly, starts_token}
use Rattle.cga_form.specs.Laws.{Reads}
use Rattle.cga_parser.proofs.Door.{block_form, rule_begun}
use Rattle.cga_parser.specs.Blocks.{block_pieces}
use Rattle.cga_parser.specs.declared.block_line.BlockLine.{BlockLine}
use Rattle.cga_parser.specs.declared.block_line.BlockLine.TheVariants as said
use Rattle.cga_script.specs.declared.city_line.CityLine.{CityLine}
use Rattle.cga_script.specs.declared.city_line.CityLine.TheVariants as line
use Rattle.cga_script.specs.CityLines.{city_pieces, city}
use Rattle.cga_script.specs.Lots.{lot_pieces}
use Rattle.cga_script.specs.Orders.{order_pieces}
use Rattle.cga_script.proofs.Commands.{no_more}
use Rattle.cga_script.proofs.Lots.{lot_form}
use Rattle.cga_script.proofs.Orders.{order_form}

city_reads : (n : ℕ) → Reads n n city_pieces (city n)
unfolding city
city_reads n =
    either (is_word (codes "lot")) (next (lot_form.exact n) (λ l. done refl))
    (either (is_word (codes "order")) (next (order_form.exact n) (λ m. done refl)) (next (block_form.exact n) (λ b. done refl)))

-- ---- a line of a block of rules is no lot and no order

no_lot : (b : BlockLine) → Begun (is_word (codes "lot")) (block_pieces b)
no_lot (said.Attribute a) = begun_token refl
no_lot (said.Priority p) = begun_token refl
no_lot (said.Rule r) = rule_begun r refl
no_lot said.End = begun_token refl

no_order : (b : BlockLine) → Begun (is_word (codes "order")) (block_pieces b)
no_order (said.Attribute a) = begun_token refl
no_order (said.Priority p) = begun_token refl
no_order (said.Rule r) = rule_begun r refl
no_order said.End = begun_token refl

city_at : (n : ℕ) (a : CityLine) → Leads any (city_pieces a) (city n) a
unfolding city
city_at n (line.Lot l) = peek_yes (is_word (codes "lot")) (starts_token refl) (plainly (after {v = lot_pieces} _ l (lot_form.again n) (misses_end (no_more _)) ends))
city_at n (line.Order m) =
    peek_no (is_word (codes "lot")) (missed (begun_token refl))
    (peek_yes (is_word (codes "order")) (starts_token refl) (plainly (after {v = order_pieces} _ m (order_form.again n) (misses_end (no_more _)) ends)))
city_at n (line.Block b) =
    peek_no (is_word (codes "lot")) (missed (no_lot b))
    (peek_no (is_word (codes "order")) (missed (no_order b)) (plainly (after {v = block_pieces} _ b (block_form.again n) (misses_end (no_more _)) ends)))

-- the lines of a block of a whole city are a form
pub city_form : IsForm city_pieces city
city_form = record { follows = any; exact = city_reads; again = λ n. record { all = city_at n } }
