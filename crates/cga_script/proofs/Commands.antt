-- The commands of both versions are forms.
use Rattle.std.proofs.Common.{◌≡◌, ℕ, ◌∷◌, [], List, Bool, true, false, Option, Some, None, is_some, refl, ap, codes}
use Rattle.cga_lexer.specs.declared.sign.Sign.TheVariants as s
use Rattle.cga_syntax.specs.declared.lexeme.Lexeme.{Lexeme}
use Rattle.cga_syntax.specs.declared.print.space.Space.TheVariants.{Usual}
use Rattle.cga_syntax.specs.Pieces.{Pieces, word, rule_pieces}
use Rattle.cga_form.specs.Laws.{IsForm, Leads, Again}
use Rattle.cga_form.specs.Parts.{any}
use Rattle.cga_form.specs.Tokens.{is_word, a_sign, a_name, a_whole}
use Rattle.cga_form.proofs.Door.{after, begun_token, by_name, done, either, ends, missed, misses_end, name_read}
use Rattle.cga_form.proofs.Door.{name_token, never_leads, next, one_token, peek_no, peek_yes, plainly, sign_token}
use Rattle.cga_form.proofs.Door.{starts_token, took, value_again, value_pieces, value_reads, whole_leads, whole_token}
use Rattle.cga_form.specs.Laws.{Goes, Reads}
use Rattle.cga_parser.proofs.Door.{rule_again, rule_reads}
use Rattle.cga_shape.specs.declared.lot.Lot.{Lot}
use Rattle.cga_word.specs.declared.mode.Mode.{Mode}
use Rattle.cga_shape.specs.declared.edit.Edit.{Edit}
use Rattle.cga_shape.specs.declared.edit.Edit.TheVariants as edit
use Rattle.cga_script.specs.declared.heads.CommandHead.{CommandHead}
use Rattle.cga_script.specs.declared.heads.CommandHead.TheVariants as head
use Rattle.cga_script.specs.declared.heads.FurtherHead.{FurtherHead}
use Rattle.cga_script.specs.declared.heads.FurtherHead.TheVariants as further
use Rattle.cga_script.specs.declared.script_command.ScriptCommand.{ScriptCommand}
use Rattle.cga_script.specs.declared.script_command.ScriptCommand.TheVariants as c
use Rattle.cga_script.specs.declared.version.Version.{Version}
use Rattle.cga_script.specs.declared.version.Version.TheVariants.{One, Two}
use Rattle.cga_script.specs.Heads.{head_word, a_head, further_word, a_further, is_further}
use Rattle.cga_script.specs.Commands.{maybe_named, maybe_name, in_two, edit_pieces, command_pieces, command_rest, further_rest, first_command, second_command, by_version, command}
use Rattle.cga_script.specs.Lots.{lot_pieces}
use Rattle.cga_script.specs.Orders.{order_pieces}
use Rattle.cga_script.proofs.HeadWords.{head_token, head_is, further_token, further_is}
use Rattle.cga_script.proofs.Lots.{lot_form}
use Rattle.cga_script.proofs.Orders.{order_form}

-- ---- what is written so is read

maybe_reads : (n : ℕ) → Reads n n maybe_named maybe_name
unfolding maybe_name
maybe_reads n = either any (next (one_token (name_token n)) (λ x. done refl)) (done refl)

rest_goes : (v : Version) (n : ℕ) (h : CommandHead)
    → Goes n n (word (head_word h) ∷ []) (command_pieces v) (command_rest n h)
rest_goes v n head.Rules = done refl
rest_goes v n head.Put = next (one_token (whole_token 0 65535 n refl)) (λ p. next (rule_reads n) (λ r. done refl))
rest_goes v n head.Drop = next (one_token (whole_token 1 999999 n refl)) (λ i. done refl)
rest_goes v n head.Attribute = next (one_token (name_token n)) (λ x. next (one_token (sign_token Usual s.Assign n n refl refl)) (λ u. next (value_reads n) (λ a. done refl)))
rest_goes v n head.Priority = next (one_token (name_token n)) (λ x. next (one_token (whole_token 0 65535 n refl)) (λ p. done refl))
rest_goes v n head.Unlot = next (one_token (name_token n)) (λ x. done refl)
rest_goes v n head.Print = next (maybe_reads n) (λ x. done refl)
rest_goes v n head.Faults = done refl
rest_goes v n head.Grammar = done refl
rest_goes v n head.Stats = done refl
rest_goes v n head.Quiet = done refl

further_goes : (n : ℕ) (h : FurtherHead) → Goes n n (word (further_word h) ∷ []) (command_pieces Two) (further_rest h)
further_goes n further.City = done refl
further_goes n further.Dump = done refl
further_goes n further.Asset = next (one_token (name_token n)) (λ x. done refl)
further_goes n further.Dress = next (one_token (name_token n)) (λ x. next (one_token (name_token n)) (λ y. done refl))
further_goes n further.Undress = next (one_token (name_token n)) (λ x. done refl)
further_goes n further.Model = next (maybe_reads n) (λ x. done refl)
further_goes n further.Bill = done refl
further_goes n further.Undo = done refl
further_goes n further.Redo = done refl
further_goes n further.Trace = done refl
further_goes n further.Judge = done refl

first_reads : (v : Version) (n : ℕ) → Reads n n (command_pieces v) (first_command n)
unfolding first_command
first_reads v n = either (is_word (codes "lot")) (next (lot_form.exact n) (λ l. done refl)) (next (one_token (head_token n)) (rest_goes v n))

second_reads : (n : ℕ) → Reads n n (command_pieces Two) (second_command n)
unfolding second_command
second_reads n =
    either (is_word (codes "order")) (next (order_form.exact n) (λ m. done refl))
    (either is_further (next (one_token (further_token n)) (further_goes n)) (first_reads Two n))

version_reads : (v : Version) (n : ℕ) → Reads n n (command_pieces v) (by_version v n)
version_reads One n = first_reads One n
version_reads Two n = second_reads n

command_reads : (v : Version) (n : ℕ) → Reads n n (command_pieces v) (command v n)
unfolding command
command_reads v n = either any (version_reads v n) (done refl)

-- ---- it is read as what was written

pub no_more : (test : Lexeme → Bool) (l : Lexeme) → any l ≡ false → test l ≡ false
no_more test l e = absurd (let q : true ≡ false = e in cc)

maybe_at : (x : Option (List ℕ)) → Leads any (maybe_named x) maybe_name x
unfolding maybe_name
maybe_at None = peek_no any (misses_end (λ l e. e)) ends
maybe_at (Some x) = by_name x (λ e. peek_yes any (starts_token refl) (took a_name x (name_read x e) ends))

maybe_again : Again maybe_named any maybe_name
maybe_again = record { all = maybe_at }

first_at : (n : ℕ) (h : CommandHead) {b : ScriptCommand} {qs : Pieces} → Leads any qs (command_rest n h) b
    → Leads any (word (head_word h) ∷ qs) (first_command n) b
unfolding first_command
first_at n h rest = peek_no (is_word (codes "lot")) (missed (begun_token (head_is h).no_lot)) (took a_head h (head_is h).read rest)

second_at : (n : ℕ) (h : CommandHead) {b : ScriptCommand} {qs : Pieces} → Leads any qs (command_rest n h) b
    → Leads any (word (head_word h) ∷ qs) (second_command n) b
unfolding second_command
second_at n h rest =
    peek_no (is_word (codes "order")) (missed (begun_token (head_is h).no_order)) (peek_no is_further (missed (begun_token (head_is h).no_further)) (first_at n h rest))

version_at : (v : Version) (n : ℕ) (h : CommandHead) {b : ScriptCommand} {qs : Pieces}
    → Leads any qs (command_rest n h) b → Leads any (word (head_word h) ∷ qs) (by_version v n) b
version_at One n h rest = first_at n h rest
version_at Two n h rest = second_at n h rest

-- a command of both versions
by_head : (v : Version) (n : ℕ) (h : CommandHead) {b : ScriptCommand} {qs : Pieces} → Leads any qs (command_rest n h) b
    → Leads any (word (head_word h) ∷ qs) (command v n) b
unfolding command
by_head v n h rest = peek_yes any (starts_token refl) (version_at v n h rest)

-- a command of version 2 alone
by_further : (v : Version) (n : ℕ) (h : FurtherHead) {b : ScriptCommand} {qs : Pieces} → Leads any qs (further_rest h) b
    → Leads any (in_two v (word (further_word h) ∷ qs)) (command v n) b
unfolding command second_command
by_further One n h rest = never_leads
by_further Two n h rest =
    peek_yes any (starts_token refl)
    (peek_no (is_word (codes "order")) (missed (begun_token (further_is h).no_order)) (peek_yes is_further (starts_token (ap is_some (further_is h).read)) (took a_further h (further_is h).read rest)))

lot_first : (n : ℕ) (l : Lot) → Leads any (lot_pieces l) (first_command n) (c.Change (edit.SetLot l))
unfolding first_command
lot_first n l = peek_yes (is_word (codes "lot")) (starts_token refl) (plainly (after {v = lot_pieces} _ l (lot_form.again n) (misses_end (no_more _)) ends))

lot_second : (n : ℕ) (l : Lot) → Leads any (lot_pieces l) (second_command n) (c.Change (edit.SetLot l))
unfolding second_command
lot_second n l = peek_no (is_word (codes "order")) (missed (begun_token refl)) (peek_no is_further (missed (begun_token refl)) (lot_first n l))

lot_at : (v : Version) (n : ℕ) (l : Lot) → Leads any (lot_pieces l) (command v n) (c.Change (edit.SetLot l))
unfolding command
lot_at One n l = peek_yes any (starts_token refl) (lot_first n l)
lot_at Two n l = peek_yes any (starts_token refl) (lot_second n l)

order_at : (v : Version) (n : ℕ) (m : Mode)
    → Leads any (in_two v (order_pieces m)) (command v n) (c.Change (edit.SetOrder m))
unfolding command second_command
order_at One n m = never_leads
order_at Two n m = peek_yes any (starts_token refl) (peek_yes (is_word (codes "order")) (starts_token refl) (plainly (after {v = order_pieces} _ m (order_form.again n) (misses_end (no_more _)) ends)))

edit_at : (v : Version) (n : ℕ) (e : Edit) → Leads any (edit_pieces v e) (command v n) (c.Change e)
edit_at v n (edit.Rules g) = never_leads
edit_at v n (edit.Put p r) =
    by_head v n head.Put (whole_leads 0 65535 p (λ e. took (a_whole 0 65535) p e (plainly (after {v = rule_pieces} _ r (rule_again n) (misses_end (no_more _)) ends))))
edit_at v n (edit.Drop i) = by_head v n head.Drop (whole_leads 1 999999 i (λ e. took (a_whole 1 999999) i e ends))
edit_at v n (edit.SetAttribute x a) =
    by_head v n head.Attribute (by_name x (λ e. took a_name x (name_read x e)
    (took (a_sign s.Assign) tt refl (plainly (after {v = value_pieces} _ a value_again (misses_end (no_more _)) ends)))))
edit_at v n (edit.SetPriority x p) =
    by_head v n head.Priority (by_name x (λ e. took a_name x (name_read x e) (whole_leads 0 65535 p (λ q. took (a_whole 0 65535) p q ends))))
edit_at v n (edit.SetLot l) = lot_at v n l
edit_at v n (edit.Unlot x) = by_head v n head.Unlot (by_name x (λ e. took a_name x (name_read x e) ends))
edit_at v n (edit.SetOrder m) = order_at v n m
edit_at v n (edit.Whole w) = never_leads

blank_at : (v : Version) (n : ℕ) → Leads any [] (command v n) c.Blank
unfolding command
blank_at v n = peek_no any (misses_end (λ l e. e)) ends

command_at : (v : Version) (n : ℕ) (a : ScriptCommand) → Leads any (command_pieces v a) (command v n) a
command_at v n c.Blank = blank_at v n
command_at v n c.Rules = by_head v n head.Rules ends
command_at v n (c.Change e) = edit_at v n e
command_at v n (c.Print x) = by_head v n head.Print (plainly (after {v = maybe_named} _ x maybe_again (misses_end (no_more _)) ends))
command_at v n c.Faults = by_head v n head.Faults ends
command_at v n c.Grammar = by_head v n head.Grammar ends
command_at v n c.Stats = by_head v n head.Stats ends
command_at v n c.Quiet = by_head v n head.Quiet ends
command_at v n c.CityBlock = by_further v n further.City ends
command_at v n c.Dump = by_further v n further.Dump ends
command_at v n (c.AssetBlock x) = by_further v n further.Asset (by_name x (λ e. took a_name x (name_read x e) ends))
command_at v n (c.Dress x y) = by_further v n further.Dress (by_name x (λ e. took a_name x (name_read x e) (by_name y (λ q. took a_name y (name_read y q) ends))))
command_at v n (c.Undress x) = by_further v n further.Undress (by_name x (λ e. took a_name x (name_read x e) ends))
command_at v n (c.Model x) = by_further v n further.Model (plainly (after {v = maybe_named} _ x maybe_again (misses_end (no_more _)) ends))
command_at v n c.Bill = by_further v n further.Bill ends
command_at v n c.Undo = by_further v n further.Undo ends
command_at v n c.Redo = by_further v n further.Redo ends
command_at v n c.Trace = by_further v n further.Trace ends
command_at v n c.JudgeBlock = by_further v n further.Judge ends

-- the commands of each version are a form
pub command_form : (v : Version) → IsForm (command_pieces v) (command v)
command_form v = record { follows = any; exact = command_reads v; again = λ n. record { all = command_at v n } }
