-- The commands of a script: what each is written as, how it is read, and what a line tells.
use Rattle.std.specs.Prelude.{ℕ, List, [], ◌∷◌, Option, Some, None, Result, codes}
use Rattle.cga_lexer.specs.declared.sign.Sign.TheVariants as s
use Rattle.cga_syntax.specs.Limits.{last_id, last_priority}
use Rattle.cga_syntax.specs.Pieces.{Pieces, never, sign as signed, word, named, whole, valued, rule_pieces}
use Rattle.cga_form.specs.declared.line_fault.LineFault.{LineFault}
use Rattle.cga_form.specs.Lines.{Line, is_long}
use Rattle.cga_form.specs.LineTells.{by_length}
use Rattle.cga_form.specs.Parts.{any, sign, id, name, prio, value}
use Rattle.cga_form.specs.Reader.{Reader, ◌>>=◌, ◌>>◌, pure, single, peeked}
use Rattle.cga_form.specs.Tokens.{is_word}
use Rattle.cga_parser.specs.Grammar.{rule}
use Rattle.cga_shape.specs.declared.edit.Edit.{Edit}
use Rattle.cga_shape.specs.declared.edit.Edit.TheVariants as edit
use Rattle.cga_script.specs.declared.heads.CommandHead.{CommandHead}
use Rattle.cga_script.specs.declared.heads.CommandHead.TheVariants as head
use Rattle.cga_script.specs.declared.heads.FurtherHead.{FurtherHead}
use Rattle.cga_script.specs.declared.heads.FurtherHead.TheVariants as further
use Rattle.cga_script.specs.declared.script_command.ScriptCommand.{ScriptCommand}
use Rattle.cga_script.specs.declared.script_command.ScriptCommand.TheVariants as c
use Rattle.cga_script.specs.declared.version.Version.{Version}
use Rattle.cga_script.specs.declared.version.Version.TheVariants.{One, Two}
use Rattle.cga_script.specs.Heads.{a_head, a_further, is_further}
use Rattle.cga_script.specs.Lots.{lot_pieces, lot}
use Rattle.cga_script.specs.Orders.{order_pieces, order}

-- ---- what the commands are written as

-- a name, where there is one
abbrev pub maybe_named : Option (List ℕ) → Pieces
maybe_named None = []
maybe_named (Some x) = named x ∷ []

-- what version 1 doesn't have
abbrev pub in_two : Version → Pieces → Pieces
in_two One ps = never ∷ []
in_two Two ps = ps

-- an edit; no line is another grammar or other sources
abbrev pub edit_pieces : Version → Edit → Pieces
edit_pieces v (edit.Rules g) = never ∷ []
edit_pieces v (edit.Put p r) = word (codes "put") ∷ whole 0 last_priority p ∷ rule_pieces r
edit_pieces v (edit.Drop i) = word (codes "drop") ∷ whole 1 last_id i ∷ []
edit_pieces v (edit.SetAttribute x a) = word (codes "attr") ∷ named x ∷ signed s.Assign ∷ valued a ∷ []
edit_pieces v (edit.SetPriority x p) = word (codes "priority") ∷ named x ∷ whole 0 last_priority p ∷ []
edit_pieces v (edit.SetLot l) = lot_pieces l
edit_pieces v (edit.Unlot x) = word (codes "unlot") ∷ named x ∷ []
edit_pieces v (edit.SetOrder m) = in_two v (order_pieces m)
edit_pieces v (edit.Whole w) = never ∷ []

-- a command: its first word and its parts
abbrev pub command_pieces : Version → ScriptCommand → Pieces
command_pieces v c.Blank = []
command_pieces v c.Rules = word (codes "rules") ∷ []
command_pieces v (c.Change e) = edit_pieces v e
command_pieces v (c.Print x) = word (codes "print") ∷ maybe_named x
command_pieces v c.Faults = word (codes "faults") ∷ []
command_pieces v c.Grammar = word (codes "grammar") ∷ []
command_pieces v c.Stats = word (codes "stats") ∷ []
command_pieces v c.Quiet = word (codes "quiet") ∷ []
command_pieces v c.CityBlock = in_two v (word (codes "city") ∷ [])
command_pieces v c.Dump = in_two v (word (codes "dump") ∷ [])
command_pieces v (c.AssetBlock x) = in_two v (word (codes "asset") ∷ named x ∷ [])
command_pieces v (c.Dress x y) = in_two v (word (codes "dress") ∷ named x ∷ named y ∷ [])
command_pieces v (c.Undress x) = in_two v (word (codes "undress") ∷ named x ∷ [])
command_pieces v (c.Model x) = in_two v (word (codes "model") ∷ maybe_named x)
command_pieces v c.Bill = in_two v (word (codes "bill") ∷ [])
command_pieces v c.Undo = in_two v (word (codes "undo") ∷ [])
command_pieces v c.Redo = in_two v (word (codes "redo") ∷ [])
command_pieces v c.Trace = in_two v (word (codes "trace") ∷ [])
command_pieces v c.JudgeBlock = in_two v (word (codes "judge") ∷ [])

-- ---- what a line tells

-- that it is long, or its first bad byte, or the command that its tokens spell, or the first token with which they
-- begin none; a line without tokens is blank
abbrev pub CommandTells : Version → Line → Result ScriptCommand LineFault → Type 0
CommandTells v l told = by_length (command_pieces v) l.bytes (is_long l) told

-- ---- how the commands are read

unfoldable pub maybe_name : Reader (Option (List ℕ))
maybe_name = peeked any (name >>= λ x. pure (Some x)) (pure None)

-- after the first word, where so many brackets may be opened
abbrev pub command_rest : ℕ → CommandHead → Reader ScriptCommand
command_rest n head.Rules = pure c.Rules
command_rest n head.Put = prio >>= λ p. rule n >>= λ r. pure (c.Change (edit.Put p r))
command_rest n head.Drop = id >>= λ i. pure (c.Change (edit.Drop i))
command_rest n head.Attribute = name >>= λ x. sign s.Assign >> (value >>= λ a. pure (c.Change (edit.SetAttribute x a)))
command_rest n head.Priority = name >>= λ x. prio >>= λ p. pure (c.Change (edit.SetPriority x p))
command_rest n head.Unlot = name >>= λ x. pure (c.Change (edit.Unlot x))
command_rest n head.Print = maybe_name >>= λ x. pure (c.Print x)
command_rest n head.Faults = pure c.Faults
command_rest n head.Grammar = pure c.Grammar
command_rest n head.Stats = pure c.Stats
command_rest n head.Quiet = pure c.Quiet

abbrev pub further_rest : FurtherHead → Reader ScriptCommand
further_rest further.City = pure c.CityBlock
further_rest further.Dump = pure c.Dump
further_rest further.Asset = name >>= λ x. pure (c.AssetBlock x)
further_rest further.Dress = name >>= λ x. name >>= λ y. pure (c.Dress x y)
further_rest further.Undress = name >>= λ x. pure (c.Undress x)
further_rest further.Model = maybe_name >>= λ x. pure (c.Model x)
further_rest further.Bill = pure c.Bill
further_rest further.Undo = pure c.Undo
further_rest further.Redo = pure c.Redo
further_rest further.Trace = pure c.Trace
further_rest further.Judge = pure c.JudgeBlock

unfoldable pub first_command : ℕ → Reader ScriptCommand
first_command n = peeked (is_word (codes "lot")) (lot >>= λ l. pure (c.Change (edit.SetLot l))) (single a_head >>= command_rest n)

unfoldable pub second_command : ℕ → Reader ScriptCommand
second_command n = peeked (is_word (codes "order")) (order >>= λ m. pure (c.Change (edit.SetOrder m))) (peeked is_further (single a_further >>= further_rest) (first_command n))

abbrev pub by_version : Version → ℕ → Reader ScriptCommand
by_version One n = first_command n
by_version Two n = second_command n

-- a blank line, or a command
unfoldable pub command : Version → ℕ → Reader ScriptCommand
command v n = peeked any (by_version v n) (pure c.Blank)
