-- What a line outside a block does.
use Rattle.std.proofs.Common.{◌≡◌, ℕ, ◌+◌, ◌∙◌, ap, sym, subst, Bool, true, false, not, ◌&&◌, Result, Ok, Err, refl, Option, Some, None, List, [], ◌∷◌, length}
use Rattle.std.specs.Prelude.{if◌then◌else◌, IfOk}
use Rattle.cga_lexer.specs.Line.{Lexed, tokens_of}
use Rattle.cga_form.specs.Limits.{most_open}
use Rattle.cga_form.specs.Lines.{Line, is_long}
use Rattle.cga_form.specs.Parts.{finish}
use Rattle.cga_form.specs.declared.line_fault.LineFault.{LineFault}
use Rattle.cga_form.specs.declared.line_fault.LineFault.TheVariants.{LineTooLong}
use Rattle.cga_script.specs.Commands.{CommandTells, command}
use Rattle.cga_script.specs.Ends.{are_none, are_version, is_blank_line, is_end_line, is_version_line}
use Rattle.cga_script.specs.declared.script_command.ScriptCommand.{ScriptCommand}
use Rattle.cga_script.specs.declared.script_command.ScriptCommand.TheVariants.{Blank}
use Rattle.cga_script.specs.declared.version.Version.{Version}
use Rattle.cga_top.specs.State.{Block, State}
use Rattle.cga_top.specs.Session.{IsAt, IsOpen, IsOpenAs, Did}
use Rattle.cga_top.specs.declared.open_block.OpenBlock.{OpenBlock}
use Rattle.cga_top.specs.declared.session.Session.{Session}
use Rattle.cga_top.specs.Effect.{Effect, silent}
use Rattle.cga_top.specs.Replies.{outside, asked, second, in_block, ended, opened, with_line, effect, effect_by}
use Rattle.cga_top.specs.Told.{command_of, line_told, told_of}
use Rattle.cga_top.specs.Written.{AsksWritten}
use Rattle.cga_top.proofs.Asks.{command_is, asks_written}
use Rattle.cga_fraction.proofs.Door.{not-and_parts as both, and-false as no_version}

by_test : (b c : Bool) (s : State) (line : Line) → b ≡ c
    → (if b then second s else asked s (command_of s.version line)) ≡
    (if c then second s else asked s (command_of s.version line))
by_test b c s line e = ap (λ (t : Bool). if t then second s else asked s (command_of s.version line)) e

pub outside_second : (s : State) (line : Line) (told : Bool) → told ≡ (s.fresh && is_version_line line) → told ≡ true
    → outside s line ≡ second s
outside_second s line told e is = by_test (s.fresh && is_version_line line) true s line (sym e ∙ is)

pub outside_asked : (s : State) (line : Line) (told : Bool) (version : Version) (found : Result ScriptCommand LineFault)
    → told ≡ (s.fresh && is_version_line line) → told ≡ false → version ≡ s.version → CommandTells version line found
    → outside s line ≡ asked s found
outside_asked s line told version found e isnt v h =
    by_test (s.fresh && is_version_line line) false s line (sym e ∙ isnt) ∙ ap (λ (w : Version). asked s (command_of w line)) (sym v) ∙ ap (asked s) (sym (command_is version line found h))

pub command_written : (version : Version) (line : Line) (found : Result ScriptCommand LineFault)
    → CommandTells version line found → IfOk found AsksWritten
command_written version line (Ok command) h = asks_written version line command h
command_written version line (Err fault) h = tt

-- ---- by the block that is open

pub none_open : (b : Option Block) → IsOpen b None → b ≡ None
none_open None h = refl
none_open (Some x) h = absurd h

pub some_open : (b : Option Block) (reader : OpenBlock) → IsOpen b (Some reader)
    → (x : Block) × (b ≡ Some x) × IsOpenAs x reader
some_open None reader h = absurd h
some_open (Some x) reader h = (x, refl, h)

pub effect_none : (s : State) (line : Line) → s.block ≡ None → effect s line ≡ outside s line
unfolding effect
effect_none s line e = ap (λ (b : Option Block). effect_by b s line) e

ended_by : (b : Bool) (s : State) (x : Block) (line : Line) → is_end_line line ≡ b
    → in_block s x line ≡ (if b then ended (record s { block = None }) x else opened s (with_line x line))
ended_by b s x line e = ap (λ (t : Bool). if t then ended (record s { block = None }) x else opened s (with_line x line)) e

pub effect_end : (s : State) (x : Block) (line : Line) → s.block ≡ Some x → is_end_line line ≡ true
    → effect s line ≡ ended (record s { block = None }) x
unfolding effect
effect_end s x line e f = ap (λ (b : Option Block). effect_by b s line) e ∙ ended_by true s x line f

pub effect_line : (s : State) (x : Block) (line : Line) → s.block ≡ Some x → is_end_line line ≡ false
    → effect s line ≡ opened s (with_line x line)
unfolding effect
effect_line s x line e f = ap (λ (b : Option Block). effect_by b s line) e ∙ ended_by false s x line f

-- the block was taken
pub closed_at : (s : State) (old : Session) (mid : Option OpenBlock) → IsAt s old → mid ≡ None
    → IsAt (record s { block = None }) (record old { block = mid })
closed_at s old mid at e = record {
  decimals = at.decimals;
  fresh = at.fresh;
  version = at.version;
  sources = at.sources;
  budget = at.budget;
  warm = at.warm;
  kept = at.kept;
  number = at.number;
  block = subst (IsOpen None) (sym e) tt;
  quiet = at.quiet;
  wardrobe = at.wardrobe;
}

pub none_at : (s : State) (old : Session) (mid : Option OpenBlock) → IsAt s old → s.block ≡ None → mid ≡ None
    → IsAt s (record old { block = mid })
none_at s old mid at b e = subst (λ (t : State). IsAt t (record old { block = mid })) (ap (λ (x : Option Block). record s { block = x }) (sym b)) (closed_at s old mid at e)

pub line_did : (s : State) (old : Session) (x : Block) (line : Line) (new : OpenBlock) (reply : List ℕ) (n : ℕ)
    → IsAt s old → s.block ≡ Some x → is_end_line line ≡ false → IsOpenAs (with_line x line) new → reply ≡ []
    → Did (effect s line) old.city.changes (record old { block = Some new }) reply n n
line_did s old x line new reply n at b e is none =
    subst (λ (t : Effect). Did t old.city.changes (record old { block = Some new }) reply n n) (sym (effect_line s x line b e))
    (record {
      is_at = record {
        decimals = at.decimals;
        fresh = at.fresh;
        version = at.version;
        sources = at.sources;
        budget = at.budget;
        warm = at.warm;
        kept = at.kept;
        number = at.number;
        block = is;
        quiet = at.quiet;
        wardrobe = at.wardrobe;
      };
      reply = none;
      spent = refl;
      changed = λ e. e;
    })

-- ---- a blank line

no_tokens : (found : Lexed) → are_none found ≡ true → found ≡ Ok []
no_tokens (Ok []) e = refl
no_tokens (Ok (t ∷ ts)) e = absurd (let q : false ≡ true = e in cc)
no_tokens (Err f) e = absurd (let q : false ≡ true = e in cc)

reads_blank : (v : Version) (end : ℕ) → told_of (command v most_open) end (Ok []) ≡ Ok Blank
unfolding command finish
reads_blank v end = refl

tells_blank : (v : Version) (line : Line) → is_long line ≡ false → tokens_of line.bytes ≡ Ok []
    → command_of v line ≡ Ok Blank
unfolding line_told
tells_blank v line short none =
    ap (λ (b : Bool). if b then Err LineTooLong else told_of (command v most_open) (length line.bytes + 1) (tokens_of line.bytes)) short
    ∙ ap (told_of (command v most_open) (length line.bytes + 1)) none ∙ reads_blank v (length line.bytes + 1)

-- outside of a block it does nothing
pub effect_blank : (s : State) (line : Line) → s.block ≡ None → is_blank_line line ≡ true → effect s line ≡ silent s
effect_blank s line none blank =
    let p = both (is_long line) (are_none (tokens_of line.bytes)) blank in
    let empty = no_tokens (tokens_of line.bytes) p.1 in
    let first : is_version_line line ≡ false = ap (λ (b : Bool). not b && are_version (tokens_of line.bytes)) p.0 ∙ ap are_version empty in
    let test : (s.fresh && is_version_line line) ≡ false = ap (λ (b : Bool). s.fresh && b) first ∙ no_version s.fresh in
    effect_none s line none ∙ by_test (s.fresh && is_version_line line) false s line test ∙ ap (asked s) (tells_blank s.version line p.0 empty)
