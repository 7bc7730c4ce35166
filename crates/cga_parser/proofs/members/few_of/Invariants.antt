use Rattle.std.proofs.Common.{◌≡◌, [], Bool}
use Rattle.cga_syntax.specs.declared.lexeme.Lexeme.{Lexeme}
use Rattle.cga_form.specs.Cursor.{input_of, Reads}
use Rattle.cga_form.specs.Reader.{Reader, begins, many_from}
use Rattle.cga_parser.proofs.members.few_of.Given as goal

abbrev pub invariant-members : goal.invariant-members
invariant-members g l = (test : Lexeme → Bool) (p : Reader _) → ((x : _) (r : _) → goal.C-post g l.comes x r → r ≡ begins test (input_of x.now).left) → ((x : _) (r : _) (y : _) → goal.M-post g l.member x r y → Reads (p (input_of x.now)) r (input_of y.now)) → many_from test p l.fn.most [] (input_of l.fn.tokens) ≡ many_from test p l.turns l.list (input_of l.tokens)

abbrev pub decreases-members : goal.decreases-members
decreases-members g l = l.turns
