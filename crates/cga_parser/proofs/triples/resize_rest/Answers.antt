use Rattle.std.proofs.Common.{rules}
use Rattle.cga_form.specs.Cursor.{input_of}
use Rattle.cga_parser.specs.Grammar.{inside_of, inner_item}
use Rattle.cga_parser.proofs.OneByOne.{resize_is}
use Rattle.cga_parser.proofs.triples.resize_rest.Goals as goal

pub returns : goal.returns
returns c = rw (resize_is c.args.depth (inside_of c.args.depth) (inner_item c.args.depth) (input_of c.args.tokens.now)) (search rules)

pub returns-in_err-enter : goal.returns-in_err-enter
returns-in_err-enter c = rw (resize_is c.args.depth (inside_of c.args.depth) (inner_item c.args.depth) (input_of c.args.tokens.now)) (search rules)

pub returns-in_err-x : goal.returns-in_err-x
returns-in_err-x c = rw (resize_is c.args.depth (inside_of c.args.depth) (inner_item c.args.depth) (input_of c.args.tokens.now)) (search rules)

pub returns-in_err-x-2 : goal.returns-in_err-x-2
returns-in_err-x-2 c = rw (resize_is c.args.depth (inside_of c.args.depth) (inner_item c.args.depth) (input_of c.args.tokens.now)) (search rules)

pub returns-in_err-x-3 : goal.returns-in_err-x-3
returns-in_err-x-3 c = rw (resize_is c.args.depth (inside_of c.args.depth) (inner_item c.args.depth) (input_of c.args.tokens.now)) (search rules)
