use Rattle.std.proofs.Common.{[], ap}
use Rattle.cga_script.specs.Lines.{cut}
use Rattle.cga_script.specs.Pending.{Pending}
use Rattle.cga_top.proofs.Given.{given_lived, none_kept, rest_kept, some_given}
use Rattle.cga_top.proofs.Reading.{is_part}
use Rattle.cga_top.proofs.Silent.{nothing_told, writes_all, writes_some}
use Rattle.cga_top.proofs.WholeScript.{says_all, says_some}
use Rattle.cga_top.proofs.top.take_all.Goals as goal

pub take_piece-requires-clause-part : goal.take_piece-requires-clause-part
take_piece-requires-clause-part g c = is_part [] c.args.lines.now c.requires.lines

pub returns-in-Err-clause-err : goal.returns-in-Err-clause-err
returns-in-Err-clause-err g c =
    some_given _ c.args.lines.now.kept c.args.script.now _ _ (none_kept c.args.lines.now c.requires.lines) (c.in-Err.ensures.err _ c.requires.session)

pub returns-in-Ok-end_script-clause-ok : goal.returns-in-Ok-end_script-clause-ok
returns-in-Ok-end_script-clause-ok g c =
    let bytes = c.args.script.now in
    let none = none_kept c.args.lines.now c.requires.lines in
    let first = given_lived c.args.session.now.decimals c.args.lines.now.kept bytes _ _ _ _ _ none (c.in-Ok.ensures.ok _ c.requires.session) in
    let kept = rest_kept c.args.lines.now.kept bytes _ none (ap (λ (p : Pending). p.kept) c.in-Ok.ensures.lines) in
    writes_all _ bytes _ _ (says_all nothing_told _ bytes _ _ _ _ _ _ _ _ first (c.in-Ok-end_script.ensures.ok _ (cut bytes).rest first.here kept)).0

pub returns-in-Ok-end_script-clause-spent : goal.returns-in-Ok-end_script-clause-spent
returns-in-Ok-end_script-clause-spent g c =
    let bytes = c.args.script.now in
    let none = none_kept c.args.lines.now c.requires.lines in
    let first = given_lived c.args.session.now.decimals c.args.lines.now.kept bytes _ _ _ _ _ none (c.in-Ok.ensures.ok _ c.requires.session) in
    let kept = rest_kept c.args.lines.now.kept bytes _ none (ap (λ (p : Pending). p.kept) c.in-Ok.ensures.lines) in
    (says_all nothing_told _ bytes _ _ _ _ _ _ _ _ first (c.in-Ok-end_script.ensures.ok _ (cut bytes).rest first.here kept)).1

pub returns-in-Err-end_script-clause-err : goal.returns-in-Err-end_script-clause-err
returns-in-Err-end_script-clause-err g c =
    let bytes = c.args.script.now in
    let none = none_kept c.args.lines.now c.requires.lines in
    let first = given_lived c.args.session.now.decimals c.args.lines.now.kept bytes _ _ _ _ _ none (c.in-Ok.ensures.ok _ c.requires.session) in
    let kept = rest_kept c.args.lines.now.kept bytes _ none (ap (λ (p : Pending). p.kept) c.in-Ok.ensures.lines) in
    writes_some _ bytes _ _ (says_some nothing_told _ bytes _ _ _ _ _ _ first (c.in-Err-end_script.ensures.err _ (cut bytes).rest first.here kept))
