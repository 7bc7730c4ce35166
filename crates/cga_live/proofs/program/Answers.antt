use Rattle.std.proofs.Common.{◌≡◌, ◌∙◌, map, string_bytes}
use Rattle.std.specs.Vec.Iter.{into_iter_items}
use Rattle.cga_live.proofs.Wanting.{wanting}
use Rattle.cga_live.specs.Program.{IsEnd}
use Rattle.cga_top.specs.Outside.{outside_of}
use Rattle.cga_words.proofs.Door.{if_ok, of_words, zero_is_done}
use Rattle.cga_words.specs.Exits.{line_in}
use Rattle.cga_live.proofs.program.Goals as goal

pub returns-in-Ok-clause-given : goal.returns-in-Ok-clause-given
returns-in-Ok-clause-given g c =
    let r = c.run-status.ensures in
    let e = c.exit_of.ensures in
    let same : c.as_slice-texts.result.now ≡ c.in-Ok.words.items = c.as_slice-texts.ensures.value in
    let old = outside_of g.S.Source g.K.Sink c.args.script.now c.args.out.now c.args.expansions.now in
    let new = outside_of g.S.Source g.K.Sink c.run-status.new.script c.run-status.new.out c.run-status.new.expansions in
    let exit = c.exit_of.result in
    let done = zero_is_done c.run-status.result exit.status e.status in
    of_words (λ words. IsEnd (map string_bytes words) old new exit.status (line_in exit))
    (λ given. into_iter_items given) c.args.found c.as_slice-texts.result.now
    (if_ok c.args.found c.in-Ok.ensures.given (λ given is. same ∙ is))
    (record {
      status = c.run-status.result;
      number_is = e.status;
      line_is = e.line;
      means = r.means;
      given = λ zero. r.given (done zero);
      headline = λ zero. r.headline (done zero);
      usage = r.usage;
      refused = r.refused;
      alone = r.alone;
      complete = r.complete;
    })

pub returns-in-Err-clause-given : goal.returns-in-Err-clause-given
returns-in-Err-clause-given g c =
    if_ok c.args.found c.in-Err.ensures.given (λ given exit. wanting (map string_bytes (into_iter_items given)) _ _ _ exit.0 exit.1)
