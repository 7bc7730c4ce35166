use Rattle.std.proofs.Common.{arith, length, refl, ◌/◌, Some}
use Rattle.std.proofs.lemmas.Option.{slice_get_read}
use Rattle.cga_kept_hulls.proofs.Held.{get_other, held_here, held_still, least_taken}
use Rattle.cga_kept_hulls.proofs.level.Level.join.Goals as goal

pub returns-clause-here : goal.returns-clause-here
returns-clause-here c =
    let not = c.if-entry-len.false in
    let n = c.len.ensures in rw c.with-wider.ensures (held_here c.args.self.now.hulls.items c.args.place c.index-2.result.now c.args.hulls.now (omega (arith, not, n)))

pub returns-clause-kept : goal.returns-clause-kept
returns-clause-kept c =
    rw c.with-wider.ensures (held_still c.args.self.now.hulls.items _ c.index-2.result.now c.args.hulls.now (slice_get_read c.args.self.now.hulls.items (length c.args.self.now.hulls.items) _ c.index-2.result.now refl (let not = c.if-entry-len.false in let n = c.len.ensures in omega (arith, not, n)) c.index-2.ensures))

pub returns-clause-least : goal.returns-clause-least
returns-clause-least c outer known more =
    let xs = c.args.self.now.hulls.items in
    let was = c.index-2.result.now in
    let not = c.if-entry-len.false in
    let n = c.len.ensures in
    let took = more c.args.hulls.now refl in
    let at = slice_get_read xs (length xs) _ was refl (omega (arith, not, n)) c.index-2.ensures in rw c.with-wider.ensures (least_taken xs _ was c.args.hulls.now outer at known took)

pub returns-clause-others : goal.returns-clause-others
returns-clause-others c entry apart = get_other c.args.self.now.hulls.items (c.args.place / 16) entry (Some c.with-wider.result) apart
