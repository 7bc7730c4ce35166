-- One layer of the pieces of a condition that is read.
use Rattle.std.proofs.Common.{◌≡◌, [], map}
use Rattle.cga_syntax.specs.declared.keyword.Keyword.TheVariants as k
use Rattle.cga_rule.specs.declared.cond.Cond.{Cond, out-Cond}
use Rattle.cga_rule.specs.declared.cond.Conj.{Conj, out-Conj}
use Rattle.cga_rule.specs.declared.cond.Test.TheFolds.{fold_out-Cond, fold_out-Conj}
use Rattle.cga_syntax.specs.Pieces.{Pieces, keyword, separated, cond_pieces, conj_pieces, test_pieces, cond_step, conj_step, test_step}

pub cond_out : (c : Cond) → cond_pieces c ≡ separated (keyword k.Or) (map conj_pieces (out-Cond c).conjs) []
unfolding cond_pieces conj_pieces
cond_out c = fold_out-Cond Pieces Pieces Pieces test_step cond_step conj_step c

pub conj_out : (c : Conj) → conj_pieces c ≡ separated (keyword k.And) (map test_pieces (out-Conj c).tests) []
unfolding conj_pieces test_pieces
conj_out c = fold_out-Conj Pieces Pieces Pieces test_step cond_step conj_step c
