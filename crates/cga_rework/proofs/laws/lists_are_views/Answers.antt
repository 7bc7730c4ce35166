use Rattle.cga_rework.proofs.Views as proof
use Rattle.cga_rework.proofs.laws.lists_are_views.Goals as goal

pub returns : goal.returns
returns g c = proof.lists_are_views
