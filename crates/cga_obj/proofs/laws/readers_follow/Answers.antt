use Rattle.cga_obj.proofs.DeltaReaders as readers
use Rattle.cga_obj.proofs.laws.readers_follow.Goals as goal

pub returns : goal.returns
returns c = readers.readers_follow
