use Rattle.corridor.proofs.Laws as law
use Rattle.corridor.proofs.corridor_laws_stand.Goals as goal

pub returns : goal.returns
returns c = record { laws = law.laws }
