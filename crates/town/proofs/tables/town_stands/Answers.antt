use Rattle.town.proofs.Working.{computed}
use Rattle.town.proofs.tables.town_stands.Goals as goal

pub returns : goal.returns
returns c = record { worked_out = computed }
