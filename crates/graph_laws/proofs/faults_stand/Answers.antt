use Rattle.graph_laws.proofs.Front.{front_decides, names_line}
use Rattle.graph_laws.proofs.faults_stand.Goals as goal

pub returns : goal.returns
returns c = record { names_line = names_line; front_decides = front_decides }
