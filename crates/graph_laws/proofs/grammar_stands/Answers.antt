use Rattle.graph_laws.proofs.Only.{takes_nothing_else}
use Rattle.graph_laws.proofs.Takes.{takes_graph_files}
use Rattle.graph_laws.proofs.grammar_stands.Goals as goal

pub returns : goal.returns
returns c = record { takes_graph_files = takes_graph_files; takes_nothing_else = takes_nothing_else }
