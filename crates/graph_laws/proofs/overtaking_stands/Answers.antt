use Rattle.graph_laws.proofs.Lowest.{loads_graph_files, loads_nothing_else, names_lowest_road}
use Rattle.graph_laws.proofs.overtaking_stands.Goals as goal

pub returns : goal.returns
returns c = record { loads_graph_files = loads_graph_files; loads_nothing_else = loads_nothing_else; names_lowest_road = names_lowest_road }
