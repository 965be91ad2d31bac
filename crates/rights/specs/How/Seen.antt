-- The nodes that are given by their numbers.
use Rattle.rights.specs.Nodes.{Nodes}
use Rattle.rights.specs.How.Numbers.{view_of}
use Rattle.rights.specs.declared.nodes.Shown.{Shown}

abbrev pub nodes_in : Shown → Nodes
nodes_in s = view_of s.table.now s.numbers.now
