-- Facts of what `NetTree` defines, that several crates above take.
use Rattle.std.proofs.Common.{◌≡◌, ℕ, zero, suc, ap}
use Rattle.cx_meaning.specs.Instances.{Path}
use Rattle.cx_net.specs.NetTree.{NetInstance, NetCells, no_net_cells, a_row, a_child, AChild, net_cell_at}
use Rattle.cx_net.specs.NetMeaning.{Node, is_node, is_node_below}

-- WHAT STANDS AT A CELL of a net
pub at_child : (cells : NetCells) (c : ℕ) (child : NetInstance) → net_cell_at cells c ≡ AChild child → (q : Path) (n : Node) → is_node_below cells c q n ≡ is_node child q n
at_child no_net_cells c child is q n = absurd cc
at_child (a_row row rest) zero child is q n = absurd cc
at_child (a_row row rest) (suc c) child is q n = at_child rest c child is q n
at_child (a_child kid rest) zero child is q n = let f : kid ≡ child = cc in ap (λ z. is_node z q n) f
at_child (a_child kid rest) (suc c) child is q n = at_child rest c child is q n
