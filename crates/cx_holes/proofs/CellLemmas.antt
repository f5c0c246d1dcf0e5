-- The cells of a net stay as they are where its holes become wires.
use Rattle.std.proofs.Common.{◌≡◌, ℕ, zero, suc, List, [], ◌∷◌, map, get_or, refl}
use Rattle.cx_net.specs.Nets.{PlainNetComponent, PlainNet}
use Rattle.cx_net.specs.NetTree.{no_net_component, net_component_at}
use Rattle.cx_holes.specs.Inlining.{inlined_component, inlined}

cells-get : (parts : List PlainNetComponent) (k : ℕ) → (get_or (map inlined_component parts) k no_net_component).cells ≡ (get_or parts k no_net_component).cells
cells-get [] k = refl
cells-get (part ∷ parts) zero = refl
cells-get (part ∷ parts) (suc k) = cells-get parts k

-- the cells of a component
pub cells-inlined : (net : PlainNet) (k : ℕ) → (net_component_at (inlined net) k).cells ≡ (net_component_at net k).cells
cells-inlined net k = cells-get net.components k
