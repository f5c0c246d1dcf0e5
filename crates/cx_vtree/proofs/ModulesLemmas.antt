-- Facts of what `Modules` defines, that several crates above take.
use Rattle.std.proofs.Common.{◌≡◌, suc, List, [], ◌∷◌, map, length, refl, ap}
use Rattle.cx_vtree.specs.declared.modules.ModulePort.{ModulePort}
use Rattle.cx_vtree.specs.PlainParts.{plain_port}

pub ports-length : (ports : List ModulePort) → length (map (λ p. p.name) (map plain_port ports)) ≡ length ports
ports-length [] = refl
ports-length (p ∷ ps) = ap suc (ports-length ps)
