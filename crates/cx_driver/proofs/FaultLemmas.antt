-- A fault that is told by the number of its instance, as messages name it.
use Rattle.std.proofs.Common.{◌≡◌, ℕ, List, ap, ◌∙◌}
use Rattle.cx_meaning.specs.Cycles.{Fault}
use Rattle.cx_meaning.specs.Designs.{PlainDesign}
use Rattle.cx_meaning.specs.Instances.{tree_of}
use Rattle.cx_design.specs.declared.actives.PortFault.{PortFault}
use Rattle.cx_design.specs.PlainActives.{TellsFault}
use Rattle.cx_state.specs.Paths.{TellsPort}
use Rattle.cx_rules.specs.FullPaths.{full_path}
use Rattle.cx_compiler.specs.Interpreted.{fault_stop}
use Rattle.cx_commands.specs.declared.stops.Stop.TheVariants as stops

-- the port of a fault by its path
pub told_fault : (d : PlainDesign) (told : PortFault) (fault : Fault) (turn : ℕ) (name : List ℕ) → TellsFault (tree_of d) fault told → TellsPort (tree_of d) told.instance told.port name
    → stops.Fault told.kind name turn ≡ fault_stop d fault turn
told_fault d told fault turn name t tells =
    let path : name ≡ full_path (tree_of d) fault.path fault.port = tells fault.path t.instance ∙ ap (λ p. full_path (tree_of d) fault.path p) t.port in
    ap (λ k. stops.Fault k name turn) t.kind ∙ ap (λ p. stops.Fault fault.kind p turn) path
