use Rattle.std.proofs.Common.{map, sym}
use Rattle.std.proofs.Math.Path.{fun_ext}
use Rattle.cx_vtree.specs.InstanceTree.{declared_nets, declared_arrays}
use Rattle.cx_vtree.specs.PlainParts.{plain_port, plain_decl}
use Rattle.cx_vnets.proofs.CodeSteps.{numbered, numbered_after}
use Rattle.cx_vtree.proofs.ModulesLemmas.{ports-length}
use Rattle.cx_vnets.proofs.numbers.ModuleNumbers.new.Goals as goal

pub returns-clause-nets : goal.returns-clause-nets
returns-clause-nets c = fun_ext (λ q.
    numbered_after c.new-nets.result c.enter_ports.new.nets c.enter_nets.new.nets (map (λ p. p.name) (map plain_port c.args.ports.now)) (declared_nets (map plain_decl c.args.decls.now))
    _ q c.new-nets.ensures.empty (sym (ports-length c.args.ports.now)) (c.in_ok-enter_ports.ensures q) (c.in_ok-enter_nets.ensures q))

pub returns-clause-arrays : goal.returns-clause-arrays
returns-clause-arrays c = fun_ext (λ q.
    numbered c.new-arrays.result c.enter_arrays.new.arrays (declared_arrays (map plain_decl c.args.decls.now)) q c.new-arrays.ensures.empty (c.in_ok-enter_arrays.ensures q))
