use Rattle.cx_vtree.specs.InstanceTree.{instances_of, ports_at, decls_at}
use Rattle.cx_vlaws.proofs.Instances.{fresh_at, names_apart, nets_apart, arrays_apart, nets-no_arrays}
use Rattle.cx_vlaws.proofs.names.names_are_apart.Goals as goal

pub returns-clause-names : goal.returns-clause-names
returns-clause-names c source i sound =
    let f = fresh_at source sound i in names_apart (ports_at (instances_of source) i) (decls_at (instances_of source) i) f.0 f.1

pub returns-clause-nets : goal.returns-clause-nets
returns-clause-nets c source i sound =
    let f = fresh_at source sound i in nets_apart (ports_at (instances_of source) i) (decls_at (instances_of source) i) f.0 f.1

pub returns-clause-arrays : goal.returns-clause-arrays
returns-clause-arrays c source i sound =
    let f = fresh_at source sound i in arrays_apart (ports_at (instances_of source) i) (decls_at (instances_of source) i) f.1

pub returns-clause-kinds : goal.returns-clause-kinds
returns-clause-kinds c source i j k n sound net array =
    let f = fresh_at source sound i in nets-no_arrays (ports_at (instances_of source) i) (decls_at (instances_of source) i) f.1 j k n net array
