use Rattle.std.proofs.Common.{◌≡◌, ◌++◌, drop, map}
use Rattle.cx_net.specs.NetsAsData.{plain_net}
use Rattle.cx_net.specs.PlainNets.{plain_net_component}
use Rattle.cx_vtree.specs.PlainParts.{plain_modules}
use Rattle.cx_emit.specs.Numbered.{numbered_from}
use Rattle.cx_emit.specs.Sources.{component_module}
use Rattle.cx_emit.proofs.emitting.add_components.Given as goal

-- those so far, and those of the components that are left, are all
abbrev pub invariant-loop-number : goal.invariant-loop-number
invariant-loop-number l =
    plain_modules l.modules.items ++ numbered_from (component_module (plain_net l.net)) l.number (map plain_net_component (drop l.number l.part-items))
    ≡ plain_modules l.initial.modules.items ++ numbered_from (component_module (plain_net l.net)) 0 (map plain_net_component l.part-items)
