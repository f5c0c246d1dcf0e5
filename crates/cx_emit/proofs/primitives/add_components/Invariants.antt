use Rattle.std.proofs.Common.{◌≡◌, drop, map}
use Rattle.cx_net.specs.PlainNets.{plain_net_component}
use Rattle.cx_vtree.specs.PlainParts.{plain_modules}
use Rattle.cx_emit.specs.Found.{AreFound}
use Rattle.cx_emit.specs.Sources.{primitives_among, with_primitives}
use Rattle.cx_emit.proofs.primitives.add_components.Given as goal

-- the modules so far, with those of the components that are left, are all
abbrev pub invariant-loop-part : goal.invariant-loop-part
invariant-loop-part l = record {
  found : AreFound l.found (plain_modules l.modules.items);
  value : with_primitives (plain_modules l.modules.items) (primitives_among (map plain_net_component (drop l.part-index l.components)))
      ≡ with_primitives (plain_modules l.initial.modules.items) (primitives_among (map plain_net_component l.components));
}
