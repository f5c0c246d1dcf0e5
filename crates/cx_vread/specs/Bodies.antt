-- The body of a module as plain data.
use Rattle.std.specs.Prelude.{map, option_map}
use Rattle.cx_vtree.specs.PlainParts.{plain_assign, plain_instance, plain_edge}
use Rattle.cx_vread.specs.declared.modules.Body.{Body}
use Rattle.cx_vread.specs.Parts.{PlainBody}

abbrev pub plain_body : Body → PlainBody
plain_body b =
    record {
      assigns = map plain_assign b.assigns.items;
      instances = map plain_instance b.instances.items;
      edge = option_map plain_edge b.edge;
    }
