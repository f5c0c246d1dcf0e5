-- What `Parts` stands for.
use Rattle.std.specs.Prelude.{map}
use Rattle.cx_vtree.specs.PlainParts.{plain_decl, plain_assign, plain_item}
use Rattle.cx_vmods.specs.Parts.{Interior}
use Rattle.cx_vmods.specs.declared.parts.Parts.{Parts}

abbrev pub parts_shown : Parts → Interior
parts_shown p = record {
  decls = map plain_decl p.decls.items;
  assigns = map plain_assign p.assigns.items;
  reset = map plain_assign p.reset.items;
  step = map plain_item p.step.items;
}
