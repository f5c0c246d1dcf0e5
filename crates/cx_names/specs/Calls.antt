-- What the parts of an invoke stand for.
use Rattle.std.specs.Prelude.{codes}
use Rattle.cx_ast.specs.declared.statements.BindItem.{BindItem}
use Rattle.cx_ast.specs.PlainTree.{PlainTree, PlainComponent}
use Rattle.cx_meaning.specs.Designs.{Always, PlainAssign}
use Rattle.cx_numbering.specs.DesignOf.{Invoke, one, port_of, cell_port, register_of}
use Rattle.cx_names.specs.declared.invokes.Call.{Call}

abbrev pub invoke_of : Call → Invoke
invoke_of call =
    record {
      cell = call.cell.now;
      written = call.is_written;
      length = call.length;
      inputs = call.inputs.now;
      outputs = call.outputs.now;
      place = call.place;
    }

-- of an output, the assignment to its register, and that of the register's enable
abbrev pub capture_of : PlainTree → PlainComponent → Invoke → BindItem → PlainAssign
capture_of tree part k bind =
    record {
      target = port_of tree part bind.value.form;
      guard = Always;
      source = record { port = cell_port tree part k.cell bind.name; place = bind.place };
      place = k.place;
    }

abbrev pub enable_of : PlainTree → PlainComponent → Invoke → BindItem → PlainAssign
enable_of tree part k bind = record {
  target = cell_port tree part (register_of tree part bind) (codes "write_en");
  guard = Always;
  source = record { port = cell_port tree part k.cell (codes "done"); place = k.place };
  place = k.place;
}

-- of an output of a static invoke, the assignment to the enable of its register
abbrev pub static_enable_of : PlainTree → PlainComponent → Invoke → BindItem → PlainAssign
static_enable_of tree part k bind = record {
  target = cell_port tree part (register_of tree part bind) (codes "write_en");
  guard = Always;
  source = record { port = one tree part; place = k.place };
  place = k.place;
}
