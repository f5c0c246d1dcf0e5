use Rattle.std.proofs.Common.{◌∙◌, sym, map}
use Rattle.cx_prim.specs.PortNames.{text_of}
use Rattle.cx_prim.specs.Table.{row_of}
use Rattle.cx_names_scopes.proofs.NameLemmas.{number_from-start}
use Rattle.cx_names.proofs.PortLemmas.{row_first, row_other}
use Rattle.cx_names.proofs.operands.row_port.Goals as goal

pub loop-number-init : goal.loop-number-init
loop-number-init c = record { end = c.port_count-number-end.ensures.value; behind = number_from-start c.args.port.now (map (λ port. text_of port.name) (row_of c.args.primitive.now).ports) }

pub returns-then-is_named : goal.returns-then-is_named
returns-then-is_named c =
    row_first _ c.loop-number.number c.port.result c.args.port.now c.as_bytes.result.now _ c.port.ensures.value (c.as_bytes.ensures.value ∙ c.text.ensures.value) (sym c.is_named.ensures.value ∙ c.if-is_named.true) c.loop-number.invariant.behind

pub loop-number-preserved : goal.loop-number-preserved
loop-number-preserved c = record {
  end = c.loop-number.invariant.end;
  behind = row_other _ c.loop-number.number c.port.result c.args.port.now c.as_bytes.result.now _ c.port.ensures.value (c.as_bytes.ensures.value ∙ c.text.ensures.value) (sym c.is_named.ensures.value ∙ c.if-is_named.false) c.loop-number.invariant.behind;
}
