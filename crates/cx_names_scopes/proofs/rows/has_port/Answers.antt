use Rattle.std.proofs.Common.{◌∙◌, sym}
use Rattle.cx_names_scopes.proofs.PrimitiveLemmas.{port_first, port_other}
use Rattle.cx_names_scopes.proofs.rows.has_port.Goals as goal

pub returns-then-is_named : goal.returns-then-is_named
returns-then-is_named c =
    port_first _ c.loop-number.number c.port.result c.args.name.now c.as_bytes.result.now _ c.port.ensures.value (c.as_bytes.ensures.value ∙ c.text.ensures.value) (sym c.is_named.ensures.value ∙ c.if-is_named.true) c.loop-number.invariant.behind

pub loop-number-preserved : goal.loop-number-preserved
loop-number-preserved c = record {
  end = c.loop-number.invariant.end;
  behind = port_other _ c.loop-number.number c.port.result c.args.name.now c.as_bytes.result.now _ c.port.ensures.value (c.as_bytes.ensures.value ∙ c.text.ensures.value) (sym c.is_named.ensures.value ∙ c.if-is_named.false) c.loop-number.invariant.behind;
}
