use Rattle.std.proofs.Common.{sym, ◌∙◌}
use Rattle.cx_prim.specs.Table.{row_of}
use Rattle.cx_prim.specs.Rows.{is_enable_side}
use Rattle.cx_share.proofs.KindLemmas.{any_found, none_next}
use Rattle.cx_share.proofs.kinds.has_enable.Goals as goal

pub returns-then-is_enable : goal.returns-then-is_enable
returns-then-is_enable c =
    record { value = sym (any_found (λ port. is_enable_side port.side) (row_of c.args.primitive.now).ports c.loop-port.port c.port.result c.port.ensures.value (sym c.is_enable.ensures.value ∙ c.if-is_enable.true)) }

pub loop-port-preserved : goal.loop-port-preserved
loop-port-preserved c =
    none_next (λ port. is_enable_side port.side) (row_of c.args.primitive.now).ports c.loop-port.port c.port.result c.port.ensures.value (sym c.is_enable.ensures.value ∙ c.if-is_enable.false) c.loop-port.invariant
