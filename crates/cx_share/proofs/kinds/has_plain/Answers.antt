use Rattle.std.proofs.Common.{sym, ◌∙◌}
use Rattle.cx_prim.specs.Table.{row_of}
use Rattle.cx_prim.specs.Rows.{is_plain_side}
use Rattle.cx_share.proofs.KindLemmas.{any_found, none_next}
use Rattle.cx_share.proofs.kinds.has_plain.Goals as goal

pub returns-then-is_plain : goal.returns-then-is_plain
returns-then-is_plain c =
    record { value = sym (any_found (λ port. is_plain_side port.side) (row_of c.args.primitive.now).ports c.loop-port.port c.port.result c.port.ensures.value (sym c.is_plain.ensures.value ∙ c.if-is_plain.true)) }

pub loop-port-preserved : goal.loop-port-preserved
loop-port-preserved c =
    none_next (λ port. is_plain_side port.side) (row_of c.args.primitive.now).ports c.loop-port.port c.port.result c.port.ensures.value (sym c.is_plain.ensures.value ∙ c.if-is_plain.false) c.loop-port.invariant
