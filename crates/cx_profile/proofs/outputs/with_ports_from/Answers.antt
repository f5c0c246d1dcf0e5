use Rattle.std.proofs.Common.{◌+◌, ap}
use Rattle.cx_text.proofs.ListLaws.{range_appended}
use Rattle.cx_meaning.specs.declared.ports.PortRef.TheVariants as ports
use Rattle.cx_profile.proofs.outputs.with_ports_from.Goals as goal

pub loop-number-preserved : goal.loop-number-preserved
loop-number-preserved c =
    range_appended (λ i. ports.Cell c.args.cell (c.args.first + i)) c.args.ports.items c.loop-number.all.items c.push.new.self.items (ports.Cell c.args.cell c.in_ok-sum.field-0) c.loop-number.number c.in_ok-push.ensures.items
    c.loop-number.invariant (ap (ports.Cell c.args.cell) c.in_ok-sum.ensures.value)
