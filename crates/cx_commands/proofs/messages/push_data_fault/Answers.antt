use Rattle.std.proofs.Common.{◌≡◌, sym, ap, ◌∙◌}
use Rattle.cx_data.specs.declared.faults.DataFault.TheVariants.{OutOfRange}
use Rattle.cx_commands.proofs.MessageLemmas.{out_of_range_line}
use Rattle.cx_commands.proofs.messages.push_data_fault.Goals as goal

pub returns-in_ok-push_counted-in-OutOfRange : goal.returns-in_ok-push_counted-in-OutOfRange
returns-in_ok-push_counted-in-OutOfRange c =
    record {
      value = out_of_range_line c.args.fault.now c.bytes-in-OutOfRange.result.now c.in-OutOfRange.index c.args.line.now.items c.extend_from_slice.new.self.items c.push_counted.new.line.items
          (c.in-OutOfRange.is ∙ ap (λ name. OutOfRange name c.in-OutOfRange.index) (sym c.bytes-in-OutOfRange.ensures.value)) c.in_ok-extend_from_slice.ensures.items c.in_ok-push_counted-in-OutOfRange.ensures.value;
    }
