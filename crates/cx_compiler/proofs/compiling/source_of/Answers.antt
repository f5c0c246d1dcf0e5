use Rattle.cx_design.specs.PlainDesigns.{plain_design}
use Rattle.cx_net.specs.NetsAsData.{plain_net}
use Rattle.cx_vtree.specs.PlainSources.{plain_source}
use Rattle.cx_compiler.proofs.Layers.{source_of_net}
use Rattle.cx_compiler.proofs.WrittenRows.{emits_passed, source_passed}
use Rattle.cx_compiler.proofs.compiling.source_of.Goals as goal

pub emit-requires : goal.emit-requires
emit-requires c = record { net = emits_passed (plain_design c.args.design.now) (plain_net c.in_ok-net.net) c.in_ok-net.ensures.value c.requires.net }

pub returns : goal.returns
returns c =
    let d = plain_design c.args.design.now in
    let net = plain_net c.in_ok-net.net in
    let written = source_passed plain_source d net c.emit.result c.in_ok-net.ensures.value c.emit.ensures.value in
    record {
      value = written;
      meaning = source_of_net plain_source d net c.emit.result c.in_ok-net.ensures.meaning c.emit.ensures.runs c.emit.ensures.rows written;
    }
