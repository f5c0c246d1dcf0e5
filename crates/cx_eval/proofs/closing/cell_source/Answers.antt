use Rattle.std.proofs.Common.{sym}
use Rattle.std.proofs.lemmas.Option.{IfSome_then}
use Rattle.cx_meaning.specs.declared.ports.PortRef.TheVariants.{Cell}
use Rattle.cx_eval.proofs.SourceLemmas.{port_seen}
use Rattle.cx_eval.proofs.closing.cell_source.Goals as goal

pub returns : goal.returns
returns c = record {
  value = IfSome_then c.source.result c.source.ensures.value
      (λ source f i operators h known.
      port_seen i c.args.of.now.active.now operators (Cell c.args.cell c.args.port) c.in_ok-number.number source (sym (c.in_ok-number.ensures.value i h.part.numbers)) (f i operators h known));
}
