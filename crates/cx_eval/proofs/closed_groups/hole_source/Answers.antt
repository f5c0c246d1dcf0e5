use Rattle.std.proofs.Common.{[], sym}
use Rattle.std.proofs.lemmas.Option.{IfSome_then}
use Rattle.cx_meaning.specs.declared.ports.PortRef.TheVariants.{Done}
use Rattle.cx_eval.proofs.SourceLemmas.{port_seen}
use Rattle.cx_eval.proofs.closed_groups.hole_source.Goals as goal

pub returns : goal.returns
returns c = record {
  value = IfSome_then c.leaf.result c.leaf.ensures.value
      (λ source f i h.
      port_seen i c.args.of.now.active.now [] (Done c.args.group) c.in_ok-number.number source (sym (c.in_ok-number.ensures.value i h.part.numbers)) (f i h));
}
