use Rattle.std.proofs.Common.{[]}
use Rattle.std.proofs.lemmas.Option.{IfSome_then}
use Rattle.cx_eval.proofs.SourceLemmas.{from_none, number_grown}
use Rattle.cx_eval.proofs.closing.KnownPorts.source.Goals as goal

pub returns-in-None : goal.returns-in-None
returns-in-None c = record {
  value = IfSome_then c.leaf.result c.leaf.ensures.value
      (λ source f i operators h known. number_grown i c.args.of.now.active.now [] operators (from_none operators) c.args.number source (f i h));
}
