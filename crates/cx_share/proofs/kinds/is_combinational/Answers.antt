use Rattle.std.proofs.Common.{ap, sym, ◌∙◌}
use Rattle.cx_design.specs.PlainForms.{plain_kind}
use Rattle.cx_sharing.specs.Uses as uses
use Rattle.cx_share.proofs.KindLemmas.{combinational_by_ports}
use Rattle.cx_share.proofs.kinds.is_combinational.Goals as goal

pub returns-in-Prim : goal.returns-in-Prim
returns-in-Prim c = record {
  value = c.is_free_of.ensures.value
      ∙ combinational_by_ports c.in-Prim.primitive c.has_enable.result c.has_plain.result c.has_enable.ensures.value c.has_plain.ensures.value
      ∙ ap (λ k. uses.is_combinational (plain_kind k)) (sym c.in-Prim.is);
}
