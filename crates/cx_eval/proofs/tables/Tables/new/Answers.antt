use Rattle.std.proofs.Common.{refl, sym, subst}
use Rattle.cx_design.specs.PlainDesigns.{plain_design}
use Rattle.cx_rules.specs.Flat.{IsFlat}
use Rattle.cx_state.specs.Tables.{IsTable}
use Rattle.cx_eval.proofs.TableLemmas.{kept_design}
use Rattle.cx_eval.proofs.tables.Tables.new.Goals as goal

pub returns-clause-tables : goal.returns-clause-tables
returns-clause-tables c = record {
  design = kept_design c.design-design.result.now (subst (λ d. IsFlat (plain_design d)) (sym c.design-design.ensures.value) c.requires.flat);
  flat = subst (λ d. IsFlat (plain_design d)) (sym c.design-design.ensures.value) c.requires.flat;
  accepted = c.design-design.ensures.accepted;
  table = subst (λ d. IsTable (plain_design d) c.in_ok-table.table.rows.items c.in_ok-table.table.children.items) (sym c.design-design.ensures.value) c.in_ok-table.ensures.value;
  numbered = c.in_ok-nodes.ensures.value;
  firsts = c.in_ok-firsts.ensures.value;
  sources = c.in_ok-sources.ensures.value;
  stepping = c.in_ok-parts.ensures.value;
  nothing = refl;
}

pub stepping_parts-requires : goal.stepping_parts-requires
stepping_parts-requires c = record { design = kept_design c.design-design.result.now (subst (λ d. IsFlat (plain_design d)) (sym c.design-design.ensures.value) c.requires.flat) }

pub all_firsts-requires : goal.all_firsts-requires
all_firsts-requires c = record {
  design = kept_design c.design-design.result.now (subst (λ d. IsFlat (plain_design d)) (sym c.design-design.ensures.value) c.requires.flat);
  table = subst (λ d. IsTable (plain_design d) c.in_ok-table.table.rows.items c.in_ok-table.table.children.items) (sym c.design-design.ensures.value) c.in_ok-table.ensures.value;
  numbered = c.in_ok-nodes.ensures.value;
}

pub all_sources-requires : goal.all_sources-requires
all_sources-requires c = record { numbered = (c.in_ok-table.table.rows.items, c.in_ok-nodes.ensures.value) }
