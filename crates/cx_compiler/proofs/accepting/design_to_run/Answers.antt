use Rattle.std.proofs.Common.{sym, subst}
use Rattle.cx_design.specs.PlainDesigns.{plain_design}
use Rattle.cx_rules.specs.Flat.{IsFlat}
use Rattle.cx_compiler.proofs.MeantLemmas.{text_runs}
use Rattle.cx_compiler.proofs.TextLayers.{few_parts, text_flattens}
use Rattle.cx_compiler.proofs.accepting.design_to_run.Goals as goal

pub flattened-requires : goal.flattened-requires
flattened-requires c =
    let d = plain_design c.in-Ok.design in
    let can = text_flattens c.args.text.now d c.in-Ok.ensures.design (few_parts d c.in-Ok.design.keeps) in
    record { undone = can.undone; plain = can.plain }

pub returns-in_ok-flattened-in-Ok : goal.returns-in_ok-flattened-in-Ok
returns-in_ok-flattened-in-Ok c =
    let d = plain_design c.in-Ok.design in
    let stands = c.in-Ok.ensures.design in
    let few = few_parts d c.in-Ok.design.keeps in
    let is = c.in_ok-flattened-in-Ok.ensures.value in
    record {
      run = record {
        design = d;
        stands = stands;
        few = few;
        is = is;
        flat = subst IsFlat (sym is) (c.what_is_run_is_flat.ensures.flat d);
        runs = text_runs c.accepted_texts_run_as_meant.ensures c.args.text.now d stands few;
      };
      cause = tt;
    }
