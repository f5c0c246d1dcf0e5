use Rattle.std.proofs.Common.{◌<◌, ◌∙◌, length, sym, subst}
use Rattle.cx_text.proofs.ListLaws.{get_same}
use Rattle.cx_design.proofs.DesignFacts.{main_there}
use Rattle.cx_design.specs.PlainDesigns.{plain_design}
use Rattle.cx_profile.proofs.MadeLemmas.{main_reached}
use Rattle.cx_profile.proofs.gained.gains_of.Goals as goal

pub returns : goal.returns
returns c =
    let d = plain_design c.args.design.now in
    let shown = c.in_ok-counts.ensures.value in
    let there : d.main < length c.in_ok-counts.counts.items = subst (λ n. d.main < n) (sym shown.sized) (main_there d c.args.design.now.keeps) in
    record {
      value = record {
        reached = c.in_ok-reached.ensures.value;
        outputs = c.in_ok-outputs.ensures.value;
        entries = c.index-entries.ensures ∙ get_same c.in_ok-counts.counts.items d.main c.index-entries.result.now 0 there ∙ shown.shown d.main (main_reached d c.args.design.now.keeps);
        trees = shown.trees;
      };
    }
