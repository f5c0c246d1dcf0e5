use Rattle.std.proofs.Common.{◌≡◌, ◌∙◌, ap, subst}
use Rattle.cx_design.specs.PlainDesigns.{plain_design}
use Rattle.cx_rules.specs.Accepted.{IsAccepted}
use Rattle.cx_flattening.specs.FlatDesign.{flat_design}
use Rattle.cx_flat.proofs.DesignLemmas.{made_accepted}
use Rattle.cx_flat.proofs.KeptLemmas.{rows_kept, runs_kept}
use Rattle.cx_flat.proofs.flattening.flatten.Goals as goal

pub new-requires : goal.new-requires
new-requires c =
    let d = plain_design c.args.design.now in
    let accepted : IsAccepted d = subst (λ x. IsAccepted (plain_design x)) c.design.ensures.value c.design.ensures.accepted in
    let same : plain_design c.in_ok-flat.flat ≡ flat_design d = c.in_ok-flat.ensures.design ∙ ap (λ x. flat_design (plain_design x)) c.design.ensures.value in
    record {
      accepted = made_accepted d c.args.design.now.keeps (λ rules. c.flat_designs_are_accepted.ensures.whole d rules accepted c.requires.undone) (plain_design c.in_ok-flat.flat) same;
    }

pub returns-clause-rows : goal.returns-clause-rows
returns-clause-rows c =
    let d = plain_design c.args.design.now in
    let accepted : IsAccepted d = subst (λ x. IsAccepted (plain_design x)) c.design.ensures.value c.design.ensures.accepted in
    let same : plain_design c.new.result ≡ flat_design d = ap plain_design c.new.ensures.value ∙ c.in_ok-flat.ensures.design ∙ ap (λ x. flat_design (plain_design x)) c.design.ensures.value in
    rows_kept d c.args.design.now.keeps (λ rules. c.accepted_designs_keep_their_runs.ensures d rules accepted c.requires.undone c.requires.plain) (plain_design c.new.result) same

pub returns-clause-runs : goal.returns-clause-runs
returns-clause-runs c =
    let d = plain_design c.args.design.now in
    let accepted : IsAccepted d = subst (λ x. IsAccepted (plain_design x)) c.design.ensures.value c.design.ensures.accepted in
    let same : plain_design c.new.result ≡ flat_design d = ap plain_design c.new.ensures.value ∙ c.in_ok-flat.ensures.design ∙ ap (λ x. flat_design (plain_design x)) c.design.ensures.value in
    runs_kept d c.args.design.now.keeps (λ rules. c.accepted_designs_keep_their_runs.ensures d rules accepted c.requires.undone c.requires.plain) (plain_design c.new.result) same
