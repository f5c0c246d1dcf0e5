use Rattle.std.proofs.Common.{subst, sym, ap, ◌∙◌}
use Rattle.cx_ast.specs.PlainTree.{plain_tree}
use Rattle.cx_numbering.specs.DesignOf.{design_of}
use Rattle.cx_design.specs.PlainDesigns.{plain_design}
use Rattle.cx_names.specs.Targets.{HasTargets}
use Rattle.cx_compiler.proofs.TextLayers.{tree_rules}
use Rattle.cx_compiler.proofs.WrittenNets.{tree_emitted}
use Rattle.cx_driver.proofs.TrialMemory.{trial_memory, trial_words}
use Rattle.cx_driver.proofs.TrialPlaces.{trial_flat}
use Rattle.cx_driver.proofs.TrialLemmas.{design_told, refusal_told, trial_targets}
use Rattle.cx_driver.proofs.trying.trial.Goals as goal

pub tried-requires : goal.tried-requires
tried-requires c = record { targets = subst HasTargets (sym c.in-Ok.ensures.value) (trial_targets c.args.seed) }

pub try_design-requires : goal.try_design-requires
try_design-requires c =
    let tree = plain_tree c.in-Ok.tree in
    let d = plain_design c.in-Ok-tried.design in
    let targets = subst HasTargets (sym c.in-Ok.ensures.value) (trial_targets c.args.seed) in
    let same = c.in-Ok-tried.ensures.value ∙ ap (λ t. design_of t) c.in-Ok.ensures.value in
    let memory = trial_memory c.args.seed d same in
    let flat = trial_flat c.args.seed d same in
    record {
      flat = flat;
      memory = memory;
      rules = tree_rules tree d targets c.in-Ok-tried.ensures.accepted c.in-Ok-tried.ensures.value flat;
      net = tree_emitted tree d targets c.in-Ok-tried.ensures.accepted c.in-Ok-tried.ensures.value flat (trial_words d memory);
    }

pub returns-in-Ok-tried : goal.returns-in-Ok-tried
returns-in-Ok-tried c =
    let own = c.try_design.ensures in
    let told = design_told (λ v. v.items) c.args.seed (plain_tree c.in-Ok.tree) (plain_design c.in-Ok-tried.design) c.try_design.result c.in-Ok.ensures.value c.in-Ok-tried.ensures.accepted c.in-Ok-tried.ensures.value own.answer own.cause in
    record { answer = told.answer; cause = told.cause; all_answers = told.all_answers; all_stops = told.all_stops; all_refusals = told.all_refusals }

pub returns-in-Ok : goal.returns-in-Ok
returns-in-Ok c =
    let told = refusal_told c.args.seed (plain_tree c.in-Ok.tree) c.in-Err-tried.stop c.in-Ok.ensures.value c.in-Err-tried.ensures.cause in
    record { answer = told.answer; cause = told.cause; all_answers = told.all_answers; all_stops = told.all_stops; all_refusals = told.all_refusals }
