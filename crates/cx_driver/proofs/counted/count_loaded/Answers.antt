use Rattle.std.proofs.Common.{◌≡◌, ap, map, subst, ◌∙◌}
use Rattle.cx_text.specs.Loading.{plain_loaded, words_loaded}
use Rattle.cx_meaning.specs.Designs.{PlainDesign}
use Rattle.cx_design.specs.PlainDesigns.{plain_design}
use Rattle.cx_profile.specs.declared.entries.ProfiledGroup.{ProfiledGroup}
use Rattle.cx_state.specs.Tables.{IsTable}
use Rattle.cx_interp.specs.Counts.{plain_counts}
use Rattle.cx_flat.specs.Places.{plain_instances}
use Rattle.cx_compiler.specs.Runnable.{RunsAsMeant, runnable}
use Rattle.cx_driver.specs.Counted.{AreTallied}
use Rattle.cx_driver.specs.Leaving.{plain_left}
use Rattle.cx_driver.specs.Placing.{standing_at, total_in}
use Rattle.cx_driver.specs.Profiling.{active_counts}
use Rattle.cx_driver.proofs.CountedLemmas.{group_totals, run_counts, run_stops}
use Rattle.cx_driver.proofs.counted.count_loaded.Goals as goal

pub returns-in-Ok-clause-answer : goal.returns-in-Ok-clause-answer
returns-in-Ok-clause-answer c =
    let d = plain_design c.args.design in
    let run = plain_design c.in_ok-run.run' in
    let is : run ≡ runnable d = c.in_ok-run.ensures.value in
    let can = c.requires.rules.flattens in
    let runs : RunsAsMeant d = c.what_is_run_runs_as_meant.ensures d can.design can.accepted can.undone can.plain in
    let memories = plain_loaded c.args.loaded in
    let words = words_loaded memories in
    let n = c.args.turns in
    let groups = c.args.groups.now in
    let rows = c.in_ok-table.table.rows.items in
    let children = c.in_ok-table.table.children.items in
    let counts = plain_counts c.in-Ok.tallied.counts in
    let table : IsTable (runnable d) rows children = subst (λ (e : PlainDesign). IsTable e rows children) is c.in_ok-table.ensures.value in
    let tallied : AreTallied (runnable d) words n counts = subst (λ (e : PlainDesign). AreTallied e words n counts) is c.in-Ok.ensures.counted in
    let same : c.in_ok-counts-in-Ok.counts.items ≡ active_counts d words n =
    c.in_ok-counts-in-Ok.ensures.value
    ∙ ap (λ ps. map (λ (g : ProfiledGroup). total_in rows children counts (standing_at (plain_instances ps) g.instance g.group)) groups) c.deref.ensures.value
    ∙ group_totals d (runnable d) words n c.requires.budget rows children table counts tallied
    (λ e i. c.flat_designs_count_the_same.ensures.entries d words n e can.design can.accepted can.undone i)
    (λ e i f j. c.flat_entries_are_there.ensures.runs d e f can.design i j)
    (λ e i. c.whole_counts_are_within_turns.ensures d can.design can.accepted can.undone words n e i)
    (plain_instances c.in_ok-places.places.items) c.in_ok-places.ensures.value groups c.requires.groups in
    run_counts d run is runs c.args.json.now memories n c.requires.loads (plain_left c.in-Ok.tallied.left) c.in_ok-counts-in-Ok.counts.items c.in-Ok.ensures.answer same

pub returns-clause-cause : goal.returns-clause-cause
returns-clause-cause c =
    let d = plain_design c.args.design in
    let can = c.requires.rules.flattens in
    let runs : RunsAsMeant d = c.what_is_run_runs_as_meant.ensures d can.design can.accepted can.undone can.plain in
    run_stops d (plain_design c.in_ok-run.run') c.in_ok-run.ensures.value runs c.args.json.now (plain_loaded c.args.loaded) c.args.turns c.requires.loads c.in-Err.stop c.in-Err.ensures.cause
