use Rattle.std.proofs.Common.{ℕ, List, subst}
use Rattle.cx_text.specs.Loading.{plain_loaded, words_loaded}
use Rattle.cx_design.specs.PlainDesigns.{plain_design}
use Rattle.cx_state.specs.States.{plain_state, words_in}
use Rattle.cx_interp.specs.Counted.{HasCounted}
use Rattle.cx_interp.specs.Counts.{HasRows, plain_counts}
use Rattle.cx_interp.specs.Runs.{HasRun}
use Rattle.cx_driver.specs.Leaving.{plain_left}
use Rattle.cx_driver.proofs.RanLemmas.{run_tallies, words_of_loaded}
use Rattle.cx_driver.proofs.counted.run_tallied.Goals as goal

pub run-ran-requires : goal.run-ran-requires
run-ran-requires c = record { ready = (c.args.design.now, words_in c.args.loaded.memories.items, c.in_ok-begun.ensures.ready) }

pub end-requires-clause-run : goal.end-requires-clause-run
end-requires-clause-run c =
    let Runs : List (List ℕ) → Type 0 = λ words. HasRun c.args.design.now words c.args.turns c.run-ran.result in
    subst Runs (words_of_loaded c.args.loaded.memories.items) (c.run-ran.ensures.run c.args.design.now (words_in c.args.loaded.memories.items) c.in_ok-begun.ensures.ready)

pub returns-in-Ok-clause-counted : goal.returns-in-Ok-clause-counted
returns-in-Ok-clause-counted c =
    let given = c.args.design.now in
    let d = plain_design given in
    let ran = c.run-ran.result in
    let ready = c.in_ok-begun.ensures.ready in
    let words = words_in c.args.loaded.memories.items in
    let loaded = words_of_loaded c.args.loaded.memories.items in
    let old = plain_counts c.in_ok-counts.counts in
    let new = plain_counts c.run-ran.new.counts in
    let Runs : List (List ℕ) → Type 0 = λ ws. HasRun given ws c.args.turns ran in
    let Counts : List (List ℕ) → Type 0 = λ ws. HasCounted given ws c.args.turns ran old new in
    let run : Runs (words_loaded (plain_loaded c.args.loaded)) = subst Runs loaded (c.run-ran.ensures.run given words ready) in
    let counted : Counts (words_loaded (plain_loaded c.args.loaded)) = subst Counts loaded (c.run-ran.ensures.counted given words ready) in
    let has : HasRows d old = subst (λ x. HasRows (plain_design x) old) ready.design c.in_ok-counts.ensures.rows in
    run_tallies d (plain_state ran.state) ran.answer (plain_loaded c.args.loaded) c.args.turns (plain_left c.in-Ok.left) old new run.answered c.in-Ok.ensures.answer has c.in_ok-counts.ensures.zeros counted
