-- Where the interpreter ends, every list of choices does, with enough of them.
use Rattle.std.proofs.Common.{◌≡◌, ◌<◌, ◌^◌, inl, ℕ, List, Result, Ok, Err, refl, sym, ap, ◌∙◌}
use Rattle.cx_text.specs.Loading.{PlainMemory, words_loaded, with_words}
use Rattle.cx_data.specs.Load.{load_of}
use Rattle.cx_data.specs.declared.faults.DataFault.{DataFault}
use Rattle.cx_meaning.specs.Answers as answers
use Rattle.cx_meaning.specs.Answers.{Answer}
use Rattle.cx_meaning.specs.Cycles.{Fault}
use Rattle.cx_meaning.specs.Designs.{PlainDesign}
use Rattle.cx_meaning.specs.Instances.{State, tree_of, words_of}
use Rattle.cx_meaning.specs.Running.{run_main}
use Rattle.cx_rules.specs.Accepted.{IsAccepted}
use Rattle.cx_rules.specs.Externals.{external_rows}
use Rattle.cx_rules.specs.Sizes.{design_size}
use Rattle.cx_rules.specs.Wellformed.{IsDesign}
use Rattle.cx_orders.specs.Enough.{AllEnd}
use Rattle.cx_orders.specs.Woven.{by_list}
use Rattle.cx_compiler.specs.Runnable.{runnable}
use Rattle.cx_commands.specs.declared.stops.Stop.{Stop}
use Rattle.cx_compiler.specs.Interpreted.{told_of, loaded_result}
use Rattle.cx_compiler.specs.Texts.{IsDesignOf}
use Rattle.cx_compiler.proofs.MeantLemmas.{TextsRunAsMeant, run_of_text}
use Rattle.cx_compiler.proofs.PromiseLemmas.{of_run}
use Rattle.cx_compiler.proofs.RunLayers.{RunLaws}
use Rattle.cx_compiler.proofs.TextLayers.{text_flattens}
use Rattle.cx_driver.specs.Weaving.{told_woven, loaded_woven, EveryListEnds, AllListsEnd}

-- of a run of main that ends
abbrev Law : Type 0
Law = (d : PlainDesign) (words : List (List ℕ)) (n : ℕ) (after : State) (turns : ℕ) → IsDesign d → IsAccepted d → run_main d words n ≡ answers.End after turns → AllEnd d words after

module _ (law : Law) (laws : RunLaws) (text json : List ℕ) (d : PlainDesign) (stands : IsDesignOf text d) (small : design_size d < 2 ^ 32) (budget : ℕ) (dump : List ℕ) where
  abbrev run : PlainDesign
  run = runnable d

  run_ends : (ms : List PlainMemory) → load_of json (external_rows run) ≡ Ok ms → (a : Answer State Fault) → run_main run (words_loaded ms) budget ≡ a → Ok dump ≡ told_of run ms budget a → EveryListEnds text json dump
  run_ends ms loads (answers.End after turns) runs said =
      let can = text_flattens text d stands small in
      let all = law run (words_loaded ms) budget after turns (laws.design d can) (laws.accepted d can) runs in (
        turns,
        with_words ms (words_of (tree_of run) after),
        same said,
        all.0,
        λ list steps enough.
            let r = all.1 (by_list list) steps enough in
            (r.0, inl (d, stands, sym (ap (loaded_woven run list steps) loads ∙ ap (told_woven run ms steps) r.1))),
      )
    where
      same : {x y : List ℕ} → ◌≡◌ {A = Result (List ℕ) Stop} (Ok x) (Ok y) → x ≡ y
      same e = cc
  run_ends ms loads (answers.Fault fault turn) runs said = absurd (cc)
  run_ends ms loads answers.More runs said = absurd (cc)

  loaded_ends : (loaded : Result (List PlainMemory) DataFault) → load_of json (external_rows run) ≡ loaded → Ok dump ≡ loaded_result run budget loaded → EveryListEnds text json dump
  loaded_ends (Ok ms) loads said = run_ends ms loads (run_main run (words_loaded ms) budget) refl said
  loaded_ends (Err fault) loads said = absurd (cc)

pub lists_end : Law → RunLaws → TextsRunAsMeant → (text json : List ℕ) → AllListsEnd text json
lists_end law laws meant text json d budget dump stands small i =
    let is = run_of_text meant laws.flat text d stands small in
    loaded_ends law laws text json d stands small budget dump (load_of json (external_rows (runnable d))) refl (of_run text (runnable d) is json budget (Ok dump) i)
