-- What the run of a design leaves, the run of its text leaves, and this is one thing.
use Rattle.std.proofs.Common.{◌≡◌, ℕ, List, Result, Ok, Err, refl, sym, ap, ap₂, ◌∙◌, subst}
use Rattle.cx_text.specs.Loading.{PlainMemory, FitsRows, words_loaded, with_words}
use Rattle.cx_data.specs.Load.{load_of}
use Rattle.cx_data.specs.declared.faults.DataFault.{DataFault}
use Rattle.cx_meaning.specs.Answers as answers
use Rattle.cx_meaning.specs.Answers.{Answer}
use Rattle.cx_meaning.specs.Cycles.{Fault}
use Rattle.cx_meaning.specs.Designs.{PlainDesign}
use Rattle.cx_meaning.specs.Instances.{State, tree_of, words_of}
use Rattle.cx_meaning.specs.Running.{run_main}
use Rattle.cx_rules.specs.Externals.{external_rows}
use Rattle.cx_vtree.specs.Plain.{PlainSource}
use Rattle.cx_vtree.specs.SimRun.{DoneAt}
use Rattle.cx_vtree.proofs.Runs.{one_outcome}
use Rattle.cx_net.specs.Realises.{Realises}
use Rattle.cx_commands.specs.declared.stops.Stop.{Stop}
use Rattle.cx_compiler.specs.Interpreted.{PlainLeft, left_of, loaded_left, design_left}
use Rattle.cx_compiler.specs.Simulated.{IsVerilogOf, RunLeaves, SourceLeaves, TextLeaves}
use Rattle.cx_compiler.proofs.BelowLemmas.{loaded_fits}
use Rattle.cx_compiler.proofs.PromiseLemmas.{done_turns, done_words}
use Rattle.cx_compiler.proofs.OneSource.{one_source_of}

abbrev left_or : PlainLeft → Result PlainLeft Stop → PlainLeft
left_or none (Ok left) = left
left_or none (Err stop) = none

same_left : (a b : PlainLeft) → (let own : Result PlainLeft Stop = Ok a in own ≡ Ok b) → a ≡ b
same_left a b e = ap (left_or a) e

-- WHAT A DESIGN LEAVES ITS SOURCE LEAVES
module _ (d : PlainDesign) (source : PlainSource) (is : Realises d source) (budget : ℕ) (left : PlainLeft) where
  run_in_source : (ms : List PlainMemory) → FitsRows (external_rows d) ms → (a : Answer State Fault) → run_main d (words_loaded ms) budget ≡ a → left_of d ms budget a ≡ Ok left → RunLeaves source ms budget left
  run_in_source ms fits (answers.End after turns) e leaves =
      let words = words_of (tree_of d) after in
      let own : PlainLeft = record { turns = turns; memories = with_words ms words } in
      let run : RunLeaves source ms budget own = record { words = words; run = is.runs.ends ms budget turns after fits e; leaves = refl } in
      subst (λ l. RunLeaves source ms budget l) (same_left own left leaves) run
  run_in_source ms fits (answers.Fault fault turn) e leaves = absurd (cc)
  run_in_source ms fits answers.More e leaves = absurd (cc)

  in_source : (json : List ℕ) (loaded : Result (List PlainMemory) DataFault) → load_of json (external_rows d) ≡ loaded → loaded_left d budget loaded ≡ Ok left → SourceLeaves source json budget left
  in_source json (Ok ms) loads leaves = record {
    memories = ms;
    loads = ap (λ rows. load_of json rows) is.rows ∙ loads;
    run = run_in_source ms (loaded_fits json (external_rows d) ms loads) (run_main d (words_loaded ms) budget) refl leaves;
  }
  in_source json (Err fault) loads leaves = absurd (cc)

  pub design_in_text : (verilog json : List ℕ) → IsVerilogOf verilog source → design_left d json budget ≡ Ok left → TextLeaves verilog json budget left
  design_in_text verilog json spelled leaves = record { source = source; spelled = spelled; leaves = in_source json (load_of json (external_rows d)) refl leaves }

-- WHAT A TEXT LEAVES IS ONE THING
same_loaded : (a b : List PlainMemory) → (let own : Result (List PlainMemory) DataFault = Ok a in own ≡ Ok b) → a ≡ b
same_loaded a b e = cc

run_once : (source : PlainSource) (ms : List PlainMemory) (budget : ℕ) (a b : PlainLeft) → RunLeaves source ms budget a → RunLeaves source ms budget b → a ≡ b
run_once source ms budget a b h k =
    let leave : ℕ → List PlainMemory → PlainLeft = λ n m. record { turns = n; memories = m } in
    let same : DoneAt a.turns h.words ≡ DoneAt b.turns k.words = one_outcome h.run k.run in
    let words = done_words a.turns b.turns h.words k.words same in
    ap₂ leave (done_turns a.turns b.turns h.words k.words same) (h.leaves ∙ ap (λ ws. with_words ms ws) words ∙ sym k.leaves)

source_once : (source : PlainSource) (json : List ℕ) (budget : ℕ) (a b : PlainLeft) → SourceLeaves source json budget a → SourceLeaves source json budget b → a ≡ b
source_once source json budget a b h k =
    let same = same_loaded h.memories k.memories (sym h.loads ∙ k.loads) in
    run_once source k.memories budget a b (subst (λ ms. RunLeaves source ms budget a) same h.run) k.run

pub text_once : (verilog json : List ℕ) (budget : ℕ) (a b : PlainLeft) → TextLeaves verilog json budget a → TextLeaves verilog json budget b → a ≡ b
text_once verilog json budget a b h k =
    source_once k.source json budget a b (subst (λ s. SourceLeaves s json budget a) (one_source_of verilog h.source k.source h.spelled k.spelled) h.leaves) k.leaves
