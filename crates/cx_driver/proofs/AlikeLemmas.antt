-- A text whose design runs as that of an accepted text is interpreted as that.
use Rattle.std.proofs.Common.{◌∙◌, ◌≡◌, inl, ℕ, List, Result, Ok, Err, refl, sym, ap, subst}
use Rattle.cx_text.specs.Loading.{PlainMemory, words_loaded, with_words}
use Rattle.cx_ast.specs.PlainTree.{PlainTree}
use Rattle.cx_check.specs.Acceptance.{IsAcceptedTree}
use Rattle.cx_data.specs.Dump.{dump_text}
use Rattle.cx_data.specs.Load.{load_of}
use Rattle.cx_data.specs.declared.faults.DataFault.{DataFault}
use Rattle.cx_meaning.specs.Answers.{Answer, Fault}
use Rattle.cx_meaning.specs.Cycles as cycles
use Rattle.cx_meaning.specs.Designs.{PlainDesign}
use Rattle.cx_meaning.specs.Instances.{State, tree_of}
use Rattle.cx_rules.specs.Externals.{external_rows}
use Rattle.cx_numbering.specs.DesignOf.{design_of}
use Rattle.cx_flattening.specs.Told.{told}
use Rattle.cx_flattening.specs.Whole.{whole_main}
use Rattle.cx_commands.specs.Commands.{Asked, share}
use Rattle.cx_commands.specs.Unread.{HasTree}
use Rattle.cx_commands.specs.declared.stops.Stop.TheVariants as stops
use Rattle.cx_compiler.specs.Interpreted.{dumped, left_told, loaded_meant, meant_result}
use Rattle.cx_compiler.specs.Texts.{IsDesignOf}
use Rattle.cx_compiler.proofs.PromiseLemmas.{of_meant}
use Rattle.cx_compiler.proofs.TextLemmas.{one_design}
use Rattle.cx_compiler.proofs.StaticEnds.{names_no_done}
use Rattle.cx_rewritten.specs.Alike.{kept_fault, AreAlike, both_end, both_fault, both_go_on, RunAlike, RunsAs}
use Rattle.cx_driver.specs.Alike.{kept_path, ToldAlike, InterpretsAlike, AlikeOfFile}
use Rattle.cx_driver.specs.Outcomes.{IsAnswer}
use Rattle.cx_driver.proofs.ReadLemmas.{Held}
use Rattle.cx_driver.specs.Sharing.{IsSharedTree}
use Rattle.cx_driver.proofs.RewritingLemmas.{answer_rewritten}

module _ (d e : PlainDesign) (alike : RunAlike d e) where
  answers_alike : (memories : List PlainMemory) (budget : ℕ) (a b : Answer State cycles.Fault) → AreAlike d e a b
      → ToldAlike (dumped (left_told memories budget (told d a))) (dumped (left_told memories budget (told e b)))
  answers_alike memories budget a b (both_end s z t same) = ap (λ words. Ok (dump_text t (with_words memories words))) same
  answers_alike memories budget a b (both_fault f t) =
      (stops.Fault f.kind (kept_path d f) t, (kept_path d f, refl), ap (λ x. dumped (left_told memories budget x)) (alike.faults f t))
  answers_alike memories budget a b both_go_on = (stops.More budget, refl, refl)

  loaded_alike : (budget : ℕ) (loaded : Result (List PlainMemory) DataFault) → ToldAlike (dumped (loaded_meant d budget loaded)) (dumped (loaded_meant e budget loaded))
  loaded_alike budget (Ok memories) =
      answers_alike memories budget (whole_main d (words_loaded memories) budget) (whole_main e (words_loaded memories) budget) (alike.runs (words_loaded memories) budget)
  loaded_alike budget (Err fault) = (stops.Json fault, refl, refl)

  designs_alike : (json : List ℕ) (budget : ℕ) → ToldAlike (meant_result d json budget) (meant_result e json budget)
  designs_alike json budget =
      subst (λ rows. ToldAlike (meant_result d json budget) (dumped (loaded_meant e budget (load_of json rows)))) (sym alike.rows) (loaded_alike budget (load_of json (external_rows d)))

  -- a fault of d
  fault_told : (f : cycles.Fault) (t : ℕ) (a b : Answer State cycles.Fault) → AreAlike d e a b → a ≡ Fault f t → told e b ≡ told d (Fault (kept_fault (tree_of d) f) t)
  fault_told f t a b (both_end s z n same) is = absurd (cc)
  fault_told f t a b (both_fault g n) is =
      let fault : g ≡ f = cc in let turn : n ≡ t = cc in
      alike.faults g n ∙ ap (λ x. told d (Fault (kept_fault (tree_of d) x) n)) fault ∙ ap (λ k. told d (Fault (kept_fault (tree_of d) f) k)) turn
  fault_told f t a b both_go_on is = absurd (cc)

  fault_alike : (json : List ℕ) (memories : List PlainMemory) (budget turn : ℕ) (fault : cycles.Fault) → load_of json (external_rows d) ≡ Ok memories
      → whole_main d (words_loaded memories) budget ≡ Fault fault turn → Err (stops.Fault fault.kind (kept_path d fault) turn) ≡ meant_result e json budget
  fault_alike json memories budget turn fault loads stops =
      let words : List (List ℕ) = words_loaded memories in
      ap (λ x. dumped (left_told memories budget x)) (sym (fault_told fault turn (whole_main d words budget) (whole_main e words budget) (alike.runs words budget) stops))
      ∙ ap (λ loaded. dumped (loaded_meant e budget loaded)) (sym loads)
      ∙ ap (λ rows. dumped (loaded_meant e budget (load_of json rows))) (sym alike.rows)

-- the text that is written of an accepted text
pub interprets_alike : (text other : List ℕ) (tree : PlainTree) → HasTree text tree → IsAcceptedTree tree → RunsAs tree other → InterpretsAlike text other
interprets_alike text other tree has accepted runs =
    let own : IsDesignOf other (design_of runs.again) = (runs.again, (runs.tokens, runs.lexed, runs.parsed), runs.accepted, refl) in
    let first : IsDesignOf text (design_of tree) = (tree, has, accepted, refl) in
    let alike = runs.alike (names_no_done tree accepted.named) in
    record {
      accepted = (runs.again, (runs.tokens, runs.lexed, runs.parsed), runs.accepted);
      told = λ json budget result is.
          let same = of_meant text (design_of tree) first json budget result is in (
            meant_result (design_of runs.again) json budget,
            inl (design_of runs.again, own, refl),
            subst (λ r. ToldAlike r (meant_result (design_of runs.again) json budget)) (sym same)
                (designs_alike (design_of tree) (design_of runs.again) alike json budget),
          );
      faults = λ d is json memories budget turn fault loads stops.
          inl (
            design_of runs.again,
            own,
            fault_alike d (design_of runs.again) (subst (λ x. RunAlike x (design_of runs.again)) (one_design text (design_of tree) d first is) alike)
                json memories budget turn fault loads stops,
          );
    }

-- of a file that was shared
pub shared_of_file : (held : Held) (file answer : List ℕ) (command : Asked) → share file ≡ command → IsAnswer held command answer → AlikeOfFile held file answer
shared_of_file held file answer command same h =
    let written : IsAnswer held (share file) answer = subst (λ asked. IsAnswer held asked answer) (sym same) h in
    let shared = answer_rewritten IsSharedTree written.bytes answer written.is in
    record {
      bytes = written.bytes;
      reads = written.reads;
      is = interprets_alike written.bytes answer shared.tree shared.has shared.accepted shared.written.runs;
    }
