-- A text whose design ends no later than that of an accepted text is interpreted no later.
use Rattle.std.proofs.Common.{◌≡◌, inl, ℕ, List, Result, Ok, Err, refl, sym, ap, ◌∙◌, subst}
use Rattle.cx_text.specs.Loading.{PlainMemory, words_loaded, with_words}
use Rattle.cx_ast.specs.PlainTree.{PlainTree}
use Rattle.cx_check.specs.Acceptance.{IsAcceptedTree}
use Rattle.cx_data.specs.Dump.{dump_text}
use Rattle.cx_data.specs.Load.{load_of}
use Rattle.cx_data.specs.declared.faults.DataFault.{DataFault}
use Rattle.cx_meaning.specs.Answers.{Answer, End, Fault, More}
use Rattle.cx_meaning.specs.Cycles as cycles
use Rattle.cx_meaning.specs.Designs.{PlainDesign}
use Rattle.cx_meaning.specs.Instances.{State, tree_of, words_of}
use Rattle.cx_rules.specs.Externals.{external_rows}
use Rattle.cx_flattening.specs.Told.{told}
use Rattle.cx_flattening.specs.Whole.{whole_main}
use Rattle.cx_numbering.specs.DesignOf.{design_of}
use Rattle.cx_commands.specs.Commands.{Asked, promote}
use Rattle.cx_commands.specs.Unread.{HasTree}
use Rattle.cx_compiler.specs.Interpreted.{dumped, left_told, loaded_meant, meant_result}
use Rattle.cx_compiler.specs.Texts.{IsDesignOf}
use Rattle.cx_compiler.proofs.PromiseLemmas.{of_meant}
use Rattle.cx_compiler.proofs.StaticEnds.{names_no_done}
use Rattle.cx_promotion.specs.Made.{WholeQuickens}
use Rattle.cx_rewritten.specs.NoLater.{EndsNoLater}
use Rattle.cx_driver.specs.NoLater.{ToldNoLater, InterpretsNoLater, NoLaterOfFile}
use Rattle.cx_driver.specs.Outcomes.{IsAnswer}
use Rattle.cx_driver.specs.Promoting.{PromotesTree}
use Rattle.cx_driver.proofs.ReadLemmas.{Held}
use Rattle.cx_driver.proofs.RewritingLemmas.{answer_rewritten}

module _ (d e : PlainDesign) (quickens : WholeQuickens d e) (words : (s : State) → words_of (tree_of e) s ≡ words_of (tree_of d) s) where
  answers_no_later : (memories : List PlainMemory) (loaded : List (List ℕ)) (budget : ℕ) (a : Answer State cycles.Fault) → whole_main d loaded budget ≡ a
      → ToldNoLater (dumped (left_told memories budget (told d a))) (dumped (left_told memories budget (told e (whole_main e loaded budget))))
  answers_no_later memories loaded budget (End s t) ends =
      let k = quickens.runs loaded budget t s ends in (
        t,
        k.0,
        with_words memories (words_of (tree_of d) s),
        refl,
        ap (λ a. dumped (left_told memories budget (told e a))) k.1 ∙ ap (λ list. Ok (dump_text k.0 (with_words memories list))) (words s),
        k.2,
      )
  answers_no_later memories loaded budget (Fault f t) ends = tt
  answers_no_later memories loaded budget More ends = tt

  loaded_no_later : (budget : ℕ) (loaded : Result (List PlainMemory) DataFault) → ToldNoLater (dumped (loaded_meant d budget loaded)) (dumped (loaded_meant e budget loaded))
  loaded_no_later budget (Ok memories) = answers_no_later memories (words_loaded memories) budget (whole_main d (words_loaded memories) budget) refl
  loaded_no_later budget (Err fault) = refl

  designs_no_later : (json : List ℕ) (budget : ℕ) → ToldNoLater (meant_result d json budget) (meant_result e json budget)
  designs_no_later json budget =
      subst (λ rows. ToldNoLater (meant_result d json budget) (dumped (loaded_meant e budget (load_of json rows)))) quickens.rows (loaded_no_later budget (load_of json (external_rows d)))

-- the text that is written of an accepted text
interprets_no_later : (text other : List ℕ) (tree : PlainTree) → HasTree text tree → IsAcceptedTree tree → EndsNoLater tree other → InterpretsNoLater text other
interprets_no_later text other tree has accepted runs =
    let own : IsDesignOf other (design_of runs.again) = (runs.again, (runs.tokens, runs.lexed, runs.parsed), runs.accepted, refl) in
    record {
      accepted = (runs.again, (runs.tokens, runs.lexed, runs.parsed), runs.accepted);
      told = λ json budget result is.
          let same = of_meant text (design_of tree) (tree, has, accepted, refl) json budget result is in (
            meant_result (design_of runs.again) json budget,
            inl (design_of runs.again, own, refl),
            subst (λ r. ToldNoLater r (meant_result (design_of runs.again) json budget)) (sym same)
                (designs_no_later (design_of tree) (design_of runs.again) (runs.quickens (names_no_done tree accepted.named)) runs.words json budget),
          );
    }

-- of a file that was promoted
pub promoted_of_file : (held : Held) (file answer : List ℕ) (command : Asked) → promote file ≡ command → IsAnswer held command answer → NoLaterOfFile held file answer
promoted_of_file held file answer command same h =
    let written : IsAnswer held (promote file) answer = subst (λ asked. IsAnswer held asked answer) (sym same) h in
    let promoted = answer_rewritten PromotesTree written.bytes answer written.is in
    record {
      bytes = written.bytes;
      reads = written.reads;
      is = interprets_no_later written.bytes answer promoted.tree promoted.has promoted.accepted promoted.written.runs;
    }
