-- What is written of an accepted tree is accepted, and its design runs as that of the tree.
use Rattle.std.proofs.Common.{◌≡◌, ℕ, List, refl, sym, ap, ◌∙◌, subst}
use Rattle.cx_ast.specs.PlainTree.{PlainTree}
use Rattle.cx_meaning.specs.Answers.{Answer, End, Fault, More}
use Rattle.cx_meaning.specs.Cycles as cycles
use Rattle.cx_meaning.specs.Designs.{PlainDesign}
use Rattle.cx_meaning.specs.Instances.{State, tree_of}
use Rattle.cx_rules.specs.Accepted.{IsAccepted}
use Rattle.cx_rules.specs.Wellformed.{IsDesign}
use Rattle.cx_numbering.specs.DesignOf.{design_of}
use Rattle.cx_names.proofs.TargetLemmas.{targets_in_text}
use Rattle.cx_check.specs.Acceptance.{IsAcceptedTree}
use Rattle.cx_flattening.specs.Ends.{NoneNamesDone}
use Rattle.cx_flattening.specs.Told.{Faulted}
use Rattle.cx_flattening.specs.Whole.{whole_main}
use Rattle.cx_sharing.specs.Following.{shared_fault}
use Rattle.cx_sharing.specs.SharedDesign.{shared_design}
use Rattle.cx_sharing.proofs.SharedMain.{rows_shared}
use Rattle.cx_sharing.proofs.WholeMain.{whole_ends, whole_fault, whole_more}
use Rattle.cx_sharing.specs.SharedTree.{shared_tree}
use Rattle.cx_rewritten.proofs.KeptNames.{told-shared}
use Rattle.cx_rewritten.proofs.DesignShared.{design-shared, shared_tree_accepted}
use Rattle.cx_rewritten.specs.Written.{IsReadAs}
use Rattle.cx_rewritten.specs.Sources.{IsTreeOfText}
use Rattle.cx_rewritten.specs.SharedTexts.{IsSharedText}
use Rattle.cx_rewritten.proofs.SharedLemmas.{shared_read}
use Rattle.cx_rewritten.specs.Alike.{AreAlike, both_end, both_fault, both_go_on, RunAlike, RunsAs}
use Rattle.cx_promote.proofs.PromotedLemmas.{tree_design}

-- the shared design of an accepted design runs as it does
pub shared_alike : (d : PlainDesign) → IsDesign d → IsAccepted d → NoneNamesDone d → RunAlike d (shared_design d)
shared_alike d design accepted undone = record { rows = rows_shared d design; runs = λ words n. by words n (whole_main d words n) refl; faults = told-shared d }
  where
    by : (words : List (List ℕ)) (n : ℕ) (a : Answer State cycles.Fault) → whole_main d words n ≡ a → AreAlike d (shared_design d) a (whole_main (shared_design d) words n)
    by words n (End s t) e =
        (let z = whole_ends d design accepted undone words n s t e in
        subst (AreAlike d (shared_design d) (End s t)) (sym z.1) (both_end s z.0 t z.2))
    by words n (Fault f t) e =
        subst (AreAlike d (shared_design d) (Fault f t)) (sym (whole_fault d design accepted undone words n f t e)) (both_fault f t)
    by words n More e = subst (AreAlike d (shared_design d) More) (sym (whole_more d design accepted undone words n e)) both_go_on

-- at other places
module _ (tree new : PlainTree) (written : List ℕ) (r : IsReadAs new written) where
  module _ (alike : RunAlike (design_of tree) (design_of new)) where
    words_alike : (a b : Answer State cycles.Fault) → AreAlike (design_of tree) (design_of new) a b → AreAlike (design_of tree) (design_of r.again) a b
    words_alike a b (both_end s z t e) = both_end s z t (sym (r.words z) ∙ e)
    words_alike a b (both_fault f t) = both_fault f t
    words_alike a b both_go_on = both_go_on

  pub runs_as : IsAcceptedTree new → (NoneNamesDone (design_of tree) → RunAlike (design_of tree) (design_of new)) → RunsAs tree written
  runs_as accepted alike = record {
    again = r.again;
    tokens = r.tokens;
    lexed = r.lexed;
    parsed = r.parsed;
    accepted = r.accepted accepted;
    alike = λ undone. record {
      rows = sym r.rows ∙ (alike undone).rows;
      runs = λ ws n.
          subst (AreAlike (design_of tree) (design_of r.again) (whole_main (design_of tree) ws n)) (r.run ws n)
          (words_alike (alike undone) (whole_main (design_of tree) ws n) (whole_main (design_of new) ws n) ((alike undone).runs ws n));
      faults = λ f t.
          let g : cycles.Fault = shared_fault (tree_of (design_of tree)) f in
          ap (λ name. Faulted g.kind name t) (sym (r.names g.path g.port)) ∙ (alike undone).faults f t;
    };
  }

-- WHAT IS WRITTEN of an accepted tree of a text
pub shared_runs : (tree : PlainTree) (written : List ℕ) → IsTreeOfText tree → IsAcceptedTree tree → IsDesign (design_of tree) → IsSharedText tree written → RunsAs tree written
shared_runs tree written source accepted design w =
    runs_as tree (shared_tree tree) written (shared_read tree written source w) (shared_tree_accepted tree design accepted)
    (λ undone. subst (RunAlike (design_of tree)) (sym (design-shared tree accepted.named)) (shared_alike (design_of tree) design accepted.accepted undone))

-- and of one whose design is held
pub held_runs : (tree : PlainTree) (d : PlainDesign) (written : List ℕ) → IsTreeOfText tree → IsAcceptedTree tree → d ≡ design_of tree → ∥ IsDesign d ∥₁ → IsSharedText tree written → RunsAs tree written
held_runs tree d written source accepted same keeps w =
    shared_runs tree written source accepted (tree_design tree d (targets_in_text source.1 tree source.3) accepted same keeps) w
