-- What an accepted text means on a data file is what the design that is run does on it.
use Rattle.std.proofs.Common.{◌≡◌, ℕ, ◌<◌, ◌^◌, List, Result, Ok, Err, None, refl, sym, ap, ◌∙◌, subst}
use Rattle.cx_text.specs.Loading.{PlainMemory, words_loaded}
use Rattle.cx_data.specs.Load.{load_of}
use Rattle.cx_data.specs.declared.faults.DataFault.{DataFault}
use Rattle.cx_ast.specs.PlainTree.{PlainTree}
use Rattle.cx_meaning.specs.Answers as answers
use Rattle.cx_meaning.specs.Cycles.{Fault}
use Rattle.cx_meaning.specs.Designs.{PlainDesign}
use Rattle.cx_meaning.specs.Instances.{State}
use Rattle.cx_meaning.specs.Running.{run_main}
use Rattle.cx_rules.specs.Accepted.{IsAccepted}
use Rattle.cx_rules.specs.Externals.{external_rows}
use Rattle.cx_rules.specs.Flat.{IsFlat}
use Rattle.cx_rules.specs.Sizes.{design_size}
use Rattle.cx_numbering.specs.DesignOf.{design_of}
use Rattle.cx_numbering.specs.NameRules.{names_break}
use Rattle.cx_flattening.specs.Told.{told}
use Rattle.cx_flattening.specs.Whole.{whole_main}
use Rattle.cx_compiler.specs.Runnable.{runnable, RunsAsMeant}
use Rattle.cx_compiler.proofs.TextForms.{text_means_the_same}
use Rattle.cx_commands.specs.Unread.{HasTree}
use Rattle.cx_commands.specs.declared.stops.Stop.TheVariants as stops
use Rattle.cx_compiler.specs.Interpreted.{left_of, left_told, run_left, loaded_left, design_left, design_result, meant_left, loaded_meant, design_meant, meant_result, dumped}
use Rattle.cx_compiler.specs.Texts.{IsDesignOf, IsRunOf}

-- what a run leaves is what it tells
left_is : (d : PlainDesign) (memories : List PlainMemory) (budget : ℕ) (a : answers.Answer State Fault) → left_told memories budget (told d a) ≡ left_of d memories budget a
left_is d memories budget (answers.End after turns) = refl
left_is d memories budget (answers.Fault fault turn) = refl
left_is d memories budget answers.More = refl

module _ (d : PlainDesign) (runs : RunsAsMeant d) where
  pub left_meant : (memories : List PlainMemory) (budget : ℕ) → meant_left d memories budget ≡ run_left (runnable d) memories budget
  left_meant memories budget =
      ap (left_told memories budget) (sym (runs.runs (words_loaded memories) budget))
      ∙ left_is (runnable d) memories budget (run_main (runnable d) (words_loaded memories) budget)

  loaded_meant_is : (budget : ℕ) (loaded : Result (List PlainMemory) DataFault) → loaded_meant d budget loaded ≡ loaded_left (runnable d) budget loaded
  loaded_meant_is budget (Ok memories) = left_meant memories budget
  loaded_meant_is budget (Err fault) = refl

  design_left_is : (json : List ℕ) (budget : ℕ) → design_meant d json budget ≡ design_left (runnable d) json budget
  design_left_is json budget = loaded_meant_is budget (load_of json (external_rows d)) ∙ ap (λ rows. loaded_left (runnable d) budget (load_of json rows)) (sym runs.rows)

  pub design_meant_is : (json : List ℕ) (budget : ℕ) → meant_result d json budget ≡ design_result (runnable d) json budget
  design_meant_is json budget = ap dumped (design_left_is json budget)

-- OF AN ACCEPTED TEXT, by the law on what is run of it
abbrev pub TextsRunAsMeant : Type 0
TextsRunAsMeant = (text : List ℕ) (tree : PlainTree) → HasTree text tree → names_break tree ≡ None → IsAccepted (design_of tree)
    → design_size (design_of tree) < 2 ^ 32 → RunsAsMeant (design_of tree)

pub text_runs : TextsRunAsMeant → (text : List ℕ) (d : PlainDesign) → IsDesignOf text d → design_size d < 2 ^ 32 → RunsAsMeant d
text_runs meant text d h few = subst RunsAsMeant (sym h.3) (meant text h.0 h.1 h.2.named h.2.accepted (subst (λ (e : PlainDesign). design_size e < 2 ^ 32) h.3 few))

pub run_of_text : TextsRunAsMeant → ((d : PlainDesign) → IsFlat (runnable d)) → (text : List ℕ) (d : PlainDesign) → IsDesignOf text d → design_size d < 2 ^ 32 → IsRunOf text (runnable d)
run_of_text meant flat text d h few = record { design = d; stands = h; few = few; is = refl; flat = flat d; runs = text_runs meant text d h few }

-- what is run of it does what the text means
pub run_meant : (text : List ℕ) (run : PlainDesign) (h : IsRunOf text run) (json : List ℕ) (budget : ℕ) → meant_result h.design json budget ≡ design_result run json budget
run_meant text run h json budget = design_meant_is h.design h.runs json budget ∙ ap (λ (e : PlainDesign). design_result e json budget) (sym h.is)

-- and where it has no static component, it is what the design itself does, whatever its size
same_left : (d : PlainDesign) → ((words : List (List ℕ)) (n : ℕ) → whole_main d words n ≡ run_main d words n) → (budget : ℕ) (loaded : Result (List PlainMemory) DataFault) → loaded_meant d budget loaded ≡ loaded_left d budget loaded
same_left d same budget (Ok memories) = ap (λ a. left_told memories budget (told d a)) (same (words_loaded memories) budget) ∙ left_is d memories budget (run_main d (words_loaded memories) budget)
same_left d same budget (Err fault) = refl

pub text_meant : (text : List ℕ) (d : PlainDesign) → IsDesignOf text d → IsFlat d → (json : List ℕ) (budget : ℕ) → meant_result d json budget ≡ design_result d json budget
text_meant text d h flat json budget =
    subst (λ (e : PlainDesign). meant_result e json budget ≡ design_result e json budget) (sym h.3)
    (ap dumped (same_left (design_of h.0) (text_means_the_same h.0 h.2.named (subst IsFlat h.3 flat)) budget (load_of json (external_rows (design_of h.0)))))
