-- What is said of the definitions.
use Rattle.std.specs.Prelude.{◌≡◌, ◌≤◌, ◌<◌, ◌^◌, ℕ, List}
use Rattle.cx_text.specs.declared.limits.TheConstants.{COMPILE_SIZE, VERILOG_BYTES}
use Rattle.cx_meaning.specs.Answers as answers
use Rattle.cx_meaning.specs.Cycles as cycles
use Rattle.cx_meaning.specs.Designs.{PlainDesign}
use Rattle.cx_meaning.specs.Instances.{State}
use Rattle.cx_meaning.specs.Running.{run_main}
use Rattle.cx_rules.specs.Accepted.{IsAccepted}
use Rattle.cx_rules.specs.Counts.{counted_design_size}
use Rattle.cx_rules.specs.Flat.{IsFlat}
use Rattle.cx_rules.specs.Sizes.{design_size}
use Rattle.cx_rules.specs.Wellformed.{IsDesign}
use Rattle.cx_orders.specs.Woven.{Choices, Ends, woven}
use Rattle.cx_compiler.specs.Runnable.{runnable}
use Rattle.cx_vtree.specs.Plain.{PlainSource}
use Rattle.cx_vtree.specs.Spelling.{text_of}
use Rattle.cx_vwrite.specs.Refused.{IsTooLong}
use Rattle.cx_vwrite.specs.declared.refusals.WriteRefusal.TheVariants.{TooLong}
use Rattle.cx_emitted.specs.Shallow.{IsShallow}
use Rattle.cx_compiler.specs.Compiled.{written_source}
use Rattle.cx_compiler.specs.Simulated.{IsVerilogOf}
use Rattle.cx_compiler.specs.Texts.{IsDesignOf}

-- two sound sources of one text are one
abbrev pub OneSource : Type 0
OneSource = (text : List ℕ) (s t : PlainSource) → IsVerilogOf text s → IsVerilogOf text t → s ≡ t

-- of an accepted text without static components, few static ifs stand around a statement of what is run
abbrev pub AreShallow : Type 0
AreShallow = (text : List ℕ) (d : PlainDesign) → IsDesignOf text d → IsFlat d → IsShallow (runnable d)

-- where this is so of what is run of an accepted text within the size, the text of its source is within the limit of a Verilog text
abbrev pub NeverTooLong : Type 0
NeverTooLong =
    (text : List ℕ) (d : PlainDesign) → IsDesignOf text d → design_size d < 2 ^ 32
    → counted_design_size d ≤ COMPILE_SIZE → IsShallow (runnable d)
    → (n : ℕ) → IsTooLong VERILOG_BYTES (text_of (written_source (runnable d))) (TooLong n) → ⊥

-- in an accepted design, where the run of main has a fault, no order of the leaves ends
abbrev pub NoneEnds : Type 0
NoneEnds =
    (d : PlainDesign) (words : List (List ℕ)) (order : Choices) (budget steps : ℕ) (fault : cycles.Fault)
    (turn : ℕ) (after : State) (made sum : ℕ)
    → IsDesign d → IsAccepted d → run_main d words budget ≡ answers.Fault fault turn
    → woven d words order steps ≡ Ends after made sum → ⊥
