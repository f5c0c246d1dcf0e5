-- Texts that are interpreted alike.
use Rattle.std.specs.Prelude.{◌≡◌, ℕ, List, Option, Result, Ok, Err}
use Rattle.cx_text.specs.declared.limits.TheConstants.{DESIGN_BYTES}
use Rattle.cx_text.specs.Loading.{PlainMemory, words_loaded}
use Rattle.cx_data.specs.Load.{load_of}
use Rattle.cx_meaning.specs.Answers as answers
use Rattle.cx_meaning.specs.Cycles.{Fault}
use Rattle.cx_meaning.specs.Designs.{PlainDesign}
use Rattle.cx_meaning.specs.Instances.{tree_of}
use Rattle.cx_rules.specs.Externals.{external_rows}
use Rattle.cx_rules.specs.FullPaths.{full_path}
use Rattle.cx_flattening.specs.Whole.{whole_main}
use Rattle.cx_rewritten.specs.Alike.{kept_fault}
use Rattle.cx_commands.specs.Reads.{OfFile}
use Rattle.cx_commands.specs.declared.stops.Stop.{Stop}
use Rattle.cx_commands.specs.declared.stops.Stop.TheVariants as stops
use Rattle.cx_compiler.specs.Interpreted.{Interprets}
use Rattle.cx_compiler.specs.Texts.{IsDesignOf, IsAcceptedText}

-- the path of the port of a fault of d, in which each cell has the name of the one that is kept for it
abbrev pub kept_path : PlainDesign → Fault → List ℕ
kept_path d fault =
    full_path (tree_of d) (kept_fault (tree_of d) fault).path (kept_fault (tree_of d) fault).port

-- the same stop; of a fault the same kind and the same turn
abbrev pub StopsAlike : Stop → Stop → Type 0
StopsAlike (stops.Rule told) other = other ≡ stops.Rule told
StopsAlike (stops.Verilog refused) other = other ≡ stops.Verilog refused
StopsAlike (stops.Json fault) other = other ≡ stops.Json fault
StopsAlike (stops.More budget) other = other ≡ stops.More budget
StopsAlike (stops.Fault kind path turn) other = (at : List ℕ) × (other ≡ stops.Fault kind at turn)
StopsAlike (stops.Loop path) other = other ≡ stops.Loop path
StopsAlike stops.Memory other = other ≡ stops.Memory

-- the same answer, or the same stop
abbrev pub ToldAlike : Result (List ℕ) Stop → Result (List ℕ) Stop → Type 0
ToldAlike (Ok dump) other = other ≡ Ok dump
ToldAlike (Err stop) other = (why : Stop) × StopsAlike stop why × (other ≡ Err why)

-- INTERPRETED ALIKE: the second text is accepted; and on every data file and within every budget of turns `interp`
-- dumps of it what it dumps of the first, byte for byte; or it refuses the data file for the same fault, needs more
-- turns as well, or has a fault of the same kind in the same turn. A fault at a port of a cell of the first is told
-- at that port of the cell that is kept for this cell
pub record InterpretsAlike (text other : List ℕ) : Type 0 where
  pub accepted : IsAcceptedText other
  pub told : (json : List ℕ) (budget : ℕ) (result : Result (List ℕ) Stop) → Interprets text json budget result
      → (answer : Result (List ℕ) Stop) × Interprets other json budget answer × ToldAlike result answer
  pub faults : (d : PlainDesign) → IsDesignOf text d
      → (json : List ℕ) (memories : List PlainMemory) (budget turn : ℕ) (fault : Fault)
      → load_of json (external_rows d) ≡ Ok memories
      → whole_main d (words_loaded memories) budget ≡ answers.Fault fault turn
      → Interprets other json budget (Err (stops.Fault fault.kind (kept_path d fault) turn))

-- this is written of a file: where it is told what files hold, of the text that the file holds
abbrev pub AlikeOfFile : Option (List ℕ → Option (List ℕ)) → List ℕ → List ℕ → Type 0
AlikeOfFile held file answer = OfFile held DESIGN_BYTES file (λ text. InterpretsAlike text answer)
