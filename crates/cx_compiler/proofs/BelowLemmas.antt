-- A cycle within the bound, budgets of main, and data that loads fits.
use Rattle.std.proofs.Common.{◌≡◌, ℕ, ◌+◌, ◌≤◌, List, Option, Some, None, Ok, refl, arith}
use Rattle.cx_text.specs.Loading.{PlainRow, PlainMemory, FitsRows}
use Rattle.serde_json.specs.Data.{Data}
use Rattle.cx_data.specs.Load.{top_of, from_top, load_of}
use Rattle.cx_data.proofs.LoadLemmas.{memories_of-fit}
use Rattle.cx_meaning.specs.Designs.{PlainDesign}
use Rattle.cx_meaning.specs.Instances.{tree_of, start}
use Rattle.cx_meaning.specs.Sights.{unheld}
use Rattle.cx_meaning.specs.Running.{run_main}
use Rattle.cx_meaning.specs.Budgets.{Grows}
use Rattle.cx_meaning.proofs.RunningLemmas.{steady_control}
use Rattle.cx_vtree.specs.Plain.{PlainSource}
use Rattle.cx_vtree.specs.Meaning.{State}
use Rattle.cx_vtree.specs.SimRun.{Outcome, DoneAt, SimRun, RunsFrom, loops, ends, spent, goes_on, after_reset}

-- `done` comes in a cycle that may be looked at
from_within : {source : PlainSource} {s : State} {cycle left : ℕ} {o : Outcome} (c : ℕ) (words : List (List ℕ)) → RunsFrom source s cycle left o → o ≡ DoneAt c words → c ≤ cycle + left
from_within c words (loops f) e = absurd (cc)
from_within {cycle = cycle} {left = left} c words (ends look w d) e = let same : cycle ≡ c = cc in omega arith
from_within c words (spent look w d) e = absurd (cc)
from_within {cycle = cycle} c words (goes_on {left = left} look w d r) e = let h : c ≤ (cycle + 1) + left = from_within c words r e in omega arith

pub cycle_within : (source : PlainSource) (loaded : List (List ℕ)) (last c : ℕ) (words : List (List ℕ)) → SimRun source loaded last (DoneAt c words) → c ≤ last
cycle_within source loaded last c words (after_reset look w r) = let h : c ≤ 0 + last = from_within c words r refl in omega arith

-- a greater budget changes nothing but that more may be seen
pub main_grows : (d : PlainDesign) (loaded : List (List ℕ)) (n m : ℕ) → n ≤ m → Grows n (run_main d loaded n) (run_main d loaded m)
main_grows d loaded n m le = steady_control (tree_of d) unheld (start (tree_of d) loaded) n m le

-- the memories that load fit
top_fits : (o : Option Data) (rows : List PlainRow) (ms : List PlainMemory) → from_top o rows ≡ Ok ms → FitsRows rows ms
top_fits None rows ms e = absurd (cc)
top_fits (Some top) rows ms e = memories_of-fit top rows ms e

pub loaded_fits : (json : List ℕ) (rows : List PlainRow) (ms : List PlainMemory) → load_of json rows ≡ Ok ms → FitsRows rows ms
loaded_fits json rows ms e = top_fits (top_of json) rows ms e
