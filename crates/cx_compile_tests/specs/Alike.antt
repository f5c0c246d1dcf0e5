-- What the laws of accepted designs say of the design of one text, with the words of one data file and within one budget of turns.
use Rattle.std.specs.Prelude.{◌≡◌, ◌≢◌, ℕ, List, Ok}
use Rattle.cx_text.specs.Loading.{PlainMemory, words_loaded, with_words}
use Rattle.cx_data.specs.Dump.{dump_text}
use Rattle.cx_data.specs.Load.{load_of}
use Rattle.cx_meaning.specs.Answers.{End, More}
use Rattle.cx_meaning.specs.Designs.{PlainDesign}
use Rattle.cx_meaning.specs.Instances.{State, tree_of, words_of}
use Rattle.cx_meaning.specs.Running.{run_main}
use Rattle.cx_rules.specs.Externals.{external_rows}
use Rattle.cx_vtree.specs.SimRun.{DoneAt}
use Rattle.cx_control.specs.DesignRuns.{EndsSo, GoesOnSo}
use Rattle.cx_net.specs.NetRuns.{NetRun}
use Rattle.cx_net.specs.NetTree.{NetInstance, net_tree}
use Rattle.cx_net.specs.Realises.{HasOutcome}
use Rattle.cx_static.specs.Lowering.{lowered_of}
use Rattle.cx_wiring.specs.Wiring.{net_of}
use Rattle.cx_compiler.specs.Texts.{IsRunOf}

-- the net of a design
abbrev pub net_for : PlainDesign → NetInstance
net_for d = net_tree (net_of (lowered_of d))

-- the text is accepted, this is the design that is run of it, and the data file loads these memories
pub record Loads (text json : List ℕ) : Type 0 where
  pub design : PlainDesign
  pub stands : IsRunOf text design
  pub memories : List PlainMemory
  pub loaded : load_of json (external_rows design) ≡ Ok memories

-- MAIN ENDS, which is told by this dump: the machine of the design ends in as many cycles and with the same cells, and its net is done
-- first in the cycle of that number, with the same words
pub record EndsAlike (text json : List ℕ) (budget : ℕ) (dump : List ℕ) : Type 0 where
  pub given : Loads text json
  pub turns : ℕ
  pub after : State
  pub main : run_main given.design (words_loaded given.memories) budget ≡ End after turns
  pub told : dump ≡ dump_text turns (with_words given.memories (words_of (tree_of given.design) after))
  pub machine : EndsSo given.design (words_loaded given.memories) budget turns after
  pub net : NetRun (net_for given.design) (words_loaded given.memories) budget
      (DoneAt turns (words_of (tree_of given.design) after))

-- MAIN NEEDS MORE TURNS: the machine is not done in any of these cycles; the net comes to something, so no part of it is ever without a
-- value, and where it is done in a cycle main does not need more turns than that
pub record WaitsAlike (text json : List ℕ) (budget : ℕ) : Type 0 where
  pub given : Loads text json
  pub main : run_main given.design (words_loaded given.memories) budget ≡ More
  pub machine : GoesOnSo given.design (words_loaded given.memories) budget
  pub net : HasOutcome (NetRun (net_for given.design)) (words_loaded given.memories) budget
  pub not_before : (cycle : ℕ) (left : List (List ℕ))
      → NetRun (net_for given.design) (words_loaded given.memories) budget (DoneAt cycle left)
      → run_main given.design (words_loaded given.memories) cycle ≢ More
