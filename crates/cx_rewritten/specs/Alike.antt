-- Texts whose designs are accepted, and run as the design of a tree does, with static components too.
use Rattle.std.specs.Prelude.{◌≡◌, ℕ, List}
use Rattle.cx_ast.specs.declared.tokens.Token.{Token}
use Rattle.cx_ast.specs.PlainTree.{PlainTree}
use Rattle.cx_lex.specs.Lex.{Lex}
use Rattle.cx_grammar.specs.Parsing.{Parse}
use Rattle.cx_meaning.specs.Answers.{Answer, End, Fault, More}
use Rattle.cx_meaning.specs.Cycles as cycles
use Rattle.cx_meaning.specs.Designs.{PlainDesign}
use Rattle.cx_meaning.specs.Instances.{Instance, State, part_of, instance_at, tree_of, words_of}
use Rattle.cx_rules.specs.Externals.{external_rows}
use Rattle.cx_numbering.specs.DesignOf.{design_of}
use Rattle.cx_check.specs.Acceptance.{IsAcceptedTree}
use Rattle.cx_flattening.specs.Ends.{NoneNamesDone}
use Rattle.cx_flattening.specs.Told.{told}
use Rattle.cx_flattening.specs.Whole.{whole_main}
use Rattle.cx_rewrites.specs.Renaming.{renamed}
use Rattle.cx_rewrites.specs.Standing.{renumbered}
use Rattle.cx_sharing.specs.Following.{shared_fault}
use Rattle.cx_sharing.specs.Giving.{keeper}

-- the same fault where each cell is the one that is kept for it: the faulty port's, and those that lead to its
-- instance. A cell of a component is kept itself
abbrev pub kept_fault : Instance → cycles.Fault → cycles.Fault
kept_fault i f = record {
  kind = f.kind;
  path = renumbered keeper i f.path;
  port = renamed (keeper (part_of (instance_at i f.path))) f.port;
}

-- a run of d and one of e: both end, in the same turn and with the same words; or e has the fault of d, by the numbers
-- of the shared design, in the same turn; or both need more turns
pub data AreAlike (d e : PlainDesign) : Answer State cycles.Fault → Answer State cycles.Fault → Type 0 where
  both_end : (s z : State) (t : ℕ) → words_of (tree_of e) z ≡ words_of (tree_of d) s → AreAlike d e (End s t) (End z t)
  both_fault : (f : cycles.Fault) (t : ℕ) → AreAlike d e (Fault f t) (Fault (shared_fault (tree_of d) f) t)
  both_go_on : AreAlike d e More More

-- on all data and under each budget, with the same external memories; and of the fault e tells what d tells of that at
-- the kept cell
pub record RunAlike (d e : PlainDesign) : Type 0 where
  pub rows : external_rows e ≡ external_rows d
  pub runs : (words : List (List ℕ)) (n : ℕ) → AreAlike d e (whole_main d words n) (whole_main e words n)
  pub faults : (f : cycles.Fault) (t : ℕ)
      → told e (Fault (shared_fault (tree_of d) f) t) ≡ told d (Fault (kept_fault (tree_of d) f) t)

-- the text has a tree that is accepted; and its design runs as the design of this tree, where nothing looks at the
-- done of a static component's cell, as in the design of every text
pub record RunsAs (tree : PlainTree) (written : List ℕ) : Type 0 where
  pub again : PlainTree
  pub tokens : List Token
  pub lexed : Lex written tokens
  pub parsed : Parse tokens again
  pub accepted : IsAcceptedTree again
  pub alike : NoneNamesDone (design_of tree) → RunAlike (design_of tree) (design_of again)
