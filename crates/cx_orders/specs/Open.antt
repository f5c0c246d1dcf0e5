-- Open statements: what of the control of a design has begun and not yet ended.
use Rattle.std.specs.Prelude.{ℕ, zero, suc, ◌+◌, List, Option, Some, None}
use Rattle.cx_meaning.specs.declared.ports.PortRef.{PortRef}
use Rattle.cx_meaning.specs.declared.sights.Seen.{Seen}
use Rattle.cx_meaning.specs.declared.kinds.GroupKind.{GroupKind}
use Rattle.cx_meaning.specs.declared.kinds.GroupKind.TheVariants as kinds
use Rattle.cx_meaning.specs.Designs.{PlainComponent, group_at, PlainForm, Empty, Enable, Seq, Par, If, While, Repeat, StaticSeq, StaticPar, StaticIf, StaticRepeat, Timed, PlainStatement, Placed, PlainStatements, no_statements, a_statement}
use Rattle.cx_meaning.specs.Instances.{Instance, Node, Cells, no_cells, a_primitive, an_instance, cells_of, part_of}
use Rattle.cx_meaning.specs.Islands.{History, no_history, form_length}
use Rattle.cx_meaning.specs.Calls.{called}

mutual
  pub data Open : Type 0 where
    -- LEAVES. What has no part: one idle turn
    Idling : Open
    -- a group that is no call
    InGroup : (g : ℕ) → Open
    -- an if before its test, and a while before a test
    Choosing : (port : PortRef) (comb : Option ℕ) (then_branch else_branch : PlainStatement) → Open
    Testing : (port : PortRef) (comb : Option ℕ) (body : PlainStatement) → Open
    -- an island before its cycle t, with so many cycles left, and what its samples were before
    InIsland : (form : PlainForm) (t left : ℕ) (h : History) → Open
    -- a call after its child: before the capture cycle, and before the idle turn
    Capturing : (g c : ℕ) → Open
    Closing : (g : ℕ) → Open
    -- what never ends
    Waiting : Open
    -- SUBTREES. A seq, with the parts behind the one that runs; a par, with the arms that have not ended
    InSeq : (first : Open) (later : PlainStatements) → Open
    InPar : (arms : Opens) → Open
    -- a while and a repeat, while the body runs; a repeat with so many rounds behind this one
    InLoop : (run : Open) (port : PortRef) (comb : Option ℕ) (body : PlainStatement) → Open
    InRepeat : (run : Open) (left : ℕ) (body : PlainStatement) → Open
    -- a call of the child at a cell, while the child runs; its inputs, once they are seen
    InCall : (g c : ℕ) (inputs : Option (List Seen)) (child : Open) → Open

  pub data Opens : Type 0 where
    no_arms : Opens
    -- what is open of an arm, with the arm itself, which says whose it is
    an_arm : (statement : PlainStatement) (arm : Open) (arms : Opens) → Opens

-- how many leaves are open
abbrev mutual
  pub leaves_of : Open → ℕ
  leaves_of Idling = 1
  leaves_of (InGroup g) = 1
  leaves_of (Choosing port comb a b) = 1
  leaves_of (Testing port comb body) = 1
  leaves_of (InIsland form t left h) = 1
  leaves_of (Capturing g c) = 1
  leaves_of (Closing g) = 1
  leaves_of Waiting = 1
  leaves_of (InSeq first later) = leaves_of first
  leaves_of (InPar arms) = leaves_of_all arms
  leaves_of (InLoop run port comb body) = leaves_of run
  leaves_of (InRepeat run left body) = leaves_of run
  leaves_of (InCall g c inputs child) = leaves_of child

  pub leaves_of_all : Opens → ℕ
  leaves_of_all no_arms = 0
  leaves_of_all (an_arm statement arm arms) = leaves_of arm + leaves_of_all arms

-- an island that has not begun
abbrev pub open_island : PlainComponent → PlainForm → Open
open_island part form = InIsland form 0 (form_length part form) no_history

-- OPENING A STATEMENT: all arms of a par are open, and of a seq the first part
module _ (part : PlainComponent) (enable : ℕ → Open) where
  abbrev mutual
    pub open_form : PlainForm → Open
    open_form Empty = Idling
    open_form (Enable g) = enable g
    open_form (Seq no_statements) = Idling
    open_form (Seq (a_statement first later)) = InSeq (open_with first) later
    open_form (Par no_statements) = Idling
    open_form (Par (a_statement first later)) = InPar (an_arm first (open_with first) (open_arms later))
    open_form (If test comb a b) = Choosing test.port comb a b
    open_form (While test comb a) = Testing test.port comb a
    open_form (Repeat zero a) = Idling
    open_form (Repeat (suc k) a) = InRepeat (open_with a) k a
    open_form (StaticSeq length parts) = open_island part (StaticSeq length parts)
    open_form (StaticPar length arms) = open_island part (StaticPar length arms)
    open_form (StaticIf length test a b) = open_island part (StaticIf length test a b)
    open_form (StaticRepeat length count a) = open_island part (StaticRepeat length count a)
    open_form (Timed k) = Waiting

    pub open_with : PlainStatement → Open
    open_with (Placed form place) = open_form form

    pub open_arms : PlainStatements → Opens
    open_arms no_statements = no_arms
    open_arms (a_statement first later) = an_arm first (open_with first) (open_arms later)

-- the enable of a group: a static group is an island, a call opens the child's control
abbrev pub open_called : (ℕ → Open) → ℕ → Option ℕ → Open
open_called child g (Some c) = InCall g c None (child c)
open_called child g None = InGroup g

abbrev pub open_kind : Instance → (ℕ → Open) → ℕ → GroupKind → Open
open_kind i child g kinds.Plain = open_called child g (called i g)
open_kind i child g kinds.Comb = open_called child g (called i g)
open_kind i child g (kinds.Timed length) = open_island (part_of i) (Enable g)

abbrev pub open_enable : Instance → (ℕ → Open) → ℕ → Open
open_enable i child g = open_kind i child g (group_at (part_of i) g).kind

-- the control of an instance, and that of the child at a cell
abbrev mutual
  pub open_control : Instance → Open
  open_control (Node part cells) = open_with part (open_enable (Node part cells) (open_below cells)) part.control

  pub open_below : Cells → ℕ → Open
  open_below no_cells c = Waiting
  open_below (a_primitive row rest) zero = Waiting
  open_below (a_primitive row rest) (suc c) = open_below rest c
  open_below (an_instance child rest) zero = open_control child
  open_below (an_instance child rest) (suc c) = open_below rest c

-- any statement of an instance
abbrev pub open_statement : Instance → PlainStatement → Open
open_statement (Node part cells) statement = open_with part (open_enable (Node part cells) (open_below cells)) statement

-- some arms of a par of an instance, and the arms of two lists
abbrev pub open_statements : Instance → PlainStatements → Opens
open_statements i arms = open_arms (part_of i) (open_enable i (open_below (cells_of i))) arms

abbrev pub beside : Opens → Opens → Opens
beside no_arms more = more
beside (an_arm statement arm arms) more = an_arm statement arm (beside arms more)
