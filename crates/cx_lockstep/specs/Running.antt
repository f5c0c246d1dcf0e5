-- Which leaves run where control stands, and at which of their own places.
use Rattle.std.specs.Prelude.{zero, suc, ℕ, Bool, List, [], ◌∷◌, ◌++◌, Option}
use Rattle.cx_text.specs.declared.places.Place.{Place}
use Rattle.cx_meaning.specs.Designs.{PlainForm, Empty, Enable, Seq, Par, If, While, Repeat, StaticSeq, StaticPar, StaticIf, StaticRepeat, Timed, PlainStatement, Placed, PlainStatements, no_statements, a_statement}
use Rattle.cx_lockstep.specs.Worlds.{Store, Control, At, Done, Machine}
use Rattle.cx_lockstep.specs.Machines.{InSeq, First, Second, InPar, left_of, right_of, InIf, AtTest, InThen, InElse, InWhile, AtHead, InBody}
use Rattle.cx_lockstep.specs.Statements.{LeafMachines, form_machine, machine_of, parts_machine, arms_machine}

-- a leaf that runs, with the place of its statement in the text
pub data Running {X : Type 0} {V : X → Type 0} {F : Type 0} (P : LeafMachines X V F) : Type 0 where
  AGroup : (g : ℕ) (place : Place) (stand : Machine.Place (P.enable g)) → Running P
  AnIsland : (form : PlainForm) (place : Place) (stand : Machine.Place (P.island form)) → Running P

module _ {R : Type 0} where
  abbrev pub at_control : {C : Type 0} → (C → List R) → Control C → List R
  at_control f (At c) = f c
  at_control f Done = []

  abbrev pub seq_runs : {A B : Type 0} → (A → List R) → (B → List R) → InSeq A B → List R
  seq_runs f h (First c) = f c
  seq_runs f h (Second c) = h c

  abbrev pub par_runs : {A B : Type 0} → (A → List R) → (B → List R) → InPar A B → List R
  par_runs f h c = at_control f (left_of c) ++ at_control h (right_of c)

  abbrev pub if_runs : {A B : Type 0} → (A → List R) → (B → List R) → InIf A B → List R
  if_runs f h AtTest = []
  if_runs f h (InThen c) = f c
  if_runs f h (InElse c) = h c

  abbrev pub while_runs : {A : Type 0} → (A → List R) → InWhile A → List R
  while_runs f AtHead = []
  while_runs f (InBody c) = f c

module _ {X : Type 0} {V : X → Type 0} {F : Type 0} (P : LeafMachines X V F) where
  -- the leaf as a statement, and what it does there
  abbrev pub leaf_of : Running P → PlainStatement
  leaf_of (AGroup g place stand) = Placed (Enable g) place
  leaf_of (AnIsland form place stand) = Placed form place

  abbrev pub leaf_writes : Running P → Store X V → (x : X) → Option (V x)
  leaf_writes (AGroup g place stand) = Machine.writes (P.enable g) stand
  leaf_writes (AnIsland form place stand) = Machine.writes (P.island form) stand

  abbrev pub leaf_faults : Running P → Store X V → Bool
  leaf_faults (AGroup g place stand) = Machine.faults (P.enable g) stand
  leaf_faults (AnIsland form place stand) = Machine.faults (P.island form) stand

  abbrev pub group_next : (g : ℕ) → Place → Control (Machine.Place (P.enable g)) → List (Running P)
  group_next g place (At stand) = AGroup g place stand ∷ []
  group_next g place Done = []

  abbrev pub island_next : (form : PlainForm) → Place → Control (Machine.Place (P.island form)) → List (Running P)
  island_next form place (At stand) = AnIsland form place stand ∷ []
  island_next form place Done = []

  -- the leaf after a cycle, where it has not ended
  abbrev pub leaf_next : Running P → Store X V → List (Running P)
  leaf_next (AGroup g place stand) s = group_next g place (Machine.step (P.enable g) stand s)
  leaf_next (AnIsland form place stand) s = island_next form place (Machine.step (P.island form) stand s)

  -- THE LEAVES THAT RUN at a place of a statement
  abbrev mutual
    pub form_runs : (form : PlainForm) → Place → Machine.Place (form_machine P form) → List (Running P)
    form_runs Empty place c = []
    form_runs (Enable g) place c = AGroup g place c ∷ []
    form_runs (Seq no_statements) place c = []
    form_runs (Seq (a_statement first later)) place c = seq_runs (running first) (parts_run later) c
    form_runs (Par no_statements) place c = []
    form_runs (Par (a_statement first later)) place c = par_runs (running first) (arms_run later) c
    form_runs (If test comb a b) place c = if_runs (running a) (running b) c
    form_runs (While test comb a) place c = while_runs (running a) c
    form_runs (Repeat zero a) place c = []
    form_runs (Repeat (suc k) a) place c = running a c.place
    form_runs (StaticSeq length parts) place c = AnIsland (StaticSeq length parts) place c ∷ []
    form_runs (StaticPar length arms) place c = AnIsland (StaticPar length arms) place c ∷ []
    form_runs (StaticIf length test a b) place c = AnIsland (StaticIf length test a b) place c ∷ []
    form_runs (StaticRepeat length count a) place c = AnIsland (StaticRepeat length count a) place c ∷ []
    form_runs (Timed k) place c = []

    pub running : (s : PlainStatement) → Machine.Place (machine_of P s) → List (Running P)
    running (Placed form place) c = form_runs form place c

    pub parts_run : (ss : PlainStatements) → Machine.Place (parts_machine P ss) → List (Running P)
    parts_run no_statements c = []
    parts_run (a_statement first later) c = seq_runs (running first) (parts_run later) c

    pub arms_run : (ss : PlainStatements) → Machine.Place (arms_machine P ss) → List (Running P)
    arms_run no_statements c = []
    arms_run (a_statement first later) c = par_runs (running first) (arms_run later) c
