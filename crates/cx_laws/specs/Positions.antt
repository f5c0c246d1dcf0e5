-- Where an island is in one of its cycles, by nested timers: each static statement is at an offset since it began, and the
-- body of a static repeat at this offset modulo its length. Nothing is unrolled.
use Rattle.std.specs.Prelude.{ℕ, zero, suc, ◌-◌, ◌%◌, ◌<◌, nat_lt, List, [], ◌∷◌, ◌++◌, if◌then◌else◌}
use Rattle.cx_meaning.specs.declared.ports.PortRef.{PortRef}
use Rattle.cx_meaning.specs.Designs.{PlainComponent, PlainForm, Empty, Enable, Seq, Par, If, While, Repeat, StaticSeq, StaticPar, StaticIf, StaticRepeat, Timed, PlainStatement, Placed, PlainStatements, no_statements, a_statement}
use Rattle.cx_meaning.specs.Active.{Entry}
use Rattle.cx_meaning.specs.Islands.{History, form_length, length_of}

-- what the running parts of a static statement give in cycle t, in source order. of_group gives what a group at an offset
-- does, and of_port what the port of a static if does at the offset since the static if began. A static if goes by its port
-- in the cycle in which it began
module _ {A : Type 0} (part : PlainComponent) (h : History) (t : ℕ) (of_group : ℕ → ℕ → List A)
    (of_port : PortRef → ℕ → List A) where
  abbrev mutual
    -- at an offset below its length
    pub form_at : PlainForm → ℕ → List A
    form_at Empty j = []
    form_at (Enable g) j = of_group g j
    form_at (Seq parts) j = []
    form_at (Par arms) j = []
    form_at (If test comb a b) j = []
    form_at (While test comb a) j = []
    form_at (Repeat count a) j = []
    form_at (StaticSeq length parts) j = parts_at parts j
    form_at (StaticPar length arms) j = arms_at arms j
    form_at (StaticIf length test a b) j =
        of_port test.port j ++ (if h test.port (t - j) then while_runs a j else while_runs b j)
    form_at (StaticRepeat length count a) j = statement_at a (j % length_of part a)
    form_at (Timed k) j = []

    pub statement_at : PlainStatement → ℕ → List A
    statement_at (Placed form place) j = form_at form j

    -- a branch or an arm that is shorter than what it is part of
    pub while_runs : PlainStatement → ℕ → List A
    while_runs (Placed form place) j = if nat_lt j (length_of part (Placed form place)) then form_at form j else []

    -- of a seq the part that runs
    pub parts_at : PlainStatements → ℕ → List A
    parts_at no_statements j = []
    parts_at (a_statement s ss) j =
        if nat_lt j (length_of part s) then statement_at s j else parts_at ss (j - length_of part s)

    pub arms_at : PlainStatements → ℕ → List A
    arms_at no_statements j = []
    arms_at (a_statement s ss) j = while_runs s j ++ arms_at ss j

abbrev pub entry_at : ℕ → ℕ → List Entry
entry_at g j = record { group = g; offset = j } ∷ []

abbrev pub no_entry : PortRef → ℕ → List Entry
no_entry port j = []

-- ACTIVE AT a cycle of an island: the groups that run, each at its offset
abbrev pub active_at : PlainComponent → History → ℕ → PlainForm → List Entry
active_at part h t form = form_at part h t entry_at no_entry form t

abbrev pub no_port : ℕ → ℕ → List PortRef
no_port g j = []

abbrev pub port_at : PortRef → ℕ → List PortRef
port_at port zero = port ∷ []
port_at port (suc j) = []

-- LOOKED AT in a cycle of an island: the ports of the static ifs that begin
abbrev pub begun_at : PlainComponent → History → ℕ → PlainForm → List PortRef
begun_at part h t form = form_at part h t no_port port_at form t

-- the lengths of all static ifs in a static statement have a property
abbrev mutual
  pub FormIfs : (ℕ → Type 0) → PlainComponent → PlainForm → Type 0
  FormIfs P part Empty = Unit {0}
  FormIfs P part (Enable g) = Unit {0}
  FormIfs P part (Seq parts) = Unit {0}
  FormIfs P part (Par arms) = Unit {0}
  FormIfs P part (If test comb a b) = Unit {0}
  FormIfs P part (While test comb a) = Unit {0}
  FormIfs P part (Repeat count a) = Unit {0}
  FormIfs P part (StaticSeq length parts) = AllIfs P part parts
  FormIfs P part (StaticPar length arms) = AllIfs P part arms
  FormIfs P part (StaticIf length test a b) =
      P (form_length part (StaticIf length test a b)) × StatementIfs P part a × StatementIfs P part b
  FormIfs P part (StaticRepeat length count a) = StatementIfs P part a
  FormIfs P part (Timed k) = Unit {0}

  pub StatementIfs : (ℕ → Type 0) → PlainComponent → PlainStatement → Type 0
  StatementIfs P part (Placed form place) = FormIfs P part form

  pub AllIfs : (ℕ → Type 0) → PlainComponent → PlainStatements → Type 0
  AllIfs P part no_statements = Unit {0}
  AllIfs P part (a_statement s ss) = StatementIfs P part s × AllIfs P part ss

-- every static if in it takes a cycle at least
abbrev pub HasNoEmptyIf : PlainComponent → PlainForm → Type 0
HasNoEmptyIf part form = FormIfs (λ n. 0 < n) part form
