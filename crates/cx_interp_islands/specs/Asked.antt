-- The ports that static ifs ask as they begin.
use Rattle.std.specs.Prelude.{◌≡◌, ℕ, suc, ◌+◌, ◌-◌, ◌%◌, nat_lt, Bool, List, [], ◌∷◌, ◌++◌, Option, Some, None, if◌then◌else◌}
use Rattle.cx_meaning.specs.declared.ports.PortRef.{PortRef}
use Rattle.cx_meaning.specs.declared.ports.PlacedPort.{PlacedPort}
use Rattle.cx_meaning.specs.Designs.{PlainComponent, PlainForm, Empty, Enable, Seq, Par, If, While, Repeat, StaticSeq, StaticPar, StaticIf, StaticRepeat, Timed, PlainStatement, Placed, PlainStatements, no_statements, a_statement}
use Rattle.cx_text.specs.Members.{In}
use Rattle.cx_meaning.specs.Cycles.{Fault}
use Rattle.cx_meaning.specs.Islands.{length_of}
use Rattle.cx_rules.specs.Items.{Visited, test_in}
use Rattle.cx_laws.specs.Positions.{port_at}
use Rattle.cx_laws.specs.Samples.{Samples, ifs_of, begin, while_after}

-- the ports that are asked in a cycle, in order, from these samples of the cycle before
module _ (part : PlainComponent) (now : PortRef → Bool) where
  abbrev mutual
    pub form_asked : PlainForm → ℕ → ℕ → Samples → List PortRef
    form_asked Empty n j kept = []
    form_asked (Enable g) n j kept = []
    form_asked (Seq parts) n j kept = []
    form_asked (Par arms) n j kept = []
    form_asked (If test comb a b) n j kept = []
    form_asked (While test comb a) n j kept = []
    form_asked (Repeat count a) n j kept = []
    form_asked (StaticSeq length parts) n j kept = parts_asked parts n j kept
    form_asked (StaticPar length arms) n j kept = arms_asked arms n j kept
    form_asked (StaticIf length test a b) n j kept =
        port_at test.port j
        ++ (if begin n j (now test.port) kept n
        then while_asked a (suc n) j (begin n j (now test.port) kept)
        else while_asked b (suc n + ifs_of a) j (begin n j (now test.port) kept))
    form_asked (StaticRepeat length count a) n j kept = statement_asked a n (j % length_of part a) kept
    form_asked (Timed k) n j kept = []

    pub statement_asked : PlainStatement → ℕ → ℕ → Samples → List PortRef
    statement_asked (Placed form place) n j kept = form_asked form n j kept

    pub while_asked : PlainStatement → ℕ → ℕ → Samples → List PortRef
    while_asked (Placed form place) n j kept =
        if nat_lt j (length_of part (Placed form place)) then form_asked form n j kept else []

    pub parts_asked : PlainStatements → ℕ → ℕ → Samples → List PortRef
    parts_asked no_statements n j kept = []
    parts_asked (a_statement s ss) n j kept =
        if nat_lt j (length_of part s) then statement_asked s n j kept
        else parts_asked ss (n + ifs_of s) (j - length_of part s) kept

    pub arms_asked : PlainStatements → ℕ → ℕ → Samples → List PortRef
    arms_asked no_statements n j kept = []
    arms_asked (a_statement s ss) n j kept =
        while_asked s n j kept ++ arms_asked ss (n + ifs_of s) j (while_after part now s n j kept)

-- the ports of all static ifs in a static statement, in source order
abbrev mutual
  pub form_tests : PlainForm → List PortRef
  form_tests Empty = []
  form_tests (Enable g) = []
  form_tests (Seq parts) = []
  form_tests (Par arms) = []
  form_tests (If test comb a b) = []
  form_tests (While test comb a) = []
  form_tests (Repeat count a) = []
  form_tests (StaticSeq length parts) = tests_in parts
  form_tests (StaticPar length arms) = tests_in arms
  form_tests (StaticIf length test a b) = test.port ∷ (tests_of a ++ tests_of b)
  form_tests (StaticRepeat length count a) = tests_of a
  form_tests (Timed k) = []

  pub tests_of : PlainStatement → List PortRef
  tests_of (Placed form place) = form_tests form

  pub tests_in : PlainStatements → List PortRef
  tests_in no_statements = []
  tests_in (a_statement s ss) = tests_of s ++ tests_in ss

-- a port is the condition of one of these statements
abbrev pub IsTestIn : List Visited → PortRef → Type 0
IsTestIn list p = (v : Visited) × (test : PlacedPort) × In list v × (test_in v.form ≡ Some test) × (test.port ≡ p)

-- all of the ports are such
abbrev pub AllPorts : (PortRef → Type 0) → List PortRef → Type 0
AllPorts Such ports = (p : PortRef) → In ports p → Such p

-- a port that was such still is
abbrev pub AreStill : (PortRef → Type 0) → (PortRef → Type 0) → Type 0
AreStill Was Is = (p : PortRef) → Was p → Is p

-- the earlier of two faults
abbrev pub earlier_fault : Option Fault → Option Fault → Option Fault
earlier_fault (Some fault) later = Some fault
earlier_fault None later = later
