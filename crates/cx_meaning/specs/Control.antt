-- The run of a statement over any leaves: what seq, par, if, while and repeat make of the meanings of their parts.
use Rattle.std.specs.Prelude.{ℕ, zero, suc, ◌||◌, false, List, [], ◌∷◌, ◌++◌, Option, Some, None}
use Rattle.cx_meaning.specs.declared.ports.PortRef.{PortRef}
use Rattle.cx_meaning.specs.declared.ports.PortRef.TheVariants as ports
use Rattle.cx_meaning.specs.Designs.{PlainAssign, PlainComponent, group_at, PlainForm, Empty, Enable, Seq, Par, If, While, Repeat, StaticSeq, StaticPar, StaticIf, StaticRepeat, Timed, PlainStatement, Placed, PlainStatements, no_statements, a_statement}
use Rattle.cx_meaning.specs.Instances.{Set, just}
use Rattle.cx_meaning.specs.Answers.{Meaning, then_do, stay, idle_turn, Test, test_turn, loop_of, rounds, both}

-- the groups that a statement enables, with the comb groups of its tests, in source order
abbrev pub with_comb : Option ℕ → List ℕ → List ℕ
with_comb None gs = gs
with_comb (Some g) gs = g ∷ gs

abbrev mutual
  pub groups_in : PlainForm → List ℕ
  groups_in Empty = []
  groups_in (Enable g) = g ∷ []
  groups_in (Seq parts) = groups_in_all parts
  groups_in (Par arms) = groups_in_all arms
  groups_in (If test comb a b) = with_comb comb (groups_of a ++ groups_of b)
  groups_in (While test comb a) = with_comb comb (groups_of a)
  groups_in (Repeat count a) = groups_of a
  groups_in (StaticSeq length parts) = groups_in_all parts
  groups_in (StaticPar length arms) = groups_in_all arms
  groups_in (StaticIf length test a b) = groups_of a ++ groups_of b
  groups_in (StaticRepeat length count a) = groups_of a
  groups_in (Timed island) = []

  pub groups_of : PlainStatement → List ℕ
  groups_of (Placed form place) = groups_in form

  pub groups_in_all : PlainStatements → List ℕ
  groups_in_all no_statements = []
  groups_in_all (a_statement s ss) = groups_of s ++ groups_in_all ss

-- the cells of which assignments, a group, and the groups of a statement drive a port
abbrev pub targets_cell : PortRef → Set
targets_cell (ports.Cell d p) c = just d c
targets_cell (ports.Input i) c = false
targets_cell (ports.Output i) c = false
targets_cell (ports.Done g) c = false
targets_cell (ports.Literal w v) c = false

abbrev pub assigns_drive : List PlainAssign → Set
assigns_drive [] c = false
assigns_drive (a ∷ rest) c = targets_cell a.target c || assigns_drive rest c

abbrev pub group_drives : PlainComponent → ℕ → Set
group_drives part g = assigns_drive (group_at part g).assigns

abbrev pub groups_drive : PlainComponent → List ℕ → Set
groups_drive part [] c = false
groups_drive part (g ∷ gs) c = group_drives part g c || groups_drive part gs c

-- DRIVES: the cells of which a group or comb group of the statement drives a port
abbrev pub form_drives : PlainComponent → PlainForm → Set
form_drives part form = groups_drive part (groups_in form)

abbrev pub drives : PlainComponent → PlainStatement → Set
drives part s = groups_drive part (groups_of s)

-- the leaves of control and the tools of a state. S is a state, F a fault
pub record Leaves (S F : Type 0) : Type 0 where
  -- the state after an idle turn
  pub rest : S → S
  -- the cells of a set from one state, and the others from another
  pub merged : Set → S → S → S
  -- the cells that an arm drives
  pub driven : PlainStatement → Set
  -- the enable of a group: a plain group, a call, or a static group as an island of its own
  pub enable : ℕ → Meaning S F
  -- a port of an if or a while, with the comb group of its with
  pub test : PortRef → Option ℕ → S → Test F
  -- a static statement that no static statement holds
  pub island : PlainForm → Meaning S F
  -- an island of a lowered design, by its number
  pub timed : ℕ → Meaning S F

-- RUN, for a budget of turns
abbrev mutual
  pub run_form : {S F : Type 0} → Leaves S F → PlainForm → Meaning S F
  run_form L Empty s n = idle_turn L.rest s n
  run_form L (Enable g) s n = L.enable g s n
  run_form L (Seq no_statements) s n = idle_turn L.rest s n
  run_form L (Seq (a_statement first later)) s n = then_do (run L first s n) n (run_parts L later)
  run_form L (Par no_statements) s n = idle_turn L.rest s n
  run_form L (Par (a_statement first later)) s n =
      both (L.merged (L.driven first)) (run L first s n) (run_arms L later s n)
  run_form L (If test comb a b) s n = test_turn L.rest (L.test test.port comb) (run L a) (run L b) s n
  run_form L (While test comb a) s n = loop_of L.rest (L.test test.port comb) (run L a) s n
  run_form L (Repeat zero a) s n = idle_turn L.rest s n
  run_form L (Repeat (suc k) a) s n = rounds (suc k) (run L a) s n
  run_form L (StaticSeq length parts) s n = L.island (StaticSeq length parts) s n
  run_form L (StaticPar length arms) s n = L.island (StaticPar length arms) s n
  run_form L (StaticIf length test a b) s n = L.island (StaticIf length test a b) s n
  run_form L (StaticRepeat length count a) s n = L.island (StaticRepeat length count a) s n
  run_form L (Timed k) s n = L.timed k s n

  pub run : {S F : Type 0} → Leaves S F → PlainStatement → Meaning S F
  run L (Placed form place) s n = run_form L form s n

  -- the children of a seq that are left
  pub run_parts : {S F : Type 0} → Leaves S F → PlainStatements → Meaning S F
  run_parts L no_statements s n = stay s n
  run_parts L (a_statement first later) s n = then_do (run L first s n) n (run_parts L later)

  -- the arms of a par that are left, each from the same state
  pub run_arms : {S F : Type 0} → Leaves S F → PlainStatements → Meaning S F
  run_arms L no_statements s n = stay s n
  run_arms L (a_statement first later) s n = both (L.merged (L.driven first)) (run L first s n) (run_arms L later s n)
