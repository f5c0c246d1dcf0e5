-- Static invokes: how many cycles they take, and what a statement with static invokes drives and reads.
use Rattle.std.specs.Prelude.{◌≡◌, ℕ, ◌+◌, ◌*◌, max, nat_eq, true, false, ◌||◌, List, [], ◌∷◌, Option, Some, None, flat_map, slice_get}
use Rattle.cx_meaning.specs.declared.ports.PortRef.TheVariants as ports
use Rattle.cx_meaning.specs.declared.ports.PlacedPort.{PlacedPort}
use Rattle.cx_meaning.specs.Designs.{PlainAssign, PlainInvoke, PlainComponent, group_at, PlainForm, Empty, Enable, Seq, Par, If, While, Repeat, StaticSeq, StaticPar, StaticIf, StaticRepeat, Timed, PlainStatement, Placed, PlainStatements, no_statements, a_statement}
use Rattle.cx_meaning.specs.Instances.{Set}
use Rattle.cx_text.specs.Members.{In}
use Rattle.cx_meaning.specs.Islands.{group_length, or_zero}
use Rattle.cx_meaning.specs.Control.{groups_of, groups_drive, drives}
use Rattle.cx_rules.specs.Items.{Dynamic, visit, option_list, tests_of}
use Rattle.cx_rules.specs.Footprints.{AssignNames}

-- the static invoke of a number, where there is one
abbrev pub invoke_at : PlainComponent → ℕ → Option PlainInvoke
invoke_at part k = slice_get part.invokes k

-- LENGTH, in cycles: the latency of the cell's component, and one more where registers are captured. An invoke of a cell of
-- another kind has none, and so has a number that names no invoke
abbrev pub capture_length : Option ℕ → ℕ
capture_length None = 0
capture_length (Some g) = 1

abbrev pub cycles_of : Option ℕ → Option ℕ → ℕ
cycles_of None captures = 0
cycles_of (Some latency) captures = latency + capture_length captures

abbrev pub invoke_length : Option PlainInvoke → ℕ
invoke_length None = 0
invoke_length (Some v) = cycles_of v.latency v.captures

-- the length of a statement, with that of the static invokes in it
abbrev mutual
  pub form_lasts : PlainComponent → PlainForm → ℕ
  form_lasts part Empty = 0
  form_lasts part (Enable g) = or_zero (group_length part g)
  form_lasts part (Seq parts) = 0
  form_lasts part (Par arms) = 0
  form_lasts part (If test comb a b) = 0
  form_lasts part (While test comb a) = 0
  form_lasts part (Repeat count a) = 0
  form_lasts part (StaticSeq length parts) = sum_lasts part parts
  form_lasts part (StaticPar length arms) = max_lasts part arms
  form_lasts part (StaticIf length test a b) = max (lasts part a) (lasts part b)
  form_lasts part (StaticRepeat length count a) = count * lasts part a
  form_lasts part (Timed k) = invoke_length (invoke_at part k)

  pub lasts : PlainComponent → PlainStatement → ℕ
  lasts part (Placed form place) = form_lasts part form

  pub sum_lasts : PlainComponent → PlainStatements → ℕ
  sum_lasts part no_statements = 0
  sum_lasts part (a_statement s ss) = lasts part s + sum_lasts part ss

  pub max_lasts : PlainComponent → PlainStatements → ℕ
  max_lasts part no_statements = 0
  max_lasts part (a_statement s ss) = max (lasts part s) (max_lasts part ss)

-- the number of a static invoke
abbrev pub invoke_in : PlainForm → List ℕ
invoke_in Empty = []
invoke_in (Enable g) = []
invoke_in (Seq parts) = []
invoke_in (Par arms) = []
invoke_in (If test comb a b) = []
invoke_in (While test comb a) = []
invoke_in (Repeat count a) = []
invoke_in (StaticSeq length parts) = []
invoke_in (StaticPar length arms) = []
invoke_in (StaticIf length test a b) = []
invoke_in (StaticRepeat length count a) = []
invoke_in (Timed k) = k ∷ []

-- the static invokes in a statement, by their numbers, in source order
abbrev pub invokes_of : PlainStatement → List ℕ
invokes_of s = flat_map (λ v. invoke_in v.form) (visit Dynamic s)

-- the group that captures
abbrev pub capture_of : Option PlainInvoke → List ℕ
capture_of None = []
capture_of (Some v) = option_list v.captures

abbrev pub captures_of : PlainComponent → List ℕ → List ℕ
captures_of part ks = flat_map (λ k. capture_of (invoke_at part k)) ks

-- the cell of an invoke
abbrev pub is_cell_of : Option PlainInvoke → Set
is_cell_of None c = false
is_cell_of (Some v) c = nat_eq v.cell c

abbrev pub invokes_cell : PlainComponent → List ℕ → Set
invokes_cell part [] c = false
invokes_cell part (k ∷ ks) c = is_cell_of (invoke_at part k) c || invokes_cell part ks c

-- DRIVES, with static invokes: also the cells that they invoke, and those that the groups that capture drive a port of
abbrev pub drives_all : PlainComponent → PlainStatement → Set
drives_all part s c =
    drives part s c
    || (invokes_cell part (invokes_of s) c || groups_drive part (captures_of part (invokes_of s)) c)

-- an input of a static invoke of the statement
pub record IsFed (part : PlainComponent) (s : PlainStatement) (a : PlainAssign) : Type 0 where
  pub number : ℕ
  pub stands : In (invokes_of s) number
  pub invoke : PlainInvoke
  pub is : invoke_at part number ≡ Some invoke
  pub input : In invoke.inputs a

-- READS, with static invokes: the least set of cells that holds the cells that the statement drives, the cells named in sources and
-- guards of its groups, of the groups that capture and of the inputs of its static invokes, and in its conditions, and with each cell
-- those named by continuous assignments that drive a port of it
pub data ReadsAll (part : PlainComponent) (s : PlainStatement) : ℕ → Type 0 where
  driven : {c : ℕ} → drives_all part s c ≡ true → ReadsAll part s c
  named : {c : ℕ} (p g : ℕ) (a : PlainAssign) → In (groups_of s) g → In (group_at part g).assigns a
      → AssignNames a (ports.Cell c p) → ReadsAll part s c
  captured : {c : ℕ} (p g : ℕ) (a : PlainAssign) → In (captures_of part (invokes_of s)) g
      → In (group_at part g).assigns a → AssignNames a (ports.Cell c p) → ReadsAll part s c
  fed : {c : ℕ} (p : ℕ) (a : PlainAssign) → IsFed part s a → AssignNames a (ports.Cell c p) → ReadsAll part s c
  tested : {c : ℕ} (p : ℕ) (test : PlacedPort) → In (tests_of s) test → test.port ≡ ports.Cell c p → ReadsAll part s c
  through : {e : ℕ} (c p q : ℕ) (a : PlainAssign) → ReadsAll part s c → In part.always a
      → a.target ≡ ports.Cell c p → AssignNames a (ports.Cell e q) → ReadsAll part s e
