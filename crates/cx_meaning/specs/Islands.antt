-- Static control: an island is a flat list of occurrences by cycles, each under conditions on samples of the ports of static ifs.
use Rattle.std.specs.Prelude.{ℕ, zero, suc, ◌+◌, ◌-◌, ◌*◌, max, Bool, true, false, ◌&&◌, nat_lt, nat_le, nat_eq, List, [], ◌∷◌, ◌++◌, Option, Some, None, if◌then◌else◌}
use Rattle.cx_meaning.specs.declared.ports.PortRef.{PortRef}
use Rattle.cx_meaning.specs.declared.sights.Seen.{Seen}
use Rattle.cx_meaning.specs.declared.sights.Seen.TheVariants as sights
use Rattle.cx_meaning.specs.declared.sights.FaultKind.TheVariants as faults
use Rattle.cx_meaning.specs.declared.kinds.GroupKind.{GroupKind}
use Rattle.cx_meaning.specs.declared.kinds.GroupKind.TheVariants as kinds
use Rattle.cx_meaning.specs.Designs.{PlainComponent, group_at, PlainForm, Empty, Enable, Seq, Par, If, While, Repeat, StaticSeq, StaticPar, StaticIf, StaticRepeat, Timed, PlainStatement, Placed, PlainStatements, no_statements, a_statement}
use Rattle.cx_meaning.specs.Truths.{Truth, One, Zero, truth_of}
use Rattle.cx_meaning.specs.Truths as truths
use Rattle.cx_meaning.specs.Instances.{Instance, part_of, State, idle}
use Rattle.cx_meaning.specs.Active.{nothing, Entry, entries}
use Rattle.cx_meaning.specs.Sights.{Look, Held, seen}
use Rattle.cx_meaning.specs.Cycles.{Fault, fault_at, Ended, Goes, Faults, cycle}
use Rattle.cx_meaning.specs.Answers.{More, Meaning, idle_turn, Turn, turn_then}
use Rattle.cx_meaning.specs.Answers as answers

-- the cycles of a static group; none for a group that is not static
abbrev pub kind_length : GroupKind → Option ℕ
kind_length kinds.Plain = None
kind_length kinds.Comb = None
kind_length (kinds.Timed n) = Some n

abbrev pub group_length : PlainComponent → ℕ → Option ℕ
group_length part g = kind_length (group_at part g).kind

abbrev pub or_zero : Option ℕ → ℕ
or_zero None = 0
or_zero (Some n) = n

-- LENGTH, in cycles, a number without bound: the sum of a seq, the maximum of a par, the longer branch of an if, the product
-- of a repeat. What may not stand in static control has length 0
abbrev mutual
  pub form_length : PlainComponent → PlainForm → ℕ
  form_length part Empty = 0
  form_length part (Enable g) = or_zero (group_length part g)
  form_length part (Seq parts) = 0
  form_length part (Par arms) = 0
  form_length part (If test comb a b) = 0
  form_length part (While test comb a) = 0
  form_length part (Repeat count a) = 0
  form_length part (StaticSeq length parts) = sum_length part parts
  form_length part (StaticPar length arms) = max_length part arms
  form_length part (StaticIf length test a b) = max (length_of part a) (length_of part b)
  form_length part (StaticRepeat length count a) = count * length_of part a
  form_length part (Timed k) = 0

  pub length_of : PlainComponent → PlainStatement → ℕ
  length_of part (Placed form place) = form_length part form

  pub sum_length : PlainComponent → PlainStatements → ℕ
  sum_length part no_statements = 0
  sum_length part (a_statement s ss) = length_of part s + sum_length part ss

  pub max_length : PlainComponent → PlainStatements → ℕ
  max_length part no_statements = 0
  max_length part (a_statement s ss) = max (length_of part s) (max_length part ss)

-- a sample is the port of a static if and the cycle in which it is seen. A condition on it says whether it is wanted to be 1
pub record Condition : Type 0 where
  pub port : PortRef
  pub at : ℕ
  pub wanted : Bool

-- an entry of the flat list, which acts where all its conditions hold: a group from one cycle to before another, or the port
-- of a static if that begins in a cycle
pub data Occurrence : Type 0 where
  Runs : (group : ℕ) (from to : ℕ) (conditions : List Condition) → Occurrence
  Looks : (port : PortRef) (at : ℕ) (conditions : List Condition) → Occurrence

abbrev pub condition : PortRef → ℕ → Bool → Condition
condition port at wanted = record { port = port; at = at; wanted = wanted }

-- so many rounds of a body of p cycles, one after the other from cycle x on
abbrev pub rounds_from : {A : Type 0} → (ℕ → List A) → ℕ → ℕ → ℕ → List A
rounds_from body p zero x = []
rounds_from body p (suc k) x = body x ++ rounds_from body p k (x + p)

abbrev pub occurrence : ℕ → ℕ → List Condition → Option ℕ → List Occurrence
occurrence g x conditions None = []
occurrence g x conditions (Some n) = Runs g x (x + n) conditions ∷ []

-- THE FLAT LIST of a static statement that begins in cycle x where these conditions hold, in source order
abbrev mutual
  pub form_flat : PlainComponent → PlainForm → ℕ → List Condition → List Occurrence
  form_flat part Empty x conditions = []
  form_flat part (Enable g) x conditions = occurrence g x conditions (group_length part g)
  form_flat part (Seq parts) x conditions = []
  form_flat part (Par arms) x conditions = []
  form_flat part (If test comb a b) x conditions = []
  form_flat part (While test comb a) x conditions = []
  form_flat part (Repeat count a) x conditions = []
  form_flat part (StaticSeq length parts) x conditions = seq_flat part parts x conditions
  form_flat part (StaticPar length arms) x conditions = par_flat part arms x conditions
  form_flat part (StaticIf length test a b) x conditions =
      Looks test.port x conditions
      ∷ (flat part a x (condition test.port x true ∷ conditions) ++
      flat part b x (condition test.port x false ∷ conditions))
  form_flat part (StaticRepeat length count a) x conditions =
      rounds_from (λ y. flat part a y conditions) (length_of part a) count x
  form_flat part (Timed k) x conditions = []

  pub flat : PlainComponent → PlainStatement → ℕ → List Condition → List Occurrence
  flat part (Placed form place) x conditions = form_flat part form x conditions

  pub seq_flat : PlainComponent → PlainStatements → ℕ → List Condition → List Occurrence
  seq_flat part no_statements x conditions = []
  seq_flat part (a_statement s ss) x conditions =
      flat part s x conditions ++ seq_flat part ss (x + length_of part s) conditions

  pub par_flat : PlainComponent → PlainStatements → ℕ → List Condition → List Occurrence
  par_flat part no_statements x conditions = []
  par_flat part (a_statement s ss) x conditions = flat part s x conditions ++ par_flat part ss x conditions

-- the samples taken so far: whether a port was 1 in a cycle of the island
abbrev pub History : Type 0
History = PortRef → ℕ → Bool

abbrev pub no_history : History
no_history port at = false

abbrev pub is_wanted : Bool → Bool → Bool
is_wanted true b = b
is_wanted false true = false
is_wanted false false = true

-- all the conditions hold
abbrev pub hold : History → List Condition → Bool
hold h [] = true
hold h (c ∷ rest) = is_wanted c.wanted (h c.port c.at) && hold h rest

abbrev pub entry_if : Bool → ℕ → ℕ → List Entry → List Entry
entry_if true g o rest = record { group = g; offset = o } ∷ rest
entry_if false g o rest = rest

-- the groups that are active in cycle t, each at the offset since its occurrence began
abbrev pub active_in : History → ℕ → List Occurrence → List Entry
active_in h t [] = []
active_in h t (Runs g from to conditions ∷ rest) =
    entry_if (nat_le from t && nat_lt t to && hold h conditions) g (t - from) (active_in h t rest)
active_in h t (Looks port at conditions ∷ rest) = active_in h t rest

abbrev pub port_if : Bool → PortRef → List PortRef → List PortRef
port_if true port rest = port ∷ rest
port_if false port rest = rest

-- the ports of the static ifs that begin in cycle t
abbrev pub looked_at : History → ℕ → List Occurrence → List PortRef
looked_at h t [] = []
looked_at h t (Runs g from to conditions ∷ rest) = looked_at h t rest
looked_at h t (Looks port at conditions ∷ rest) = port_if (nat_eq t at && hold h conditions) port (looked_at h t rest)

abbrev pub is_one : Truth → Bool
is_one One = true
is_one Zero = false
is_one truths.Conflict = false
is_one truths.Undefined = false

-- the samples taken before, and those of cycle t by what is seen now
abbrev pub and_now : History → ℕ → Look → History
and_now h t look port at = if nat_eq t at then is_one (truth_of (look port)) else h port at

abbrev pub fault_of : PortRef → Seen → Option Fault → Option Fault
fault_of port (sights.Value b) later = later
fault_of port sights.Conflict later = Some (fault_at faults.Conflict port)
fault_of port sights.Undefined later = Some (fault_at faults.Undefined port)

-- the first of the ports that is no value
abbrev pub first_unclear : Look → List PortRef → Option Fault
first_unclear look [] = None
first_unclear look (port ∷ rest) = fault_of port (look port) (first_unclear look rest)

abbrev pub turn_of : Ended → Turn State Fault
turn_of (Goes after) = answers.Goes after
turn_of (Faults fault) = answers.Faults fault

abbrev pub unless_unclear : Option Fault → Ended → Turn State Fault
unless_unclear (Some fault) ended = answers.Faults fault
unless_unclear None ended = turn_of ended

-- CYCLE t OF AN ISLAND, by a history that has the samples of t: each port of a static if that begins has to have a value,
-- in source order, under the continuous assignments alone; then the cycle is made with the groups whose conditions hold
abbrev pub island_turn : Instance → Held → List Occurrence → ℕ → History → State → Turn State Fault
island_turn i held list t h s =
    unless_unclear (first_unclear (seen i held nothing s) (looked_at h t list))
    (cycle i held (entries (active_in h t list)) s)

-- from cycle t on, with so many cycles left, and after them one idle turn: first the samples of t are taken, and by the
-- history that has them cycle t is made and the island goes on
abbrev pub island_from : Instance → Held → List Occurrence → ℕ → ℕ → History → Meaning State Fault
island_from i held list zero t before s n = idle_turn (idle i) s n
island_from i held list (suc left) t before s zero = More
island_from i held list (suc left) t before s (suc n) =
    let h : History = and_now before t (seen i held nothing s) in
    turn_then (idle i) s (island_turn i held list t h s) (λ after. island_from i held list left (suc t) h after n)

-- AN ISLAND: a static statement that no static statement holds, or the enable of a static group from dynamic control
abbrev pub island : Instance → Held → PlainForm → Meaning State Fault
island i held form s n =
    island_from i held (form_flat (part_of i) form 0 []) (form_length (part_of i) form) 0 no_history s n
