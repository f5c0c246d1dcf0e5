-- Machines on one clock over one store: where control stands, what a cycle writes and when it is a fault.
use Rattle.std.specs.Prelude.{◌≡◌, ℕ, zero, suc, Bool, true, false, Option, Some, None}

-- where values are kept: X are the spots, and V x is what is kept at x
abbrev pub Store : (X : Type 0) → (X → Type 0) → Type 0
Store X V = (x : X) → V x

-- how the states of a meaning are shown there: E is what stays the same in a run, S a state
pub record World (X : Type 0) (V : X → Type 0) (E S : Type 0) : Type 0 where
  -- what an idle edge makes of a value
  pub idle : (x : X) → V x → V x
  pub shown : E → S → Store X V

-- where control stands: at a place, or at none any more
pub data Control (C : Type 0) : Type 0 where
  At : (place : C) → Control C
  Done : Control C

abbrev pub is_done : {C : Type 0} → Control C → Bool
is_done (At c) = false
is_done Done = true

pub record Machine (X : Type 0) (V : X → Type 0) : Type 1 where
  pub Place : Type 0
  pub start : Control Place
  pub step : Place → Store X V → Control Place
  -- what a cycle writes; every other spot has an idle edge
  pub writes : Place → Store X V → (x : X) → Option (V x)
  pub faults : Place → Store X V → Bool

-- a cycle of control that may be done
abbrev pub step : {X : Type 0} {V : X → Type 0} (M : Machine X V) → Control M.Place → Store X V → Control M.Place
step M (At c) s = M.step c s
step M Done s = Done

abbrev pub writes : {X : Type 0} {V : X → Type 0} (M : Machine X V) → Control M.Place → Store X V
    → (x : X) → Option (V x)
writes M (At c) s x = M.writes c s x
writes M Done s x = None

abbrev pub faults : {X : Type 0} {V : X → Type 0} (M : Machine X V) → Control M.Place → Store X V → Bool
faults M (At c) s = M.faults c s
faults M Done s = false

-- the value after an edge: what is written, else what an idle edge makes
abbrev pub edge_of : {A : Type 0} → Option A → A → A
edge_of None idle = idle
edge_of (Some written) idle = written

abbrev pub edge : {X : Type 0} {V : X → Type 0} → ((x : X) → V x → V x) → (M : Machine X V)
    → Control M.Place → Store X V → Store X V
edge idle M c s = λ x. edge_of (writes M c s x) (idle x (s x))

-- two stores hold the same at the spots of a set
abbrev pub Agree : {X : Type 0} {V : X → Type 0} → (X → Type 0) → Store X V → Store X V → Type 0
Agree {X} R a b = (x : X) → R x → a x ≡ b x

-- a machine alone: control and store after some cycles
pub record Moment {X : Type 0} {V : X → Type 0} (M : Machine X V) : Type 0 where
  pub control : Control M.Place
  pub store : Store X V

abbrev pub after_cycles : {X : Type 0} {V : X → Type 0} → ((x : X) → V x → V x) → (M : Machine X V) → ℕ
    → Moment M → Moment M
after_cycles idle M zero m = m
after_cycles idle M (suc n) m =
    after_cycles idle M n
    (record { control = step M m.control m.store; store = edge idle M m.control m.store })

-- not done, and no fault
pub record IsQuiet {X : Type 0} {V : X → Type 0} (M : Machine X V) (m : Moment M) : Type 0 where
  pub goes : is_done m.control ≡ false
  pub clean : faults M m.control m.store ≡ false
