-- What the cycles of two instances owe to each other: from related states ports are seen alike, and a cycle of the one carries that of
-- the other.
use Rattle.std.specs.Prelude.{◌≡◌, ℕ, suc, true, List}
use Rattle.cx_meaning.specs.declared.ports.PortRef.{PortRef}
use Rattle.cx_meaning.specs.declared.ports.PortRef.TheVariants as ports
use Rattle.cx_meaning.specs.declared.sights.FaultKind.{FaultKind}
use Rattle.cx_meaning.specs.Instances.{Instance, State, under, put, idle}
use Rattle.cx_meaning.specs.Active.{Active, nothing, group, capture, Entry, entries}
use Rattle.cx_meaning.specs.Sights.{Held, seen}
use Rattle.cx_meaning.specs.Cycles.{Fault, fault_at, cycle}
use Rattle.cx_meaning.specs.Islands.{Occurrence, History, active_in, turn_of}
use Rattle.cx_meaning.specs.Calls.{captures, fault_below}
use Rattle.cx_rewrites.specs.Tallies.{Tally, none, plus, at_cell, below}
use Rattle.cx_rewrites.specs.Carrying.{Pace, Rests, TurnCarried}

-- a port and one of the other instance, each under an active set
abbrev pub IsSeenAlike : (Tally → State → State → Type 0)
    → (i j : Instance) (held twin_held : Held) (act more : Active) (p q : PortRef) → Type 0
IsSeenAlike R i j held twin_held act more p q =
    (before : Tally) (s z : State) → R before s z → seen j twin_held more z q ≡ seen i held act s p

-- a cycle in which so much is counted: it goes on as the other does, or has its fault
abbrev pub CycleCarries : Pace → (Tally → State → State → Type 0) → (Fault → Fault) → Tally
    → (i j : Instance) (held twin_held : Held) (act more : Active) → Type 0
CycleCarries pace R faults one i j held twin_held act more =
    (before : Tally) (s z : State) → R before s z
    → TurnCarried pace R faults before one (turn_of (cycle i held act s))
    (turn_of (cycle j twin_held more z))

-- the fault of a port is that of the other
abbrev pub IsTold : (Fault → Fault) → PortRef → PortRef → Type 0
IsTold faults p q = (kind : FaultKind) → faults (fault_at kind p) ≡ fault_at kind q

-- A GROUP, in each cycle of which so much is counted: its hole is seen alike, and its cycles carry
pub record GroupCarries (pace : Pace) (R : Tally → State → State → Type 0) (faults : Fault → Fault)
    (one : Tally) (i j : Instance) (held twin_held : Held) (g h : ℕ) : Type 0 where
  pub rests : Rests R (idle i) (idle j)
  pub hole : IsSeenAlike R i j held twin_held (group g) (group h) (ports.Done g) (ports.Done h)
  pub told : IsTold faults (ports.Done g) (ports.Done h)
  pub cycle : CycleCarries pace R faults one i j held twin_held (group g) (group h)

-- A CALL of the child at cell c and of the child at cell e, of whose states Q speaks: the inputs are seen alike, the children's states
-- are related when they begin and give related states when they end, and the capture cycle carries, if there is one
pub record CallCarries (pace : Pace) (R Q : Tally → State → State → Type 0)
    (faults child_faults : Fault → Fault) (i j : Instance) (held twin_held : Held)
    (g h c e : ℕ) : Type 0 where
  pub rests : Rests R (idle i) (idle j)
  pub inputs : (input : ℕ) → IsSeenAlike R i j held twin_held (group g) (group h)
      (ports.Cell c (suc input)) (ports.Cell e (suc input))
  pub begins : (before : Tally) (s z : State) → R before s z → Q (at_cell c before) (under c s) (under e z)
  pub ends : (before counted : Tally) (s z own twin : State) → R before s z
      → Q (plus (at_cell c before) counted) own twin
      → R (plus before (below c counted)) (put c own s) (put e twin z)
  pub told : (f : Fault) → faults (fault_below c f) ≡ fault_below e (child_faults f)
  pub captured : captures j h ≡ captures i g
  pub capture_cycle : captures i g ≡ true
      → CycleCarries pace R faults none i j held twin_held (capture g c) (capture h e)

-- AN ISLAND'S CYCLES, by its flat list: the ports that it samples are moved and seen alike, and each cycle carries,
-- in which is counted what the active groups make
pub record IslandCarries (pace : Pace) (R : Tally → State → State → Type 0) (faults : Fault → Fault)
    (move : PortRef → PortRef) (made : List Entry → Tally) (inside : PortRef → Type 0)
    (i j : Instance) (held twin_held : Held) (list : List Occurrence) : Type 0 where
  pub rests : Rests R (idle i) (idle j)
  pub samples : (p : PortRef) → inside p → IsSeenAlike R i j held twin_held nothing nothing p (move p)
  pub told : (p : PortRef) → inside p → IsTold faults p (move p)
  pub cycles : (h : History) (t : ℕ) → CycleCarries pace R faults
      (made (active_in h t list)) i j held twin_held (entries (active_in h t list))
      (entries (active_in h t list))
