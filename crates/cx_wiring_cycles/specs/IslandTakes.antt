-- What an island takes in one cycle, where its statement stands: its wires, the goes of its timers and the registers of its samples,
-- each from its own drivers.
use Rattle.std.specs.Prelude.{◌≡◌, ℕ, zero, suc, ◌+◌, ◌<◌, ◌≤◌, false, List, length, Option, Some, slice_get}
use Rattle.cx_bits.specs.BitVector.{BitVector}
use Rattle.cx_meaning.specs.declared.ports.PortRef.TheVariants as ports
use Rattle.cx_meaning.specs.Designs.{PlainForm, Empty, Enable, Seq, Par, If, While, Repeat, StaticSeq, StaticPar, StaticIf, StaticRepeat, Timed, PlainStatement, Placed, PlainStatements, no_statements, a_statement}
use Rattle.cx_net.specs.Nets.{ToPort, ToRegister, ToWire}
use Rattle.cx_net.specs.NetMeaning.{Node, APort, AWire, NetAround, truth_bit}
use Rattle.cx_static.specs.declared.islands.IslandTimer.{IslandTimer}
use Rattle.cx_static.specs.Islands.{PlainIsland}
use Rattle.cx_wiring.specs.Counts.{wires_of, registers_of}
use Rattle.cx_wiring.specs.Stands.{Stand, inside, past_test, behind}
use Rattle.cx_wiring.specs.IslandDrivers.{wires_of_island, first_of_island, island_drivers}
use Rattle.cx_wiring.specs.Control.{arm_stand, counted_inside}
use Rattle.cx_wiring.specs.Takings.{takes}

-- WHERE ISLANDS STAND in a statement: a condition holds of each with its number
module _ (P : ℕ → Stand → Type 0) (islands : List PlainIsland) where
  abbrev mutual
    pub FormIslands : Stand → PlainForm → Type 0
    FormIslands x Empty = Unit {0}
    FormIslands x (Enable g) = Unit {0}
    FormIslands x (Seq no_statements) = Unit {0}
    FormIslands x (Seq (a_statement s ss)) =
        StatementIslands (inside x) s × PartsIslands (behind islands s (inside x)) ss
    FormIslands x (Par arms) = ArmsIslands x (suc (suc x.wire)) x.register arms
    FormIslands x (If test comb a b) =
        StatementIslands (past_test x) a × StatementIslands (behind islands a (past_test x)) b
    FormIslands x (While test comb a) = StatementIslands (past_test x) a
    FormIslands x (Repeat zero a) = Unit {0}
    FormIslands x (Repeat (suc n) a) = StatementIslands (counted_inside x) a
    FormIslands x (StaticSeq written parts) = Unit {0}
    FormIslands x (StaticPar written arms) = Unit {0}
    FormIslands x (StaticIf written test a b) = Unit {0}
    FormIslands x (StaticRepeat written count a) = Unit {0}
    FormIslands x (Timed k) = P k x

    pub StatementIslands : Stand → PlainStatement → Type 0
    StatementIslands x (Placed form place) = FormIslands x form

    pub PartsIslands : Stand → PlainStatements → Type 0
    PartsIslands x no_statements = Unit {0}
    PartsIslands x (a_statement s ss) = StatementIslands x s × PartsIslands (behind islands s x) ss

    pub ArmsIslands : Stand → ℕ → ℕ → PlainStatements → Type 0
    ArmsIslands par wire register no_statements = Unit {0}
    ArmsIslands par wire register (a_statement s ss) =
        StatementIslands (arm_stand par wire register) s
        × ArmsIslands par (wire + wires_of s) (suc register + length (registers_of islands s)) ss

module _ (groups : ℕ) (islands : List PlainIsland) (around : NetAround) (registers : ℕ → Option BitVector)
    (look : Node → Option BitVector) where
  -- THE WIRES of island k, and the goes of its timers
  pub record TakesIsland (k : ℕ) (x : Stand) : Type 0 where
    pub there : (island : PlainIsland) × (slice_get islands k ≡ Some island)
    pub wires : (island : PlainIsland) → slice_get islands k ≡ Some island → (n : ℕ)
        → first_of_island groups islands k ≤ n → n < first_of_island groups islands k + wires_of_island island
        → (o : Option BitVector) × (look (AWire n) ≡
        takes around registers look (ToWire n) o
        (island_drivers groups x (first_of_island groups islands k) island))
    pub goes : (island : PlainIsland) → slice_get islands k ≡ Some island → (t : ℕ) (timer : IslandTimer)
        → slice_get island.timers t ≡ Some timer
        → look (APort (ports.Cell timer.cell 0)) ≡
        takes around registers look (ToPort (ports.Cell timer.cell 0)) (Some (truth_bit false))
        (island_drivers groups x (first_of_island groups islands k) island)

  -- and the registers of its samples, which have so far what is kept and next what comes
  pub record IslandNexts (kept next : ℕ → ℕ) (k : ℕ) (x : Stand) : Type 0 where
    pub taken : TakesIsland k x
    pub apart : x.region < x.register
    pub samples : (island : PlainIsland) → slice_get islands k ≡ Some island
        → (m : ℕ) (old new : BitVector) → x.register ≤ m → m < x.register + length island.points
        → old.value ≡ kept m
        → takes around registers look (ToRegister m) (Some old)
        (island_drivers groups x (first_of_island groups islands k) island) ≡ Some new
        → next m ≡ new.value
