-- A statement in the net of its component, in one cycle: the wires, registers, holes and tests that it is made of.
use Rattle.std.specs.Prelude.{ℕ, ◌≤◌, Bool, List, Option}
use Rattle.cx_bits.specs.BitVector.{BitVector}
use Rattle.cx_meaning.specs.declared.ports.PortRef.{PortRef}
use Rattle.cx_meaning.specs.Designs.{PlainStatement, PlainStatements}
use Rattle.cx_net.specs.NetMeaning.{Node, NetAround}
use Rattle.cx_static.specs.Islands.{PlainIsland}
use Rattle.cx_wiring.specs.Counts.{registers_of, registers_in, arms_registers}
use Rattle.cx_wiring.specs.Stands.{Stand}
use Rattle.cx_wiring.specs.Control.{drivers_of, parts_drivers, arms_drivers}
use Rattle.cx_wiring.specs.Takings.{AllConnect, AreRegisters}
use Rattle.cx_wiring_cycles.specs.Standing.{StatementBits, PartsBits}
use Rattle.cx_wiring_cycles.specs.Shown.{StatementNexts, PartsNext, ArmsNext}

-- the wires from `bound` on are those of control and of assignments
module _ (groups : ℕ) (islands : List PlainIsland) (around : NetAround) (registers : ℕ → Option BitVector)
    (look : Node → Option BitVector) (bound : ℕ) (kept next : ℕ → ℕ) (hole : ℕ → Bool)
    (port : PortRef → Bool) where
  pub record IsWired (x : Stand) (s : PlainStatement) : Type 0 where
    pub low : bound ≤ x.wire
    pub connects : AllConnect around registers look bound (drivers_of groups islands x s)
    pub registers_are : AreRegisters around registers look kept x.register (registers_of islands s)
    pub bits : StatementBits around registers look hole port s
    pub nexts : StatementNexts groups islands around registers look kept next x s

  pub record PartsWired (seq : Stand) (before : ℕ) (x : Stand) (ss : PlainStatements) : Type 0 where
    pub base : bound ≤ seq.wire
    pub low : bound ≤ x.wire
    pub connects : AllConnect around registers look bound (parts_drivers groups islands seq before x ss)
    pub registers_are : AreRegisters around registers look kept x.register (registers_in islands ss)
    pub bits : PartsBits around registers look hole port ss
    pub nexts : PartsNext groups islands around registers look kept next x ss

  pub record ArmsWired (par : Stand) (wire register : ℕ) (arms : PlainStatements) : Type 0 where
    pub low : bound ≤ wire
    pub connects : AllConnect around registers look bound (arms_drivers groups islands par wire register arms)
    pub registers_are : AreRegisters around registers look kept register (arms_registers islands arms)
    pub bits : PartsBits around registers look hole port arms
    pub nexts : ArmsNext groups islands around registers look kept next par wire register arms
