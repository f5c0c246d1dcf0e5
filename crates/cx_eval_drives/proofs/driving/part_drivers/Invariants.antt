use Rattle.std.proofs.Common.{◌≡◌, ℕ, [], length, map, take}
use Rattle.cx_rules.specs.Ports.{component_of}
use Rattle.cx_design.specs.PlainDesigns.{plain_design}
use Rattle.cx_design_parts.specs.Plain.{plain_owned}
use Rattle.cx_eval_drives.specs.Drivers.{ArePartDrivers, assigns_at, lists_of}
use Rattle.cx_eval_drives.proofs.driving.part_drivers.Given as goal

-- none at first
abbrev pub invariant-ports : goal.invariant-ports
invariant-ports l = record { sized : length l.ports.items ≡ l._port; none : (n : ℕ) → assigns_at (lists_of l.ports.items) n ≡ [] }

-- the assignments so far
abbrev pub invariant-loop-owned : goal.invariant-loop-owned
invariant-loop-owned l = ArePartDrivers (component_of (plain_design l.design) l.number) (map plain_owned (take l.owned-index l.owned-items)) (lists_of l.ports.items)
