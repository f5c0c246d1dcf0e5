use Rattle.cx_design.specs.PlainDesigns.{plain_design}
use Rattle.cx_eval_drives.specs.Drivers.{HaveDrivers, parts_of}
use Rattle.cx_eval_drives.proofs.driving.Drivers.new.Given as goal

-- the components so far
abbrev pub invariant-loop-number : goal.invariant-loop-number
invariant-loop-number l = HaveDrivers (plain_design l.design) l.number (parts_of l.parts.items)
