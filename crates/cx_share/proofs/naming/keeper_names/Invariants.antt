use Rattle.cx_design.specs.PlainForms.{plain_component}
use Rattle.cx_share.specs.Naming.{AreKeeperNames}
use Rattle.cx_share.proofs.naming.keeper_names.Given as goal

-- the names so far
abbrev pub invariant-loop-keeper : goal.invariant-loop-keeper
invariant-loop-keeper l = AreKeeperNames (plain_component l.part) l.keeper-index l.names.items
