-- The branches of a static if are less deep than it.
use Rattle.std.proofs.Common.{ℕ, ◌<◌, Option, Box, Global, arith}
use Rattle.cx_meaning.specs.declared.ports.PlacedPort.{PlacedPort}
use Rattle.cx_design.specs.declared.statements.Form.{StaticIf}
use Rattle.cx_design.specs.declared.statements.Form.TheBlock.{the_depth, the_members, the_sigs, the_carrier, member-Form}
use Rattle.cx_design.specs.declared.statements.Statement.{Statement}
use Rattle.cx_design.proofs.statements.Form.TheLaws as F
use Rattle.cx_design.proofs.statements.Statement.TheLaws as S
use denote.Hole.Carrier.{out}
use denote.Hole.Rolled.{depth, depth_falls}

module _ (length : Option ℕ) (test : PlacedPort) (yes no : Box Statement Global) where
  pub yes_size : S.the_size yes.value < F.the_size (StaticIf length test yes no)
  unfolding the_depth out
  yes_size = (depth_falls the_members the_sigs the_carrier member-Form (StaticIf length test yes no) (depth the_members the_sigs the_carrier member-Form (StaticIf length test yes no)) (omega arith)).0

  pub no_size : S.the_size no.value < F.the_size (StaticIf length test yes no)
  unfolding the_depth out
  no_size = (depth_falls the_members the_sigs the_carrier member-Form (StaticIf length test yes no) (depth the_members the_sigs the_carrier member-Form (StaticIf length test yes no)) (omega arith)).1.0
