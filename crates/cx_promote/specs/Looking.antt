-- Whether a guard has the done of a cell as an operand, part by part.
use Rattle.std.specs.Prelude.{Bool, false, ◌||◌}
use Rattle.cx_meaning.specs.Designs.{PlainGuard, Always, Atom, Negation, All, Any, Compared, Within, PlainGuards, no_guards, a_guard}
use Rattle.cx_meaning.specs.Instances.{Instance}
use Rattle.cx_promotion.specs.Promotable.{is_done}

abbrev mutual
  pub guard_looks : Instance → PlainGuard → Bool
  guard_looks i Always = false
  guard_looks i (Atom p) = is_done i p.port
  guard_looks i (Negation g) = guard_looks i g
  guard_looks i (All gs) = guards_look i gs
  guard_looks i (Any gs) = guards_look i gs
  guard_looks i (Compared c a b) = is_done i a.port || is_done i b.port
  guard_looks i (Within from to) = false

  pub guards_look : Instance → PlainGuards → Bool
  guards_look i no_guards = false
  guards_look i (a_guard g gs) = guard_looks i g || guards_look i gs
