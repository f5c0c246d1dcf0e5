-- What follows statements in their region.
use Rattle.std.proofs.Common.{◌≡◌, ℕ, suc, List, length, ap, ◌∙◌, arith, length-append}
use Rattle.cx_meaning.specs.Designs.{PlainStatement, PlainStatements, a_statement}
use Rattle.cx_net.specs.Nets.{PlainNetExpr}
use Rattle.cx_static.specs.Islands.{PlainIsland}
use Rattle.cx_wiring.specs.Counts.{wires_in, positions_in, registers_of, registers_in, arms_registers}
use Rattle.cx_wiring.specs.Stands.{Stand, inside, behind}
use Rattle.cx_wiring.specs.Control.{arm_stand}
use Rattle.cx_fsm.specs.PlainStands.{past, beside}

abbrev put : ℕ → PlainNetExpr → ℕ → ℕ → ℕ → Stand
put region acts wire register position = record { wire = wire; register = register; position = position; region = region; acts = acts }

stand_is : (region : ℕ) (acts : PlainNetExpr) {w v r q p o : ℕ} → w ≡ v → r ≡ q → p ≡ o → put region acts w r p ≡ put region acts v q o
stand_is region acts {w} {v} {r} {q} {p} {o} a b c = ap (λ n. put region acts n r p) a ∙ ap (λ n. put region acts v n p) b ∙ ap (λ n. put region acts v q n) c

module _ (x : Stand) where
  pub past_none : past x 0 0 0 ≡ x
  past_none = stand_is x.region x.acts (omega arith) (omega arith) (omega arith)

  pub past_inside : (a b c : ℕ) → past (inside x) a b c ≡ past x (suc (suc a)) b c
  past_inside a b c = stand_is x.region x.acts (omega arith) (omega arith) (omega arith)

module _ (islands : List PlainIsland) (x : Stand) (s : PlainStatement) (ss : PlainStatements) where
  -- behind the parts of a seq, one of which is behind
  pub past_part :
      past (behind islands s x) (wires_in ss) (length (registers_in islands ss)) (positions_in ss)
      ≡ past x (wires_in (a_statement s ss)) (length (registers_in islands (a_statement s ss))) (positions_in (a_statement s ss))
  past_part = stand_is x.region x.acts (omega arith) (omega (arith, length-append (registers_of islands s) (registers_in islands ss))) (omega arith)

  -- beside the arms of a par, one of which is behind
  pub past_arm : (par : Stand)
      → past (beside x (behind islands s (arm_stand par x.wire x.register))) (wires_in ss) (length (arms_registers islands ss)) 0
      ≡ past x (wires_in (a_statement s ss)) (length (arms_registers islands (a_statement s ss))) 0
  past_arm par = stand_is x.region x.acts (omega arith) (omega (arith, length-append (registers_of islands s) (arms_registers islands ss))) (omega arith)
