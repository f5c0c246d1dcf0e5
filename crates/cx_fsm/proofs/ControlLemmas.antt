-- The drivers of statements with parts, piece by piece.
use Rattle.std.proofs.Common.{◌≡◌, ℕ, suc, List, [], ◌∷◌, ◌++◌, Option, Some, None, length, refl, ◌∙◌, append_assoc, append-nil, zero-add}
use Rattle.cx_meaning.specs.Designs.{PlainStatement, PlainStatements, no_statements, a_statement, Seq, Par, Repeat}
use Rattle.cx_net.specs.Nets.{PlainNetExpr, AllOf, exprs_of, PlainNetDriver}
use Rattle.cx_static.specs.Islands.{PlainIsland}
use Rattle.cx_wiring.specs.Counts.{wires_in, positions_in, registers_in}
use Rattle.cx_wiring.specs.Stands.{Stand, at, stands, ends, inside, behind}
use Rattle.cx_wiring.specs.Control.{one_turn, arm_stand, arms_over, counted_inside, counting, form_drivers, drivers_of, parts_drivers, arms_drivers}
use Rattle.cx_fsm.specs.PlainStands.{past, beside}
use Rattle.cx_fsm.specs.ControlPieces.{behind_form, counted_rounds, led, arm_ended, arm_made}
use Rattle.cx_fsm.proofs.StandLemmas.{past_inside, past_part}

module _ (groups : ℕ) (islands : List PlainIsland) (x : Stand) where
  -- SEQ. What is left of a seq, where a part before has its first wire here
  abbrev pub seq_left : Option ℕ → Stand → PlainStatements → List PlainNetDriver
  seq_left None y no_statements = one_turn x
  seq_left None y (a_statement s ss) = drivers_of groups islands y s ++ parts_drivers groups islands x y.wire (behind islands s y) ss
  seq_left (Some wire) y ss = parts_drivers groups islands x wire y ss

  pub seq_begins : (ss : PlainStatements) (y : Stand) → y ≡ inside x → seq_left None y ss ≡ form_drivers groups islands x (Seq ss)
  seq_begins no_statements y e = refl
  seq_begins (a_statement s ss) y e = rw e refl

  pub seq_step : (last : Option ℕ) (y z : Stand) (s : PlainStatement) (ss : PlainStatements) (d d₁ d₂ whole : List PlainNetDriver)
      → z ≡ behind islands s y → d₁ ≡ d ++ led y last → d₂ ≡ d₁ ++ drivers_of groups islands y s
      → d ++ seq_left last y (a_statement s ss) ≡ whole → d₂ ++ seq_left (Some y.wire) z ss ≡ whole
  seq_step None y z s ss d d₁ d₂ whole e e₁ e₂ h = rw (e₂, e₁, e) (simp (append_assoc, append-nil) h)
  seq_step (Some w) y z s ss d d₁ d₂ whole e e₁ e₂ h = rw (e₂, e₁, e) (simp append_assoc h)

  -- where what follows a seq stands
  abbrev pub seq_next : Option ℕ → Stand → PlainStatements → Stand
  seq_next None y no_statements = past x 2 0 1
  seq_next None y (a_statement s ss) = past y (wires_in (a_statement s ss)) (length (registers_in islands (a_statement s ss))) (positions_in (a_statement s ss))
  seq_next (Some wire) y ss = past y (wires_in ss) (length (registers_in islands ss)) (positions_in ss)

  pub next_begins : (ss : PlainStatements) (y : Stand) → y ≡ inside x → seq_next None y ss ≡ behind_form islands (Seq ss) x
  next_begins no_statements y e = refl
  next_begins (a_statement s ss) y e = rw e (past_inside x (wires_in (a_statement s ss)) (length (registers_in islands (a_statement s ss))) (positions_in (a_statement s ss)))

  pub next_step : (last : Option ℕ) (y z : Stand) (s : PlainStatement) (ss : PlainStatements) (whole : Stand)
      → z ≡ behind islands s y → seq_next last y (a_statement s ss) ≡ whole → seq_next (Some y.wire) z ss ≡ whole
  next_step None y z s ss whole e h = rw e (past_part islands y s ss ∙ h)
  next_step (Some w) y z s ss whole e h = rw e (past_part islands y s ss ∙ h)

  -- PAR. One more arm
  pub arms_step : (y own z : Stand) (s : PlainStatement) (ss : PlainStatements) (d d₁ whole : List PlainNetDriver)
      → own ≡ arm_stand x y.wire y.register → z ≡ behind islands s own → d₁ ≡ d ++ arm_made groups islands x own s
      → d ++ arms_drivers groups islands x y.wire y.register (a_statement s ss) ≡ whole
      → d₁ ++ arms_drivers groups islands x (beside y z).wire (beside y z).register ss ≡ whole
  arms_step y own z s ss d d₁ whole o e e₁ h = rw (e₁, e, o) (simp (append_assoc, zero-add) h)

  pub over_step : (y own z : Stand) (s : PlainStatement) (ss : PlainStatements) (over whole : List PlainNetExpr) (ended : PlainNetExpr)
      → own ≡ arm_stand x y.wire y.register → z ≡ behind islands s own → ended ≡ arm_ended own z.position
      → over ++ arms_over groups islands y.wire y.register (a_statement s ss) ≡ whole
      → (over ++ ended ∷ []) ++ arms_over groups islands (beside y z).wire (beside y z).register ss ≡ whole
  over_step y own z s ss over whole ended o e e₁ h = rw (e₁, e, o) (simp (append_assoc, zero-add) h)

  pub par_made : (ss : PlainStatements) (over : List PlainNetExpr) (end : PlainNetExpr) (d d₁ d₂ : List PlainNetDriver)
      → d₁ ≡ d ++ stands x ∷ arms_drivers groups islands x (suc (suc x.wire)) x.register ss
      → over ≡ at x ∷ arms_over groups islands (suc (suc x.wire)) x.register ss
      → end ≡ AllOf (exprs_of over)
      → d₂ ≡ d₁ ++ ends x end ∷ []
      → d₂ ≡ d ++ form_drivers groups islands x (Par ss)
  par_made ss over end d d₁ d₂ e₁ o e e₂ = rw (e₂, e₁, e, o) (simp append_assoc)

  -- REPEAT. The body, and the rounds
  pub repeat_made : (n count last : ℕ) (a : PlainStatement) (y : Stand) (d d₁ d₂ d₃ : List PlainNetDriver)
      → count ≡ suc n → last ≡ n → y ≡ counted_inside x → d₁ ≡ d
      → d₂ ≡ d₁ ++ drivers_of groups islands y a
      → d₃ ≡ d₂ ++ counted_rounds x y.wire last
      → d₃ ≡ d ++ form_drivers groups islands x (Repeat count a)
  repeat_made n count last a y d d₁ d₂ d₃ more is first e₁ e₂ e₃ =
      rw (e₃, e₂, e₁, first, is, more) (append_assoc d (drivers_of groups islands (counted_inside x) a) (counting x n))
