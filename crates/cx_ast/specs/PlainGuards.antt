-- Guards as plain data: what a `GuardItem` stands for, without where it lies in memory.
use Rattle.std.specs.Prelude.{ℕ, List, [], ◌∷◌, map}
use Rattle.cx_ast.specs.declared.guards.Comparison.{Comparison}
use Rattle.cx_ast.specs.declared.guards.GuardItem.{GuardItem, GuardItem-F, fold-GuardItem}
use Rattle.cx_ast.specs.declared.guards.GuardItem.TheOpen as opened
use Rattle.cx_ast.specs.declared.operands.OperandItem.{OperandItem}

mutual
  pub data PlainGuard : Type 0 where
    Or : (gs : PlainGuards) → PlainGuard
    And : (gs : PlainGuards) → PlainGuard
    Compare : (c : Comparison) (left right : OperandItem) → PlainGuard
    Not : (g : PlainGuard) → PlainGuard
    Operand : (o : OperandItem) → PlainGuard
    At : (n : ℕ) → PlainGuard
    During : (from to : ℕ) → PlainGuard

  pub data PlainGuards : Type 0 where
    NoGuards : PlainGuards
    GuardThen : (g : PlainGuard) (gs : PlainGuards) → PlainGuards

abbrev pub guards_of : List PlainGuard → PlainGuards
guards_of [] = NoGuards
guards_of (g ∷ gs) = GuardThen g (guards_of gs)

abbrev pub guard_step : GuardItem-F PlainGuard → PlainGuard
guard_step (opened.Or gs) = Or (guards_of gs.items)
guard_step (opened.And gs) = And (guards_of gs.items)
guard_step (opened.Compare c left right) = Compare c left right
guard_step (opened.Not g) = Not g.value
guard_step (opened.Operand o) = Operand o
guard_step (opened.At n) = At n
guard_step (opened.During from to) = During from to

abbrev pub plain_guard : GuardItem → PlainGuard
plain_guard = fold-GuardItem PlainGuard guard_step

abbrev pub plain_guards : List GuardItem → List PlainGuard
plain_guards gs = map plain_guard gs
