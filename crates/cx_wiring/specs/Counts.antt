-- What a statement has of its own in the net: positions of its region, wires, registers.
use Rattle.std.specs.Prelude.{ℕ, zero, suc, ◌+◌, List, [], ◌∷◌, ◌++◌, length, replicate, Option, Some, None, slice_get}
use Rattle.cx_meaning.specs.Designs.{PlainForm, Empty, Enable, Seq, Par, If, While, Repeat, StaticSeq, StaticPar, StaticIf, StaticRepeat, Timed, PlainStatement, Placed, PlainStatements, no_statements, a_statement}
use Rattle.cx_static.specs.Islands.{PlainIsland}

-- POSITIONS that a statement has in its region. An enable, a test, a par, an island and an idle turn have one; the arms of
-- a par have regions of their own
abbrev mutual
  pub form_positions : PlainForm → ℕ
  form_positions Empty = 1
  form_positions (Enable g) = 1
  form_positions (Seq no_statements) = 1
  form_positions (Seq (a_statement s ss)) = positions_of s + positions_in ss
  form_positions (Par arms) = 1
  form_positions (If test comb a b) = suc (positions_of a + positions_of b)
  form_positions (While test comb a) = suc (positions_of a)
  form_positions (Repeat zero a) = 1
  form_positions (Repeat (suc n) a) = positions_of a
  form_positions (StaticSeq written parts) = 1
  form_positions (StaticPar written arms) = 1
  form_positions (StaticIf written test a b) = 1
  form_positions (StaticRepeat written count a) = 1
  form_positions (Timed k) = 1

  pub positions_of : PlainStatement → ℕ
  positions_of (Placed form place) = form_positions form

  pub positions_in : PlainStatements → ℕ
  positions_in no_statements = 0
  positions_in (a_statement s ss) = positions_of s + positions_in ss

-- WIRES of a statement: that control stands there, that it is in its last turn, and behind them those of its parts
abbrev mutual
  pub form_wires : PlainForm → ℕ
  form_wires Empty = 0
  form_wires (Enable g) = 0
  form_wires (Seq parts) = wires_in parts
  form_wires (Par arms) = wires_in arms
  form_wires (If test comb a b) = wires_of a + wires_of b
  form_wires (While test comb a) = wires_of a
  form_wires (Repeat zero a) = 0
  form_wires (Repeat (suc n) a) = wires_of a
  form_wires (StaticSeq written parts) = 0
  form_wires (StaticPar written arms) = 0
  form_wires (StaticIf written test a b) = 0
  form_wires (StaticRepeat written count a) = 0
  form_wires (Timed k) = 0

  pub wires_of : PlainStatement → ℕ
  wires_of (Placed form place) = suc (suc (form_wires form))

  pub wires_in : PlainStatements → ℕ
  wires_in no_statements = 0
  wires_in (a_statement s ss) = wires_of s + wires_in ss

-- a register of one bit for each static if
abbrev pub sample_registers : Option PlainIsland → List ℕ
sample_registers None = []
sample_registers (Some island) = replicate (length island.points) 1

-- REGISTERS of a statement, by their widths: that of each arm before those in it, the rounds of a repeat, the samples of
-- an island
module _ (islands : List PlainIsland) where
  abbrev mutual
    pub form_registers : PlainForm → List ℕ
    form_registers Empty = []
    form_registers (Enable g) = []
    form_registers (Seq parts) = registers_in parts
    form_registers (Par arms) = arms_registers arms
    form_registers (If test comb a b) = registers_of a ++ registers_of b
    form_registers (While test comb a) = registers_of a
    form_registers (Repeat zero a) = []
    form_registers (Repeat (suc n) a) = 32 ∷ registers_of a
    form_registers (StaticSeq written parts) = []
    form_registers (StaticPar written arms) = []
    form_registers (StaticIf written test a b) = []
    form_registers (StaticRepeat written count a) = []
    form_registers (Timed k) = sample_registers (slice_get islands k)

    pub registers_of : PlainStatement → List ℕ
    registers_of (Placed form place) = form_registers form

    pub registers_in : PlainStatements → List ℕ
    registers_in no_statements = []
    registers_in (a_statement s ss) = registers_of s ++ registers_in ss

    pub arms_registers : PlainStatements → List ℕ
    arms_registers no_statements = []
    arms_registers (a_statement s ss) = 32 ∷ (registers_of s ++ arms_registers ss)
