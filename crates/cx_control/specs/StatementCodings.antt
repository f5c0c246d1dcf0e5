-- The places of a statement as numbers, in pre-order, over codings of the places of its leaves.
use Rattle.std.specs.Prelude.{ℕ, zero, suc}
use Rattle.cx_meaning.specs.Designs.{PlainForm, Empty, Enable, Seq, Par, If, While, Repeat, StaticSeq, StaticPar, StaticIf, StaticRepeat, Timed, PlainStatement, Placed, PlainStatements, no_statements, a_statement}
use Rattle.cx_lockstep.specs.Worlds.{Machine}
use Rattle.cx_lockstep.specs.Statements.{LeafMachines, form_machine, machine_of, parts_machine, arms_machine}
use Rattle.cx_control.specs.Codings.{Coding, Bank, unit_coding, no_coding, seq_coding, if_coding, while_coding, repeat_coding, region_bank, done_bank, par_bank, bank_coding}

pub record LeafCodings {X : Type 0} {V : X → Type 0} {F : Type 0} (leaves : LeafMachines X V F) : Type 1 where
  pub enable : (g : ℕ) → Coding (Machine.Place (leaves.enable g))
  pub island : (form : PlainForm) → Coding (Machine.Place (leaves.island form))

module _ {X : Type 0} {V : X → Type 0} {F : Type 0} (leaves : LeafMachines X V F) (codings : LeafCodings leaves) where
  abbrev mutual
    pub form_coding : (form : PlainForm) → Coding (Machine.Place (form_machine leaves form))
    form_coding Empty = unit_coding
    form_coding (Enable g) = codings.enable g
    form_coding (Seq no_statements) = unit_coding
    form_coding (Seq (a_statement first later)) = seq_coding (statement_coding first) (parts_coding later)
    form_coding (Par no_statements) = unit_coding
    form_coding (Par (a_statement first later)) =
        bank_coding (par_bank (region_bank (statement_coding first)) (arms_bank later))
    form_coding (If test comb a b) = if_coding (statement_coding a) (statement_coding b)
    form_coding (While test comb a) = while_coding (statement_coding a)
    form_coding (Repeat zero a) = unit_coding
    form_coding (Repeat (suc k) a) = repeat_coding (statement_coding a) (suc k)
    form_coding (StaticSeq length parts) = codings.island (StaticSeq length parts)
    form_coding (StaticPar length arms) = codings.island (StaticPar length arms)
    form_coding (StaticIf length test a b) = codings.island (StaticIf length test a b)
    form_coding (StaticRepeat length count a) = codings.island (StaticRepeat length count a)
    form_coding (Timed k) = unit_coding

    pub statement_coding : (s : PlainStatement) → Coding (Machine.Place (machine_of leaves s))
    statement_coding (Placed form place) = form_coding form

    pub parts_coding : (ss : PlainStatements) → Coding (Machine.Place (parts_machine leaves ss))
    parts_coding no_statements = no_coding
    parts_coding (a_statement first later) = seq_coding (statement_coding first) (parts_coding later)

    pub arms_bank : (ss : PlainStatements) → Bank (Machine.Place (arms_machine leaves ss))
    arms_bank no_statements = done_bank
    arms_bank (a_statement first later) = par_bank (region_bank (statement_coding first)) (arms_bank later)
