-- The machine of a statement over machines of its leaves.
use Rattle.std.specs.Prelude.{ℕ, zero, suc, Option}
use Rattle.cx_meaning.specs.declared.ports.PortRef.{PortRef}
use Rattle.cx_meaning.specs.Designs.{PlainForm, Empty, Enable, Seq, Par, If, While, Repeat, StaticSeq, StaticPar, StaticIf, StaticRepeat, Timed, PlainStatement, Placed, PlainStatements, no_statements, a_statement}
use Rattle.cx_meaning.specs.Answers.{Test}
use Rattle.cx_lockstep.specs.Worlds.{Store, Machine}
use Rattle.cx_lockstep.specs.Machines.{idle_machine, done_machine, seq_machine, par_machine, if_machine, while_machine, repeat_machine}

-- the leaves as machines
pub record LeafMachines (X : Type 0) (V : X → Type 0) (F : Type 0) : Type 1 where
  pub enable : ℕ → Machine X V
  pub island : PlainForm → Machine X V
  pub test : PortRef → Option ℕ → Store X V → Test F

-- by the forms of run. A timed statement stands in lowered designs alone
module _ {X : Type 0} {V : X → Type 0} {F : Type 0} (P : LeafMachines X V F) where
  abbrev mutual
    pub form_machine : PlainForm → Machine X V
    form_machine Empty = idle_machine X V
    form_machine (Enable g) = P.enable g
    form_machine (Seq no_statements) = idle_machine X V
    form_machine (Seq (a_statement first later)) = seq_machine (machine_of first) (parts_machine later)
    form_machine (Par no_statements) = idle_machine X V
    form_machine (Par (a_statement first later)) = par_machine (machine_of first) (arms_machine later)
    form_machine (If test comb a b) = if_machine (P.test test.port comb) (machine_of a) (machine_of b)
    form_machine (While test comb a) = while_machine (P.test test.port comb) (machine_of a)
    form_machine (Repeat zero a) = idle_machine X V
    form_machine (Repeat (suc k) a) = repeat_machine (suc k) (machine_of a)
    form_machine (StaticSeq length parts) = P.island (StaticSeq length parts)
    form_machine (StaticPar length arms) = P.island (StaticPar length arms)
    form_machine (StaticIf length test a b) = P.island (StaticIf length test a b)
    form_machine (StaticRepeat length count a) = P.island (StaticRepeat length count a)
    form_machine (Timed k) = idle_machine X V

    pub machine_of : PlainStatement → Machine X V
    machine_of (Placed form place) = form_machine form

    pub parts_machine : PlainStatements → Machine X V
    parts_machine no_statements = done_machine X V
    parts_machine (a_statement first later) = seq_machine (machine_of first) (parts_machine later)

    pub arms_machine : PlainStatements → Machine X V
    arms_machine no_statements = done_machine X V
    arms_machine (a_statement first later) = par_machine (machine_of first) (arms_machine later)
