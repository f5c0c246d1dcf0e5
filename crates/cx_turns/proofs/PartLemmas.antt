-- Parts of statements stand in the control, and are less work.
use Rattle.std.proofs.Common.{◌≡◌, ℕ, zero, suc, ◌≤◌, ◌<◌, List, [], ◌∷◌, length, get_or, Option, inr, sym, subst, arith}
use Rattle.cx_text.proofs.MemberLaws.{in_left, in_right}
use Rattle.cx_meaning.specs.declared.ports.PlacedPort.{PlacedPort}
use Rattle.cx_meaning.specs.Designs.{PlainDesign, If, PlainStatement}
use Rattle.cx_text.specs.Members.{In}
use Rattle.cx_rules.specs.Items.{Visited, Dynamic, visit, visit_all}
use Rattle.cx_design.specs.declared.statements.Statement.{Statement}
use Rattle.cx_design.specs.PlainForms.{plain_statement, plain_statements}
use Rattle.cx_turns.specs.Machines.{StandsIn, StandIn, FormStands}
use Rattle.cx_turns.proofs.Measures.{steps, all_steps}

part_visited : (parts : List Statement) (k : ℕ) (x : Statement) (v : Visited) → k < length parts → In (visit Dynamic (plain_statement (get_or parts k x))) v → In (visit_all Dynamic (plain_statements parts)) v
part_visited [] k x v lt h = absurd (omega arith)
part_visited (s ∷ ss) zero x v lt h = in_left (visit Dynamic (plain_statement s)) (visit_all Dynamic (plain_statements ss)) v h
part_visited (s ∷ ss) (suc k) x v lt h = in_right (visit Dynamic (plain_statement s)) (visit_all Dynamic (plain_statements ss)) v (part_visited ss k x v (let l : suc k < suc (length ss) = lt in omega arith) h)

pub part_stands : (d : PlainDesign) (n : ℕ) (parts : List Statement) (k : ℕ) (x : Statement) → k < length parts → x ≡ get_or parts k x → StandIn d n (plain_statements parts) → StandsIn d n (plain_statement x)
part_stands d n parts k x lt e stand path v number h = stand path v number (part_visited parts k x v lt (subst (λ s. In (visit Dynamic (plain_statement s)) v) e h))

-- the steps of a part
pub part_falls : (parts : List Statement) (k : ℕ) (x : Statement) → k < length parts → x ≡ get_or parts k x → steps (plain_statement x) ≤ all_steps (plain_statements parts)
part_falls parts k x lt is = subst (λ s. steps (plain_statement s) ≤ all_steps (plain_statements parts)) (sym is) (below_all parts k x lt)
  where
    below_all : (parts : List Statement) (k : ℕ) (x : Statement) → k < length parts → steps (plain_statement (get_or parts k x)) ≤ all_steps (plain_statements parts)
    below_all [] k x lt = absurd (omega arith)
    below_all (s ∷ ss) zero x lt = omega arith
    below_all (s ∷ ss) (suc k) x lt =
        let h : steps (plain_statement (get_or ss k x)) ≤ all_steps (plain_statements ss) = below_all ss k x (let e : suc k < suc (length ss) = lt in omega arith) in
        omega (arith, h)

-- the branches of an if
module _ (d : PlainDesign) (n : ℕ) (port : PlacedPort) (comb : Option ℕ) (yes no : PlainStatement) where
  pub yes_stands : FormStands d n (If port comb yes no) → StandsIn d n yes
  yes_stands (place, stands) path v number h = stands path v number (inr (in_left (visit Dynamic yes) (visit Dynamic no) v h))

  pub no_stands : FormStands d n (If port comb yes no) → StandsIn d n no
  no_stands (place, stands) path v number h = stands path v number (inr (in_right (visit Dynamic yes) (visit Dynamic no) v h))
