-- Copies of groups and of static control, in which each port and each group becomes another.
use Rattle.std.specs.Prelude.{ℕ, zero, suc, Bool, true, false, List, [], ◌∷◌, Option, Some, None, map}
use Rattle.cx_meaning.specs.declared.ports.PortRef.{PortRef}
use Rattle.cx_meaning.specs.Designs.{PlainGroup, PlainForm, Empty, Enable, Seq, Par, If, While, Repeat, StaticSeq, StaticPar, StaticIf, StaticRepeat, Timed, PlainStatement, Placed, PlainStatements, no_statements, a_statement}
use Rattle.cx_rules.specs.Counts.{is_one_of, group_if}
use Rattle.cx_rewrites.specs.Moving.{moved_port, moved_assign}

-- a copy of a group has no name
abbrev pub copied_group : (PortRef → PortRef) → PlainGroup → PlainGroup
copied_group move g = record { name = []; kind = g.kind; assigns = map (moved_assign move) g.assigns; place = g.place }

-- a copy of control, with each group by its copy
abbrev pub copied_comb : (ℕ → ℕ) → Option ℕ → Option ℕ
copied_comb copy None = None
copied_comb copy (Some g) = Some (copy g)

module _ (move : PortRef → PortRef) (copy : ℕ → ℕ) where
  abbrev mutual
    pub copied_form : PlainForm → PlainForm
    copied_form Empty = Empty
    copied_form (Enable g) = Enable (copy g)
    copied_form (Seq parts) = Seq (copied_statements parts)
    copied_form (Par arms) = Par (copied_statements arms)
    copied_form (If test comb a b) =
        If (moved_port move test) (copied_comb copy comb) (copied_statement a) (copied_statement b)
    copied_form (While test comb a) = While (moved_port move test) (copied_comb copy comb) (copied_statement a)
    copied_form (Repeat count a) = Repeat count (copied_statement a)
    copied_form (StaticSeq length parts) = StaticSeq length (copied_statements parts)
    copied_form (StaticPar length arms) = StaticPar length (copied_statements arms)
    copied_form (StaticIf length test a b) =
        StaticIf length (moved_port move test) (copied_statement a) (copied_statement b)
    copied_form (StaticRepeat length count a) = StaticRepeat length count (copied_statement a)
    copied_form (Timed k) = Timed k

    pub copied_statement : PlainStatement → PlainStatement
    copied_statement (Placed form place) = Placed (copied_form form) place

    pub copied_statements : PlainStatements → PlainStatements
    copied_statements no_statements = no_statements
    copied_statements (a_statement s ss) = a_statement (copied_statement s) (copied_statements ss)

abbrev pub count_if : Bool → ℕ → ℕ
count_if true n = suc n
count_if false n = n

-- how many groups below g are enabled
abbrev pub enabled_below : List ℕ → ℕ → ℕ
enabled_below used zero = 0
enabled_below used (suc g) = count_if (is_one_of g used) (enabled_below used g)

-- the enabled ones of the groups from g on
abbrev pub enabled_groups : List ℕ → ℕ → List PlainGroup → List PlainGroup
enabled_groups used g [] = []
enabled_groups used g (x ∷ xs) = group_if (is_one_of g used) x (enabled_groups used (suc g) xs)
