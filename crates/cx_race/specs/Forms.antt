-- The forms of a statement, in pre-order.
use Rattle.std.specs.Prelude.{ℕ, List, [], ◌∷◌, ◌++◌, map}
use Rattle.std.specs.Borrow.{Bor}
use Rattle.cx_meaning.specs.Designs.{PlainForm, Empty, Enable, Seq, Par, If, While, Repeat, StaticSeq, StaticPar, StaticIf, StaticRepeat, Timed, PlainStatement, Placed, PlainStatements, no_statements, a_statement}
use Rattle.cx_rules.specs.Items.{option_list}
use Rattle.cx_design.specs.declared.statements.Form.{Form}
use Rattle.cx_design.specs.PlainForms.{plain_form}

-- the form of the statement itself first
abbrev mutual
  pub forms_of : PlainStatement → List PlainForm
  forms_of (Placed form place) = form ∷ forms_below form

  pub forms_below : PlainForm → List PlainForm
  forms_below Empty = []
  forms_below (Enable g) = []
  forms_below (Seq parts) = forms_in parts
  forms_below (Par arms) = forms_in arms
  forms_below (If test comb a b) = forms_of a ++ forms_of b
  forms_below (While test comb a) = forms_of a
  forms_below (Repeat count a) = forms_of a
  forms_below (StaticSeq length parts) = forms_in parts
  forms_below (StaticPar length arms) = forms_in arms
  forms_below (StaticIf length test a b) = forms_of a ++ forms_of b
  forms_below (StaticRepeat length count a) = forms_of a
  forms_below (Timed island) = []

  pub forms_in : PlainStatements → List PlainForm
  forms_in no_statements = []
  forms_in (a_statement s ss) = forms_of s ++ forms_in ss

-- the group that a form enables, or the comb group of its condition
abbrev pub own_groups : PlainForm → List ℕ
own_groups Empty = []
own_groups (Enable g) = g ∷ []
own_groups (Seq parts) = []
own_groups (Par arms) = []
own_groups (If test comb a b) = option_list comb
own_groups (While test comb a) = option_list comb
own_groups (Repeat count a) = []
own_groups (StaticSeq length parts) = []
own_groups (StaticPar length arms) = []
own_groups (StaticIf length test a b) = []
own_groups (StaticRepeat length count a) = []
own_groups (Timed island) = []

-- forms as they lie in memory
abbrev pub plain_forms : List (Bor Form) → List PlainForm
plain_forms forms = map (λ form. plain_form form.now) forms
