-- Statements by number, and the groups and static invokes of their invokes behind those that were made before.
use Rattle.std.specs.Prelude.{ℕ, List, [], ◌∷◌, ◌++◌, length, map}
use Rattle.cx_ast.specs.PlainStatements as written
use Rattle.cx_ast.specs.PlainTree.{PlainTree, PlainComponent}
use Rattle.cx_meaning.specs.Designs.{PlainGroup, PlainInvoke, PlainStatement, Placed}
use Rattle.cx_design.specs.PlainForms.{plain_group, plain_invoke}
use Rattle.cx_numbering.specs.DesignOf.{Invoke, Next, is_static_invoke, groups_for, static_for, invokes_in, form_of}
use Rattle.cx_names.specs.declared.drafts.Draft.{Draft}

-- the groups and the static invokes so far, and the numbers that come next
pub record Made : Type 0 where
  pub groups : List PlainGroup
  pub invokes : List PlainInvoke

abbrev pub made_of : Draft → Made
made_of draft = record { groups = map plain_group draft.groups.items; invokes = map plain_invoke draft.invokes.items }

abbrev pub next_of : Made → Next
next_of made = record { group = length made.groups; invoke = length made.invokes }

-- an invoke is added: its group behind the groups, and a static one behind the static invokes
abbrev pub with_invoke : PlainTree → PlainComponent → Made → Invoke → Made
with_invoke tree part made k = record {
  groups = made.groups ++ groups_for tree part (is_static_invoke tree part k) (next_of made) k;
  invokes = made.invokes ++ static_for tree part (is_static_invoke tree part k) (next_of made) k;
}

abbrev pub added : PlainTree → PlainComponent → Made → List Invoke → Made
added tree part made [] = made
added tree part made (k ∷ ks) = added tree part (with_invoke tree part made k) ks

abbrev pub invokes_at : written.PlainStatement → List Invoke
invokes_at (written.Placed attributes form place) = invokes_in form place

abbrev pub statement_of : PlainTree → PlainComponent → Next → written.PlainStatement → PlainStatement
statement_of tree part n (written.Placed attributes form place) = Placed (form_of tree part n place form) place
