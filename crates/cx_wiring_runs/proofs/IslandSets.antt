-- The groups of an island that are active in one of its cycles may be active together, whatever its samples are. So nothing leads in a
-- circle under them.
use Rattle.std.proofs.Common.{◌≡◌, ◌⊎◌, inl, inr, ℕ, suc, ◌+◌, ◌-◌, ◌%◌, Bool, true, false, if◌then◌else◌, List, [], ◌++◌, Option, Some, None, refl, sym, ap, subst}
use Rattle.std.proofs.Math.Path.{fun_ext}
use Rattle.std.specs.Prelude.{nat_lt}
use Rattle.cx_text.specs.declared.places.Place.{Place}
use Rattle.cx_meaning.specs.Designs.{PlainComponent, PlainForm, Empty, Enable, Seq, Par, If, While, Repeat, StaticSeq, StaticPar, StaticIf, StaticRepeat, Timed, PlainStatement, Placed, PlainStatements, no_statements, a_statement, list_of}
use Rattle.cx_meaning.specs.Active.{Active, Entry, nothing, entries, offset_in}
use Rattle.cx_text.specs.Members.{In}
use Rattle.cx_meaning.specs.Islands.{length_of}
use Rattle.cx_laws.specs.Positions.{entry_at, no_entry}
use Rattle.cx_laws.specs.Samples.{Samples, ifs_of, form_by, statement_by, while_by, parts_by, arms_by, active_by}
use Rattle.cx_meaning.specs.Control.{groups_of}
use Rattle.cx_control.proofs.TogetherLemmas.{together_groups}
use Rattle.cx_control.specs.Together.{union, IsTogether, at_rest, at_offset, in_static_seq, in_static_par, in_static_then, in_static_else, in_static_repeat, AreTogether, no_arm, an_arm}
use Rattle.cx_meaning.proofs.ActiveLemmas.{offset-both}

entries_both : (xs ys : List Entry) → union (entries xs) (entries ys) ≡ entries (xs ++ ys)
entries_both xs ys = ap (λ (f : ℕ → Option ℕ). record { offset = f; done_cell = None }) (fun_ext (λ g. sym (offset-both xs ys g)))

module _ (part : PlainComponent) (kept : Samples) where
  abbrev by : PlainForm → ℕ → ℕ → List Entry
  by form n j = form_by part kept entry_at no_entry form n j

  -- one part of a static seq
  abbrev OneOf : PlainStatements → Active → Type 0
  OneOf ss act = (act ≡ nothing) ⊎ ((s : PlainStatement) × In (list_of ss) s × IsTogether s act)

  seq_together : (written : Option ℕ) (parts : PlainStatements) (place : Place) (act : Active) → OneOf parts act → IsTogether (Placed (StaticSeq written parts) place) act
  seq_together written parts place act (inl e) = subst (IsTogether (Placed (StaticSeq written parts) place)) (sym e) at_rest
  seq_together written parts place act (inr (s, i, h)) = in_static_seq i h

  later_one : (s : PlainStatement) (ss : PlainStatements) (act : Active) → OneOf ss act → OneOf (a_statement s ss) act
  later_one s ss act (inl e) = inl e
  later_one s ss act (inr (t, i, h)) = inr (t, inr i, h)

  either_part : (s : PlainStatement) (ss : PlainStatements) (b : Bool) (xs ys : List Entry) → IsTogether s (entries xs) → OneOf ss (entries ys) → OneOf (a_statement s ss) (entries (if b then xs else ys))
  either_part s ss true xs ys h k = inr (s, inl refl, h)
  either_part s ss false xs ys h k = later_one s ss (entries ys) k

  where_runs : (s : PlainStatement) (b : Bool) (xs : List Entry) → IsTogether s (entries xs) → IsTogether s (entries (if b then xs else []))
  where_runs s true xs h = h
  where_runs s false xs h = at_rest

  branches : (written : Option ℕ) (test : _) (a b : PlainStatement) (place : Place) (k : Bool) (xs ys : List Entry) → IsTogether a (entries xs) → IsTogether b (entries ys) → IsTogether (Placed (StaticIf written test a b) place) (entries (if k then xs else ys))
  branches written test a b place true xs ys h k = in_static_then h
  branches written test a b place false xs ys h k = in_static_else k

  mutual
    form_together : (form : PlainForm) (place : Place) (n j : ℕ) → IsTogether (Placed form place) (entries (form_by part kept entry_at no_entry form n j))
    form_together Empty place n j = at_rest
    form_together (Enable g) place n j = at_offset j
    form_together (Seq parts) place n j = at_rest
    form_together (Par arms) place n j = at_rest
    form_together (If test comb a b) place n j = at_rest
    form_together (While test comb a) place n j = at_rest
    form_together (Repeat count a) place n j = at_rest
    form_together (StaticSeq written parts) place n j = seq_together written parts place (entries (parts_by part kept entry_at no_entry parts n j)) (parts_together parts n j)
    form_together (StaticPar written arms) place n j = in_static_par (arms_together arms n j)
    form_together (StaticIf written test a b) place n j =
        branches written test a b place (kept n) (while_by part kept entry_at no_entry a (suc n) j) (while_by part kept entry_at no_entry b (suc n + ifs_of a) j) (while_together a (suc n) j) (while_together b (suc n + ifs_of a) j)
    form_together (StaticRepeat written count a) place n j = in_static_repeat (statement_together a n (j % length_of part a))
    form_together (Timed k) place n j = at_rest

    statement_together : (s : PlainStatement) (n j : ℕ) → IsTogether s (entries (statement_by part kept entry_at no_entry s n j))
    statement_together (Placed form place) n j = form_together form place n j

    while_together : (s : PlainStatement) (n j : ℕ) → IsTogether s (entries (while_by part kept entry_at no_entry s n j))
    while_together (Placed form place) n j = where_runs (Placed form place) (nat_lt j (length_of part (Placed form place))) (form_by part kept entry_at no_entry form n j) (form_together form place n j)

    parts_together : (ss : PlainStatements) (n j : ℕ) → OneOf ss (entries (parts_by part kept entry_at no_entry ss n j))
    parts_together no_statements n j = inl refl
    parts_together (a_statement s ss) n j =
        either_part s ss (nat_lt j (length_of part s)) (statement_by part kept entry_at no_entry s n j) (parts_by part kept entry_at no_entry ss (n + ifs_of s) (j - length_of part s)) (statement_together s n j)
        (parts_together ss (n + ifs_of s) (j - length_of part s))

    arms_together : (ss : PlainStatements) (n j : ℕ) → AreTogether (list_of ss) (entries (arms_by part kept entry_at no_entry ss n j))
    arms_together no_statements n j = no_arm
    arms_together (a_statement s ss) n j =
        subst (AreTogether (list_of (a_statement s ss))) (entries_both (while_by part kept entry_at no_entry s n j) (arms_by part kept entry_at no_entry ss (n + ifs_of s) j))
        (an_arm (while_together s n j) (arms_together ss (n + ifs_of s) j))

  -- WHAT IS ACTIVE in a cycle
  pub active_together : (form : PlainForm) (place : Place) (t : ℕ) → IsTogether (Placed form place) (entries (active_by part kept t form))
  active_together form place t = form_together form place 0 t

  -- and its groups are the island's
  pub active_own : (form : PlainForm) (place : Place) (t g o : ℕ) → offset_in (active_by part kept t form) g ≡ Some o → In (groups_of (Placed form place)) g
  active_own form place t g o e = together_groups (active_together form place t) g o e
