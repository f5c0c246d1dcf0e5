-- Counts of control, statement by statement.
use Rattle.std.proofs.Common.{◌≡◌, ℕ, ◌+◌, ◌-◌, ◌^◌, ◌<◌, ◌≤◌, List, [], ◌∷◌, ◌++◌, length, drop, get_or, sym, ap, ◌∙◌, subst, arith}
use Rattle.std.proofs.lemmas.List.{drop_more}
use Rattle.cx_meaning.specs.Designs.{PlainComponent}
use Rattle.cx_rules.specs.Items as items
use Rattle.cx_rules.specs.Items.{Visited, visit, visit_all}
use Rattle.cx_rules.specs.Invokes.{invoke_in}
use Rattle.cx_rules.specs.Counts.{Inners, statements_for, statements_counted, is_any_island, island_counted, occurrences_counted}
use Rattle.cx_design.specs.declared.statements.Statement.{Statement}
use Rattle.cx_design.specs.PlainForms.{plain_statement, plain_statements}
use Rattle.cx_design_sizes.specs.Capped.{capped}
use Rattle.cx_limits.specs.declared.counting.ControlCounts.{ControlCounts}
use Rattle.cx_limits.specs.Rows.{IsCounted}

module _ (part : PlainComponent) (below : Inners) where
  statements_append : (xs ys : List Visited) → statements_counted part below (xs ++ ys) ≡ statements_counted part below xs + statements_counted part below ys
  statements_append [] ys = let e : statements_counted part below ys ≡ 0 + statements_counted part below ys = omega arith in e
  statements_append (v ∷ xs) ys =
      let rest = statements_append xs ys in
      let e : statements_for part below (invoke_in v.form) + statements_counted part below (xs ++ ys)
      ≡ statements_for part below (invoke_in v.form) + statements_counted part below xs + statements_counted part below ys = omega (arith, rest) in
      e

  occurrences_append : (xs ys : List Visited) → occurrences_counted part below (xs ++ ys) ≡ occurrences_counted part below xs + occurrences_counted part below ys
  occurrences_append [] ys = let e : occurrences_counted part below ys ≡ 0 + occurrences_counted part below ys = omega arith in e
  occurrences_append (v ∷ xs) ys =
      let rest = occurrences_append xs ys in
      let e : island_counted part below (is_any_island part v) v.form + occurrences_counted part below (xs ++ ys)
      ≡ island_counted part below (is_any_island part v) v.form + occurrences_counted part below xs + occurrences_counted part below ys = omega (arith, rest) in
      e

  -- two parts of control
  pub counted_both : (one two both : ControlCounts) (a b at : items.Context) (s t first second : Statement) → a ≡ at → b ≡ at → s ≡ first → t ≡ second
      → IsCounted part below (visit a (plain_statement s)) one → IsCounted part below (visit b (plain_statement t)) two
      → both.statements ≡ capped (one.statements + two.statements) → both.occurrences ≡ capped (one.occurrences + two.occurrences)
      → IsCounted part below (visit at (plain_statement first) ++ visit at (plain_statement second)) both
  counted_both one two both a b at s t first second ea eb es et e f g h = sum
      (subst (λ x. IsCounted part below (visit at (plain_statement x)) one) es (subst (λ x. IsCounted part below (visit x (plain_statement s)) one) ea e))
      (subst (λ x. IsCounted part below (visit at (plain_statement x)) two) et (subst (λ x. IsCounted part below (visit x (plain_statement t)) two) eb f))
    where
      more : (n m p q r : ℕ) → r ≡ capped (p + q) → p ≡ capped n → q ≡ capped m → r ≡ capped (n + m)
      more n m p q r e f g = omega arith

      sum : IsCounted part below (visit at (plain_statement first)) one → IsCounted part below (visit at (plain_statement second)) two
          → IsCounted part below (visit at (plain_statement first) ++ visit at (plain_statement second)) both
      sum x y = record {
        statements = more (statements_counted part below (visit at (plain_statement first))) (statements_counted part below (visit at (plain_statement second))) one.statements two.statements both.statements g x.statements y.statements
            ∙ ap capped (sym (statements_append (visit at (plain_statement first)) (visit at (plain_statement second))));
        occurrences = more (occurrences_counted part below (visit at (plain_statement first))) (occurrences_counted part below (visit at (plain_statement second))) one.occurrences two.occurrences both.occurrences h x.occurrences y.occurrences
            ∙ ap capped (sym (occurrences_append (visit at (plain_statement first)) (visit at (plain_statement second))));
      }

  -- what is counted so far, and what is left of statements, is all of them
  pub record IsCountedTo (context : items.Context) (statements : List Statement) (i : ℕ) (so_far : ControlCounts) : Type 0 where
    pub statements_are : capped (so_far.statements + statements_counted part below (visit_all context (plain_statements (drop i statements)))) ≡ capped (statements_counted part below (visit_all context (plain_statements statements)))
    pub occurrences_are : capped (so_far.occurrences + occurrences_counted part below (visit_all context (plain_statements (drop i statements)))) ≡ capped (occurrences_counted part below (visit_all context (plain_statements statements)))
    pub few : so_far.statements ≤ 2 ^ 64 - 1
    pub small : so_far.occurrences ≤ 2 ^ 64 - 1

  split : (f : List Visited → ℕ) → ((xs ys : List Visited) → f (xs ++ ys) ≡ f xs + f ys) → (context : items.Context) (statements : List Statement) (i : ℕ) (s : Statement)
      → i < length statements → s ≡ get_or statements i s
      → f (visit_all context (plain_statements (drop i statements))) ≡ f (visit context (plain_statement s)) + f (visit_all context (plain_statements (drop (i + 1) statements)))
  split f append context statements i s lt is =
      ap (λ xs. f (visit_all context (plain_statements xs))) (drop_more statements i s lt)
      ∙ ap (λ x. f (visit_all context (plain_statements (x ∷ drop (i + 1) statements)))) (sym is)
      ∙ append (visit context (plain_statement s)) (visit_all context (plain_statements (drop (i + 1) statements)))

  step : (n m p q r all : ℕ) → r ≡ capped (p + q) → q ≡ capped n → capped (p + (n + m)) ≡ all → capped (r + m) ≡ all
  step n m p q r all e f g = (let h : capped (r + m) ≡ capped (p + (n + m)) = omega arith in h) ∙ g

  pub counted_step : (context : items.Context) (statements : List Statement) (i : ℕ) (s : Statement) (so_far one next : ControlCounts)
      → i < length statements → s ≡ get_or statements i s → IsCountedTo context statements i so_far → IsCounted part below (visit context (plain_statement s)) one
      → next.statements ≡ capped (so_far.statements + one.statements) → next.occurrences ≡ capped (so_far.occurrences + one.occurrences) → IsCountedTo context statements (i + 1) next
  counted_step context statements i s so_far one next lt is h e f g = record {
    statements_are = step (statements_counted part below (visit context (plain_statement s))) (statements_counted part below (visit_all context (plain_statements (drop (i + 1) statements))))
        so_far.statements one.statements next.statements _ f e.statements
        (ap (λ n. capped (so_far.statements + n)) (sym (split (statements_counted part below) statements_append context statements i s lt is)) ∙ h.statements_are);
    occurrences_are = step (occurrences_counted part below (visit context (plain_statement s))) (occurrences_counted part below (visit_all context (plain_statements (drop (i + 1) statements))))
        so_far.occurrences one.occurrences next.occurrences _ g e.occurrences
        (ap (λ n. capped (so_far.occurrences + n)) (sym (split (occurrences_counted part below) occurrences_append context statements i s lt is)) ∙ h.occurrences_are);
    few = omega (arith, f);
    small = omega (arith, g);
  }
