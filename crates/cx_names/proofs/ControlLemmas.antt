-- Statements one after another, and the groups of their invokes.
use Rattle.std.proofs.Common.{◌≡◌, ℕ, suc, ◌+◌, ◌<◌, Bool, Option, None, Some, unwrap_or, List, [], ◌∷◌, ◌++◌, length, refl, sym, ◌∙◌, ap, arith, append_assoc, append-nil, length-append, true, false}
use Rattle.cx_text.proofs.ListLaws.{snoc_length}
use Rattle.cx_text.specs.declared.places.Place.{Place}
use Rattle.cx_ast.specs.declared.statements.BindItem.{BindItem}
use Rattle.cx_meaning.specs.declared.ports.PlacedPort.{PlacedPort}
use Rattle.cx_meaning.proofs.DesignsLemmas.{joined, joined_more}
use Rattle.cx_ast.specs.PlainStatements as written
use Rattle.cx_ast.specs.PlainTree.{PlainTree, PlainComponent}
use Rattle.cx_meaning.specs.Designs.{PlainGroup, PlainStatement, Placed, If, StaticIf, PlainStatements, no_statements, a_statement, statements_of}
use Rattle.cx_numbering.specs.DesignOf.{Invoke, Next, first, invoke_group, capture_group, capture_count, is_static_invoke, after, after_static, past, plain_invoke_of, captures_for, groups_for, static_for, invoke_groups, static_invokes, invokes_all, all_of, of_block, seq_form, go_port, cell_port}
use Rattle.cx_numbering.specs.Names.{group_names}
use Rattle.cx_names.specs.Added.{Made, next_of, with_invoke, added, invokes_at, statement_of}

module _ (tree : PlainTree) (part : PlainComponent) where
  pub added_append : (made : Made) (ks js : List Invoke) → added tree part made (ks ++ js) ≡ added tree part (added tree part made ks) js
  added_append made [] js = refl
  added_append made (k ∷ ks) js = added_append (with_invoke tree part made k) ks js

  -- the numbers that come next, behind an invoke and behind several
  captured : (gs : List PlainGroup) (k : Invoke) (outputs : List BindItem) → length (gs ++ captures_for tree part k outputs) ≡ length gs + capture_count tree part outputs
  captured gs k [] = length-append gs []
  captured gs k (b ∷ bs) = length-append gs (capture_group tree part k ∷ [])

  no_longer : {A : Type 0} (xs : List A) → length (xs ++ []) ≡ length xs
  no_longer xs = ap length (append-nil xs)

  one_next : (made : Made) (k : Invoke) → next_of (with_invoke tree part made k) ≡ after tree part (next_of made) k
  one_next made k = by (is_static_invoke tree part k)
    where
      by : (b : Bool) → next_of (record { groups = made.groups ++ groups_for tree part b (next_of made) k; invokes = made.invokes ++ static_for tree part b (next_of made) k }) ≡ after_static tree part b (next_of made) k.outputs
      by true =
          (let groups = captured made.groups k k.outputs in
          let invokes = snoc_length made.invokes (plain_invoke_of tree part (next_of made) k) in
          λ i. record { group = groups i; invoke = invokes i })
      by false =
          (let groups = snoc_length made.groups (invoke_group tree part (length made.groups) k) in
          let invokes = no_longer made.invokes in
          λ i. record { group = groups i; invoke = invokes i })

  pub next_added : (made : Made) (ks : List Invoke) → next_of (added tree part made ks) ≡ past tree part (next_of made) ks
  next_added made [] = refl
  next_added made (k ∷ ks) = next_added (with_invoke tree part made k) ks ∙ ap (λ n. past tree part n ks) (one_next made k)

  -- what is added for invokes stands behind
  pub added_groups : (made : Made) (ks : List Invoke) → (added tree part made ks).groups ≡ made.groups ++ invoke_groups tree part (next_of made) ks
  added_groups made [] = sym (append-nil made.groups)
  added_groups made (k ∷ ks) =
      let own = groups_for tree part (is_static_invoke tree part k) (next_of made) k in
      added_groups (with_invoke tree part made k) ks
      ∙ append_assoc made.groups own (invoke_groups tree part (next_of (with_invoke tree part made k)) ks)
      ∙ ap (λ n. made.groups ++ (own ++ invoke_groups tree part n ks)) (one_next made k)

  pub added_invokes : (made : Made) (ks : List Invoke) → (added tree part made ks).invokes ≡ made.invokes ++ static_invokes tree part (next_of made) ks
  added_invokes made [] = sym (append-nil made.invokes)
  added_invokes made (k ∷ ks) =
      let own = static_for tree part (is_static_invoke tree part k) (next_of made) k in
      added_invokes (with_invoke tree part made k) ks
      ∙ append_assoc made.invokes own (static_invokes tree part (next_of (with_invoke tree part made k)) ks)
      ∙ ap (λ n. made.invokes ++ (own ++ static_invokes tree part n ks)) (one_next made k)

  -- before any invoke
  pub first_next : (made : Made) → length made.groups ≡ length (group_names part) → made.invokes ≡ [] → next_of made ≡ first tree part
  first_next made g v = let invokes : length made.invokes ≡ 0 = ap length v in λ i. record { group = g i; invoke = invokes i }

  all_then : (n : Next) (s : written.PlainStatement) (rest : written.PlainStatements) → all_of tree part n (written.StatementThen s rest) ≡ a_statement (statement_of tree part n s) (all_of tree part (past tree part n (invokes_at s)) rest)
  all_then n (written.Placed attributes form place) rest = refl

  invokes_then : (s : written.PlainStatement) (rest : written.PlainStatements) → invokes_all (written.StatementThen s rest) ≡ invokes_at s ++ invokes_all rest
  invokes_then (written.Placed attributes form place) rest = refl

  -- one more statement
  pub one_more : (n m : Next) (before : List PlainStatement) (s : written.PlainStatement) (made : PlainStatement) (rest : written.PlainStatements) (all : PlainStatements) → made ≡ statement_of tree part n s
      → m ≡ past tree part n (invokes_at s) → joined before (all_of tree part n (written.StatementThen s rest)) ≡ all → joined (before ++ made ∷ []) (all_of tree part m rest) ≡ all
  one_more n m before s made rest all is count h =
      joined_more before made (all_of tree part m rest)
      ∙ ap (λ x. joined before (a_statement x (all_of tree part m rest))) is
      ∙ ap (λ k. joined before (a_statement (statement_of tree part n s) (all_of tree part k rest))) count
      ∙ ap (joined before) (sym (all_then n s rest))
      ∙ h

  pub added_more : (gs new : Made) (s : written.PlainStatement) (rest : written.PlainStatements) (all : Made) → new ≡ added tree part gs (invokes_at s)
      → added tree part gs (invokes_all (written.StatementThen s rest)) ≡ all → added tree part new (invokes_all rest) ≡ all
  added_more gs new s rest all is h =
      ap (λ xs. added tree part xs (invokes_all rest)) is ∙ sym (added_append gs (invokes_at s) (invokes_all rest)) ∙ ap (added tree part gs) (sym (invokes_then s rest)) ∙ h

  -- a block of several statements is these in order
  pub of_many : (static : Bool) (place : Place) (ss : List PlainStatement) → 1 < length ss → of_block tree part static place (statements_of ss) ≡ Placed (seq_form tree part static (statements_of ss)) place
  of_many static place [] many = absurd (omega (arith, many))
  of_many static place (s ∷ []) many = absurd (omega (arith, many))
  of_many static place (s ∷ t ∷ ss) many = refl

  pub go_named : (go : Option (List ℕ)) (cell : List ℕ) → go_port tree part go cell ≡ cell_port tree part cell (unwrap_or go [])
  go_named None cell = refl
  go_named (Some name) cell = refl
