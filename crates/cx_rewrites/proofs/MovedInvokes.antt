-- STATEMENTS WHOSE PORTS ARE MOVED, with the static invokes in them: lengths, what is invoked, and counts with static components written out.
use Rattle.std.proofs.Common.{◌≡◌, ℕ, ◌+◌, ◌*◌, max, Bool, true, false, ◌||◌, ◌&&◌, List, [], ◌∷◌, ◌++◌, map, refl, ap, ap₂, ◌∙◌}
use Rattle.std.specs.Prelude.{flat_map, is_some}
use Rattle.cx_meaning.specs.declared.ports.PortRef.{PortRef}
use Rattle.cx_meaning.specs.Designs.{PlainComponent, PlainForm, Empty, Enable, Seq, Par, If, While, Repeat, StaticSeq, StaticPar, StaticIf, StaticRepeat, Timed, PlainStatement, Placed, PlainStatements, no_statements, a_statement}
use Rattle.cx_meaning.specs.Islands.{group_length, or_zero}
use Rattle.cx_rules.specs.Items.{Dynamic, Visited, visit}
use Rattle.cx_rules.specs.StaticControl.{one_if, is_dynamic}
use Rattle.cx_rules.specs.Invokes.{invoke_at, invoke_length, form_lasts, lasts, sum_lasts, max_lasts, invoke_in, invokes_of}
use Rattle.cx_rules.specs.Counts.{Inners, inner_for, statement_count_of, statements_for, statements_counted, captures_in, occurrence_count_of, form_counted, counted, counted_in, has_invoke, is_any_island, island_counted, occurrences_counted}
use Rattle.cx_rewrites.specs.Moving.{moved_form, moved_statement, moved_statements}
use Rattle.cx_rewrites.proofs.MovedLists.{moved_visited, visit-moved, is_island-moved}

module _ (move : PortRef → PortRef) where
  pub timed_back : (form : PlainForm) (k : ℕ) → moved_form move form ≡ Timed k → form ≡ Timed k
  timed_back Empty k e = absurd (cc)
  timed_back (Enable g) k e = absurd (cc)
  timed_back (Seq parts) k e = absurd (cc)
  timed_back (Par arms) k e = absurd (cc)
  timed_back (If test comb a b) k e = absurd (cc)
  timed_back (While test comb a) k e = absurd (cc)
  timed_back (Repeat count a) k e = absurd (cc)
  timed_back (StaticSeq length parts) k e = absurd (cc)
  timed_back (StaticPar length arms) k e = absurd (cc)
  timed_back (StaticIf length test a b) k e = absurd (cc)
  timed_back (StaticRepeat length count a) k e = absurd (cc)
  timed_back (Timed n) k e = e

  -- WHAT IS INVOKED
  pub invoke_in-moved : (form : PlainForm) → invoke_in (moved_form move form) ≡ invoke_in form
  invoke_in-moved Empty = refl
  invoke_in-moved (Enable g) = refl
  invoke_in-moved (Seq parts) = refl
  invoke_in-moved (Par arms) = refl
  invoke_in-moved (If test comb a b) = refl
  invoke_in-moved (While test comb a) = refl
  invoke_in-moved (Repeat count a) = refl
  invoke_in-moved (StaticSeq length parts) = refl
  invoke_in-moved (StaticPar length arms) = refl
  invoke_in-moved (StaticIf length test a b) = refl
  invoke_in-moved (StaticRepeat length count a) = refl
  invoke_in-moved (Timed k) = refl

  invokes_in-moved : (vs : List Visited) → flat_map (λ (v : Visited). invoke_in v.form) (map (moved_visited move) vs) ≡ flat_map (λ (v : Visited). invoke_in v.form) vs
  invokes_in-moved [] = refl
  invokes_in-moved (v ∷ vs) = ap₂ ◌++◌ (invoke_in-moved v.form) (invokes_in-moved vs)

  pub invokes_of-moved : (s : PlainStatement) → invokes_of (moved_statement move s) ≡ invokes_of s
  invokes_of-moved s = ap (flat_map (λ (v : Visited). invoke_in v.form)) (visit-moved move Dynamic s) ∙ invokes_in-moved (visit Dynamic s)

  -- of another component, whose groups have their lengths
  module _ (part other : PlainComponent) (lengths : (g : ℕ) → group_length other g ≡ group_length part g) where
    -- and its invokes theirs
    module _ (lasting : (k : ℕ) → invoke_length (invoke_at other k) ≡ invoke_length (invoke_at part k)) where
      mutual
        pub form_lasts-moved : (form : PlainForm) → form_lasts other (moved_form move form) ≡ form_lasts part form
        form_lasts-moved Empty = refl
        form_lasts-moved (Enable g) = ap or_zero (lengths g)
        form_lasts-moved (Seq parts) = refl
        form_lasts-moved (Par arms) = refl
        form_lasts-moved (If test comb a b) = refl
        form_lasts-moved (While test comb a) = refl
        form_lasts-moved (Repeat count a) = refl
        form_lasts-moved (StaticSeq length parts) = sum_lasts-moved parts
        form_lasts-moved (StaticPar length arms) = max_lasts-moved arms
        form_lasts-moved (StaticIf length test a b) = ap₂ max (lasts-moved a) (lasts-moved b)
        form_lasts-moved (StaticRepeat length count a) = ap (λ n. count * n) (lasts-moved a)
        form_lasts-moved (Timed k) = lasting k

        pub lasts-moved : (s : PlainStatement) → lasts other (moved_statement move s) ≡ lasts part s
        lasts-moved (Placed form place) = form_lasts-moved form

        sum_lasts-moved : (ss : PlainStatements) → sum_lasts other (moved_statements move ss) ≡ sum_lasts part ss
        sum_lasts-moved no_statements = refl
        sum_lasts-moved (a_statement s ss) = ap₂ (λ m n. m + n) (lasts-moved s) (sum_lasts-moved ss)

        max_lasts-moved : (ss : PlainStatements) → max_lasts other (moved_statements move ss) ≡ max_lasts part ss
        max_lasts-moved no_statements = refl
        max_lasts-moved (a_statement s ss) = ap₂ max (lasts-moved s) (max_lasts-moved ss)

    -- ISLANDS, where an invoke is there if one was
    module _ (there : (k : ℕ) → is_some (invoke_at other k) ≡ is_some (invoke_at part k)) where
      has_invoke-moved : (ks : List ℕ) → has_invoke other ks ≡ has_invoke part ks
      has_invoke-moved [] = refl
      has_invoke-moved (k ∷ ks) = there k

      pub is_any_island-moved : (v : Visited) → is_any_island other (moved_visited move v) ≡ is_any_island part v
      is_any_island-moved v =
          ap₂ (λ a b. a || (is_dynamic v.context && b)) (is_island-moved move part other lengths v)
          (ap (has_invoke other) (invoke_in-moved v.form) ∙ has_invoke-moved (invoke_in v.form))

    -- OCCURRENCES, where each invoke has as many
    module _ (below more : Inners)
        (occurs : (k : ℕ) → occurrence_count_of (inner_for more (invoke_at other k)) (captures_in (invoke_at other k)) ≡ occurrence_count_of (inner_for below (invoke_at part k)) (captures_in (invoke_at part k))) where
      mutual
        pub form_counted-moved : (form : PlainForm) → form_counted other more (moved_form move form) ≡ form_counted part below form
        form_counted-moved Empty = refl
        form_counted-moved (Enable g) = ap (λ o. one_if (is_some o)) (lengths g)
        form_counted-moved (Seq parts) = refl
        form_counted-moved (Par arms) = refl
        form_counted-moved (If test comb a b) = refl
        form_counted-moved (While test comb a) = refl
        form_counted-moved (Repeat count a) = refl
        form_counted-moved (StaticSeq length parts) = counted_in-moved parts
        form_counted-moved (StaticPar length arms) = counted_in-moved arms
        form_counted-moved (StaticIf length test a b) = ap₂ ◌+◌ (counted-moved a) (counted-moved b)
        form_counted-moved (StaticRepeat length count a) = counted-moved a
        form_counted-moved (Timed k) = occurs k

        counted-moved : (s : PlainStatement) → counted other more (moved_statement move s) ≡ counted part below s
        counted-moved (Placed form place) = form_counted-moved form

        counted_in-moved : (ss : PlainStatements) → counted_in other more (moved_statements move ss) ≡ counted_in part below ss
        counted_in-moved no_statements = refl
        counted_in-moved (a_statement s ss) = ap₂ ◌+◌ (counted-moved s) (counted_in-moved ss)

      pub occurrences_counted-moved : ((k : ℕ) → is_some (invoke_at other k) ≡ is_some (invoke_at part k)) → (vs : List Visited) → occurrences_counted other more (map (moved_visited move) vs) ≡ occurrences_counted part below vs
      occurrences_counted-moved there [] = refl
      occurrences_counted-moved there (v ∷ vs) =
          ap₂ ◌+◌ (ap (λ b. island_counted other more b (moved_form move v.form)) (is_any_island-moved there v) ∙ one (is_any_island part v)) (occurrences_counted-moved there vs)
        where
          one : (b : Bool) → island_counted other more b (moved_form move v.form) ≡ island_counted part below b v.form
          one true = form_counted-moved v.form
          one false = refl

  -- STATEMENTS, where each invoke counts as many
  module _ (part other : PlainComponent) (below more : Inners)
      (states : (k : ℕ) → statement_count_of (inner_for more (invoke_at other k)) (captures_in (invoke_at other k)) ≡ statement_count_of (inner_for below (invoke_at part k)) (captures_in (invoke_at part k))) where
    statements_for-moved : (ks : List ℕ) → statements_for other more ks ≡ statements_for part below ks
    statements_for-moved [] = refl
    statements_for-moved (k ∷ ks) = states k

    pub statements_counted-moved : (vs : List Visited) → statements_counted other more (map (moved_visited move) vs) ≡ statements_counted part below vs
    statements_counted-moved [] = refl
    statements_counted-moved (v ∷ vs) = ap₂ ◌+◌ (ap (statements_for other more) (invoke_in-moved v.form) ∙ statements_for-moved (invoke_in v.form)) (statements_counted-moved vs)
