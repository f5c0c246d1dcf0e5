-- Each static invoke of a component's text stands in its control.
use Rattle.std.proofs.Common.{◌≡◌, ℕ, suc, ◌+◌, ◌<◌, ◌≤◌, Bool, true, false, List, [], ◌∷◌, ◌++◌, Option, Some, None, length, flat_map, ◌⊎◌, inl, inr, ⊎_elim, refl, sym, ap, ◌∙◌, subst, arith}
use Rattle.std.proofs.lemmas.Bool.{cases_lt}
use Rattle.std.proofs.lemmas.Grind.{flat_map-append}
use Rattle.cx_text.proofs.MemberLaws.{in_left, in_right}
use Rattle.cx_text.specs.declared.places.Place.{Place}
use Rattle.cx_ast.specs.PlainTree as ast
use Rattle.cx_ast.specs.PlainTree.{PlainTree}
use Rattle.cx_ast.specs.PlainStatements as statements
use Rattle.cx_meaning.specs.Designs.{PlainStatement, PlainStatements, Placed, no_statements, a_statement}
use Rattle.cx_meaning.specs.Designs as plain
use Rattle.cx_text.specs.Members.{In}
use Rattle.cx_rules.specs.Items.{Context, Dynamic, InStatic, Branch, below_dynamic, Visited, visit, visit_all}
use Rattle.cx_rules.specs.Invokes.{invoke_in}
use Rattle.cx_numbering.specs.DesignOf.{Invoke, Next, first, after_static, past, is_static_invoke, invoke_form, of_block, form_of, else_of, block_of, parts_of, all_of, invokes_in, invokes_of, invokes_else, invokes_all, control_invokes, control_of, static_invokes}
use Rattle.cx_names.proofs.Splits.{past-append, statics_counted}

-- the numbers of the static invokes among statements
abbrev numbers : List Visited → List ℕ
numbers vs = flat_map (λ v. invoke_in v.form) vs

numbers-append : (vs ws : List Visited) → numbers (vs ++ ws) ≡ numbers vs ++ numbers ws
numbers-append vs ws = flat_map-append (λ (v : Visited). invoke_in v.form) vs ws

numbers_left : (vs ws : List Visited) (m : ℕ) → In (numbers vs) m → In (numbers (vs ++ ws)) m
numbers_left vs ws m i = subst (λ ms. In ms m) (sym (numbers-append vs ws)) (in_left (numbers vs) (numbers ws) m i)

numbers_right : (vs ws : List Visited) (m : ℕ) → In (numbers ws) m → In (numbers (vs ++ ws)) m
numbers_right vs ws m i = subst (λ ms. In ms m) (sym (numbers-append vs ws)) (in_right (numbers vs) (numbers ws) m i)

module _ (tree : PlainTree) (part : ast.PlainComponent) where
  -- a number from those of one place to before those of another
  abbrev Between : Next → Next → ℕ → Type 0
  Between n m k = (n.invoke ≤ k) × (k < m.invoke)

  nothing : {A : Type 0} (n : Next) (k : ℕ) → Between n n k → A
  nothing n k b = let low = b.0 in let high = b.1 in absurd (omega (arith, low, high))

  halves : (n : Next) (ks js : List Invoke) (k : ℕ) → Between n (past tree part n (ks ++ js)) k
      → Between n (past tree part n ks) k ⊎ Between (past tree part n ks) (past tree part (past tree part n ks) js) k
  halves n ks js k b =
      ⊎_elim (λ l. inl (b.0, l)) (λ r. inr (r, subst (λ (m : Next). k < m.invoke) (past-append tree part n ks js) b.1)) (cases_lt k (past tree part n ks).invoke)

  own_number : (context : Context) (n : Next) (place : Place) (v : Invoke) (b : Bool) (k : ℕ) → Between n (after_static tree part b n v.outputs) k → In (numbers (visit context (Placed (invoke_form tree part b n) place))) k
  own_number context n place v true k b = let low : n.invoke ≤ k = b.0 in let high : k < suc n.invoke = b.1 in inl (omega (arith, low, high))
  own_number context n place v false k b = nothing n k b

  blocked : (static : Bool) (place : Place) (ss : PlainStatements) (k : ℕ) → ((context : Context) → In (numbers (visit_all context ss)) k) → (context : Context) → In (numbers (visit context (of_block tree part static place ss))) k
  blocked static place no_statements k h context = absurd (h context)
  blocked static place (a_statement s no_statements) k h context = subst (λ vs. In (numbers vs) k) (alone (visit context s)) (h context)
    where
      alone : (vs : List Visited) → vs ++ [] ≡ vs
      alone [] = refl
      alone (v ∷ vs) = ap (λ ws. v ∷ ws) (alone vs)
  blocked true place (a_statement s (a_statement t rest)) k h context = h InStatic
  blocked false place (a_statement s (a_statement t rest)) k h context = h (below_dynamic context)

  mutual
    in_form : (context : Context) (n : Next) (place : Place) (form : statements.PlainForm) (k : ℕ) → Between n (past tree part n (invokes_in form place)) k → In (numbers (visit context (Placed (form_of tree part n place form) place))) k
    in_form context n place (statements.Enable group marks) k b = nothing n k b
    in_form context n place (statements.Seq marks block) k b = in_parts (below_dynamic context) n block k b
    in_form context n place (statements.Par marks block) k b = in_parts (below_dynamic context) n block k b
    in_form context n place (statements.StaticSeq length marks block) k b = in_parts InStatic n block k b
    in_form context n place (statements.StaticPar length marks block) k b = in_parts InStatic n block k b
    in_form context n place (statements.If test comb block otherwise) k b =
        ⊎_elim
        (λ l. numbers_left (visit (below_dynamic context) (block_of tree part false n block)) (visit (below_dynamic context) (else_of tree part false (past tree part n (invokes_of block)) place otherwise)) k
        (in_block (below_dynamic context) false n block k l))
        (λ r. numbers_right (visit (below_dynamic context) (block_of tree part false n block)) (visit (below_dynamic context) (else_of tree part false (past tree part n (invokes_of block)) place otherwise)) k
        (in_else (below_dynamic context) false (past tree part n (invokes_of block)) place otherwise k r))
        (halves n (invokes_of block) (invokes_else otherwise) k b)
    in_form context n place (statements.StaticIf length test block otherwise) k b =
        ⊎_elim
        (λ l. numbers_left (visit Branch (block_of tree part true n block)) (visit Branch (else_of tree part true (past tree part n (invokes_of block)) place otherwise)) k (in_block Branch true n block k l))
        (λ r. numbers_right (visit Branch (block_of tree part true n block)) (visit Branch (else_of tree part true (past tree part n (invokes_of block)) place otherwise)) k
        (in_else Branch true (past tree part n (invokes_of block)) place otherwise k r))
        (halves n (invokes_of block) (invokes_else otherwise) k b)
    in_form context n place (statements.While test comb body) k b = in_block (below_dynamic context) false n body k b
    in_form context n place (statements.Repeat count body) k b = in_block (below_dynamic context) false n body k b
    in_form context n place (statements.StaticRepeat length count body) k b = in_block InStatic true n body k b
    in_form context n place (statements.Invoke cell inputs outputs) k b =
        own_number context n place (record { cell = cell; written = false; length = None; inputs = inputs; outputs = outputs; place = place })
        (is_static_invoke tree part (record { cell = cell; written = false; length = None; inputs = inputs; outputs = outputs; place = place })) k b
    in_form context n place (statements.StaticInvoke length cell inputs outputs) k b =
        own_number context n place (record { cell = cell; written = true; length = length; inputs = inputs; outputs = outputs; place = place }) true k b

    in_parts : (context : Context) (n : Next) (block : statements.PlainBlock) (k : ℕ) → Between n (past tree part n (invokes_of block)) k → In (numbers (visit_all context (parts_of tree part n block))) k
    in_parts context n (statements.Braces list place) k b = in_all context n list k b

    pub in_block : (context : Context) (static : Bool) (n : Next) (block : statements.PlainBlock) (k : ℕ) → Between n (past tree part n (invokes_of block)) k → In (numbers (visit context (block_of tree part static n block))) k
    in_block context static n (statements.Braces list place) k b = blocked static place (all_of tree part n list) k (λ c. in_all c n list k b) context

    in_else : (context : Context) (static : Bool) (n : Next) (place : Place) (otherwise : statements.PlainElse) (k : ℕ) → Between n (past tree part n (invokes_else otherwise)) k → In (numbers (visit context (else_of tree part static n place otherwise))) k
    in_else context static n place statements.NoElse k b = nothing n k b
    in_else context static n place (statements.Else block) k b = in_block context static n block k b

    in_all : (context : Context) (n : Next) (list : statements.PlainStatements) (k : ℕ) → Between n (past tree part n (invokes_all list)) k → In (numbers (visit_all context (all_of tree part n list))) k
    in_all context n statements.NoStatements k b = nothing n k b
    in_all context n (statements.StatementThen (statements.Placed attributes form place) rest) k b =
        ⊎_elim
        (λ l. numbers_left (visit context (Placed (form_of tree part n place form) place)) (visit_all context (all_of tree part (past tree part n (invokes_in form place)) rest)) k (in_form context n place form k l))
        (λ r. numbers_right (visit context (Placed (form_of tree part n place form) place)) (visit_all context (all_of tree part (past tree part n (invokes_in form place)) rest)) k
        (in_all context (past tree part n (invokes_in form place)) rest k r))
        (halves n (invokes_in form place) (invokes_all rest) k b)

  pub invoked_all : (o : Option statements.PlainBlock) (k : ℕ) → k < length (static_invokes tree part (first tree part) (control_invokes tree part o)) → In (numbers (visit Dynamic (control_of tree part o))) k
  invoked_all None k less = absurd (omega (arith, less))
  invoked_all (Some block) k less =
      let count : 0 + length (static_invokes tree part (first tree part) (invokes_of block)) ≡ (past tree part (first tree part) (invokes_of block)).invoke = statics_counted tree part (first tree part) (invokes_of block) in
      in_block Dynamic false (first tree part) block k (omega arith, omega (arith, less, count))
