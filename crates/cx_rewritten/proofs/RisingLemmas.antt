-- In the tree of a text the places of assignments and invokes rise in the order in which they are written.
use Rattle.std.proofs.Common.{◌≡◌, ℕ, false, List, [], ◌∷◌, ◌++◌, map, flat_map, Option, Some, None, inl, inr, refl, sym, ap, ◌∙◌, subst, arith}
use Rattle.std.specs.List.{AllByRecursion}
use Rattle.std.proofs.lemmas.List.{map-append}
use Rattle.std.proofs.lemmas.Bool.Decides.{nat_tests}
use Rattle.cx_text.specs.declared.places.Place.{Place}
use Rattle.cx_text.specs.Places.{start}
use Rattle.cx_ast.specs.declared.tokens.Token.{Token}
use Rattle.cx_ast.specs.declared.components.Attribute.{Attribute}
use Rattle.cx_ast.specs.PlainStatements.{PlainForm, Else, PlainStatement, PlainBlock, statements_of, else_of}
use Rattle.cx_ast.specs.PlainStatements as plain
use Rattle.cx_ast.specs.PlainTree.{PlainTree, PlainComponent, PlainWire, PlainAssign}
use Rattle.cx_lex.specs.Lex.{Lex}
use Rattle.cx_grammar.specs.declared.terminals.Terminal.{Terminal}
use Rattle.cx_grammar.specs.declared.terminals.Terminal.TheVariants as t
use Rattle.cx_grammar.specs.Grammar.{Nest, Negation, Parens, Braces, Nested, Grammar, Empty, Pair, Choice, Spelling, Spells}
use Rattle.cx_grammar.specs.Calyx.{sign, name, number, behind, before, within, pair, mapped, many, reference, target_of, target, value, assign_of, bare_assign, attributes, assign, group_word, marks, assigns, group_of, bare_group, assign_wire, group_wire, wire, wire_list, wires_part, cells, control, nest, component_word, signature, body, component_of, component, imports, components, file, spelled_within, block, otherwise, comb, operand, marked_block, if_of, if_rest, while_of, while_rest, repeat_rest, static_if_of, static_if_rest, invoke_rest, static_seq_of, static_par_of, static_repeat_of, static_invoke_of, static_rest, static_form, optional_length, enable_of, seq_of, par_of, repeat_of, invoke_of, form_of, enable, seq, par, if_form, while_form, repeat, invoke, static_statement, form, statement_of, statement, statements}
use Rattle.cx_grammar.specs.Parsing.{Parse}
use Rattle.cx_meaning.specs.Active.{no_later}
use Rattle.cx_numbering.specs.DesignOf.{Invoke, invokes_in, invokes_else, invokes_of, invokes_all}
use Rattle.cx_names.proofs.Rising.{Before, NoLater, here, before_no_later, then_later, then_before, text_rises}
use Rattle.cx_names.proofs.Spelled.{Steps, steps_earlier, steps_join, steps_pass, steps_later, Between, Passes, Nests, Keeps, within_levels, Gives, gives_empty, gives_one, gives_pair, gives_choice, gives_several, passes}
use Rattle.cx_rewritten.specs.Ordered.{wire_places, invoke_places, places_in, Rise, IsInOrder}

-- STEPS of places
abbrev itself : Place → Place
itself p = p

-- places that stand one behind the other rise
stands_behind : (p q : Place) → Before p q → no_later q p ≡ false
stands_behind p q (inl h) = grind (arith, nat_tests)
stands_behind p q (inr h) = let same = h.0 in let less = h.1 in grind (arith, nat_tests)

all_behind : (x m : Place) (xs : List Place) (q : Place) → Before x m → Steps itself m xs q → AllByRecursion (λ y. no_later y x ≡ false) xs
all_behind x m [] q h s = tt
all_behind x m (y ∷ xs) q h s =
    let next = then_before x m y h s.0 in
    (stands_behind x y next, all_behind x s.1.0 xs q (then_before x y s.1.0 next (before_no_later y s.1.0 s.1.1)) s.1.2)

steps_rise : (p : Place) (xs : List Place) (q : Place) → Steps itself p xs q → Rise xs
steps_rise p [] q s = tt
steps_rise p (x ∷ xs) q s = (all_behind x s.1.0 xs q s.1.1 s.1.2, steps_rise s.1.0 xs q s.1.2)

-- WHAT IS ASKED of what is spelled from p on and up to q
abbrev StepsOf : {A : Type 0} → (A → List Place) → Between A
StepsOf places p x q = Steps itself p (places x) q

abbrev invoked : List Invoke → List Place
invoked ks = map (λ k. k.place) ks

abbrev of_block : PlainBlock → List Place
of_block b = invoked (invokes_of b)

-- of the parts that nest, the invokes of blocks
abbrev nested_invokes : (n : Nest) → Nested n → List Place
nested_invokes Negation g = []
nested_invokes Parens g = []
nested_invokes Braces b = of_block b

unfoldable of_parts : List PlainStatement → List Place
of_parts ss = invoked (invokes_all (statements_of ss))

module _ (spelled : (n : Nest) → Spelling (Nested n)) (deep : (n : Nest) → Keeps (spelled n) (Nests itself nested_invokes n)) where
  -- whatever is spelled leads on
  leads : {A : Type 0} (g : Grammar A) → Gives spelled g Passes
  leads g = passes spelled (λ n p ts x rest r s. let a = deep n p ts x rest r s in (a.0, steps_pass itself p (nested_invokes n x) a.0 a.1, a.2)) g

  abbrev Has : {A : Type 0} → Grammar A → (A → List Place) → Type 0
  Has {A = A} g places = Gives spelled g (StepsOf places)

  has_behind : {A : Type 0} (terminal : Terminal) (g : Grammar A) (places : A → List Place) → Has g places → Has (behind terminal g) places
  has_behind terminal g places h =
      gives_pair spelled (λ _ x. x) (sign terminal) g Passes (StepsOf places) (StepsOf places) (leads (sign terminal)) h (λ p m q x y k s. steps_earlier itself p m (places y) q k s)

  has_before : {A : Type 0} (g : Grammar A) (terminal : Terminal) (places : A → List Place) → Has g places → Has (before g terminal) places
  has_before g terminal places h =
      gives_pair spelled (λ x _. x) g (sign terminal) (StepsOf places) Passes (StepsOf places) h (leads (sign terminal)) (λ p m q x y s k. steps_later itself p (places x) m q s k)

  has_within : {A : Type 0} (from : Terminal) (g : Grammar A) (to : Terminal) (places : A → List Place) → Has g places → Has (within from g to) places
  has_within from g to places h = has_behind from (before g to) places (has_before g to places h)

  -- a value that is seen by a function, whose places are those of the value
  has_mapped : {A B : Type 0} (f : A → B) (g : Grammar A) (old : A → List Place) (new : B → List Place) → ((x : A) → old x ≡ new (f x)) → Has g old → Has (mapped f g) new
  has_mapped f g old new e h =
      gives_pair spelled (λ x _. f x) g (Empty tt) (StepsOf old) Passes (StepsOf new) h (leads (Empty tt))
      (λ p m q x y s k. subst (λ ps. Steps itself p ps q) (e x) (steps_later itself p (old x) m q s k))

  -- one after the other, of which the first or the second has the places, or both have some
  has_second : {A B C : Type 0} (join : A → B → C) (g : Grammar A) (h : Grammar B) (old : B → List Place) (new : C → List Place) → ((x : A) (y : B) → old y ≡ new (join x y)) → Has h old → Has (Pair join g h) new
  has_second join g h old new e two =
      gives_pair spelled join g h Passes (StepsOf old) (StepsOf new) (leads g) two (λ p m q x y k s. subst (λ ps. Steps itself p ps q) (e x y) (steps_earlier itself p m (old y) q k s))

  has_both : {A B C : Type 0} (join : A → B → C) (g : Grammar A) (h : Grammar B) (old : A → List Place) (other : B → List Place) (new : C → List Place)
      → ((x : A) (y : B) → old x ++ other y ≡ new (join x y)) → Has g old → Has h other → Has (Pair join g h) new
  has_both join g h old other new e one two =
      gives_pair spelled join g h (StepsOf old) (StepsOf other) (StepsOf new) one two (λ p m q x y s k. subst (λ ps. Steps itself p ps q) (e x y) (steps_join itself p (old x) m (other y) q s k))

  has_many : {A : Type 0} (g : Grammar A) (places : A → List Place) → Has g places → Has (many g) (λ xs. flat_map places xs)
  has_many g places h =
      gives_several spelled (λ xs. xs) g (StepsOf places) (StepsOf (λ xs. flat_map places xs)) (StepsOf (λ xs. flat_map places xs)) h here
      (λ p m q x xs s k. steps_join itself p (places x) m (flat_map places xs) q s k) (λ p q xs s. s)

  -- ASSIGNMENTS. What waits for its attributes has its place already
  abbrev WaitsAt : {A : Type 0} → (A → List Place) → Between (List Attribute → A)
  WaitsAt places p f q = (attrs : List Attribute) → Steps itself p (places (f attrs)) q

  has_target : Has target (λ o. o.place ∷ [])
  unfolding target
  has_target =
      gives_pair spelled target_of name reference (λ p n q. NoLater p n.1 × Before n.1 q) Passes (StepsOf (λ o. o.place ∷ []))
      (gives_one spelled (t.Name ∷ []) _ _ (λ token p q h k. (h, k))) (leads reference) (λ p m q n f h k. (h.0, (m, h.1, k)))

  bare_assigns : Gives spelled bare_assign (WaitsAt (λ a. a.place ∷ []))
  unfolding bare_assign
  bare_assigns =
      gives_pair spelled (λ o v. assign_of o v) target (behind t.Equal (before value t.Semicolon)) (StepsOf (λ o. o.place ∷ [])) Passes (WaitsAt (λ a. a.place ∷ []))
      has_target (leads (behind t.Equal (before value t.Semicolon))) (λ p m q o v s k attrs. steps_later itself p (o.place ∷ []) m q s k)

  waited : {A : Type 0} (g : Grammar (List Attribute → A)) (places : A → List Place) → Gives spelled g (WaitsAt places) → Has (Pair (λ attrs f. f attrs) attributes g) places
  waited g places h =
      gives_pair spelled (λ attrs f. f attrs) attributes g Passes (WaitsAt places) (StepsOf places) (leads attributes) h (λ p m q attrs f k s. steps_earlier itself p m (places (f attrs)) q k (s attrs))

  has_assign : Has assign (λ a. a.place ∷ [])
  unfolding assign
  has_assign = waited bare_assign (λ a. a.place ∷ []) bare_assigns

  abbrev of_assigns : List PlainAssign → List Place
  of_assigns list = flat_map (λ a. a.place ∷ []) list

  of_assigns_map : (list : List PlainAssign) → of_assigns list ≡ map (λ a. a.place) list
  of_assigns_map [] = refl
  of_assigns_map (a ∷ rest) = ap (λ ps. a.place ∷ ps) (of_assigns_map rest)

  has_assigns : Has assigns of_assigns
  unfolding assigns
  has_assigns = has_many assign (λ a. a.place ∷ []) has_assign

  bare_groups : Gives spelled bare_group (WaitsAt (λ g. of_assigns g.assigns))
  unfolding bare_group
  bare_groups =
      gives_pair spelled group_of group_word (pair name (pair marks (within t.OpenBrace assigns t.CloseBrace))) Passes (StepsOf (λ r. of_assigns r.1.1)) (WaitsAt (λ g. of_assigns g.assigns)) (leads group_word)
      (has_second (λ x y. (x, y)) name (pair marks (within t.OpenBrace assigns t.CloseBrace)) (λ r. of_assigns r.1) (λ r. of_assigns r.1.1) (λ x y. refl)
      (has_second (λ x y. (x, y)) marks (within t.OpenBrace assigns t.CloseBrace) of_assigns (λ r. of_assigns r.1) (λ x y. refl) (has_within t.OpenBrace assigns t.CloseBrace of_assigns has_assigns)))
      (λ p m q k r h s attrs. steps_earlier itself p m (of_assigns r.1.1) q h s)

  waiting : {A : Type 0} (f : (List Attribute → A) → List Attribute → PlainWire) (g : Grammar (List Attribute → A)) (places : A → List Place)
      → ((x : List Attribute → A) (attrs : List Attribute) → places (x attrs) ≡ wire_places (f x attrs)) → Gives spelled g (WaitsAt places) → Gives spelled (mapped f g) (WaitsAt wire_places)
  waiting f g places e h =
      gives_pair spelled (λ x _. f x) g (Empty tt) (WaitsAt places) Passes (WaitsAt wire_places) h (leads (Empty tt))
      (λ p m q x y s k attrs. subst (λ ps. Steps itself p ps q) (e x attrs) (steps_later itself p (places (x attrs)) m q (s attrs) k))

  has_wire : Has wire wire_places
  unfolding wire
  has_wire =
      waited (Choice (mapped assign_wire bare_assign) (mapped group_wire bare_group)) wire_places
      (gives_choice spelled (mapped assign_wire bare_assign) (mapped group_wire bare_group) (WaitsAt wire_places)
      (waiting assign_wire bare_assign (λ a. a.place ∷ []) (λ x attrs. refl) bare_assigns)
      (waiting group_wire bare_group (λ g. of_assigns g.assigns) (λ x attrs. of_assigns_map (x attrs).assigns) bare_groups))

  has_wires : Has wires_part (λ ws. flat_map wire_places ws)
  unfolding wires_part wire_list
  has_wires =
      has_behind t.Wires (within t.OpenBrace wire_list t.CloseBrace) (λ ws. flat_map wire_places ws)
      (has_within t.OpenBrace wire_list t.CloseBrace (λ ws. flat_map wire_places ws) (has_many wire wire_places has_wire))

  -- CONTROL
  abbrev of_form : PlainForm × Place → List Place
  of_form r = invoked (invokes_in r.0 r.1)

  abbrev of_else : Option PlainBlock → List Place
  of_else o = invoked (invokes_else (else_of o))

  has_block : Has block of_block
  unfolding block
  has_block = deep Braces

  has_otherwise : Has otherwise of_else
  unfolding otherwise
  has_otherwise =
      gives_choice spelled (mapped (λ x. Some x) (behind t.Else block)) (Empty None) (StepsOf of_else)
      (has_mapped (λ x. Some x) (behind t.Else block) of_block of_else (λ b. refl) (has_behind t.Else block of_block has_block))
      (gives_empty spelled None (StepsOf of_else) here)

  has_marked : Has marked_block (λ r. of_block r.1)
  unfolding marked_block
  has_marked = has_second (λ x y. (x, y)) marks block of_block (λ r. of_block r.1) (λ x y. refl) has_block

  two_blocks : (b : PlainBlock) (o : Option PlainBlock) → of_block b ++ of_else o ≡ invoked (invokes_of b ++ invokes_else (else_of o))
  two_blocks b o = sym (map-append (λ k. k.place) (invokes_of b) (invokes_else (else_of o)))

  abbrev of_two : PlainBlock × Option PlainBlock → List Place
  of_two r = invoked (invokes_of r.0 ++ invokes_else (else_of r.1))

  has_two : Has (pair block otherwise) of_two
  has_two = has_both (λ x y. (x, y)) block otherwise of_block of_else of_two two_blocks has_block has_otherwise

  -- of a form whose word stands before it, and of one that waits for its length
  abbrev Everywhere : Between PlainForm
  Everywhere p f q = (o place : Place) → NoLater o place → Before place p → Steps itself o (invoked (invokes_in f place)) q

  from_word : (p o place : Place) (xs : List Place) (q : Place) → NoLater o place → Before place p → Steps itself p xs q → Steps itself o xs q
  from_word p o place xs q i b s = steps_earlier itself o p xs q (then_later o place p i (before_no_later place p b)) s

  abbrev EveryLength : Between (Option ℕ → PlainForm)
  EveryLength p f q = (length : Option ℕ) → Everywhere p (f length) q

  has_if : Gives spelled if_rest Everywhere
  unfolding if_rest
  has_if =
      gives_pair spelled if_of operand (pair comb (pair block otherwise)) Passes (StepsOf (λ r. of_two r.1)) Everywhere (leads operand)
      (has_second (λ x y. (x, y)) comb (pair block otherwise) of_two (λ r. of_two r.1) (λ x y. refl) has_two) (λ p m q test r h s o place i b. from_word p o place (of_two r.1) q i b (steps_earlier itself p m (of_two r.1) q h s))

  has_while : Gives spelled while_rest Everywhere
  unfolding while_rest
  has_while =
      gives_pair spelled while_of operand (pair comb block) Passes (StepsOf (λ r. of_block r.1)) Everywhere (leads operand)
      (has_second (λ x y. (x, y)) comb block of_block (λ r. of_block r.1) (λ x y. refl) has_block) (λ p m q test r h s o place i b. from_word p o place (of_block r.1) q i b (steps_earlier itself p m (of_block r.1) q h s))

  has_repeat_rest : Has repeat_rest (λ r. of_block r.1)
  unfolding repeat_rest
  has_repeat_rest = has_second (λ x y. (x, y)) number block of_block (λ r. of_block r.1) (λ x y. refl) has_block

  lengths_behind : (terminal : Terminal) (g : Grammar (Option ℕ → PlainForm)) → Gives spelled g EveryLength → Gives spelled (behind terminal g) EveryLength
  lengths_behind terminal g h =
      gives_pair spelled (λ _ x. x) (sign terminal) g Passes EveryLength EveryLength (leads (sign terminal)) h
      (λ p m q x f k s length o place i b. s length o place i (then_before place p m b k))

  lengths_mapped : {A : Type 0} (f : A → Option ℕ → PlainForm) (g : Grammar A) (places : A → List Place) → ((x : A) (length : Option ℕ) (place : Place) → places x ≡ invoked (invokes_in (f x length) place))
      → Has g places → Gives spelled (mapped f g) EveryLength
  lengths_mapped f g places e h =
      gives_pair spelled (λ x _. f x) g (Empty tt) (StepsOf places) Passes EveryLength h (leads (Empty tt))
      (λ p m q x y s k length o place i b. subst (λ ps. Steps itself o ps q) (e x length place) (from_word p o place (places x) q i b (steps_later itself p (places x) m q s k)))

  has_static_if : Gives spelled static_if_rest EveryLength
  unfolding static_if_rest
  has_static_if =
      gives_pair spelled static_if_of operand (pair block otherwise) Passes (StepsOf of_two) EveryLength (leads operand) has_two (λ p m q test r h s length o place i b. from_word p o place (of_two r) q i b (steps_earlier itself p m (of_two r) q h s))

  has_static_rest : Gives spelled static_rest EveryLength
  unfolding static_rest
  has_static_rest =
      let called : Grammar (Option ℕ → PlainForm) = behind t.Invoke (mapped static_invoke_of invoke_rest) in
      let repeated : Grammar (Option ℕ → PlainForm) = behind t.Repeat (mapped static_repeat_of repeat_rest) in
      let branched : Grammar (Option ℕ → PlainForm) = behind t.If static_if_rest in
      let beside : Grammar (Option ℕ → PlainForm) = behind t.Par (mapped static_par_of marked_block) in
      gives_choice spelled (behind t.Seq (mapped static_seq_of marked_block)) (Choice beside (Choice branched (Choice repeated called))) EveryLength
      (lengths_behind t.Seq (mapped static_seq_of marked_block) (lengths_mapped static_seq_of marked_block (λ r. of_block r.1) (λ x length place. refl) has_marked))
      (gives_choice spelled beside (Choice branched (Choice repeated called)) EveryLength
      (lengths_behind t.Par (mapped static_par_of marked_block) (lengths_mapped static_par_of marked_block (λ r. of_block r.1) (λ x length place. refl) has_marked))
      (gives_choice spelled branched (Choice repeated called) EveryLength (lengths_behind t.If static_if_rest has_static_if)
      (gives_choice spelled repeated called EveryLength
      (lengths_behind t.Repeat (mapped static_repeat_of repeat_rest) (lengths_mapped static_repeat_of repeat_rest (λ r. of_block r.1) (λ x length place. refl) has_repeat_rest))
      (lengths_behind t.Invoke (mapped static_invoke_of invoke_rest)
      (gives_pair spelled (λ x _. static_invoke_of x) invoke_rest (Empty tt) Passes Passes EveryLength (leads invoke_rest) (leads (Empty tt)) (λ p m q x y h k length o place i b. (i, (p, b, then_later p m q h k))))))))

  has_static : Gives spelled static_form Everywhere
  unfolding static_form
  has_static =
      gives_pair spelled (λ l f. f l) optional_length static_rest Passes EveryLength Everywhere (leads optional_length) has_static_rest
      (λ p m q l f h s o place i b. s l o place i (then_before place p m b h))

  behind_word : (terminal : Terminal) (g : Grammar PlainForm) → Gives spelled g Everywhere → Has (Pair form_of (sign terminal) g) of_form
  behind_word terminal g h =
      gives_pair spelled form_of (sign terminal) g (λ p x q. NoLater p x × Before x q) Everywhere (StepsOf of_form)
      (gives_one spelled (terminal ∷ []) (λ token. token.place) _ (λ token p q h k. (h, k))) h (λ p m q x f k s. s p x k.0 k.1)

  has_enable : Has enable of_form
  unfolding enable
  has_enable = gives_pair spelled enable_of name (before marks t.Semicolon) Passes Passes (StepsOf of_form) (leads name) (leads (before marks t.Semicolon)) (λ p m q x y h k. then_later p m q h k)

  has_invoke : Has invoke of_form
  unfolding invoke
  has_invoke =
      gives_pair spelled invoke_of (sign t.Invoke) invoke_rest (λ p x q. NoLater p x × Before x q) Passes (StepsOf of_form)
      (gives_one spelled (t.Invoke ∷ []) (λ token. token.place) _ (λ token p q h k. (h, k))) (leads invoke_rest) (λ p m q x r h k. (h.0, (m, h.1, k)))

  has_form : Has form of_form
  unfolding form seq par if_form while_form repeat static_statement
  has_form =
      let last : Grammar (PlainForm × Place) = Choice invoke static_statement in
      let loops : Grammar (PlainForm × Place) = Choice while_form (Choice repeat last) in
      gives_choice spelled enable (Choice seq (Choice par (Choice if_form loops))) (StepsOf of_form) has_enable
      (gives_choice spelled seq (Choice par (Choice if_form loops)) (StepsOf of_form) (has_second seq_of (sign t.Seq) marked_block (λ r. of_block r.1) of_form (λ p r. refl) has_marked)
      (gives_choice spelled par (Choice if_form loops) (StepsOf of_form) (has_second par_of (sign t.Par) marked_block (λ r. of_block r.1) of_form (λ p r. refl) has_marked)
      (gives_choice spelled if_form loops (StepsOf of_form) (behind_word t.If if_rest has_if)
      (gives_choice spelled while_form (Choice repeat last) (StepsOf of_form) (behind_word t.While while_rest has_while)
      (gives_choice spelled repeat last (StepsOf of_form) (has_second repeat_of (sign t.Repeat) repeat_rest (λ r. of_block r.1) of_form (λ p r. refl) has_repeat_rest)
      (gives_choice spelled invoke static_statement (StepsOf of_form) has_invoke (behind_word t.Static static_form has_static)))))))

  unfoldable of_statement : PlainStatement → List Place
  of_statement (plain.Placed attrs f place) = invoked (invokes_in f place)

  of_statements_flat : (ss : List PlainStatement) → flat_map of_statement ss ≡ of_parts ss
  unfolding of_parts of_statement
  of_statements_flat [] = refl
  of_statements_flat (plain.Placed attrs f place ∷ ss) =
      ap (λ ps. invoked (invokes_in f place) ++ ps) (of_statements_flat ss) ∙ sym (map-append (λ k. k.place) (invokes_in f place) (invokes_all (statements_of ss)))

  has_statement : Has statement of_statement
  unfolding statement of_statement
  has_statement = has_second statement_of attributes form of_form of_statement (λ attrs f. refl) has_form

  has_statements : Has statements of_parts
  unfolding statements
  has_statements =
      gives_several spelled (λ xs. xs) statement (StepsOf of_statement) (StepsOf (λ ss. flat_map of_statement ss)) (StepsOf of_parts) has_statement here
      (λ p m q x xs s k. steps_join itself p (of_statement x) m (flat_map of_statement xs) q s k) (λ p q ss s. subst (λ ps. Steps itself p ps q) (of_statements_flat ss) s)

  -- the parts that nest, one level deeper
  nested : (n : Nest) → Keeps (Spells spelled (nest n)) (Nests itself nested_invokes n)
  unfolding nest of_parts
  nested Negation = leads (nest Negation)
  nested Parens = leads (nest Parens)
  nested Braces =
      has_second (λ place ss. plain.Braces (statements_of ss) place) (sign t.OpenBrace) (before statements t.CloseBrace) of_parts of_block (λ place ss. refl)
      (has_before statements t.CloseBrace of_parts has_statements)

  -- COMPONENTS
  has_control : Has control invoke_places
  unfolding control
  has_control =
      gives_choice spelled (mapped (λ x. Some x) (behind t.Control block)) (Empty None) (StepsOf invoke_places)
      (has_mapped (λ x. Some x) (behind t.Control block) of_block invoke_places (λ b. refl) (has_behind t.Control block of_block has_block))
      (gives_empty spelled None (StepsOf invoke_places) here)

  abbrev of_wires : List PlainWire × Option PlainBlock → List Place
  of_wires r = flat_map wire_places r.0 ++ invoke_places r.1

  has_body : Has body (λ b. of_wires b.1)
  unfolding body
  has_body =
      has_behind t.OpenBrace (pair cells (pair wires_part (before control t.CloseBrace))) (λ b. of_wires b.1)
      (has_second (λ x y. (x, y)) cells (pair wires_part (before control t.CloseBrace)) of_wires (λ b. of_wires b.1) (λ x y. refl)
      (has_both (λ x y. (x, y)) wires_part (before control t.CloseBrace) (λ ws. flat_map wire_places ws) invoke_places of_wires (λ x y. refl) has_wires
      (has_before control t.CloseBrace invoke_places has_control)))

  abbrev Ordered : PlainComponent → Type 0
  Ordered part = Rise (places_in part)

  has_component : Gives spelled component (λ p part q. Ordered part)
  unfolding component
  has_component =
      gives_pair spelled component_of attributes (pair component_word (pair signature body)) Passes (StepsOf (λ r. of_wires r.1.1.1)) (λ p part q. Ordered part) (leads attributes)
      (has_second (λ x y. (x, y)) component_word (pair signature body) (λ r. of_wires r.1.1) (λ r. of_wires r.1.1.1) (λ x y. refl)
      (has_second (λ x y. (x, y)) signature body (λ b. of_wires b.1) (λ r. of_wires r.1.1) (λ x y. refl) has_body))
      (λ p m q attrs r h s. steps_rise m (of_wires r.1.1.1) q s)

  all_components : Gives spelled components (λ p parts q. AllByRecursion Ordered parts)
  unfolding components
  all_components =
      gives_several spelled (λ xs. xs) component (λ p part q. Ordered part) (λ p parts q. AllByRecursion Ordered parts) (λ p parts q. AllByRecursion Ordered parts) has_component
      (λ p. tt) (λ p m q x xs h k. (h, k)) (λ p q xs h. h)

  has_file : Gives spelled file (λ p tree q. IsInOrder tree)
  unfolding file
  has_file =
      gives_pair spelled (λ is r. record { imports = is; components = r }) imports (Pair (λ c cs. c ∷ cs) component components) Passes (λ p parts q. AllByRecursion Ordered parts) (λ p tree q. IsInOrder tree) (leads imports)
      (gives_pair spelled (λ c cs. c ∷ cs) component components (λ p part q. Ordered part) (λ p parts q. AllByRecursion Ordered parts) (λ p parts q. AllByRecursion Ordered parts) has_component all_components (λ p m q c cs h k. (h, k)))
      (λ p m q is parts h k. k)

-- the tree of a text is in order
pub text_in_order : (text : List ℕ) (tokens : List Token) (tree : PlainTree) → Lex text tokens → Parse tokens tree → IsInOrder tree
unfolding Parse
text_in_order text tokens tree lexed parsed = (has_file (spelled_within 64) (within_levels (Nests itself nested_invokes) nested 64) start tokens tree [] (text_rises lexed) parsed).1
