-- The control of a component's text keeps what a design keeps.
use Rattle.std.proofs.Common.{◌≡◌, ℕ, zero, suc, ◌+◌, ◌-◌, ◌<◌, ◌≤◌, Bool, true, false, List, [], ◌∷◌, ◌++◌, Option, Some, None, length, map, option_map, slice_get, ◌⊎◌, inl, inr, ⊎_elim, refl, sym, ap, ◌∙◌, subst, arith}
use Rattle.std.proofs.lemmas.List.{length-map, length-append}
use Rattle.std.proofs.lemmas.Option.{get_or_from_slice_get, slice_get-map, slice_get_within}
use Rattle.cx_text.proofs.MemberLaws.{in_either, in_left, in_right}
use Rattle.cx_text.specs.declared.places.Place.{Place}
use Rattle.cx_ast.specs.declared.operands.OperandItem.{OperandItem}
use Rattle.cx_ast.specs.declared.wiring.GroupWord.{GroupWord}
use Rattle.cx_ast.specs.declared.wiring.GroupWord.TheVariants as words
use Rattle.cx_ast.specs.PlainTree as ast
use Rattle.cx_ast.specs.PlainTree.{PlainTree}
use Rattle.cx_ast.specs.PlainStatements as statements
use Rattle.cx_meaning.specs.declared.ports.PlacedPort.{PlacedPort}
use Rattle.cx_meaning.specs.Designs.{PlainGroup, PlainForm, PlainStatements, Placed, no_statements, a_statement, group_at, no_group}
use Rattle.cx_meaning.specs.Designs as plain
use Rattle.cx_meaning.specs.declared.kinds.GroupKind.TheVariants as kinds
use Rattle.cx_text.specs.Members.{In}
use Rattle.cx_rules.specs.Items.{Context, InStatic, Branch, below_dynamic, test_in, is_comb}
use Rattle.cx_rules.specs.Items as items
use Rattle.cx_rules.specs.Ports.{component_of as instance_of}
use Rattle.cx_rules.specs.Wellformed.{IsForm, IsEnable, IsWith, IsStatement}
use Rattle.cx_numbering.specs.Names.{is_among, groups_in, group_names, group_among}
use Rattle.cx_numbering.specs.DesignOf.{Invoke, Next, first, past, is_static_invoke, invoke_form, seq_form, plain_invoke_of, placed_of, kind_of, group_of, invoke_group, invoke_groups, invokes_in, invokes_of, invokes_else, invokes_all, group_number, comb_number, of_block, form_of, else_of, block_of, parts_of, all_of, control_invokes, component_of, design_of}
use Rattle.cx_numbering.specs.NameRules.{Visited, visit_parts, visit_else, visit_block, visit_all, source_breaks, enable_breaks, with_breaks, form_breaks, is_comb_word, is_comb_group}
use Rattle.cx_names_scopes.specs.Scopes.{at_number}
use Rattle.cx_names_scopes.proofs.NameLemmas.{number_within}
use Rattle.cx_names_scopes.proofs.NameLemmas as lookup
use Rattle.cx_names.proofs.Base.{append_none, tell_none, some_at, front_at, back_at}
use Rattle.cx_names.proofs.NumberLemmas.{there, or_0}
use Rattle.cx_names.proofs.There.{IsSource, source_there, part_is}
use Rattle.cx_names.proofs.Splits.{Split, split_left, split_right, all_groups, GroupAt, called_at, static_at}
use Rattle.cx_text.proofs.BoolLaws.{not_not}

module _ (tree : PlainTree) (part : ast.PlainComponent) where
  comb_kind : (w : GroupWord) → is_comb (kind_of tree part w) ≡ is_comb_word tree part w
  comb_kind words.Plain = refl
  comb_kind words.Comb = refl
  comb_kind (words.Timed n) = refl

  source_group : (n : ℕ) (g : ast.PlainGroup) → slice_get (groups_in part.wires) n ≡ Some g → group_at (component_of tree part) n ≡ group_of tree part g
  source_group n g h =
      get_or_from_slice_get (component_of tree part).groups n (group_of tree part g) no_group
      (front_at (map (group_of tree part) (groups_in part.wires)) (invoke_groups tree part (first tree part) (control_invokes tree part part.control)) n (group_of tree part g)
      (slice_get-map (group_of tree part) (groups_in part.wires) n ∙ ap (λ o. option_map (group_of tree part) o) h))

  -- the group of a name
  pub record Grouped (name : List ℕ) : Type 0 where
    pub within : group_number tree part name < length (component_of tree part).groups
    pub comb : is_comb (group_at (component_of tree part) (group_number tree part name)).kind ≡ is_comb_group tree part (group_among name (groups_in part.wires))

  grouped : (name : List ℕ) → is_among name (group_names part) ≡ true → Grouped name
  grouped name h =
      let found = there name (group_names part) h in
      let names : length (group_names part) ≡ length (groups_in part.wires) = length-map (groups_in part.wires) (λ g. g.name) in
      let few = number_within name (group_names part) found.0 found.1 in
      let group = some_at (groups_in part.wires) found.0 (omega (arith, names, few)) in
      let is : group_number tree part name ≡ found.0 = or_0 name (group_names part) found.0 found.1 in
      let among : group_among name (groups_in part.wires) ≡ Some group.0 = lookup.group_at name (groups_in part.wires) ∙ ap (λ o. at_number o (groups_in part.wires)) found.1 ∙ group.1 in
      let all : length (component_of tree part).groups ≡ length (map (group_of tree part) (groups_in part.wires)) + length (invoke_groups tree part (first tree part) (control_invokes tree part part.control)) = length-append (map (group_of tree part) (groups_in part.wires)) (invoke_groups tree part (first tree part) (control_invokes tree part part.control)) in
      let own : length (map (group_of tree part) (groups_in part.wires)) ≡ length (groups_in part.wires) = length-map (groups_in part.wires) (group_of tree part) in
      record {
        within = omega (arith, few, names, is, all, own);
        comb = ap (λ n. is_comb (group_at (component_of tree part) n).kind) is ∙ ap (λ g. is_comb g.kind) (source_group found.0 group.0 group.1) ∙ comb_kind group.0.kind ∙ ap (is_comb_group tree part) (sym among);
      }

  enable_kept : (name : List ℕ) (place : Place) → enable_breaks tree part name place ≡ [] → IsEnable (component_of tree part) (group_number tree part name)
  enable_kept name place h =
      let parts = append_none _ _ h in
      let g = grouped name (not_not _ (tell_none _ _ _ _ parts.0)) in
      (g.within, g.comb ∙ tell_none _ _ _ _ parts.1)

  with_kept : (comb : Option (List ℕ)) (place : Place) → with_breaks tree part comb place ≡ [] → IsWith (component_of tree part) (comb_number tree part comb)
  with_kept None place h = tt
  with_kept (Some name) place h =
      let parts = append_none _ _ h in
      let g = grouped name (not_not _ (tell_none _ _ _ _ parts.0)) in
      (g.within, g.comb ∙ not_not _ (tell_none _ _ _ _ parts.1))

  -- a group that stands among those of invokes
  pub group_stands : (n : Next) (group : PlainGroup) → GroupAt tree part n group → (n.group < length (component_of tree part).groups) × (group_at (component_of tree part) n.group ≡ group)
  group_stands n group found =
      let own = map (group_of tree part) (groups_in part.wires) in
      let names : length (group_names part) ≡ length (groups_in part.wires) = length-map (groups_in part.wires) (λ g. g.name) in
      let count : length own ≡ length (groups_in part.wires) = length-map (groups_in part.wires) (group_of tree part) in
      let at = found.number in
      let number : length own + found.place ≡ n.group = omega (arith, names, count, at) in
      let stands = back_at own (all_groups tree part) found.place group found.stands in (
        subst (λ i. i < length (component_of tree part).groups) number (slice_get_within (component_of tree part).groups (length own + found.place) group stands),
        ap (group_at (component_of tree part)) (sym number) ∙ get_or_from_slice_get (component_of tree part).groups (length own + found.place) group no_group stands,
      )

  -- the group of a call
  invoke_enable : (n : Next) (k : Invoke) → Split tree part n (k ∷ []) → is_static_invoke tree part k ≡ false → IsEnable (component_of tree part) n.group
  invoke_enable n k split e = let found = group_stands n (invoke_group tree part n.group k) (called_at tree part n k split e) in (found.0, ap (λ g. is_comb g.kind) found.1)

  -- the number of a static invoke
  static_number : (n : Next) (k : Invoke) → Split tree part n (k ∷ []) → is_static_invoke tree part k ≡ true → n.invoke < length (component_of tree part).invokes
  static_number n k split e = slice_get_within (component_of tree part).invokes n.invoke (plain_invoke_of tree part n k) (static_at tree part n k split e)

  invoke_formed : (n : Next) (k : Invoke) (b : Bool) → Split tree part n (k ∷ []) → is_static_invoke tree part k ≡ b → IsForm (component_of tree part) (invoke_form tree part b n)
  invoke_formed n k true split e = static_number n k split e
  invoke_formed n k false split e = invoke_enable n k split e

  no_test : (b : Bool) (n : Next) → test_in (invoke_form tree part b n) ≡ None
  no_test true n = refl
  no_test false n = refl

module _ (tree : PlainTree) (k : ℕ) (part : ast.PlainComponent) (at : slice_get tree.components k ≡ Some part) where
  stands : (v : items.Visited) → IsForm (component_of tree part) v.form → ((p : PlacedPort) → test_in v.form ≡ Some p → IsSource tree k part at p.port) → IsStatement (instance_of (design_of tree) k) v
  stands v form source = record {
    form = subst (λ q. IsForm q v.form) (sym (part_is tree k part at)) form;
    test = λ p e. (source p e).there;
    no_hole = λ p e. (source p e).no_hole;
  }

  untested : (p : PlacedPort) → None ≡ Some p → IsSource tree k part at p.port
  untested p e = absurd cc

  tested : (o : OperandItem) → source_breaks tree part o ≡ [] → (p : PlacedPort) → Some (placed_of tree part o) ≡ Some p → IsSource tree k part at p.port
  tested o h p e = let same : placed_of tree part o ≡ p = cc in subst (λ q. IsSource tree k part at q.port) same (source_there tree k part at o h)

  -- a statement without its parts
  head : (context : Context) (n : Next) (place : Place) (form : statements.PlainForm) → form_breaks tree part form place ≡ [] → Split tree part n (invokes_in form place)
      → IsStatement (instance_of (design_of tree) k) (record { context = context; form = form_of tree part n place form; place = place })
  head context n place (statements.Enable group marks) h split = stands _ (enable_kept tree part group place h) untested
  head context n place (statements.Seq marks block) h split = stands _ tt untested
  head context n place (statements.Par marks block) h split = stands _ tt untested
  head context n place (statements.StaticSeq length marks block) h split = stands _ tt untested
  head context n place (statements.StaticPar length marks block) h split = stands _ tt untested
  head context n place (statements.If test comb block otherwise) h split =
      let parts = append_none (with_breaks tree part comb place) (source_breaks tree part test) h in stands _ (with_kept tree part comb place parts.0) (tested test parts.1)
  head context n place (statements.StaticIf length test block otherwise) h split = stands _ tt (tested test h)
  head context n place (statements.While test comb body) h split =
      let parts = append_none (with_breaks tree part comb place) (source_breaks tree part test) h in stands _ (with_kept tree part comb place parts.0) (tested test parts.1)
  head context n place (statements.Repeat count body) h split = stands _ tt untested
  head context n place (statements.StaticRepeat length count body) h split = stands _ tt untested
  head context n place (statements.Invoke cell inputs outputs) h split =
      let v : Invoke = record { cell = cell; written = false; length = None; inputs = inputs; outputs = outputs; place = place } in
      stands _ (invoke_formed tree part n v (is_static_invoke tree part v) split refl) (λ p e. untested p (sym (no_test tree part (is_static_invoke tree part v) n) ∙ e))
  head context n place (statements.StaticInvoke length cell inputs outputs) h split =
      stands _ (static_number tree part n (record { cell = cell; written = true; length = length; inputs = inputs; outputs = outputs; place = place }) split refl) untested

abbrev AllKept : PlainTree → ast.PlainComponent → List Visited → Type 0
AllKept tree part vs = (v : Visited) → In vs v → form_breaks tree part v.form v.place ≡ []

-- WHAT HOLDS OF EACH STATEMENT of a text that keeps the rules on names, and of what a block makes of several or of none, holds of each
-- statement of the design's control
pub record HoldsEach (tree : PlainTree) (part : ast.PlainComponent) (Holds : items.Visited → Type 0) : Type 0 where
  pub written : (context : Context) (n : Next) (place : Place) (form : statements.PlainForm) → form_breaks tree part form place ≡ [] → Split tree part n (invokes_in form place)
      → Holds (record { context = context; form = form_of tree part n place form; place = place })
  pub none : (context : Context) (place : Place) → Holds (record { context = context; form = plain.Empty; place = place })
  pub several : (context : Context) (static : Bool) (place : Place) (parts : PlainStatements) → Holds (record { context = context; form = seq_form tree part static parts; place = place })

module _ (tree : PlainTree) (part : ast.PlainComponent) (Holds : items.Visited → Type 0) (each : HoldsEach tree part Holds) where
  empty : (context : Context) (place : Place) (v : items.Visited) → In (items.visit context (Placed plain.Empty place)) v → Holds v
  empty context place v (inl e) = subst Holds e (each.none context place)
  empty context place v (inr i) = absurd i

  -- a block as one statement
  whole : (static : Bool) (place : Place) (ss : PlainStatements) → ((context : Context) (v : items.Visited) → In (items.visit_all context ss) v → Holds v)
      → (context : Context) (v : items.Visited) → In (items.visit context (of_block tree part static place ss)) v → Holds v
  whole static place no_statements h context v i = empty context place v i
  whole static place (a_statement s no_statements) h context v i = h context v (in_left (items.visit context s) [] v i)
  whole true place (a_statement s (a_statement t rest)) h context v (inl e) = subst Holds e (each.several context true place (a_statement s (a_statement t rest)))
  whole true place (a_statement s (a_statement t rest)) h context v (inr i) = h InStatic v i
  whole false place (a_statement s (a_statement t rest)) h context v (inl e) = subst Holds e (each.several context false place (a_statement s (a_statement t rest)))
  whole false place (a_statement s (a_statement t rest)) h context v (inr i) = h (below_dynamic context) v i

  -- an invoke has no parts
  nothing_inside : (context : Context) (static : Bool) (n : Next) (v : items.Visited) → In (items.visit_parts context (invoke_form tree part static n)) v → Holds v
  nothing_inside context true n v i = absurd i
  nothing_inside context false n v i = absurd i

  mutual
    form_parts : (context : Context) (n : Next) (place : Place) (form : statements.PlainForm) → AllKept tree part (visit_parts form) → Split tree part n (invokes_in form place) → (v : items.Visited) → In (items.visit_parts context (form_of tree part n place form)) v → Holds v
    form_parts context n place (statements.Enable group marks) kept split v i = absurd i
    form_parts context n place (statements.Seq marks block) kept split v i = block_parts (below_dynamic context) n block kept split v i
    form_parts context n place (statements.Par marks block) kept split v i = block_parts (below_dynamic context) n block kept split v i
    form_parts context n place (statements.StaticSeq length marks block) kept split v i = block_parts InStatic n block kept split v i
    form_parts context n place (statements.StaticPar length marks block) kept split v i = block_parts InStatic n block kept split v i
    form_parts context n place (statements.If test comb block otherwise) kept split v i =
        ⊎_elim
        (λ l. block_whole (below_dynamic context) false n block (λ w j. kept w (in_left (visit_block block) (visit_else otherwise) w j)) (split_left tree part n (invokes_of block) (invokes_else otherwise) split) v l)
        (λ r. else_whole (below_dynamic context) false (past tree part n (invokes_of block)) place otherwise (λ w j. kept w (in_right (visit_block block) (visit_else otherwise) w j)) (split_right tree part n (invokes_of block) (invokes_else otherwise) split) v r)
        (in_either (items.visit (below_dynamic context) (block_of tree part false n block)) (items.visit (below_dynamic context) (else_of tree part false (past tree part n (invokes_of block)) place otherwise)) v i)
    form_parts context n place (statements.StaticIf written test block otherwise) kept split v i =
        ⊎_elim
        (λ l. block_whole Branch true n block (λ w j. kept w (in_left (visit_block block) (visit_else otherwise) w j)) (split_left tree part n (invokes_of block) (invokes_else otherwise) split) v l)
        (λ r. else_whole Branch true (past tree part n (invokes_of block)) place otherwise (λ w j. kept w (in_right (visit_block block) (visit_else otherwise) w j)) (split_right tree part n (invokes_of block) (invokes_else otherwise) split) v r)
        (in_either (items.visit Branch (block_of tree part true n block)) (items.visit Branch (else_of tree part true (past tree part n (invokes_of block)) place otherwise)) v i)
    form_parts context n place (statements.While test comb body) kept split v i = block_whole (below_dynamic context) false n body kept split v i
    form_parts context n place (statements.Repeat count body) kept split v i = block_whole (below_dynamic context) false n body kept split v i
    form_parts context n place (statements.StaticRepeat length count body) kept split v i = block_whole InStatic true n body kept split v i
    form_parts context n place (statements.Invoke cell inputs outputs) kept split v i =
        nothing_inside context (is_static_invoke tree part (record { cell = cell; written = false; length = None; inputs = inputs; outputs = outputs; place = place })) n v i
    form_parts context n place (statements.StaticInvoke length cell inputs outputs) kept split v i = absurd i

    block_parts : (context : Context) (n : Next) (block : statements.PlainBlock) → AllKept tree part (visit_block block) → Split tree part n (invokes_of block) → (v : items.Visited) → In (items.visit_all context (parts_of tree part n block)) v → Holds v
    block_parts context n (statements.Braces list place) kept split v i = all_parts context n list kept split v i

    pub block_whole : (context : Context) (static : Bool) (n : Next) (block : statements.PlainBlock) → AllKept tree part (visit_block block) → Split tree part n (invokes_of block) → (v : items.Visited) → In (items.visit context (block_of tree part static n block)) v → Holds v
    block_whole context static n (statements.Braces list place) kept split v i = whole static place (all_of tree part n list) (λ c w j. all_parts c n list kept split w j) context v i

    else_whole : (context : Context) (static : Bool) (n : Next) (place : Place) (otherwise : statements.PlainElse) → AllKept tree part (visit_else otherwise) → Split tree part n (invokes_else otherwise) → (v : items.Visited)
        → In (items.visit context (else_of tree part static n place otherwise)) v → Holds v
    else_whole context static n place statements.NoElse kept split v i = empty context place v i
    else_whole context static n place (statements.Else block) kept split v i = block_whole context static n block kept split v i

    all_parts : (context : Context) (n : Next) (list : statements.PlainStatements) → AllKept tree part (visit_all list) → Split tree part n (invokes_all list) → (v : items.Visited) → In (items.visit_all context (all_of tree part n list)) v → Holds v
    all_parts context n statements.NoStatements kept split v i = absurd i
    all_parts context n (statements.StatementThen (statements.Placed attributes form place) rest) kept split v i =
        ⊎_elim
        (λ l. ⊎_elim
        (λ e. subst Holds e (each.written context n place form (kept (record { form = form; place = place }) (inl refl)) (split_left tree part n (invokes_in form place) (invokes_all rest) split)))
        (λ j. form_parts context n place form (λ w m. kept w (in_left (record { form = form; place = place } ∷ visit_parts form) (visit_all rest) w (inr m))) (split_left tree part n (invokes_in form place) (invokes_all rest) split) v j)
        l)
        (λ r. all_parts context (past tree part n (invokes_in form place)) rest (λ w j. kept w (in_right (record { form = form; place = place } ∷ visit_parts form) (visit_all rest) w j)) (split_right tree part n (invokes_in form place) (invokes_all rest) split) v r)
        (in_either (items.visit context (Placed (form_of tree part n place form) place)) (items.visit_all context (all_of tree part (past tree part n (invokes_in form place)) rest)) v i)

-- each statement of control is one of a design
pub statement_kept : (tree : PlainTree) (k : ℕ) (part : ast.PlainComponent) → slice_get tree.components k ≡ Some part → HoldsEach tree part (IsStatement (instance_of (design_of tree) k))
statement_kept tree k part at = record {
  written = λ context n place form kept split. head tree k part at context n place form kept split;
  none = λ context place. stands tree k part at _ tt (untested tree k part at);
  several = λ context static place parts. stands tree k part at _ (formed static parts) (λ p e. untested tree k part at p (sym (no_condition static parts) ∙ e));
}
  where
    formed : (static : Bool) (parts : PlainStatements) → IsForm (component_of tree part) (seq_form tree part static parts)
    formed true parts = tt
    formed false parts = tt

    no_condition : (static : Bool) (parts : PlainStatements) → test_in (seq_form tree part static parts) ≡ None
    no_condition true parts = refl
    no_condition false parts = refl

-- a statement enables a group that is written, or the group of a call
abbrev pub EnablesCalls : PlainTree → ast.PlainComponent → items.Visited → Type 0
EnablesCalls tree part v = (g : ℕ) → v.form ≡ plain.Enable g → (g < length (group_names part)) ⊎ ((group_at (component_of tree part) g).kind ≡ kinds.Plain)

pub enables_calls : (tree : PlainTree) (part : ast.PlainComponent) → HoldsEach tree part (EnablesCalls tree part)
enables_calls tree part = record {
  written = written;
  none = λ context place g e. absurd cc;
  several = λ context static place parts g e. no_group static parts g e;
}
  where
    no_group : {A : Type 0} (static : Bool) (parts : PlainStatements) (g : ℕ) → seq_form tree part static parts ≡ plain.Enable g → A
    no_group true parts g e = absurd cc
    no_group false parts g e = absurd cc

    of_invoke : (n : Next) (k : Invoke) (b : Bool) → Split tree part n (k ∷ []) → is_static_invoke tree part k ≡ b → (g : ℕ) → invoke_form tree part b n ≡ plain.Enable g
        → (g < length (group_names part)) ⊎ ((group_at (component_of tree part) g).kind ≡ kinds.Plain)
    of_invoke n k true split is g e = absurd cc
    of_invoke n k false split is g e =
        (let same : n.group ≡ g = cc in
        let found = group_stands tree part n (invoke_group tree part n.group k) (called_at tree part n k split is) in
        inr (ap (λ i. (group_at (component_of tree part) i).kind) (sym same) ∙ ap (λ (x : PlainGroup). x.kind) found.1))

    written : (context : Context) (n : Next) (place : Place) (form : statements.PlainForm) → form_breaks tree part form place ≡ [] → Split tree part n (invokes_in form place)
        → EnablesCalls tree part (record { context = context; form = form_of tree part n place form; place = place })
    written context n place (statements.Enable group marks) h split g e =
        (let same : group_number tree part group ≡ g = cc in
        let found = there group (group_names part) (not_not _ (tell_none _ _ _ _ (append_none _ _ h).0)) in
        let few = number_within group (group_names part) found.0 found.1 in
        let is = or_0 group (group_names part) found.0 found.1 in
        inl (omega (arith, same, few, is)))
    written context n place (statements.Seq marks block) h split g e = absurd cc
    written context n place (statements.Par marks block) h split g e = absurd cc
    written context n place (statements.StaticSeq length marks block) h split g e = absurd cc
    written context n place (statements.StaticPar length marks block) h split g e = absurd cc
    written context n place (statements.If test comb block otherwise) h split g e = absurd cc
    written context n place (statements.StaticIf length test block otherwise) h split g e = absurd cc
    written context n place (statements.While test comb body) h split g e = absurd cc
    written context n place (statements.Repeat count body) h split g e = absurd cc
    written context n place (statements.StaticRepeat length count body) h split g e = absurd cc
    written context n place (statements.Invoke cell inputs outputs) h split g e =
        of_invoke n (record { cell = cell; written = false; length = None; inputs = inputs; outputs = outputs; place = place }) (is_static_invoke tree part (record { cell = cell; written = false; length = None; inputs = inputs; outputs = outputs; place = place })) split refl g e
    written context n place (statements.StaticInvoke length cell inputs outputs) h split g e = absurd cc

-- each invoke of control is among its statements
abbrev pub invoking : Bool → Invoke → statements.PlainForm
invoking true v = statements.StaticInvoke v.length v.cell v.inputs v.outputs
invoking false v = statements.Invoke v.cell v.inputs v.outputs

abbrev pub visited_of : Invoke → Visited
visited_of v = record { form = invoking v.written v; place = v.place }

-- a static invoke breaks what an invoke breaks
pub same_breaks : (tree : PlainTree) (part : ast.PlainComponent) (v : Invoke) (b : Bool) → form_breaks tree part (invoking b v) v.place ≡ [] → form_breaks tree part (statements.Invoke v.cell v.inputs v.outputs) v.place ≡ []
same_breaks tree part v true h = h
same_breaks tree part v false h = h

mutual
  invoke_in : (form : statements.PlainForm) (place : Place) (v : Invoke) → In (invokes_in form place) v → In (record { form = form; place = place } ∷ visit_parts form) (visited_of v)
  invoke_in (statements.Enable group marks) place v i = absurd i
  invoke_in (statements.Seq marks block) place v i = inr (invoke_of_block block v i)
  invoke_in (statements.Par marks block) place v i = inr (invoke_of_block block v i)
  invoke_in (statements.StaticSeq length marks block) place v i = inr (invoke_of_block block v i)
  invoke_in (statements.StaticPar length marks block) place v i = inr (invoke_of_block block v i)
  invoke_in (statements.If test comb block otherwise) place v i =
      inr (⊎_elim (λ l. in_left (visit_block block) (visit_else otherwise) (visited_of v) (invoke_of_block block v l)) (λ r. in_right (visit_block block) (visit_else otherwise) (visited_of v) (invoke_of_else otherwise v r)) (in_either (invokes_of block) (invokes_else otherwise) v i))
  invoke_in (statements.StaticIf length test block otherwise) place v i =
      inr (⊎_elim (λ l. in_left (visit_block block) (visit_else otherwise) (visited_of v) (invoke_of_block block v l)) (λ r. in_right (visit_block block) (visit_else otherwise) (visited_of v) (invoke_of_else otherwise v r)) (in_either (invokes_of block) (invokes_else otherwise) v i))
  invoke_in (statements.While test comb body) place v i = inr (invoke_of_block body v i)
  invoke_in (statements.Repeat count body) place v i = inr (invoke_of_block body v i)
  invoke_in (statements.StaticRepeat length count body) place v i = inr (invoke_of_block body v i)
  invoke_in (statements.Invoke cell inputs outputs) place v (inl e) = inl (ap visited_of e)
  invoke_in (statements.Invoke cell inputs outputs) place v (inr i) = absurd i
  invoke_in (statements.StaticInvoke length cell inputs outputs) place v (inl e) = inl (ap visited_of e)
  invoke_in (statements.StaticInvoke length cell inputs outputs) place v (inr i) = absurd i

  invoke_of_else : (otherwise : statements.PlainElse) (v : Invoke) → In (invokes_else otherwise) v → In (visit_else otherwise) (visited_of v)
  invoke_of_else statements.NoElse v i = absurd i
  invoke_of_else (statements.Else block) v i = invoke_of_block block v i

  pub invoke_of_block : (block : statements.PlainBlock) (v : Invoke) → In (invokes_of block) v → In (visit_block block) (visited_of v)
  invoke_of_block (statements.Braces list place) v i = invoke_of_all list v i

  invoke_of_all : (list : statements.PlainStatements) (v : Invoke) → In (invokes_all list) v → In (visit_all list) (visited_of v)
  invoke_of_all statements.NoStatements v i = absurd i
  invoke_of_all (statements.StatementThen (statements.Placed attributes form place) rest) v i =
      ⊎_elim (λ l. in_left (record { form = form; place = place } ∷ visit_parts form) (visit_all rest) (visited_of v) (invoke_in form place v l)) (λ r. in_right (record { form = form; place = place } ∷ visit_parts form) (visit_all rest) (visited_of v) (invoke_of_all rest v r)) (in_either (invokes_in form place) (invokes_all rest) v i)
