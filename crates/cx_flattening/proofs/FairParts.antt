-- A COMPONENT that keeps the rules is fair, but for what its static children drive: its ports, its assignments, its invokes.
use Rattle.std.proofs.Common.{◌≡◌, ℕ, zero, suc, ◌<◌, ◌⊎◌, inl, inr, ⊎_elim, Bool, true, false, List, [], ◌∷◌, ◌++◌, length, get_or, Option, Some, None, refl, sym, ap, ◌∙◌, subst, arith}
use Rattle.std.specs.Prelude.{◌&&◌, not, is_some, if◌then◌else◌}
use Rattle.std.proofs.lemmas.Option.{slice_get-get_or}
use Rattle.cx_text.proofs.MemberLaws.{in_at, in_either, in_left, in_right}
use Rattle.cx_text.specs.Members.{In}
use Rattle.cx_prim.specs.Rows.{Row}
use Rattle.cx_meaning.specs.declared.ports.PortRef.{PortRef}
use Rattle.cx_meaning.specs.declared.ports.PortRef.TheVariants as ports
use Rattle.cx_meaning.specs.Designs.{PlainAssign, PlainGroup, PlainInvoke, PlainComponent, no_group, PlainForm, Empty, Enable, Seq, Par, If, While, Repeat, StaticSeq, StaticPar, StaticIf, StaticRepeat, Timed, PlainStatement, Placed, form_of, PlainStatements, no_statements, a_statement}
use Rattle.cx_meaning.specs.Instances.{Instance, Node, Cells, no_cells, a_primitive, an_instance, At, Nothing, OfRow, OfInstance, part_of, cell_at, cell_count}
use Rattle.cx_meaning.specs.Active.{same_port}
use Rattle.cx_meaning.specs.Control.{groups_in, groups_of, groups_in_all}
use Rattle.cx_meaning.specs.Islands.{group_length, kind_length}
use Rattle.cx_meaning.specs.Sights.{PartPort, Go, AnInput, AnOutput, ItsDone, part_port}
use Rattle.cx_meaning.proofs.PortsLemmas.{same_self}
use Rattle.cx_rules.specs.Ports.{is_part_output, is_cell_output, is_source_only, is_part_done}
use Rattle.cx_rules.specs.Items.{Context, Dynamic, InStatic, Branch, Visited, visit, visit_parts, visit_all, statements_in}
use Rattle.cx_rules.specs.ShapeRules.{some_target}
use Rattle.cx_rules.specs.StaticControl.{is_in_static, is_written, is_timed, may_stand, form_has_length, has_length, all_have_length}
use Rattle.cx_rules.specs.Invokes.{invoke_at, lasts}
use Rattle.cx_rules.specs.InvokeShape.{latency_at, is_static_port, input_port, InvokeBreak, another_kind, unbound}
use Rattle.cx_rules.specs.Wellformed.{IsThere, StandsIn, IsForm, IsWith}
use Rattle.cx_rules.proofs.FoundLemmas.{same_is}
use Rattle.cx_text.proofs.NumberLaws.{same_or_not}
use Rattle.cx_text.proofs.BoolLaws.{or_either, and_true, and_left, and_second}
use Rattle.cx_flattening.specs.Events.{no_invoke, the_invoke, source_in, source_to}
use Rattle.cx_flattening.specs.Whole.{is_static}
use Rattle.cx_flattening.specs.Flattened.{Kids, kid_at, flat_kids}
use Rattle.cx_flattening.specs.Targets.{OwnTarget, IsBlock}
use Rattle.cx_flattening.specs.Fair.{IsAssignOf, IsNamed, IsFair}
use Rattle.cx_flattening.specs.Controlled.{timed_of, tested_of, IsInvoked, IsControlled}
use Rattle.cx_flattening.specs.Ends.{is_done_at}
use Rattle.cx_flattening.proofs.LevelSights.{kid-row, kid-dynamic}
use Rattle.cx_meaning.proofs.RowReads.{ReadsPlain}
use Rattle.cx_flattening.proofs.Ruled.{owner_is, IsSource, IsRuled}
use Rattle.cx_flattening.proofs.Statements.{Among, NamesGroup, group_one, timed_one, test_one}

-- the cells of an instance are those of its component
pub record HasCells (part : PlainComponent) (cells : Cells) : Type 0 where
  pub count : cell_count cells ≡ length part.cells
  pub there : (c : ℕ) → c < length part.cells → cell_at cells c ≡ Nothing → ⊥
  pub within : (c : ℕ) → (cell_at cells c ≡ Nothing → ⊥) → c < length part.cells
  pub rows : (c : ℕ) (row : Row) → cell_at cells c ≡ OfRow row → ReadsPlain row

-- and so at every depth
abbrev mutual
  pub AllHave : Instance → Type 0
  AllHave (Node part cells) = HasCells part cells × AllHaveBelow cells

  pub AllHaveBelow : Cells → Type 0
  AllHaveBelow no_cells = Unit {0}
  AllHaveBelow (a_primitive row rest) = AllHaveBelow rest
  AllHaveBelow (an_instance child rest) = AllHave child × AllHaveBelow rest

true_is_false : true ≡ false → ⊥
true_is_false e = cc

pub some_of : (o : Option ℕ) → is_some o ≡ true → (n : ℕ) × (o ≡ Some n)
some_of None e = absurd (cc)
some_of (Some n) e = (n, refl)

in_groups : (xs : List PlainGroup) (n : ℕ) → n < length xs → In xs (get_or xs n no_group)
in_groups [] n less = absurd (omega (arith, less))
in_groups (x ∷ xs) zero less = inl refl
in_groups (x ∷ xs) (suc n) less = inr (in_groups xs n (omega (arith, less)))

pub in_invokes : (xs : List PlainInvoke) (n : ℕ) → n < length xs → In xs (get_or xs n no_invoke)
in_invokes xs n less = in_at xs n (get_or xs n no_invoke) (slice_get-get_or xs n no_invoke less)

-- a source that is bound
pub bound_source : (P : PortRef → Type 0) (c : ℕ) (q : PortRef) (inputs : List PlainAssign) → some_target (same_port q) inputs ≡ true → ((a : PlainAssign) → In inputs a → P a.source.port) → P (source_in c inputs q)
bound_source P c q [] bound each = absurd (let e : false ≡ true = bound in cc)
bound_source P c q (a ∷ rest) bound each = by (same_port a.target q) refl (λ e. bound_source P c q rest e (λ b i. each b (inr i)))
  where
    later : same_port a.target q ≡ false → some_target (same_port q) rest ≡ true
    later apart =
        ⊎_elim
        (λ (e : same_port q a.target ≡ true). absurd (true_is_false (sym (ap (λ x. same_port x q) (sym (same_is q a.target e)) ∙ same_self q) ∙ apart)))
        (λ (e : some_target (same_port q) rest ≡ true). e)
        (or_either (same_port q a.target) (some_target (same_port q) rest) bound)

    by : (b : Bool) → same_port a.target q ≡ b → (some_target (same_port q) rest ≡ true → P (source_in c rest q)) → P (if b then a.source.port else source_in c rest q)
    by true e next = each a (inl refl)
    by false e next = next (later e)

module _ (part : PlainComponent) (cells : Cells) (ruled : IsRuled part (Node part cells)) (has : HasCells part cells) where
  abbrev i : Instance
  i = Node part cells

  abbrev kids : Kids
  kids = flat_kids cells

  -- WHAT IS LOOKED AT may be named
  cell_named : (c p : ℕ) → IsSource i (ports.Cell c p) → (child : Instance) → cell_at cells c ≡ OfInstance child → is_static child ≡ true → (n : ℕ) × (part_port (part_of child) p ≡ AnOutput n)
  cell_named c p s child at static = by (part_port (part_of child) p) refl
    where
      no_target : (port : PartPort) → part_port (part_of child) p ≡ port → is_part_output port ≡ false → ⊥
      no_target port e f = true_is_false (sym (ap (λ x. not (is_cell_output x p)) at ∙ ap (λ x. not (is_part_output x)) e ∙ ap not f) ∙ s.no_target)

      by : (port : PartPort) → part_port (part_of child) p ≡ port → (n : ℕ) × (part_port (part_of child) p ≡ AnOutput n)
      by Go e = absurd (no_target Go e refl)
      by (AnInput n) e = absurd (no_target (AnInput n) e refl)
      by (AnOutput n) e = (n, e)
      by ItsDone e =
          absurd (true_is_false (sym (ap (λ x. is_done_at x p) at ∙ ap (λ b. b && is_part_done (part_port (part_of child) p)) static ∙ ap is_part_done e) ∙ s.no_done))

  pub named : (q : PortRef) → IsSource i q → IsNamed i q
  named (ports.Cell c p) s = (s.there.0, λ child at static. cell_named c p s child at static)
  named (ports.Input n) s = s.there
  named (ports.Output n) s = true_is_false s.no_target
  named (ports.Done g) s = true_is_false s.no_hole
  named (ports.Literal w v) s = tt

  -- WHAT IS DRIVEN may be driven
  kept_cell : (c p : ℕ) → c < length part.cells → is_static_port i (ports.Cell c p) ≡ false → kid_at kids c ≡ None
  kept_cell c p less dynamic = by (cell_at cells c) refl
    where
      of_child : (child : Instance) → cell_at cells c ≡ OfInstance child → (b : Bool) → is_static child ≡ b → kid_at kids c ≡ None
      of_child child at true static = absurd (true_is_false (sym (ap (λ x. is_some (latency_at x)) at ∙ static) ∙ dynamic))
      of_child child at false static = kid-dynamic cells c child at static

      by : (x : At) → cell_at cells c ≡ x → kid_at kids c ≡ None
      by Nothing at = absurd (has.there c less at)
      by (OfRow row) at = kid-row cells c row at
      by (OfInstance child) at = of_child child at (is_static child) refl

  own_target : (q : PortRef) → IsThere i q → ((w v : ℕ) → q ≡ ports.Literal w v → ⊥) → is_source_only i q ≡ false → is_static_port i q ≡ false → OwnTarget kids part q
  own_target (ports.Cell c p) there literal source dynamic = (there.0, kept_cell c p there.0 dynamic)
  own_target (ports.Input n) there literal source dynamic = true_is_false source
  own_target (ports.Output n) there literal source dynamic = tt
  own_target (ports.Done g) there literal source dynamic = tt
  own_target (ports.Literal w v) there literal source dynamic = literal w v refl

  pub drives_own : (owner : Option ℕ) (a : PlainAssign) → StandsIn part owner a → OwnTarget kids part a.target
  drives_own owner a s = let is = ruled.assigns owner a s in own_target a.target is.target (λ w v e. is.no_literal w v e) (ruled.target owner a s) (ruled.dynamic owner a s)

  pub group_own : (a : PlainAssign) → IsAssignOf part a → OwnTarget kids part a.target
  group_own a j = let o = owner_is part a j in drives_own o.0 a o.1

  -- THE INVOKES
  pub invoke_there : (j : ℕ) → j < length part.invokes → In part.invokes (the_invoke part j)
  invoke_there j less = in_invokes part.invokes j less

  pub unbroken : (j : ℕ) → j < length part.invokes → InvokeBreak i (the_invoke part j) → ⊥
  unbroken j less broken =
      let s = ruled.enabled j less in
      ruled.invoked s.0 j (the_invoke part j) s.1 s.2 (slice_get-get_or part.invokes j no_invoke less) broken

  pub input_bound : (j n : ℕ) (child : Instance) → j < length part.invokes → cell_at cells (the_invoke part j).cell ≡ OfInstance child → n < length (part_of child).inputs
      → some_target (same_port (input_port (the_invoke part j).cell n)) (the_invoke part j).inputs ≡ true
  input_bound j n child less at there = by (some_target (same_port (input_port (the_invoke part j).cell n)) (the_invoke part j).inputs) refl
    where
      by : (b : Bool) → some_target (same_port (input_port (the_invoke part j).cell n)) (the_invoke part j).inputs ≡ b → b ≡ true
      by true e = refl
      by false e = absurd (unbroken j less (unbound child n at there e))

  source_named : (j n : ℕ) (child : Instance) → j < length part.invokes → cell_at cells (the_invoke part j).cell ≡ OfInstance child → n < length (part_of child).inputs
      → IsNamed i (source_to (the_invoke part j).cell (the_invoke part j).inputs n)
  source_named j n child less at there =
      bound_source (IsNamed i) (the_invoke part j).cell (input_port (the_invoke part j).cell n) (the_invoke part j).inputs (input_bound j n child less at there)
      (λ a m. named a.source.port (ruled.inputs (the_invoke part j) a (invoke_there j less) m))

  -- IT IS FAIR, where its static children drive what they may
  pub fair_part : ((c : ℕ) (child : PlainComponent) → kid_at kids c ≡ Some child → IsBlock child) → IsFair i
  fair_part blocks = record {
    count = has.count;
    counts = has.there;
    within = has.within;
    targets = record {
      always = λ a j. drives_own None a j;
      groups = λ x a j m. group_own a (inr (x, j, m));
      blocks = blocks;
    };
    names = λ a q j names. let o = owner_is part a j in named q (ruled.sources o.0 a q o.1 names);
    sources = source_named;
    kept = λ static a n j names. let l = some_of part.latency static in ruled.kept l.0 a n l.1 j names;
    not_source = λ a j. let o = owner_is part a j in ruled.target o.0 a o.1;
    reads = λ c p m row at reads. inr ((has.rows c row at).plain p m reads);
    outputs_rest = λ n a q j e names. ruled.outputs_rest None a n q j e names;
    outputs_lead = λ n a q j e names. ruled.outputs_lead None a n q j e names;
    outputs_outside = λ x a n j m e.
        let g = numbered part.groups x j in
        none_some g.0 ((ruled.assigns (Some g.0) a (g.1, subst (λ (y : PlainGroup). In y.assigns a) (sym g.2) m)).output_outside n e);
  }
    where
      numbered : (xs : List PlainGroup) (x : PlainGroup) → In xs x → (g : ℕ) × (g < length xs) × (get_or xs g no_group ≡ x)
      numbered [] x j = absurd j
      numbered (y ∷ ys) x (inl e) = (0, omega arith, e)
      numbered (y ∷ ys) x (inr j) = let r = numbered ys x j in (suc r.0, (let l = r.1 in omega (arith, l)), r.2)

      none_some : (g : ℕ) → ◌≡◌ {A = Option ℕ} (Some g) None → ⊥
      none_some g e = cc

  -- CONTROL: of a statement that stands in the component
  module _ (s : PlainStatement) (inside : (v : Visited) → In (visit Dynamic s) v → In (statements_in part) v) where
    pub groups_there : (g : ℕ) → In (groups_of s) g → g < length part.groups
    groups_there g j = by r.0.form r.2 (ruled.statements r.0 (inside r.0 r.1)).form
      where
        r : Among (NamesGroup g) (visit Dynamic s)
        r = group_one g Dynamic s j

        with_there : (comb : Option ℕ) → comb ≡ Some g → IsWith part comb → g < length part.groups
        with_there None e h = absurd (cc)
        with_there (Some h) e there = let same : h ≡ g = cc in subst (λ x. x < length part.groups) same there.0

        by : (form : PlainForm) → NamesGroup g form → IsForm part form → g < length part.groups
        by form (inl e) h = (subst (IsForm part) e h).0
        by Empty (inr e) h = absurd (cc)
        by (Enable f) (inr e) h = absurd (cc)
        by (Seq parts) (inr e) h = absurd (cc)
        by (Par arms) (inr e) h = absurd (cc)
        by (If test comb a b) (inr e) h = with_there comb e h
        by (While test comb a) (inr e) h = with_there comb e h
        by (Repeat count a) (inr e) h = absurd (cc)
        by (StaticSeq length parts) (inr e) h = absurd (cc)
        by (StaticPar length arms) (inr e) h = absurd (cc)
        by (StaticIf length test a b) (inr e) h = absurd (cc)
        by (StaticRepeat length count a) (inr e) h = absurd (cc)
        by (Timed k) (inr e) h = absurd (cc)

    pub invokes_there : (j : ℕ) → In (timed_of s) j → j < length part.invokes
    invokes_there j t = let r = timed_one j Dynamic s t in subst (IsForm part) r.2 (ruled.statements r.0 (inside r.0 r.1)).form

    pub tests_named : (p : PortRef) → In (tested_of s) p → IsNamed i p
    tests_named p t = let r = test_one p Dynamic s t in subst (IsNamed i) r.2.2 (named r.2.0.port (ruled.tests r.0 r.2.0 (inside r.0 r.1) r.2.1))

  pub group_there : (g : ℕ) → In (groups_of part.control) g → g < length part.groups
  group_there g j = groups_there part.control (λ v k. k) g j

  pub timed_there : (j : ℕ) → In (timed_of part.control) j → j < length part.invokes
  timed_there j t = invokes_there part.control (λ v k. k) j t

  test_named : (p : PortRef) → In (tested_of part.control) p → IsNamed i p
  test_named p t = tests_named part.control (λ v k. k) p t

  -- of an invoke in static control the word static stands there, and it has a latency
  timed_has : (v : Visited) (k : ℕ) → In (statements_in part) v → v.form ≡ Timed k → is_written (invoke_at part k) ≡ true → is_timed (invoke_at part k) ≡ true
  timed_has v k s e written = by (invoke_at part k) refl written
    where
      latency : (w : PlainInvoke) → invoke_at part k ≡ Some w → (o : Option ℕ) → w.latency ≡ o → is_some o ≡ true
      latency w at None f = absurd (ruled.invoked v k w s e at (another_kind f))
      latency w at (Some n) f = refl

      by : (o : Option PlainInvoke) → invoke_at part k ≡ o → is_written o ≡ true → is_timed o ≡ true
      by None at h = absurd (cc)
      by (Some w) at h = and_true w.written (is_some w.latency) h (latency w at w.latency refl)

  -- so a static statement has a length
  pub record Lengthy (vs : List Visited) : Type 0 where
    pub stands : (v : Visited) → In vs v → is_in_static v.context ≡ true → may_stand part v.context v.form ≡ true
    pub timed : (v : Visited) (k : ℕ) → In vs v → v.form ≡ Timed k → is_written (invoke_at part k) ≡ true → is_timed (invoke_at part k) ≡ true

  lengthy_left : (vs ws : List Visited) → Lengthy (vs ++ ws) → Lengthy vs
  lengthy_left vs ws h = record { stands = λ v j. h.stands v (in_left vs ws v j); timed = λ v k j. h.timed v k (in_left vs ws v j) }

  lengthy_right : (vs ws : List Visited) → Lengthy (vs ++ ws) → Lengthy ws
  lengthy_right vs ws h = record { stands = λ v j. h.stands v (in_right vs ws v j); timed = λ v k j. h.timed v k (in_right vs ws v j) }

  mutual
    pub form_lengthy : (context at : Context) (form : PlainForm) → may_stand part context form ≡ true → ((k : ℕ) → form ≡ Timed k → is_written (invoke_at part k) ≡ true → is_timed (invoke_at part k) ≡ true)
        → Lengthy (visit_parts at form) → form_has_length part context form ≡ true
    form_lengthy context at Empty may own h = may
    form_lengthy context at (Enable g) may own h = may
    form_lengthy context at (Seq parts) may own h = absurd (cc)
    form_lengthy context at (Par arms) may own h = absurd (cc)
    form_lengthy context at (If test comb a b) may own h = absurd (cc)
    form_lengthy context at (While test comb a) may own h = absurd (cc)
    form_lengthy context at (Repeat count a) may own h = absurd (cc)
    form_lengthy context at (StaticSeq length parts) may own h = all_lengthy parts h
    form_lengthy context at (StaticPar length arms) may own h = all_lengthy arms h
    form_lengthy context at (StaticIf length test a b) may own h =
        and_true (has_length part Branch a) (has_length part Branch b) (one_lengthy Branch a refl (lengthy_left (visit Branch a) (visit Branch b) h)) (one_lengthy Branch b refl (lengthy_right (visit Branch a) (visit Branch b) h))
    form_lengthy context at (StaticRepeat length count a) may own h = one_lengthy InStatic a refl h
    form_lengthy context at (Timed k) may own h = own k refl may

    one_lengthy : (context : Context) (s : PlainStatement) → is_in_static context ≡ true → Lengthy (visit context s) → has_length part context s ≡ true
    one_lengthy context (Placed form place) static h =
        form_lengthy context context form (h.stands (record { context = context; form = form; place = place }) (inl refl) static)
        (λ k e written. h.timed (record { context = context; form = form; place = place }) k (inl refl) e written)
        (record { stands = λ v j. h.stands v (inr j); timed = λ v k j. h.timed v k (inr j) })

    all_lengthy : (ss : PlainStatements) → Lengthy (visit_all InStatic ss) → all_have_length part ss ≡ true
    all_lengthy no_statements h = refl
    all_lengthy (a_statement s ss) h =
        and_true (has_length part InStatic s) (all_have_length part ss) (one_lengthy InStatic s refl (lengthy_left (visit InStatic s) (visit_all InStatic ss) h)) (all_lengthy ss (lengthy_right (visit InStatic s) (visit_all InStatic ss) h))

  pub lengthy_whole : Lengthy (statements_in part)
  lengthy_whole = record { stands = λ v j. ruled.stands v j; timed = λ v k j. timed_has v k j }

  -- THE CONTROL OF A STATIC COMPONENT has a length, and takes as many cycles as it says
  pub control_long : (n : ℕ) → part.latency ≡ Some n → has_length part InStatic part.control ≡ true
  control_long n static = by part.control refl
    where
      may : (form : PlainForm) (b : Bool) → may_stand part InStatic form ≡ b → (may_stand part InStatic form ≡ false → ⊥) → b ≡ true
      may form true e h = refl
      may form false e h = absurd (h e)

      by : (s : PlainStatement) → part.control ≡ s → has_length part InStatic part.control ≡ true
      by (Placed form place) e =
          let stands : may_stand part InStatic form ≡ true = may form (may_stand part InStatic form) refl (λ no. ruled.control n static (inl (ap (λ x. may_stand part InStatic (form_of x)) e ∙ no))) in
          let whole : Lengthy (visit Dynamic (Placed form place)) = subst (λ x. Lengthy (visit Dynamic x)) e lengthy_whole in
          ap (has_length part InStatic) e
          ∙ form_lengthy InStatic Dynamic form stands (λ k f written. whole.timed (record { context = Dynamic; form = form; place = place }) k (inl refl) f written)
          (record { stands = λ v j. whole.stands v (inr j); timed = λ v k j. whole.timed v k (inr j) })

  pub control_lasts : (n : ℕ) → part.latency ≡ Some n → lasts part part.control ≡ n
  control_lasts n static = same (same_or_not (lasts part part.control) n) (λ apart. ruled.control n static (inr (control_long n static, apart)))
    where
      same : {m : ℕ} → (m ≡ n) ⊎ (m ≡ n → ⊥) → ((m ≡ n → ⊥) → ⊥) → m ≡ n
      same (inl e) h = e
      same (inr apart) h = absurd (h apart)

  -- and the groups that it enables are timed
  mutual
    form_timed : (context : Context) (form : PlainForm) (g : ℕ) → form_has_length part context form ≡ true → In (groups_in form) g → is_some (group_length part g) ≡ true
    form_timed context Empty g long j = absurd j
    form_timed context (Enable h) g long (inl e) = ap (λ x. is_some (group_length part x)) (sym e) ∙ long
    form_timed context (Enable h) g long (inr j) = absurd j
    form_timed context (Seq parts) g long j = absurd (cc)
    form_timed context (Par arms) g long j = absurd (cc)
    form_timed context (If test comb a b) g long j = absurd (cc)
    form_timed context (While test comb a) g long j = absurd (cc)
    form_timed context (Repeat count a) g long j = absurd (cc)
    form_timed context (StaticSeq length parts) g long j = all_timed parts g long j
    form_timed context (StaticPar length arms) g long j = all_timed arms g long j
    form_timed context (StaticIf length test a b) g long j =
        ⊎_elim
        (one_timed Branch a g (and_left (has_length part Branch a) (has_length part Branch b) long))
        (one_timed Branch b g (and_second (has_length part Branch a) (has_length part Branch b) long))
        (in_either (groups_of a) (groups_of b) g j)
    form_timed context (StaticRepeat length count a) g long j = one_timed InStatic a g long j
    form_timed context (Timed k) g long j = absurd j

    pub one_timed : (context : Context) (s : PlainStatement) (g : ℕ) → has_length part context s ≡ true → In (groups_of s) g → is_some (group_length part g) ≡ true
    one_timed context (Placed form place) g long j = form_timed context form g long j

    all_timed : (ss : PlainStatements) (g : ℕ) → all_have_length part ss ≡ true → In (groups_in_all ss) g → is_some (group_length part g) ≡ true
    all_timed no_statements g long j = absurd j
    all_timed (a_statement s ss) g long j =
        ⊎_elim
        (one_timed InStatic s g (and_left (has_length part InStatic s) (all_have_length part ss) long))
        (all_timed ss g (and_second (has_length part InStatic s) (all_have_length part ss) long))
        (in_either (groups_of s) (groups_in_all ss) g j)

  -- AND ITS CONTROL is as asked, where its static children last as long as they say
  invoked_is : ((c n : ℕ) (child : Instance) → cell_at cells c ≡ OfInstance child → (part_of child).latency ≡ Some n → lasts (part_of child) (part_of child).control ≡ n)
      → (j : ℕ) → j < length part.invokes → IsInvoked i (the_invoke part j)
  invoked_is timely j less = by (cell_at cells v.cell) refl
    where
      v : PlainInvoke
      v = the_invoke part j

      its : v.latency ≡ latency_at (cell_at cells v.cell)
      its = (ruled.invokes v (invoke_there j less)).latency

      by : (x : At) → cell_at cells v.cell ≡ x → IsInvoked i v
      by Nothing at = absurd (unbroken j less (another_kind (its ∙ ap latency_at at)))
      by (OfRow row) at = absurd (unbroken j less (another_kind (its ∙ ap latency_at at)))
      by (OfInstance child) at = of_child (part_of child).latency refl
        where
          of_child : (o : Option ℕ) → (part_of child).latency ≡ o → IsInvoked i v
          of_child None e = absurd (unbroken j less (another_kind (its ∙ ap latency_at at ∙ e)))
          of_child (Some n) e = record {
            child = child;
            stands = at;
            static = ap is_some e;
            latency = its ∙ ap latency_at at ∙ e ∙ ap Some (sym (timely v.cell n child at e));
            captures = λ g f. let c = (ruled.invokes v (invoke_there j less)).captures g f in (c.there, ap kind_length c.one_cycle);
          }

  pub controlled_part : ((c n : ℕ) (child : Instance) → cell_at cells c ≡ OfInstance child → (part_of child).latency ≡ Some n → lasts (part_of child) (part_of child).control ≡ n) → IsControlled i
  controlled_part timely = record { enables = group_there; timed = timed_there; tests = test_named; invokes = invoked_is timely }
