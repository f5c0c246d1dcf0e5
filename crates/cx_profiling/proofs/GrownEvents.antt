-- THE LIST OF AN ISLAND of an instrumented instance is that of the instance, each port moved by the component at its path.
use Rattle.std.proofs.Common.{◌≡◌, ℕ, zero, suc, ◌+◌, ◌<◌, ◌≤◌, inl, inr, ⊎_elim, Bool, true, false, nat_eq, if◌then◌else◌, List, [], ◌∷◌, ◌++◌, length, map, get_or, Option, Some, None, slice_get, refl, sym, ap, ◌∙◌, subst, arith}
use Rattle.std.proofs.Math.Path.{fun_ext}
use Rattle.std.proofs.lemmas.Bool.{eqb-true, cases_lt}
use Rattle.std.proofs.lemmas.List.{map-append}
use Rattle.cx_text.proofs.MemberLaws.{in_at}
use Rattle.cx_meaning.specs.declared.ports.PortRef.{PortRef}
use Rattle.cx_meaning.specs.declared.ports.PortRef.TheVariants as ports
use Rattle.cx_meaning.specs.declared.ports.PlacedPort.{PlacedPort}
use Rattle.cx_meaning.specs.Designs.{PlainAssign, PlainCell, PlainInvoke, PlainComponent, PlainDesign, OfComponent, component_at, PlainForm, Empty, Enable, Seq, Par, If, While, Repeat, StaticSeq, StaticPar, StaticIf, StaticRepeat, Timed, PlainStatement, Placed, form_of, PlainStatements, no_statements, a_statement, list_of}
use Rattle.cx_meaning.specs.Instances.{Instance, Node, Cells, no_cells, a_primitive, an_instance, OfInstance, cell_at, cells_of, part_of, Path, tree_within}
use Rattle.cx_meaning.specs.Active.{same_port}
use Rattle.cx_text.specs.Members.{In}
use Rattle.cx_meaning.specs.Islands.{group_length, kind_length, or_zero}
use Rattle.cx_meaning.proofs.DesignsLemmas.{same_part}
use Rattle.cx_meaning.proofs.InstancesLemmas.{instance_is, row_instance, nothing_instance}
use Rattle.cx_rules.specs.Accepted.{IsAccepted}
use Rattle.cx_rules.specs.Invokes.{lasts}
use Rattle.cx_rules.specs.Items.{Visited}
use Rattle.cx_rules.specs.Ports.{component_of}
use Rattle.cx_rules.specs.Wellformed.{IsDesign, IsInvoke}
use Rattle.cx_rewrites.specs.Moving.{moved_assign, moved_form, moved_statement, moved_statements}
use Rattle.cx_flattening.specs.Events.{no_invoke, the_invoke, Spot, spot, Sample, Event, Runs, Feeds, Looks, Beginning, Events, later_by, also_if, group_events, capture_events, rounds_events, source_in, source_to, bound_below, invoke_events, form_events, events, seq_events, par_events, control_events, events_below}
use Rattle.cx_flattening.specs.Controlled.{IsInvoked, IsControlled, AllControlled, AllControlledBelow}
use Rattle.cx_flattening.specs.Whole.{is_static}
use Rattle.cx_flattening.proofs.DeedsApart.{Stands, stands_whole, stands_part, stands_arm, stands_one, stands_other, stands_round}
use Rattle.cx_flattening.proofs.Windows.{events-child}
use Rattle.cx_profiling.specs.Counters.{first_gained}
use Rattle.cx_profiling.specs.Instrumented.{is_reached, gained, moved_number, moved_in, moved_invoke, with_counts}
use Rattle.cx_profiling.proofs.PortLemmas.{IsInside, there_inside, moved-component}
use Rattle.cx_profiling.proofs.RoleLemmas.{Role, as_main, as_child, as_kept, role}
use Rattle.cx_profiling.proofs.GrownTrees.{InTree, in_reach, child_in_tree, no_main_below}
use Rattle.cx_profiling.proofs.PairLemmas.{CellPair, row_pair, child_pair, pair_at}
use Rattle.cx_profiling.proofs.GroupLemmas.{new_length}
use Rattle.cx_profiling.proofs.InvokesMade.{lasts-moved}
use Rattle.cx_profiling.proofs.MovedCalls.{same_moved}
use Rattle.cx_profiling.proofs.LeafLemmas.{same_kind, child_inside}
use Rattle.cx_profiling.proofs.GrownDeeds.{moved_spot, moved_sample, moved_event, AreKnown, IsKnownEvent, AllKnown}

-- an instance of a static component below another stands at a path from it
abbrev pub StandsAt : Instance → Path → Instance → Type 0
StandsAt i [] j = i ≡ j
StandsAt i (c ∷ at) j = (child : Instance) × (cell_at (cells_of i) c ≡ OfInstance child) × (is_static child ≡ true) × StandsAt child at j

pub stands_below : (i : Instance) (at : Path) (j : Instance) (c : ℕ) (child : Instance) → StandsAt i at j → cell_at (cells_of j) c ≡ OfInstance child → is_static child ≡ true → StandsAt i (at ++ (c ∷ [])) child
stands_below i [] j c child same e static = (child, subst (λ x. cell_at (cells_of x) c ≡ OfInstance child) (sym same) e, static, refl)
stands_below i (x ∷ at) j c child (next, here, still, rest) e static = (next, here, still, stands_below next at j c child rest e static)

-- a port at a path is moved as by the component there
module _ (d : PlainDesign) where
  abbrev mutual
    pub moved_at : Instance → Path → PortRef → PortRef
    moved_at (Node part cells) [] p = moved_in d part p
    moved_at (Node part cells) (c ∷ at) p = moved_below cells c at p

    pub moved_below : Cells → ℕ → Path → PortRef → PortRef
    moved_below no_cells c at p = p
    moved_below (a_primitive row rest) zero at p = p
    moved_below (a_primitive row rest) (suc c) at p = moved_below rest c at p
    moved_below (an_instance child rest) zero at p = moved_at child at p
    moved_below (an_instance child rest) (suc c) at p = moved_below rest c at p

  pub moved-child : (cells : Cells) (c : ℕ) (child : Instance) → cell_at cells c ≡ OfInstance child → (at : Path) (p : PortRef) → moved_below cells c at p ≡ moved_at child at p
  moved-child no_cells c child e at p = absurd (nothing_instance child e)
  moved-child (a_primitive row rest) zero child e at p = absurd (row_instance row child e)
  moved-child (a_primitive row rest) (suc c) child e at p = moved-child rest c child e at p
  moved-child (an_instance other rest) zero child e at p = ap (λ x. moved_at x at p) (instance_is other child e)
  moved-child (an_instance other rest) (suc c) child e at p = moved-child rest c child e at p

  moved-here : (i : Instance) (p : PortRef) → moved_at i [] p ≡ moved_in d (part_of i) p
  moved-here (Node part cells) p = refl

  pub moved-stands : (i : Instance) (at : Path) (j : Instance) → StandsAt i at j → (p : PortRef) → moved_at i at p ≡ moved_in d (part_of j) p
  moved-stands i [] j same p = moved-here i p ∙ ap (λ x. moved_in d (part_of x) p) same
  moved-stands (Node part cells) (c ∷ at) j (child, here, static, rest) p = moved-child cells c child here at p ∙ moved-stands child at j rest p

  -- WHAT IS KNOWN of spots, of groups that act and of inputs that are fed
  abbrev pub SpotIn : Instance → Spot → Type 0
  SpotIn root x = (j : Instance) × StandsAt root x.at j × IsInside d (part_of j) x.port

  abbrev pub ActIn : Instance → Path → ℕ → Type 0
  ActIn root at g = (j : Instance) × StandsAt root at j × (g < length (part_of j).groups)

  abbrev pub FedIn : Instance → Path → ℕ → List PlainAssign → Type 0
  FedIn root at c inputs = (j : Instance) × StandsAt root at j × ((n : ℕ) × (n < length (part_of j).invokes) × ((the_invoke (part_of j) n).inputs ≡ inputs))

-- an invoke of a moved list
invoke-moved : (f : PlainInvoke → PlainInvoke) (list : List PlainInvoke) (k : ℕ) → f no_invoke ≡ no_invoke → get_or (map f list) k no_invoke ≡ f (get_or list k no_invoke)
invoke-moved f [] k e = sym e
invoke-moved f (x ∷ rest) zero e = refl
invoke-moved f (x ∷ rest) (suc k) e = invoke-moved f rest k e

pub in_got : (list : List PlainInvoke) (k : ℕ) → k < length list → In list (get_or list k no_invoke)
in_got [] k less = absurd (omega (arith, less))
in_got (x ∷ rest) zero less = inl refl
in_got (x ∷ rest) (suc k) less = inr (in_got rest k (omega (arith, less)))

pub controlled_child : (cells : Cells) (c : ℕ) (child : Instance) → AllControlledBelow cells → cell_at cells c ≡ OfInstance child → AllControlled child
controlled_child no_cells c child h e = absurd (cc)
controlled_child (a_primitive row rest) zero child h e = absurd (cc)
controlled_child (a_primitive row rest) (suc c) child h e = controlled_child rest c child h e
controlled_child (an_instance other rest) zero child h e = subst AllControlled (instance_is other child e) h.0
controlled_child (an_instance other rest) (suc c) child h e = controlled_child rest c child h.1 e

-- THE SOURCE OF AN INPUT is moved, as the ports of its component are
module _ (d : PlainDesign) (design : IsDesign d) (accepted : IsAccepted d) (grown_accepted : IsAccepted (with_counts d)) (m k : ℕ) (at : InTree d (suc m) k) where
  abbrev part : PlainComponent
  part = component_at d k

  -- a source of an input
  in_stays : (c : ℕ) (list : List PlainAssign) (o : PortRef) → ((a : PlainAssign) → In list a → IsInside d part a.target) → IsInside d part o → moved_in d part o ≡ o
      → source_in c (map (moved_assign (moved_in d part)) list) o ≡ moved_in d part (source_in c list o)
  in_stays c [] o targets here stays = sym stays
  in_stays c (a ∷ rest) o targets here stays =
      ap (λ q. if same_port (moved_in d part a.target) q then moved_in d part a.source.port else source_in c (map (moved_assign (moved_in d part)) rest) o) (sym stays)
      ∙ ap (λ b. if b then moved_in d part a.source.port else source_in c (map (moved_assign (moved_in d part)) rest) o) (same_moved d part a.target o (targets a (inl refl)) here)
      ∙ choice (same_port a.target o) (in_stays c rest o (λ x i. targets x (inr i)) here stays)
    where
      choice : (b : Bool) → source_in c (map (moved_assign (moved_in d part)) rest) o ≡ moved_in d part (source_in c rest o)
          → (if b then moved_in d part a.source.port else source_in c (map (moved_assign (moved_in d part)) rest) o) ≡ moved_in d part (if b then a.source.port else source_in c rest o)
      choice true e = refl
      choice false e = e

  source_inside : (c : ℕ) (list : List PlainAssign) (o : PortRef) → ((a : PlainAssign) → In list a → IsInside d part a.source.port) → IsInside d part o → IsInside d part (source_in c list o)
  source_inside c [] o sources here = here
  source_inside c (a ∷ rest) o sources here = choice (same_port a.target o) (source_inside c rest o (λ x i. sources x (inr i)) here)
    where
      choice : (b : Bool) → IsInside d part (source_in c rest o) → IsInside d part (if b then a.source.port else source_in c rest o)
      choice true h = sources a (inl refl)
      choice false h = h

  -- THE SOURCE of input n of the child at a cell
  pub source_follows : (v : PlainInvoke) → In part.invokes v → (c : ℕ) (cell : PlainCell) (e n : ℕ) → slice_get part.cells c ≡ Some cell → cell.kind ≡ OfComponent e → c < length part.cells → n < length (component_at d e).inputs
      → IsInside d part (source_to c v.inputs n) × (source_to c (map (moved_assign (moved_in d part)) v.inputs) n ≡ moved_in d part (source_to c v.inputs n))
  source_follows v among c cell e n stands is few less =
      (source_inside c v.inputs (ports.Cell c (suc n)) (λ a h. there_inside d k at.within a.source.port (bound.inputs a h).source) here, in_stays c v.inputs (ports.Cell c (suc n)) (λ a h. there_inside d k at.within a.target (bound.inputs a h).there) here stays)
    where
      bound : IsInvoke (component_of d k) v
      bound = (design.components k at.within).invokes v among

      up_to : suc n ≤ first_gained (component_at d e)
      up_to = omega (arith, less)

      here : IsInside d part (ports.Cell c (suc n))
      here = child_inside d design accepted grown_accepted m k at c (suc n) cell e few stands is up_to

      differ : suc n ≡ first_gained (component_at d e) → ⊥
      differ h = omega (arith, less, h)

      stays : moved_in d part (ports.Cell c (suc n)) ≡ ports.Cell c (suc n)
      stays = ap (ports.Cell c) (ap (λ o. moved_number d o (suc n)) stands ∙ moved-component d cell e (suc n) is ∙ ap (λ b. if b then suc n + gained d e else suc n) (no_first (nat_eq (suc n) (first_gained (component_at d e))) refl))
        where
          no_first : (b : Bool) → nat_eq (suc n) (first_gained (component_at d e)) ≡ b → b ≡ false
          no_first true f = absurd (differ (eqb-true (suc n) (first_gained (component_at d e)) f))
          no_first false f = refl

module _ (d : PlainDesign) (design : IsDesign d) (accepted : IsAccepted d) (grown_accepted : IsAccepted (with_counts d)) (root : Instance) where
  abbrev mvr : Path → PortRef → PortRef
  mvr = moved_at d root

  abbrev Known : List Event → Type 0
  Known list = AllKnown (SpotIn d root) (ActIn d root) (FedIn d root) list

  -- one list is the other, moved
  pub record Follows (other list : List Event) : Type 0 where
    pub is : other ≡ map (moved_event mvr) list
    pub known : Known list

  nothing_follows : Follows [] []
  nothing_follows = record { is = refl; known = λ x i. absurd i }

  one_follows : (y x : Event) → y ≡ moved_event mvr x → IsKnownEvent (SpotIn d root) (ActIn d root) (FedIn d root) x → Follows (y ∷ []) (x ∷ [])
  one_follows y x e h = record {
    is = ap (λ z. z ∷ []) e;
    known = λ z i. ⊎_elim (λ same. subst (IsKnownEvent (SpotIn d root) (ActIn d root) (FedIn d root)) same h) (λ none. absurd none) i;
  }

  both_follow : (ys xs ws zs : List Event) → Follows ys xs → Follows ws zs → Follows (ys ++ ws) (xs ++ zs)
  both_follow ys xs ws zs f g = record {
    is = ap (λ l. l ++ ws) f.is ∙ ap (λ l. map (moved_event mvr) xs ++ l) g.is ∙ sym (map-append (moved_event mvr) xs zs);
    known = λ x i. part xs x i f.known;
  }
    where
      part : (list : List Event) (x : Event) → In (list ++ zs) x → Known list → IsKnownEvent (SpotIn d root) (ActIn d root) (FedIn d root) x
      part [] x i h = g.known x i
      part (y ∷ rest) x (inl e) h = subst (IsKnownEvent (SpotIn d root) (ActIn d root) (FedIn d root)) e (h y (inl refl))
      part (y ∷ rest) x (inr i) h = part rest x i (λ z k. h z (inr k))

  abbrev AreIn : List Sample → Type 0
  AreIn conditions = AreKnown (SpotIn d root) (ActIn d root) (FedIn d root) conditions

  -- the same beginning, with other bounds
  abbrev twin : Beginning → (PortRef → Spot) → Beginning
  twin b bound = record { at = b.at; bound = bound; from = b.from; conditions = map (moved_sample mvr) b.conditions }

  -- OF AN INSTANCE with so many levels
  pub record Begins (i : Instance) (b : Beginning) (bound : PortRef → Spot) : Type 0 where
    pub stands : StandsAt root b.at i
    pub conditions : AreIn b.conditions
    pub seen_at : (p : PortRef) → IsInside d (part_of i) p → (bound (moved_in d (part_of i) p) ≡ moved_spot mvr (b.bound p)) × SpotIn d root (b.bound p)

  abbrev ControlFollows : ℕ → ℕ → Type 0
  ControlFollows m k = (b : Beginning) (bound : PortRef → Spot) → Begins (tree_within d m k) b bound → AllControlled (tree_within d m k)
      → Follows (control_events (tree_within (with_counts d) m k) (twin b bound)) (control_events (tree_within d m k) b)

  module _ (m k : ℕ) (at : InTree d (suc m) k) (controlled : AllControlled (tree_within d (suc m) k)) (kids : (e : ℕ) → InTree d m e → (e ≡ d.main → ⊥) → ControlFollows m e) where
    abbrev node : PlainComponent
    node = component_at d k

    abbrev other : PlainComponent
    other = component_at (with_counts d) k

    abbrev i : Instance
    i = tree_within d (suc m) k

    abbrev j : Instance
    j = tree_within (with_counts d) (suc m) k

    abbrev mv : PortRef → PortRef
    mv p = moved_in d node p

    abbrev old : PlainForm → Beginning → List Event
    old form b = form_events node (events_below (cells_of i)) form b

    abbrev new : PlainForm → Beginning → List Event
    new form b = form_events other (events_below (cells_of j)) form b

    lengths : (g : ℕ) → group_length other g ≡ group_length node g
    lengths g = ⊎_elim (λ few. ap kind_length (same_kind d design accepted grown_accepted m k at g few)) (λ past. new_length d k at.within (in_reach d at) g past) (cases_lt g (length node.groups))

    invokes_are : other.invokes ≡ map (moved_invoke d node) node.invokes
    invokes_are = by (role d k at.within)
      where
        by : Role d k → other.invokes ≡ map (moved_invoke d node) node.invokes
        by (as_main names same is) = ap (λ x. x.invokes) is
        by (as_child names differ reached is) = ap (λ x. x.invokes) is
        by (as_kept differ reached is) = ap (λ x. x.invokes) is

    pub invoke_is : (n : ℕ) → the_invoke other n ≡ moved_invoke d node (the_invoke node n)
    invoke_is n = ap (λ l. get_or l n no_invoke) invokes_are ∙ invoke-moved (moved_invoke d node) node.invokes n refl

    group_follows : (g : ℕ) → g < length node.groups → (o : Option ℕ) (b : Beginning) (bound : PortRef → Spot) → Begins i b bound → Follows (group_events g o (twin b bound)) (group_events g o b)
    group_follows g few None b bound begins = nothing_follows
    group_follows g few (Some n) b bound begins = one_follows (Runs b.at g b.from (b.from + n) (map (moved_sample mvr) b.conditions)) (Runs b.at g b.from (b.from + n) b.conditions) refl ((i, begins.stands, few), begins.conditions)

    -- A CHILD begins so
    child_begins : (v : PlainInvoke) (n : ℕ) → n < length node.invokes → the_invoke node n ≡ v → (cell : PlainCell) (e : ℕ) → slice_get node.cells v.cell ≡ Some cell → cell.kind ≡ OfComponent e
        → v.cell < length node.cells → cell_at (cells_of i) v.cell ≡ OfInstance (tree_within d m e) → is_static (tree_within d m e) ≡ true → (b : Beginning) (bound : PortRef → Spot) → Begins i b bound
        → Begins (tree_within d m e) (record { at = b.at ++ (v.cell ∷ []); bound = bound_below b.bound b.at v.cell v.inputs; from = b.from; conditions = b.conditions }) (bound_below bound b.at v.cell (map (moved_assign mv) v.inputs))
    child_begins v n there is cell e stands comp few here static b bound begins = record { stands = below; conditions = begins.conditions; seen_at = λ p inside. by p inside }
      where
        child : Instance
        child = tree_within d m e

        below : StandsAt root (b.at ++ (v.cell ∷ [])) child
        below = stands_below root b.at i v.cell child begins.stands here static

        among : In node.invokes v
        among = subst (In node.invokes) is (in_got node.invokes n there)

        inputs_of : length (part_of child).inputs ≡ length (component_at d e).inputs
        inputs_of = ap (λ (x : PlainComponent). length x.inputs) (same_part d m e)

        own : (p : PortRef) → IsInside d (part_of child) p → (q : PortRef) → q ≡ moved_in d (part_of child) p
            → (spot (b.at ++ (v.cell ∷ [])) q ≡ moved_spot mvr (spot (b.at ++ (v.cell ∷ [])) p)) × SpotIn d root (spot (b.at ++ (v.cell ∷ [])) p)
        own p inside q same = (ap (spot (b.at ++ (v.cell ∷ []))) (same ∙ sym (moved-stands d root (b.at ++ (v.cell ∷ [])) child below p)), (child, below, inside))

        by : (p : PortRef) → IsInside d (part_of child) p
            → (bound_below bound b.at v.cell (map (moved_assign mv) v.inputs) (moved_in d (part_of child) p) ≡ moved_spot mvr (bound_below b.bound b.at v.cell v.inputs p)) × SpotIn d root (bound_below b.bound b.at v.cell v.inputs p)
        by (ports.Input x) inside =
            let r = source_follows d design accepted grown_accepted m k at v among v.cell cell e x stands comp few (subst (λ y. x < y) inputs_of inside) in
            let s = begins.seen_at (source_to v.cell v.inputs x) r.0 in
            (ap bound r.1 ∙ s.0, s.1)
        by (ports.Cell c p) inside = own (ports.Cell c p) inside (moved_in d (part_of child) (ports.Cell c p)) refl
        by (ports.Output x) inside = own (ports.Output x) inside (ports.Output x) refl
        by (ports.Done g) inside = own (ports.Done g) inside (ports.Done g) refl
        by (ports.Literal w x) inside = own (ports.Literal w x) inside (ports.Literal w x) refl

    capture_follows : (o : Option ℕ) → ((g : ℕ) → o ≡ Some g → g < length node.groups) → (b : Beginning) (bound : PortRef → Spot) → Begins i b bound → Follows (capture_events o (twin b bound)) (capture_events o b)
    capture_follows None there b bound begins = nothing_follows
    capture_follows (Some g) there b bound begins = one_follows (Runs b.at g b.from (b.from + 1) (map (moved_sample mvr) b.conditions)) (Runs b.at g b.from (b.from + 1) b.conditions) refl ((i, begins.stands, there g refl), begins.conditions)

    later_begins : (n : ℕ) (b : Beginning) (bound : PortRef → Spot) → Begins i b bound → Begins i (later_by n b) bound
    later_begins n b bound begins = record { stands = begins.stands; conditions = begins.conditions; seen_at = begins.seen_at }

    -- AN INVOKE
    timed_follows : (n : ℕ) → n < length node.invokes → (b : Beginning) (bound : PortRef → Spot) → Begins i b bound → Follows (new (Timed n) (twin b bound)) (old (Timed n) b)
    timed_follows n there b bound begins =
        subst (λ w. Follows (invoke_events (events_below (cells_of j)) w (twin b bound)) (invoke_events (events_below (cells_of i)) v b)) (sym (invoke_is n)) (by (pair_at d design m k at.within v.cell few))
      where
        v : PlainInvoke
        v = the_invoke node n

        its : IsInvoked i v
        its = controlled_of.invokes n there
          where
            controlled_of : IsControlled i
            controlled_of = controlled.0

        few : v.cell < length node.cells
        few = subst (λ (x : PlainComponent). v.cell < length x.cells) (same_part d (length d.components) k) ((design.components k at.within).invokes v (in_got node.invokes n there)).cell

        start : Beginning
        start = record { at = b.at ++ (v.cell ∷ []); bound = bound_below b.bound b.at v.cell v.inputs; from = b.from; conditions = b.conditions }

        inner_bound : PortRef → Spot
        inner_bound = bound_below bound b.at v.cell (map (moved_assign mv) v.inputs)

        feeds : Follows (Feeds b.at v.cell (map (moved_assign mv) v.inputs) b.from (b.from + or_zero v.latency) (map (moved_sample mvr) b.conditions) ∷ []) (Feeds b.at v.cell v.inputs b.from (b.from + or_zero v.latency) b.conditions ∷ [])
        feeds =
            one_follows (Feeds b.at v.cell (map (moved_assign mv) v.inputs) b.from (b.from + or_zero v.latency) (map (moved_sample mvr) b.conditions)) (Feeds b.at v.cell v.inputs b.from (b.from + or_zero v.latency) b.conditions)
            (ap (λ f. Feeds b.at v.cell (map (moved_assign f) v.inputs) b.from (b.from + or_zero v.latency) (map (moved_sample mvr) b.conditions)) (fun_ext (λ p. sym (moved-stands d root b.at i begins.stands p))))
            ((i, begins.stands, (n, there, refl)), begins.conditions)

        by : CellPair d design m k at.within v.cell → Follows (invoke_events (events_below (cells_of j)) (moved_invoke d node v) (twin b bound)) (invoke_events (events_below (cells_of i)) v b)
        by (row_pair row first second moved) = absurd (row_instance row its.child (sym first ∙ its.stands))
        by (child_pair cell e stands comp below first second moved) =
            both_follow (Feeds b.at v.cell (map (moved_assign mv) v.inputs) b.from (b.from + or_zero v.latency) (map (moved_sample mvr) b.conditions) ∷ []) (Feeds b.at v.cell v.inputs b.from (b.from + or_zero v.latency) b.conditions ∷ [])
            (events_below (cells_of j) v.cell (twin start inner_bound) ++ capture_events v.captures (later_by (or_zero v.latency) (twin b bound)))
            (events_below (cells_of i) v.cell start ++ capture_events v.captures (later_by (or_zero v.latency) b))
            feeds
            (both_follow (events_below (cells_of j) v.cell (twin start inner_bound)) (events_below (cells_of i) v.cell start)
            (capture_events v.captures (later_by (or_zero v.latency) (twin b bound))) (capture_events v.captures (later_by (or_zero v.latency) b))
            inner
            (capture_follows v.captures (λ g f. (its.captures g f).0) (later_by (or_zero v.latency) b) bound (later_begins (or_zero v.latency) b bound begins)))
          where
            child : Instance
            child = tree_within d m e

            same_child : its.child ≡ child
            same_child = instance_is its.child child (sym its.stands ∙ first)

            among : In node.cells cell
            among = in_at node.cells v.cell cell stands

            begun : Begins child start inner_bound
            begun = child_begins v n there refl cell e stands comp few first (subst (λ x. is_static x ≡ true) same_child its.static) b bound begins

            inner : Follows (events_below (cells_of j) v.cell (twin start inner_bound)) (events_below (cells_of i) v.cell start)
            inner =
                subst (λ l. Follows l (events_below (cells_of i) v.cell start)) (sym (events-child (cells_of j) v.cell (tree_within (with_counts d) m e) (twin start inner_bound) second))
                (subst (λ l. Follows (control_events (tree_within (with_counts d) m e) (twin start inner_bound)) l) (sym (events-child (cells_of i) v.cell child start first))
                (kids e (child_in_tree d design at cell e among comp) (no_main_below d design at cell e among comp) start inner_bound begun (controlled_child (cells_of i) v.cell child controlled.1 first)))

    rounds_follow : (body twins : Events) (n : ℕ) → ((b : Beginning) (bound : PortRef → Spot) → Begins i b bound → Follows (twins (twin b bound)) (body b)) → (count : ℕ) (b : Beginning) (bound : PortRef → Spot) → Begins i b bound
        → Follows (rounds_events twins n count (twin b bound)) (rounds_events body n count b)
    rounds_follow body twins n each zero b bound begins = nothing_follows
    rounds_follow body twins n each (suc count) b bound begins =
        both_follow (twins (twin b bound)) (body b) (rounds_events twins n count (later_by n (twin b bound))) (rounds_events body n count (later_by n b)) (each b bound begins)
        (rounds_follow body twins n each count (later_by n b) bound (later_begins n b bound begins))

    group_there : (g : ℕ) → Stands node (Enable g) → g < length node.groups
    group_there g h =
        let v : Visited = record { context = h.context; form = Enable g; place = h.place } in
        subst (λ (x : PlainComponent). g < length x.groups) (same_part d (length d.components) k) ((design.components k at.within).statements v (h.inside v (inl refl))).form.0

    invoke_there : (n : ℕ) → Stands node (Timed n) → n < length node.invokes
    invoke_there n h =
        let v : Visited = record { context = h.context; form = Timed n; place = h.place } in
        subst (λ (x : PlainComponent). n < length x.invokes) (same_part d (length d.components) k) ((design.components k at.within).statements v (h.inside v (inl refl))).form

    test_inside : (written : Option ℕ) (test : PlacedPort) (x y : PlainStatement) → Stands node (StaticIf written test x y) → IsInside d node test.port
    test_inside written test x y h =
        let v : Visited = record { context = h.context; form = StaticIf written test x y; place = h.place } in
        there_inside d k at.within test.port (((design.components k at.within).statements v (h.inside v (inl refl))).test test refl)

    -- a branch begins with a sample more
    branch_begins : (p : PortRef) (wanted : Bool) (b : Beginning) (bound : PortRef → Spot) → IsInside d node p → Begins i b bound → Begins i (also_if (b.bound p) wanted b) bound
    branch_begins p wanted b bound inside begins = record {
      stands = begins.stands;
      seen_at = begins.seen_at;
      conditions = λ x h. ⊎_elim
          (λ (e : record { spot = b.bound p; cycle = b.from; wanted = wanted } ≡ x). subst (λ (y : Sample). SpotIn d root y.spot) e (begins.seen_at p inside).1)
          (λ rest. begins.conditions x rest) h;
    }

    mutual
      pub form_follows : (form : PlainForm) → Stands node form → (b : Beginning) (bound : PortRef → Spot) → Begins i b bound → Follows (new (moved_form mv form) (twin b bound)) (old form b)
      form_follows Empty h b bound begins = nothing_follows
      form_follows (Enable g) h b bound begins =
          subst (λ o. Follows (group_events g o (twin b bound)) (group_events g (group_length node g) b)) (sym (lengths g)) (group_follows g (group_there g h) (group_length node g) b bound begins)
      form_follows (Seq parts) h b bound begins = nothing_follows
      form_follows (Par arms) h b bound begins = nothing_follows
      form_follows (If test comb x y) h b bound begins = nothing_follows
      form_follows (While test comb x) h b bound begins = nothing_follows
      form_follows (Repeat count x) h b bound begins = nothing_follows
      form_follows (StaticSeq written ss) h b bound begins = seq_follows ss (λ s among. stands_part node s h among) b bound begins
      form_follows (StaticPar written ss) h b bound begins = par_follows ss (λ s among. stands_arm node s h among) b bound begins
      form_follows (StaticIf written test x y) h b bound begins =
          subst (λ q. Follows (Looks q b.from (map (moved_sample mvr) b.conditions) ∷ (events other (events_below (cells_of j)) (moved_statement mv x) (also_if q true (twin b bound)) ++ events other (events_below (cells_of j)) (moved_statement mv y) (also_if q false (twin b bound)))) (old (StaticIf written test x y) b))
          (sym at_test.0)
          (both_follow (Looks (moved_spot mvr (b.bound test.port)) b.from (map (moved_sample mvr) b.conditions) ∷ []) (Looks (b.bound test.port) b.from b.conditions ∷ [])
          (new_events x (also_if (b.bound test.port) true b) bound ++ new_events y (also_if (b.bound test.port) false b) bound) (old_events x (also_if (b.bound test.port) true b) ++ old_events y (also_if (b.bound test.port) false b))
          (one_follows (Looks (moved_spot mvr (b.bound test.port)) b.from (map (moved_sample mvr) b.conditions)) (Looks (b.bound test.port) b.from b.conditions) refl (at_test.1, begins.conditions))
          (both_follow (new_events x (also_if (b.bound test.port) true b) bound) (old_events x (also_if (b.bound test.port) true b)) (new_events y (also_if (b.bound test.port) false b) bound) (old_events y (also_if (b.bound test.port) false b))
          (statement_follows x (stands_one node h) (also_if (b.bound test.port) true b) bound (branch_begins test.port true b bound inside begins))
          (statement_follows y (stands_other node h) (also_if (b.bound test.port) false b) bound (branch_begins test.port false b bound inside begins))))
        where
          inside : IsInside d node test.port
          inside = test_inside written test x y h

          at_test : (bound (mv test.port) ≡ moved_spot mvr (b.bound test.port)) × SpotIn d root (b.bound test.port)
          at_test = begins.seen_at test.port inside

          new_events : PlainStatement → Beginning → (PortRef → Spot) → List Event
          new_events s c o = events other (events_below (cells_of j)) (moved_statement mv s) (twin c o)

          old_events : PlainStatement → Beginning → List Event
          old_events s c = events node (events_below (cells_of i)) s c
      form_follows (StaticRepeat written count x) h b bound begins =
          subst (λ n. Follows (rounds_events (events other (events_below (cells_of j)) (moved_statement mv x)) n count (twin b bound)) (rounds_events (events node (events_below (cells_of i)) x) (lasts node x) count b)) (sym (lasts-moved d design k at.within x))
          (rounds_follow (events node (events_below (cells_of i)) x) (events other (events_below (cells_of j)) (moved_statement mv x)) (lasts node x) (λ c o r. statement_follows x (stands_round node h) c o r) count b bound begins)
      form_follows (Timed n) h b bound begins = timed_follows n (invoke_there n h) b bound begins

      pub statement_follows : (s : PlainStatement) → Stands node (form_of s) → (b : Beginning) (bound : PortRef → Spot) → Begins i b bound
          → Follows (events other (events_below (cells_of j)) (moved_statement mv s) (twin b bound)) (events node (events_below (cells_of i)) s b)
      statement_follows (Placed form place) h b bound begins = form_follows form h b bound begins

      seq_follows : (ss : PlainStatements) → ((s : PlainStatement) → In (list_of ss) s → Stands node (form_of s)) → (b : Beginning) (bound : PortRef → Spot) → Begins i b bound
          → Follows (seq_events other (events_below (cells_of j)) (moved_statements mv ss) (twin b bound)) (seq_events node (events_below (cells_of i)) ss b)
      seq_follows no_statements h b bound begins = nothing_follows
      seq_follows (a_statement s ss) h b bound begins =
          subst (λ n. Follows (events other (events_below (cells_of j)) (moved_statement mv s) (twin b bound) ++ seq_events other (events_below (cells_of j)) (moved_statements mv ss) (later_by n (twin b bound))) (seq_events node (events_below (cells_of i)) (a_statement s ss) b)) (sym (lasts-moved d design k at.within s))
          (both_follow (events other (events_below (cells_of j)) (moved_statement mv s) (twin b bound)) (events node (events_below (cells_of i)) s b)
          (seq_events other (events_below (cells_of j)) (moved_statements mv ss) (later_by (lasts node s) (twin b bound))) (seq_events node (events_below (cells_of i)) ss (later_by (lasts node s) b))
          (statement_follows s (h s (inl refl)) b bound begins)
          (seq_follows ss (λ x among. h x (inr among)) (later_by (lasts node s) b) bound (later_begins (lasts node s) b bound begins)))

      par_follows : (ss : PlainStatements) → ((s : PlainStatement) → In (list_of ss) s → Stands node (form_of s)) → (b : Beginning) (bound : PortRef → Spot) → Begins i b bound
          → Follows (par_events other (events_below (cells_of j)) (moved_statements mv ss) (twin b bound)) (par_events node (events_below (cells_of i)) ss b)
      par_follows no_statements h b bound begins = nothing_follows
      par_follows (a_statement s ss) h b bound begins =
          both_follow (events other (events_below (cells_of j)) (moved_statement mv s) (twin b bound)) (events node (events_below (cells_of i)) s b)
          (par_events other (events_below (cells_of j)) (moved_statements mv ss) (twin b bound)) (par_events node (events_below (cells_of i)) ss b)
          (statement_follows s (h s (inl refl)) b bound begins) (par_follows ss (λ x among. h x (inr among)) b bound begins)

  -- THE CONTROL of a child
  pub control_follows : (m k : ℕ) → InTree d m k → (k ≡ d.main → ⊥) → ControlFollows m k
  control_follows zero k at differ b bound begins controlled = absurd at.deep_enough
  control_follows (suc m) k at differ b bound begins controlled = by (role d k at.within) (λ e inside other_main. control_follows m e inside other_main)
    where
      both : (x : Bool) → x ≡ true → x ≡ false → ⊥
      both true e f = absurd (cc)
      both false e f = absurd (cc)

      by : Role d k → ((e : ℕ) → InTree d m e → (e ≡ d.main → ⊥) → ControlFollows m e) → Follows (control_events (tree_within (with_counts d) (suc m) k) (twin b bound)) (control_events (tree_within d (suc m) k) b)
      by (as_main names same is) kids = absurd (differ same)
      by (as_kept other_one r is) kids = absurd (both (is_reached d k) (in_reach d at) r)
      by (as_child names other_one r is) kids =
          subst (λ s. Follows (events (component_at (with_counts d) k) (events_below (cells_of (tree_within (with_counts d) (suc m) k))) s (twin b bound)) (control_events (tree_within d (suc m) k) b)) (sym (ap (λ x. x.control) is))
          (statement_follows m k at controlled kids (component_at d k).control (stands_whole (component_at d k)) b bound begins)
