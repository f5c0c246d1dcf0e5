-- THE CONTROL of an instrumented instance with static components carries that of the instance, with the counts in its counters.
use Rattle.std.proofs.Common.{◌≡◌, ℕ, zero, suc, ◌+◌, ◌*◌, ◌<◌, ◌≤◌, inl, inr, Bool, true, false, if◌then◌else◌, [], length, Option, Some, None, slice_get, refl, sym, ap, ◌∙◌, subst, arith}
use Rattle.std.proofs.lemmas.Bool.{ne_eqb}
use Rattle.cx_text.proofs.MemberLaws.{in_at}
use Rattle.cx_text.specs.Members.{In}
use Rattle.cx_prim.specs.CellStates.{CellState}
use Rattle.cx_meaning.specs.declared.kinds.GroupKind.{GroupKind}
use Rattle.cx_meaning.specs.declared.kinds.GroupKind.TheVariants as kinds
use Rattle.cx_meaning.specs.declared.ports.PortRef.{PortRef}
use Rattle.cx_meaning.specs.declared.ports.PortRef.TheVariants as ports
use Rattle.cx_meaning.specs.declared.ports.PlacedPort.{PlacedPort}
use Rattle.cx_meaning.specs.Designs.{PlainCell, PlainComponent, PlainDesign, OfComponent, PlainForm, Enable, Timed, Placed, component_at, group_at}
use Rattle.cx_meaning.specs.Instances.{Instance, Cells, no_cells, a_primitive, an_instance, OfInstance, cell_at, cells_of, State, under, tree_within}
use Rattle.cx_meaning.specs.Active.{Active, capture, entries, only_at, group}
use Rattle.cx_meaning.specs.Sights.{Held, seen}
use Rattle.cx_meaning.specs.Cycles.{Fault, Next}
use Rattle.cx_meaning.specs.Answers.{Answer, End, More}
use Rattle.cx_meaning.specs.Answers as answers
use Rattle.cx_meaning.specs.Control.{Leaves, run}
use Rattle.cx_meaning.specs.Islands.{kind_length, turn_of}
use Rattle.cx_meaning.specs.Calls.{called, inputs_of_call}
use Rattle.cx_meaning.specs.Running.{Children}
use Rattle.cx_meaning.proofs.InstancesLemmas.{instance_is, row_instance, nothing_instance}
use Rattle.cx_rules.specs.Circles.{IsAcyclic}
use Rattle.cx_rules.specs.Invokes.{form_lasts, drives_all}
use Rattle.cx_rules.specs.Items.{Dynamic, Visited, visit, statements_in, test_in, is_comb}
use Rattle.cx_rules.specs.Ports.{component_of}
use Rattle.cx_rules.specs.Accepted.{IsAccepted}
use Rattle.cx_rules.specs.Wellformed.{IsDesign}
use Rattle.cx_rules.proofs.CircleLemmas.{within_acyclic, within_group}
use Rattle.cx_laws.proofs.VisitLemmas.{visited}
use Rattle.cx_frames.proofs.CircleFrames.{capture_acyclic}
use Rattle.cx_rewrites.specs.Tallies.{Tally, none, plus, below, Counted, Counting}
use Rattle.cx_rewrites.specs.Carrying.{Exact, Carried, Carries}
use Rattle.cx_rewrites.specs.Moving.{moved_form, moved_statement}
use Rattle.cx_rewrites.specs.Cells.{comes_to}
use Rattle.cx_flattening.specs.Events.{spot, Beginning}
use Rattle.cx_flattening.specs.Deeds.{History, no_history, deeds_in, own_entries}
use Rattle.cx_flattening.specs.Controlled.{AllControlled}
use Rattle.cx_flattening.specs.Lists.{island_events}
use Rattle.cx_flattening.specs.Seeing.{NoCircle}
use Rattle.cx_flattening.specs.Whole.{whole_cycle, whole_from, whole_island, call, call_or_turns, enable_kind, whole_leaves, whole_control, whole_below}
use Rattle.cx_flattening.proofs.Ruled.{AllRuled, AllRuledBelow}
use Rattle.cx_flattening.proofs.DeedSources.{island_does}
use Rattle.cx_flattening.proofs.DeedsOnce.{deeds_circle}
use Rattle.cx_flattening.proofs.WholeSteady.{whole_child}
use Rattle.cx_profiling.specs.Counters.{Counter, is_counted, counters, first_gained}
use Rattle.cx_profiling.specs.Counting.{once, made_with}
use Rattle.cx_profiling.specs.WholeCounting.{count_whole_island, count_whole_call_or_turns, count_whole_enable, whole_counting, count_whole_control, count_whole_below}
use Rattle.cx_profiling.specs.Growing.{Grown}
use Rattle.cx_profiling.specs.Instrumented.{is_reached, gained, moved_number, moved_in, with_counts}
use Rattle.cx_profiling.proofs.ListedCells.{at_component}
use Rattle.cx_profiling.proofs.PortLemmas.{IsInside, there_inside, moved-component}
use Rattle.cx_profiling.proofs.RoleLemmas.{Role, as_main, as_child, as_kept, role}
use Rattle.cx_profiling.proofs.GrownTrees.{InTree, in_reach, is_whole, child_in_tree, no_main_below}
use Rattle.cx_profiling.proofs.GrownCycles.{grown_kid}
use Rattle.cx_profiling.proofs.GroupLemmas.{counted_there}
use Rattle.cx_profiling.proofs.PairLemmas.{CellPair, row_pair, child_pair, pair_at}
use Rattle.cx_profiling.proofs.AcyclicLemmas.{ActsWithin, child_few, child_acyclic}
use Rattle.cx_profiling.proofs.EnabledLemmas.{Known, statement_known}
use Rattle.cx_profiling.proofs.ArmLemmas.{all_forms}
use Rattle.cx_profiling.proofs.ControlLemmas.{equal_carries, enabled_form}
use Rattle.cx_profiling.proofs.LeafLemmas.{turn_counts, group_within, capture_within, called_instance, rests, regrown, same_called, same_kind, same_captures, calls_uncounted, grown_same, put_grown, child_inside, found, test_leaf}
use Rattle.cx_profiling.proofs.InvokesMade.{form_lasts-moved}
use Rattle.cx_profiling.proofs.GrownEvents.{Begins, Follows, form_follows, control_follows, controlled_child}
use Rattle.cx_profiling.proofs.GrownWholes.{none_further}
use Rattle.cx_profiling.proofs.GrownIslands.{TwinKeeps, nothing_kept, still_cycle, from_grows, group_turns}
use Rattle.cx_profiling.proofs.WholeCarries.{WholeLeavesCarry, whole_carries}
use Rattle.cx_profiling.proofs.WholeCalls.{whole_call_grows}
use Rattle.cx_profiling.proofs.WholeArms.{timed_less, whole_arms_merge}

pub ruled_child : (cells : Cells) (c : ℕ) (child : Instance) → AllRuledBelow cells → cell_at cells c ≡ OfInstance child → AllRuled child
ruled_child no_cells c child h e = absurd (nothing_instance child e)
ruled_child (a_primitive row rest) zero child h e = absurd (row_instance row child e)
ruled_child (a_primitive row rest) (suc c) child h e = ruled_child rest c child h e
ruled_child (an_instance other rest) zero child h e = subst AllRuled (instance_is other child e) h.0
ruled_child (an_instance other rest) (suc c) child h e = ruled_child rest c child h.1 e

pub counts_child : (cells : Cells) (c : ℕ) (child : Instance) → cell_at cells c ≡ OfInstance child → (held : Held) (s : State) (n : ℕ) → count_whole_below cells c held s n ≡ count_whole_control child held s n
counts_child no_cells c child e held s n = absurd (nothing_instance child e)
counts_child (a_primitive row rest) zero child e held s n = absurd (row_instance row child e)
counts_child (a_primitive row rest) (suc c) child e held s n = counts_child rest c child e held s n
counts_child (an_instance x rest) zero child e held s n = ap (λ y. count_whole_control y held s n) (instance_is x child e)
counts_child (an_instance x rest) (suc c) child e held s n = counts_child rest c child e held s n

module _ (d : PlainDesign) (design : IsDesign d) (accepted : IsAccepted d) (grown_accepted : IsAccepted (with_counts d)) where
  -- the children of so many levels
  abbrev pub KidsRun : ℕ → Type 0
  KidsRun m = (e : ℕ) → InTree d m e → (e ≡ d.main → ⊥) → AllControlled (tree_within d m e) → AllRuled (tree_within d m e) → (held twin : Held) → ((n : ℕ) → n < length (component_at d e).inputs → twin n ≡ held n)
      → Carries Exact (Grown (tree_within d m e)) (λ f. f) (count_whole_control (tree_within d m e) held) (whole_control (tree_within d m e) held) (whole_control (tree_within (with_counts d) m e) twin)

  module _ (m k : ℕ) (at : InTree d (suc m) k) (controlled : AllControlled (tree_within d (suc m) k)) (rules : AllRuled (tree_within d (suc m) k))
      (entries_there : (act : Active) → ActsWithin (component_at d k) act → IsAcyclic (tree_within d (suc m) k) act → IsAcyclic (tree_within (with_counts d) (suc m) k) act)
      (further : (act : Active) → ActsWithin (component_at d k) act → IsAcyclic (tree_within (with_counts d) (suc m) k) act → (twin : Held) (t : State) (e : ℕ)
      → length (component_at d k).cells + 2 * length (counters (component_of d k)) ≤ e → e < length (component_at (with_counts d) k).cells
      → (after : CellState) × (comes_to (tree_within (with_counts d) (suc m) k) twin act t e ≡ Next after))
      (kids : KidsRun m) (held twin : Held) (same : (n : ℕ) → n < length (component_at d k).inputs → twin n ≡ held n) (K : State → Type 0) (keeps : TwinKeeps d m k twin K) where
    abbrev node : PlainComponent
    node = component_at d k

    abbrev other : PlainComponent
    other = component_at (with_counts d) k

    abbrev i : Instance
    i = tree_within d (suc m) k

    abbrev j : Instance
    j = tree_within (with_counts d) (suc m) k

    abbrev mv : PortRef → PortRef
    mv p = moved_in d node p

    -- what is kept of both states
    abbrev pub Both : Tally → State → State → Type 0
    Both τ s t = Grown i τ s t × K t

    abbrev L : Leaves State Fault
    L = whole_leaves i (whole_below (cells_of i)) held

    abbrev C : Counting State
    C = whole_counting i (count_whole_below (cells_of i)) held

    abbrev M : Leaves State Fault
    M = whole_leaves j (whole_below (cells_of j)) twin

    abbrev IsOurs : PlainForm → Type 0
    IsOurs form = (v : Visited) × In (statements_in node) v × (v.form ≡ form)

    abbrev IsKnown : ℕ → Type 0
    IsKnown g = Known node (statements_in node) g

    test_inside : (form : PlainForm) (p : PlacedPort) → IsOurs form → test_in form ≡ Some p → IsInside d node p.port
    test_inside form p (v, stands, is) e =
        there_inside d k at.within p.port (((design.components k at.within).statements v stands).test p (ap test_in is ∙ e))

    -- AN ISLAND, by what is visited
    of_visited : (v : Visited) → In (statements_in node) v → Carries Exact Both (λ f. f) (count_whole_island i held v.form) (whole_island i held v.form) (whole_island j twin (moved_form mv v.form))
    of_visited v stands τ s t n u room grown =
        subst (λ lasts. Carried Exact Both (λ f. f) τ (count_whole_island i held v.form s n) (whole_island i held v.form s n) (whole_from j twin (island_events j (moved_form mv v.form)) lasts 0 no_history t u))
        (sym (form_lasts-moved d design k at.within v.form))
        (from_grows d design accepted grown_accepted m k at entries_there further held twin same K keeps (island_events i v.form) (island_events j (moved_form mv v.form)) follows.is follows.known calm
        (form_lasts node v.form) 0 no_history no_history (λ x known c. refl) τ s t n u room grown)
      where
        inside : (w : Visited) → In (visit v.context (Placed v.form v.place)) w → In (statements_in node) w
        inside w (inl e) = subst (In (statements_in node)) e stands
        inside w (inr h) = visited Dynamic node.control v w stands (inr h)

        start : Beginning
        start = record { at = []; bound = spot []; from = 0; conditions = [] }

        begins : Begins d design accepted grown_accepted i i start (spot [])
        begins = record { stands = refl; conditions = λ x none. absurd none; seen_at = λ p here. (refl, (i, refl, here)) }

        follows : Follows d design accepted grown_accepted i (island_events j (moved_form mv v.form)) (island_events i v.form)
        follows =
            form_follows d design accepted grown_accepted i m k at controlled (λ e there differ. control_follows d design accepted grown_accepted i m e there differ) v.form
            (record { context = v.context; place = v.place; inside = inside }) start (spot []) begins

        calm : (h : History) (x : ℕ) → NoCircle i (entries (own_entries (deeds_in h x (island_events i v.form)))) (deeds_in h x (island_events i v.form))
        calm h x =
            deeds_circle i rules (within_acyclic d accepted (suc m) k) v.form (deeds_in h x (island_events i v.form))
            (island_does h x i v.form controlled (λ q listed. timed_less node v.context (Placed v.form v.place) (λ w w_in. all_forms d design accepted m k at w (inside w w_in)) q listed))
            (record { context = v.context; place = v.place; inside = inside })

    of_island : (form : PlainForm) → IsOurs form → Carries Exact Both (λ f. f) (count_whole_island i held form) (whole_island i held form) (whole_island j twin (moved_form mv form))
    of_island form (v, stands, is) = subst (λ f. Carries Exact Both (λ x. x) (count_whole_island i held f) (whole_island i held f) (whole_island j twin (moved_form mv f))) is (of_visited v stands)

    -- A CALL
    whole_call : (g c : ℕ) (kind : GroupKind) → g < length node.groups → (group_at node g).kind ≡ kind → kind_length kind ≡ None → called i g ≡ Some c
        → (cell : PlainCell) (e : ℕ) → slice_get node.cells c ≡ Some cell → cell.kind ≡ OfComponent e → (children others : Children) (counts : Held → Counted State)
        → ((own its : Held) → ((n : ℕ) → n < length (component_at d e).inputs → its n ≡ own n) → Carries Exact (Grown (tree_within d m e)) (λ f. f) (counts own) (children c own) (others c its))
        → Carries Exact Both (λ f. f) (λ s n. below c (counts (inputs_of_call i held g c s) (under c s) n)) (call i children held g c) (call j others twin g c)
    whole_call g c kind few is none calls cell e stands comp children others counts each =
        whole_call_grows Both (Grown (tree_within d m e)) i j held twin g c (length (component_at d e).inputs)
        (record {
          rests = λ τ s t r. (rests d design accepted grown_accepted m k at τ s t r.0, keeps.rest t r.1);
          inputs = λ input less τ s t grown.
              let before : suc input ≡ first_gained (component_at d e) → ⊥ = λ h. omega (arith, less, h) in
              let up_to : suc input ≤ first_gained (component_at d e) = omega (arith, less) in
              ap (seen j twin (group g) t) (sym (input_stays (suc input) before))
              ∙ found d design accepted grown_accepted m k at entries_there further held twin same (group g) (group_within node g few) (within_group d accepted (suc m) k g few) τ s t grown.0 (ports.Cell c (suc input))
              (child_inside d design accepted grown_accepted m k at c (suc input) cell e there stands comp up_to);
          begins = λ τ s t grown. grown_kid d design m k at τ s t grown.0 c (tree_within d m e) child_at_c;
          ends = λ τ counted s t own its grown inner. (put_grown d design accepted grown_accepted m k at c (tree_within d m e) child_at_c τ counted s t own its grown.0 inner, keeps.child c there its t grown.1);
          captured = same_captures d design accepted grown_accepted m k at g few uncounted;
          capture_cycle = λ capturing τ s t grown.
              turn_counts Both τ (made_with (capture g c)) (λ path h. 0) (turn_of (whole_cycle i held (capture g c) [] s)) (turn_of (whole_cycle j twin (capture g c) [] t))
              (λ a b after. (regrown d design accepted grown_accepted m k at (plus τ (made_with (capture g c))) (plus τ (λ path h. 0)) a b (λ x own. not_made τ x own) (λ f path h. refl) after.0, after.1))
              (still_cycle d design accepted grown_accepted m k at entries_there further held twin same K keeps (capture g c) (capture_within node g c few) (capture_acyclic i g c (within_group d accepted (suc m) k g few)) τ s t grown);
        })
        children others counts each
      where
        child_at_c : cell_at (cells_of i) c ≡ OfInstance (tree_within d m e)
        child_at_c = at_component (tree_within d m) node.cells c cell e stands comp

        there : c < length node.cells
        there = child_few (tree_within d m) node.cells c (tree_within d m e) child_at_c

        uncounted : is_counted (cells_of (component_of d k)) (group_at node g) ≡ false
        uncounted = calls_uncounted d design accepted grown_accepted m k at g c kind is none calls

        input_stays : (p : ℕ) → (p ≡ first_gained (component_at d e) → ⊥) → mv (ports.Cell c p) ≡ ports.Cell c p
        input_stays p differ =
            ap (ports.Cell c) (ap (λ o. moved_number d o p) stands ∙ moved-component d cell e p comp ∙ grown_same d design accepted grown_accepted m k at (first_gained (component_at d e)) (gained d e) p differ)

        both : (b : Bool) → b ≡ true → b ≡ false → ⊥
        both true f h = absurd (cc)
        both false f h = absurd (cc)

        not_made : (τ : Tally) (x : Counter) → In (counters i) x → τ [] x.group + once (only_at g x.group) ≡ τ [] x.group + 0
        not_made τ x own =
            let known = counted_there d k at.within (in_reach d at) x (subst (λ tree. In (counters tree) x) (is_whole d at) own) in
            ap (λ b. τ [] x.group + once (if b then Some 0 else None))
            (ne_eqb g x.group (λ h. both (is_counted (cells_of (component_of d k)) (group_at node x.group)) known.1 (ap (λ y. is_counted (cells_of (component_of d k)) (group_at node y)) (sym h) ∙ uncounted)))

    of_call : (g : ℕ) (kind : GroupKind) → g < length node.groups → (group_at node g).kind ≡ kind → kind_length kind ≡ None → (o : Option ℕ) → called i g ≡ o
        → Carries Exact Both (λ f. f) (count_whole_call_or_turns i (count_whole_below (cells_of i)) held g o) (call_or_turns i (whole_below (cells_of i)) held g o) (call_or_turns j (whole_below (cells_of j)) twin g o)
    of_call g kind few is dynamic None calls = group_turns d design accepted grown_accepted m k at entries_there further held twin same K keeps g few
    of_call g kind few is dynamic (Some c) calls = by (pair_at d design m k at.within c here)
      where
        child : (x : Instance) × (cell_at (cells_of i) c ≡ OfInstance x)
        child = called_instance (cells_of i) (group_at node g).assigns c calls

        here : c < length node.cells
        here = child_few (tree_within d m) node.cells c child.0 child.1

        by : CellPair d design m k at.within c
            → Carries Exact Both (λ f. f) (count_whole_call_or_turns i (count_whole_below (cells_of i)) held g (Some c)) (call_or_turns i (whole_below (cells_of i)) held g (Some c)) (call_or_turns j (whole_below (cells_of j)) twin g (Some c))
        by (row_pair row first second moved) = absurd (row_instance row child.0 (sym first ∙ child.1))
        by (child_pair cell e stands comp below_it first second moved) =
            whole_call g c kind few is dynamic calls cell e stands comp (whole_below (cells_of i)) (whole_below (cells_of j)) (λ own. count_whole_below (cells_of i) c own)
            (λ own its alike.
            equal_carries (Grown (tree_within d m e)) (count_whole_control (tree_within d m e) own) (count_whole_below (cells_of i) c own) (whole_control (tree_within d m e) own) (whole_below (cells_of i) c own)
            (whole_control (tree_within (with_counts d) m e) its) (whole_below (cells_of j) c its)
            (λ s n. counts_child (cells_of i) c (tree_within d m e) first own s n) (λ s n. whole_child (cells_of i) c (tree_within d m e) first own s n)
            (λ s n. whole_child (cells_of j) c (tree_within (with_counts d) m e) second its s n)
            (kids e (child_in_tree d design at cell e (in_at node.cells c cell stands) comp) (no_main_below d design at cell e (in_at node.cells c cell stands) comp)
            (controlled_child (cells_of i) c (tree_within d m e) controlled.1 first) (ruled_child (cells_of i) c (tree_within d m e) rules.1 first) own its alike))

    of_kind : (g : ℕ) (kind : GroupKind) → IsKnown g → (group_at node g).kind ≡ kind
        → Carries Exact Both (λ f. f) (count_whole_enable i (count_whole_below (cells_of i)) held g kind) (enable_kind i (whole_below (cells_of i)) held g kind) (enable_kind j (whole_below (cells_of j)) twin g kind)
    of_kind g kinds.Plain known is =
        subst (λ o. Carries Exact Both (λ f. f) (count_whole_call_or_turns i (count_whole_below (cells_of i)) held g (called i g)) (call_or_turns i (whole_below (cells_of i)) held g (called i g)) (call_or_turns j (whole_below (cells_of j)) twin g o))
        (sym (same_called d design accepted grown_accepted m k at g known.there)) (of_call g kinds.Plain known.there is refl (called i g) refl)
    of_kind g kinds.Comb known is =
        subst (λ o. Carries Exact Both (λ f. f) (count_whole_call_or_turns i (count_whole_below (cells_of i)) held g (called i g)) (call_or_turns i (whole_below (cells_of i)) held g (called i g)) (call_or_turns j (whole_below (cells_of j)) twin g o))
        (sym (same_called d design accepted grown_accepted m k at g known.there)) (of_call g kinds.Comb known.there is refl (called i g) refl)
    of_kind g (kinds.Timed length) known is =
        let plain : is_comb (group_at node g).kind ≡ false = ap is_comb is in
        let r = known.enabled plain in
        of_island (Enable g) (r.0, r.1, enabled_form r.0.form g r.2)

    leaves_carry : WholeLeavesCarry Exact Both (λ f. f) L C M mv IsKnown IsOurs
    leaves_carry = record {
      rests = λ τ s t r. (rests d design accepted grown_accepted m k at τ s t r.0, keeps.rest t r.1);
      merges = λ done arm later ours τ s n a b x y t v ran all h l. (
        whole_arms_merge d design accepted m k at controlled (whole_below (cells_of i)) (count_whole_below (cells_of i)) held ours.0 ours.1 done arm later ours.2 (whole_below (cells_of j)) twin τ s n a b x y t v ran all h.0 l.0,
        keeps.merged (drives_all other (moved_statement mv arm)) x y h.1 l.1,
      );
      enable = λ g known.
          subst (λ kind. Carries Exact Both (λ f. f) (C.enable g) (L.enable g) (enable_kind j (whole_below (cells_of j)) twin g kind)) (sym (same_kind d design accepted grown_accepted m k at g known.there))
          (of_kind g (group_at node g).kind known refl);
      test = λ form p comb is ours there τ s t grown.
          test_leaf d design accepted grown_accepted m k at entries_there further held twin same p.port comb (test_inside form p ours is) (λ g e. (there g e).there) τ s t grown.0;
      island = λ context form ours holds. of_island form ours;
      timed = λ x ours. of_island (Timed x) ours;
    }

    -- THE CONTROL
    pub whole_control_carries : Carries Exact Both (λ f. f) (count_whole_control i held) (whole_control i held) (run M (moved_statement mv node.control))
    whole_control_carries =
        whole_carries Exact Both (λ f. f) L C M mv IsKnown IsOurs leaves_carry Dynamic node.control
        (record { groups = λ g inside. statement_known node Dynamic Dynamic node.control g (all_forms d design accepted m k at) inside; forms = λ v inside. (v, inside, refl) })

  -- OF A CHILD
  pub whole_kids : (m : ℕ) → KidsRun m
  whole_kids zero e at differ controlled rules held twin same = absurd at.deep_enough
  whole_kids (suc m) e at differ controlled rules held twin same = by (whole_kids m) (role d e at.within)
    where
      both : (b : Bool) → b ≡ true → b ≡ false → ⊥
      both true f g = absurd (cc)
      both false f g = absurd (cc)

      forget : (τ one : Tally) (o x : Answer State Fault) → Carried Exact (λ σ s t. Grown (tree_within d (suc m) e) σ s t × Unit {0}) (λ f. f) τ one o x → Carried Exact (Grown (tree_within d (suc m) e)) (λ f. f) τ one o x
      forget τ one (End s t) x (z, u, ends, same_turn, r) = (z, u, ends, same_turn, r.0)
      forget τ one (answers.Fault f t) x h = h
      forget τ one More x h = h

      by : KidsRun m → Role d e
          → Carries Exact (Grown (tree_within d (suc m) e)) (λ f. f) (count_whole_control (tree_within d (suc m) e) held) (whole_control (tree_within d (suc m) e) held) (whole_control (tree_within (with_counts d) (suc m) e) twin)
      by kids (as_main names main is) = absurd (differ main)
      by kids (as_kept main r is) = absurd (both (is_reached d e) (in_reach d at) r)
      by kids (as_child names main r is) =
          subst (λ statement. Carries Exact (Grown (tree_within d (suc m) e)) (λ f. f) (count_whole_control (tree_within d (suc m) e) held) (whole_control (tree_within d (suc m) e) held)
          (run (whole_leaves (tree_within (with_counts d) (suc m) e) (whole_below (cells_of (tree_within (with_counts d) (suc m) e))) twin) statement)) (sym (ap (λ (x : PlainComponent). x.control) is))
          (λ τ s t n u room grown.
          forget τ (count_whole_control (tree_within d (suc m) e) held s n) (whole_control (tree_within d (suc m) e) held s n)
          (run (whole_leaves (tree_within (with_counts d) (suc m) e) (whole_below (cells_of (tree_within (with_counts d) (suc m) e))) twin) (moved_statement (λ p. moved_in d (component_at d e) p) (component_at d e).control) t u)
          (whole_control_carries m e at controlled rules (λ act acts acyclic. child_acyclic d design m e at act names is acyclic) (none_further d design accepted grown_accepted m e names is) kids held twin same
          (λ z. Unit {0}) (nothing_kept d m e twin) τ s t n u room (grown, tt)))
