-- THE LIST OF AN ISLAND of the shared instance is that of the instance by the new numbers.
use Rattle.std.proofs.Common.{◌≡◌, ℕ, zero, suc, ◌+◌, ◌<◌, inl, Bool, true, false, List, [], ◌∷◌, ◌++◌, length, map, get_or, Option, Some, None, refl, sym, ap, ap₂, ◌∙◌, subst, arith}
use Rattle.std.proofs.lemmas.List.{map-append}
use Rattle.cx_text.proofs.MemberLaws.{in_left, in_right}
use Rattle.cx_text.specs.Members.{In}
use Rattle.cx_meaning.specs.declared.ports.PortRef.{PortRef}
use Rattle.cx_meaning.specs.declared.ports.PortRef.TheVariants as ports
use Rattle.cx_meaning.specs.Designs.{PlainAssign, PlainInvoke, PlainComponent, PlainForm, Empty, Enable, Seq, Par, If, While, Repeat, StaticSeq, StaticPar, StaticIf, StaticRepeat, Timed, PlainStatement, Placed, PlainStatements, no_statements, a_statement}
use Rattle.cx_meaning.specs.Instances.{Instance, Node, Cells, OfInstance, part_of, cells_of, cell_at, instance_at, Path}
use Rattle.cx_meaning.specs.Islands.{group_length, or_zero}
use Rattle.cx_rules.specs.Invokes.{invoke_length, lasts}
use Rattle.cx_rewrites.specs.Moving.{moved_assign, moved_form, moved_statement, moved_statements}
use Rattle.cx_rewrites.specs.Renaming.{renamed}
use Rattle.cx_rewrites.specs.Standing.{renumbered}
use Rattle.cx_rewrites.proofs.MovedInvokes.{lasts-moved}
use Rattle.cx_flattening.specs.Events.{no_invoke, the_invoke, Spot, spot, Event, Feeds, Looks, Beginning, Events, later_by, also_if, group_events, capture_events, rounds_events, source_to, bound_below, invoke_events, form_events, events, seq_events, par_events, control_events, events_below}
use Rattle.cx_flattening.specs.Controlled.{timed_in, timed_of, timed_all, IsInvoked, IsControlled, AllControlled, AllControlledBelow}
use Rattle.cx_flattening.proofs.Windows.{events-child}
use Rattle.cx_sharing.specs.Giving.{new_cell}
use Rattle.cx_sharing.specs.SharedDesign.{shared_invoke}
use Rattle.cx_sharing.specs.Uses.{is_candidate}
use Rattle.cx_sharing.proofs.TwinLemmas.{IsTwin, child_twin, part_other}
use Rattle.cx_sharing.proofs.TwinStates.{path_of, child_renumbered, child_is}
use Rattle.cx_sharing.proofs.SharedParts.{of_invokes}
use Rattle.cx_sharing.proofs.SharedSights.{shares_of}
use Rattle.cx_sharing.proofs.SharedGroups.{length_shared}
use Rattle.cx_sharing.proofs.WholeTwins.{Twins, twins, Remain, none_left, a_row_stays, a_row_goes, a_child}
use Rattle.cx_sharing.proofs.WholeMoved.{moved_spot, moved_sample, moved_event, source_to-moved}

-- an instance stands at a path
abbrev pub StandsAt : Instance → Path → Instance → Type 0
StandsAt root [] i = root ≡ i
StandsAt root (c ∷ at) i = (child : Instance) × (cell_at (cells_of root) c ≡ OfInstance child) × StandsAt child at i

root_number : (i : Instance) → renumbered new_cell i [] ≡ []
root_number (Node part cells) = refl

root_is : (i : Instance) → instance_at i [] ≡ i
root_is (Node part cells) = refl

pub stands_is : (root : Instance) (at : Path) (i : Instance) → StandsAt root at i → instance_at root at ≡ i
stands_is root [] i same = root_is root ∙ same
stands_is (Node part cells) (c ∷ at) i (child, here, rest) = child_is cells c child at here ∙ stands_is child at i rest

stands_below : (root : Instance) (at : Path) (i : Instance) (c : ℕ) (child : Instance) → StandsAt root at i → cell_at (cells_of i) c ≡ OfInstance child → StandsAt root (at ++ (c ∷ [])) child
stands_below root [] i c child same e = (child, ap (λ x. cell_at (cells_of x) c) same ∙ e, refl)
stands_below root (x ∷ at) i c child (next, here, rest) e = (next, here, stands_below next at i c child rest e)

number_below : (root : Instance) (at : Path) (i : Instance) (c : ℕ) (child : Instance) → StandsAt root at i → cell_at (cells_of i) c ≡ OfInstance child
    → renumbered new_cell root (at ++ (c ∷ [])) ≡ renumbered new_cell root at ++ (new_cell (part_of i) c ∷ [])
number_below root [] i c child same e =
    ap (λ x. renumbered new_cell x (c ∷ [])) same
    ∙ path_of i c []
    ∙ ap (λ rest. new_cell (part_of i) c ∷ rest) (child_renumbered (cells_of i) c child [] e ∙ root_number child)
    ∙ ap (λ front. front ++ (new_cell (part_of i) c ∷ [])) (sym (root_number root))
number_below (Node part cells) (x ∷ at) i c child (next, here, rest) e =
    ap (λ path. new_cell part x ∷ path)
    (child_renumbered cells x next (at ++ (c ∷ [])) here ∙ number_below next at i c child rest e ∙ ap (λ front. front ++ (new_cell (part_of i) c ∷ [])) (sym (child_renumbered cells x next at here)))

-- a static invoke that is there
shared_at : (f : PlainInvoke → PlainInvoke) (list : List PlainInvoke) (k : ℕ) → k < length list → get_or (map f list) k no_invoke ≡ f (get_or list k no_invoke)
shared_at f [] k less = absurd (omega (arith, less))
shared_at f (v ∷ vs) zero less = refl
shared_at f (v ∷ vs) (suc k) less = shared_at f vs k (omega (arith, less))

module _ (root : Instance) where
  -- by other bounds, at the new path
  abbrev pub begun : Beginning → (PortRef → Spot) → Beginning
  begun b bound = record { at = renumbered new_cell root b.at; bound = bound; from = b.from; conditions = map (moved_sample root) b.conditions }

  pub record Begins (i : Instance) (b : Beginning) (bound : PortRef → Spot) : Type 0 where
    pub stands : StandsAt root b.at i
    pub seen_at : (p : PortRef) → bound (renamed (new_cell (part_of i)) p) ≡ moved_spot root (b.bound p)

  -- THE LIST of the control
  abbrev pub ControlFollows : Instance → Instance → Type 0
  ControlFollows i j = (b : Beginning) (bound : PortRef → Spot) → Begins i b bound → control_events j (begun b bound) ≡ map (moved_event root) (control_events i b)

  -- of a child at a cell, and of the one at its number
  pub record ChildFollows (i j : Instance) (c : ℕ) (child : Instance) : Type 0 where
    pub twin : Instance
    pub there : cell_at (cells_of j) (new_cell (part_of i) c) ≡ OfInstance twin
    pub list : ControlFollows child twin

  module _ (i j : Instance) (both : IsTwin i j) (controlled : IsControlled i) (kids : (c : ℕ) (child : Instance) → cell_at (cells_of i) c ≡ OfInstance child → ChildFollows i j c child) where
    abbrev part : PlainComponent
    part = part_of i

    abbrev other : PlainComponent
    other = part_of j

    abbrev new : ℕ → ℕ
    new = new_cell (part_of i)

    abbrev mv : PortRef → PortRef
    mv = renamed (new_cell (part_of i))

    abbrev old_list : PlainForm → Beginning → List Event
    old_list form b = form_events part (events_below (cells_of i)) form b

    abbrev new_list : PlainForm → Beginning → List Event
    new_list form b = form_events other (events_below (cells_of j)) form b

    lasts_same : (s : PlainStatement) → lasts other (moved_statement mv s) ≡ lasts part s
    lasts_same s = lasts-moved mv part other (length_shared i j both) (of_invokes (shares_of both) invoke_length (λ v. refl)) s

    invoke_is : (k : ℕ) → k < length part.invokes → the_invoke other k ≡ shared_invoke new (the_invoke part k)
    invoke_is k less = ap (λ (x : PlainComponent). get_or x.invokes k no_invoke) both.part ∙ shared_at (shared_invoke new) part.invokes k less

    lists_both : (xs zs ys ws : List Event) → ys ≡ map (moved_event root) xs → ws ≡ map (moved_event root) zs → ys ++ ws ≡ map (moved_event root) (xs ++ zs)
    lists_both xs zs ys ws e f = ap (λ l. l ++ ws) e ∙ ap (λ l. map (moved_event root) xs ++ l) f ∙ sym (map-append (moved_event root) xs zs)

    later_begins : (n : ℕ) (b : Beginning) (bound : PortRef → Spot) → Begins i b bound → Begins i (later_by n b) bound
    later_begins n b bound begins = record { stands = begins.stands; seen_at = begins.seen_at }

    group_follows : (g : ℕ) (o : Option ℕ) (b : Beginning) (bound : PortRef → Spot) → group_events g o (begun b bound) ≡ map (moved_event root) (group_events g o b)
    group_follows g None b bound = refl
    group_follows g (Some n) b bound = refl

    capture_follows : (o : Option ℕ) (b : Beginning) (bound : PortRef → Spot) → capture_events o (begun b bound) ≡ map (moved_event root) (capture_events o b)
    capture_follows None b bound = refl
    capture_follows (Some g) b bound = refl

    -- AN INVOKE
    module _ (v : PlainInvoke) (its : IsInvoked i v) (b : Beginning) (bound : PortRef → Spot) (begins : Begins i b bound) where
      no_candidate : is_candidate part v.cell ≡ false
      no_candidate = let r = child_twin its.child (both.cells v.cell) its.stands in part_other part v.cell r.0 r.2

      abbrev inputs : List PlainAssign
      inputs = map (moved_assign mv) v.inputs

      abbrev start : Beginning
      start = record { at = b.at ++ (v.cell ∷ []); bound = bound_below b.bound b.at v.cell v.inputs; from = b.from; conditions = b.conditions }

      abbrev inner_bound : PortRef → Spot
      inner_bound = bound_below bound (renumbered new_cell root b.at) (new v.cell) inputs

      path_is : renumbered new_cell root (b.at ++ (v.cell ∷ [])) ≡ renumbered new_cell root b.at ++ (new v.cell ∷ [])
      path_is = number_below root b.at i v.cell its.child begins.stands its.stands

      child_stands : StandsAt root (b.at ++ (v.cell ∷ [])) its.child
      child_stands = stands_below root b.at i v.cell its.child begins.stands its.stands

      own_port : (p : PortRef) → spot (renumbered new_cell root b.at ++ (new v.cell ∷ [])) (renamed (new_cell (part_of its.child)) p) ≡ moved_spot root (spot (b.at ++ (v.cell ∷ [])) p)
      own_port p =
          ap (λ path. spot path (renamed (new_cell (part_of its.child)) p)) (sym path_is)
          ∙ ap (λ x. spot (renumbered new_cell root (b.at ++ (v.cell ∷ []))) (renamed (new_cell (part_of x)) p)) (sym (stands_is root (b.at ++ (v.cell ∷ [])) its.child child_stands))

      inner_seen : (p : PortRef) → inner_bound (renamed (new_cell (part_of its.child)) p) ≡ moved_spot root (bound_below b.bound b.at v.cell v.inputs p)
      inner_seen (ports.Cell c p) = own_port (ports.Cell c p)
      inner_seen (ports.Input n) = ap bound (source_to-moved part (cells_of i) v.cell no_candidate v.inputs n) ∙ begins.seen_at (source_to v.cell v.inputs n)
      inner_seen (ports.Output n) = own_port (ports.Output n)
      inner_seen (ports.Done g) = own_port (ports.Done g)
      inner_seen (ports.Literal w x) = own_port (ports.Literal w x)

      inner_begins : Begins its.child start inner_bound
      inner_begins = record { stands = child_stands; seen_at = inner_seen }

      inner_follows : events_below (cells_of j) (new v.cell) (record { at = renumbered new_cell root b.at ++ (new v.cell ∷ []); bound = inner_bound; from = b.from; conditions = map (moved_sample root) b.conditions })
          ≡ map (moved_event root) (events_below (cells_of i) v.cell start)
      inner_follows =
          let kid = kids v.cell its.child its.stands in
          ap (λ path. events_below (cells_of j) (new v.cell) (record { at = path; bound = inner_bound; from = b.from; conditions = map (moved_sample root) b.conditions })) (sym path_is)
          ∙ events-child (cells_of j) (new v.cell) kid.twin (begun start inner_bound) kid.there
          ∙ kid.list start inner_bound inner_begins
          ∙ ap (map (moved_event root)) (sym (events-child (cells_of i) v.cell its.child start its.stands))

      feeds : Feeds (renumbered new_cell root b.at) (new v.cell) inputs b.from (b.from + or_zero v.latency) (map (moved_sample root) b.conditions)
          ≡ moved_event root (Feeds b.at v.cell v.inputs b.from (b.from + or_zero v.latency) b.conditions)
      feeds =
          ap (λ x. Feeds (renumbered new_cell root b.at) (new_cell (part_of x) v.cell) (map (moved_assign (renamed (new_cell (part_of x)))) v.inputs) b.from (b.from + or_zero v.latency) (map (moved_sample root) b.conditions))
          (sym (stands_is root b.at i begins.stands))

      pub invoke_follows : invoke_events (events_below (cells_of j)) (shared_invoke new v) (begun b bound) ≡ map (moved_event root) (invoke_events (events_below (cells_of i)) v b)
      invoke_follows =
          ap₂ ◌∷◌ feeds
          (lists_both (events_below (cells_of i) v.cell start) (capture_events v.captures (later_by (or_zero v.latency) b))
          (events_below (cells_of j) (new v.cell) (record { at = renumbered new_cell root b.at ++ (new v.cell ∷ []); bound = inner_bound; from = b.from; conditions = map (moved_sample root) b.conditions }))
          (capture_events v.captures (later_by (or_zero v.latency) (begun b bound)))
          inner_follows (capture_follows v.captures (later_by (or_zero v.latency) b) bound))

    rounds_follow : (body others : Events) (n : ℕ) → ((b : Beginning) (bound : PortRef → Spot) → Begins i b bound → others (begun b bound) ≡ map (moved_event root) (body b)) → (count : ℕ) (b : Beginning) (bound : PortRef → Spot) → Begins i b bound
        → rounds_events others n count (begun b bound) ≡ map (moved_event root) (rounds_events body n count b)
    rounds_follow body others n each zero b bound begins = refl
    rounds_follow body others n each (suc count) b bound begins =
        lists_both (body b) (rounds_events body n count (later_by n b)) (others (begun b bound)) (rounds_events others n count (later_by n (begun b bound))) (each b bound begins)
        (rounds_follow body others n each count (later_by n b) bound (later_begins n b bound begins))

    abbrev AllThere : List ℕ → Type 0
    AllThere list = (k : ℕ) → In list k → k < length part.invokes

    branch_is : (p : PortRef) (wanted : Bool) (b : Beginning) (bound : PortRef → Spot) → Begins i b bound → also_if (bound (mv p)) wanted (begun b bound) ≡ begun (also_if (b.bound p) wanted b) bound
    branch_is p wanted b bound begins = ap (λ x. also_if x wanted (begun b bound)) (begins.seen_at p)

    branch_begins : (p : PortRef) (wanted : Bool) (b : Beginning) (bound : PortRef → Spot) → Begins i b bound → Begins i (also_if (b.bound p) wanted b) bound
    branch_begins p wanted b bound begins = record { stands = begins.stands; seen_at = begins.seen_at }

    mutual
      pub form_follows : (form : PlainForm) → AllThere (timed_in form) → (b : Beginning) (bound : PortRef → Spot) → Begins i b bound → new_list (moved_form mv form) (begun b bound) ≡ map (moved_event root) (old_list form b)
      form_follows Empty there b bound begins = refl
      form_follows (Enable g) there b bound begins = ap (λ o. group_events g o (begun b bound)) (length_shared i j both g) ∙ group_follows g (group_length part g) b bound
      form_follows (Seq parts) there b bound begins = refl
      form_follows (Par arms) there b bound begins = refl
      form_follows (If test comb x y) there b bound begins = refl
      form_follows (While test comb x) there b bound begins = refl
      form_follows (Repeat count x) there b bound begins = refl
      form_follows (StaticSeq written ss) there b bound begins = seq_follows ss there b bound begins
      form_follows (StaticPar written ss) there b bound begins = par_follows ss there b bound begins
      form_follows (StaticIf written test x y) there b bound begins =
          ap₂ ◌∷◌ (ap (λ q. Looks q b.from (map (moved_sample root) b.conditions)) (begins.seen_at test.port))
          (lists_both (events part (events_below (cells_of i)) x (also_if (b.bound test.port) true b)) (events part (events_below (cells_of i)) y (also_if (b.bound test.port) false b))
          (events other (events_below (cells_of j)) (moved_statement mv x) (also_if (bound (mv test.port)) true (begun b bound))) (events other (events_below (cells_of j)) (moved_statement mv y) (also_if (bound (mv test.port)) false (begun b bound)))
          (ap (events other (events_below (cells_of j)) (moved_statement mv x)) (branch_is test.port true b bound begins)
          ∙ statement_follows x (λ k m. there k (in_left (timed_of x) (timed_of y) k m)) (also_if (b.bound test.port) true b) bound (branch_begins test.port true b bound begins))
          (ap (events other (events_below (cells_of j)) (moved_statement mv y)) (branch_is test.port false b bound begins)
          ∙ statement_follows y (λ k m. there k (in_right (timed_of x) (timed_of y) k m)) (also_if (b.bound test.port) false b) bound (branch_begins test.port false b bound begins)))
      form_follows (StaticRepeat written count x) there b bound begins =
          ap (λ n. rounds_events (events other (events_below (cells_of j)) (moved_statement mv x)) n count (begun b bound)) (lasts_same x)
          ∙ rounds_follow (events part (events_below (cells_of i)) x) (events other (events_below (cells_of j)) (moved_statement mv x)) (lasts part x) (λ c o r. statement_follows x there c o r) count b bound begins
      form_follows (Timed k) there b bound begins =
          ap (λ v. invoke_events (events_below (cells_of j)) v (begun b bound)) (invoke_is k (there k (inl refl)))
          ∙ invoke_follows (the_invoke part k) (controlled.invokes k (there k (inl refl))) b bound begins

      pub statement_follows : (s : PlainStatement) → AllThere (timed_of s) → (b : Beginning) (bound : PortRef → Spot) → Begins i b bound
          → events other (events_below (cells_of j)) (moved_statement mv s) (begun b bound) ≡ map (moved_event root) (events part (events_below (cells_of i)) s b)
      statement_follows (Placed form place) there b bound begins = form_follows form there b bound begins

      seq_follows : (ss : PlainStatements) → AllThere (timed_all ss) → (b : Beginning) (bound : PortRef → Spot) → Begins i b bound
          → seq_events other (events_below (cells_of j)) (moved_statements mv ss) (begun b bound) ≡ map (moved_event root) (seq_events part (events_below (cells_of i)) ss b)
      seq_follows no_statements there b bound begins = refl
      seq_follows (a_statement s ss) there b bound begins =
          lists_both (events part (events_below (cells_of i)) s b) (seq_events part (events_below (cells_of i)) ss (later_by (lasts part s) b))
          (events other (events_below (cells_of j)) (moved_statement mv s) (begun b bound)) (seq_events other (events_below (cells_of j)) (moved_statements mv ss) (later_by (lasts other (moved_statement mv s)) (begun b bound)))
          (statement_follows s (λ k m. there k (in_left (timed_of s) (timed_all ss) k m)) b bound begins)
          (ap (λ n. seq_events other (events_below (cells_of j)) (moved_statements mv ss) (later_by n (begun b bound))) (lasts_same s)
          ∙ seq_follows ss (λ k m. there k (in_right (timed_of s) (timed_all ss) k m)) (later_by (lasts part s) b) bound (later_begins (lasts part s) b bound begins))

      par_follows : (ss : PlainStatements) → AllThere (timed_all ss) → (b : Beginning) (bound : PortRef → Spot) → Begins i b bound
          → par_events other (events_below (cells_of j)) (moved_statements mv ss) (begun b bound) ≡ map (moved_event root) (par_events part (events_below (cells_of i)) ss b)
      par_follows no_statements there b bound begins = refl
      par_follows (a_statement s ss) there b bound begins =
          lists_both (events part (events_below (cells_of i)) s b) (par_events part (events_below (cells_of i)) ss b)
          (events other (events_below (cells_of j)) (moved_statement mv s) (begun b bound)) (par_events other (events_below (cells_of j)) (moved_statements mv ss) (begun b bound))
          (statement_follows s (λ k m. there k (in_left (timed_of s) (timed_all ss) k m)) b bound begins)
          (par_follows ss (λ k m. there k (in_right (timed_of s) (timed_all ss) k m)) b bound begins)

    -- of the control itself
    control_is : (x : Instance) (b : Beginning) → control_events x b ≡ events (part_of x) (events_below (cells_of x)) (part_of x).control b
    control_is (Node p cells) b = refl

    pub own_control : ControlFollows i j
    own_control b bound begins =
        control_is j (begun b bound)
        ∙ ap (λ (x : PlainComponent). events other (events_below (cells_of j)) x.control (begun b bound)) both.part
        ∙ statement_follows part.control controlled.timed b bound begins
        ∙ ap (map (moved_event root)) (sym (control_is i b))

  one_further : (i j : Instance) (first n : ℕ) (child : Instance) → ChildFollows i j (suc first + n) child → ChildFollows i j (first + suc n) child
  one_further i j first n child h = let next : suc first + n ≡ first + suc n = omega arith in subst (λ k. ChildFollows i j k child) next h

  this_one : (i j : Instance) (first : ℕ) (one twin child : Instance) → OfInstance one ≡ OfInstance child → cell_at (cells_of j) (new_cell (part_of i) first) ≡ OfInstance twin → ControlFollows one twin → ChildFollows i j (first + 0) child
  this_one i j first one twin child e there list =
      let same : one ≡ child = cc in
      let start : first ≡ first + 0 = omega arith in
      subst (λ k. ChildFollows i j k child) start (record { twin = twin; there = there; list = subst (λ x. ControlFollows x twin) same list })

  -- EVERY CHILD follows
  mutual
    pub control_follows : {i j : Instance} → Twins i j → AllControlled i → ControlFollows i j
    control_follows (twins {part} {other} {cells} {kin} twin fit invoked remain) controlled =
        own_control (Node part cells) (Node other kin) twin controlled.0
        (λ c child at. let start : c ≡ 0 + c = omega arith in subst (λ n. ChildFollows (Node part cells) (Node other kin) n child) (sym start) (children_follow remain controlled.1 c child at))

    children_follow : {i j : Instance} {first : ℕ} {list left : Cells} → Remain i j first list left → AllControlledBelow list → (n : ℕ) (child : Instance) → cell_at list n ≡ OfInstance child → ChildFollows i j (first + n) child
    children_follow none_left controlled n child e = absurd (cc)
    children_follow (a_row_stays row twin on rest) controlled zero child e = absurd (cc)
    children_follow {i} {j} {first} (a_row_stays row twin on rest) controlled (suc n) child e = one_further i j first n child (children_follow rest controlled n child e)
    children_follow (a_row_goes row off rest) controlled zero child e = absurd (cc)
    children_follow {i} {j} {first} (a_row_goes row off rest) controlled (suc n) child e = one_further i j first n child (children_follow rest controlled n child e)
    children_follow {i} {j} {first} (a_child one twin here there lone both rest) controlled zero child e = this_one i j first one twin child e there (control_follows both controlled.0)
    children_follow {i} {j} {first} (a_child one twin here there lone both rest) controlled (suc n) child e = one_further i j first n child (children_follow rest controlled.1 n child e)

  pub children_there : {i j : Instance} → Twins i j → AllControlled i → (c : ℕ) (child : Instance) → cell_at (cells_of i) c ≡ OfInstance child → ChildFollows i j c child
  children_there (twins {part} {other} {cells} {kin} twin fit invoked remain) controlled c child at =
      let start : c ≡ 0 + c = omega arith in subst (λ n. ChildFollows (Node part cells) (Node other kin) n child) (sym start) (children_follow remain controlled.1 c child at)
