-- An input depends on an output or the done of its cell exactly where a way leads from its node to one of theirs.
use Rattle.std.proofs.Common.{◌≡◌, ◌+◌, ◌-◌, ◌<◌, ◌≤◌, ℕ, zero, suc, Bool, true, false, cond, nat_eq, nat_lt, add-one, map, filter, take, List, [], ◌∷◌, ◌++◌, Option, Some, None, length, get_or, ◌⊎◌, inl, inr, ⊎_elim, refl, sym, ap, ◌∙◌, subst, arith, tests, true≢false}
use Rattle.std.specs.Prelude.{◌↔◌, IsTrue}
use denote.Struct.Props.{props}
use Rattle.std.proofs.Math.Logic.{∥∥₁_elim}
use Rattle.std.proofs.Math.Seq.{take-suc}
use Rattle.std.proofs.lemmas.List.{map-append}
use Rattle.cx_text.proofs.MemberLaws.{in_left, in_right}
use Rattle.cx_text.specs.Members.{In}
use Rattle.cx_graphs.specs.Graphs as graphs
use Rattle.cx_graphs.specs.Graphs.{Edges, targets_of}
use Rattle.cx_graphs.specs.Ways.{Targets, Way, LeadsWithin, both}
use Rattle.cx_graphs.specs.Reach.{Reaches}
use Rattle.cx_meaning.specs.declared.ports.PortRef.{PortRef}
use Rattle.cx_meaning.specs.declared.ports.PortRef.TheVariants as ports
use Rattle.cx_meaning.specs.Designs.{PlainAssign, PlainComponent, PlainDesign, component_at, group_at}
use Rattle.cx_meaning.specs.Instances.{Instance, At, Nothing, OfRow, OfInstance, part_of, cells_of, cell_at}
use Rattle.cx_meaning.specs.Active.{Active, group, nothing, cell_number, port_number}
use Rattle.cx_meaning.specs.Sights.{PartPort, Go, AnInput, AnOutput, ItsDone, part_port, output_port}
use Rattle.cx_rules.specs.Ports.{component_of, is_part_output}
use Rattle.cx_rules.specs.Footprints.{AssignNames, Leads, Depends, at_once, by_way_of}
use Rattle.cx_rules.specs.Wellformed.{IsDesign, StandsIn, IsThere, port_count}
use Rattle.cx_design.specs.declared.groups.Assign.{Assign}
use Rattle.cx_design.specs.PlainForms.{plain_assign}
use Rattle.cx_design_leads.specs.Nodes.{node_of, ports_before, node_count}
use Rattle.cx_design_leads.specs.Edges.{Between, HasEdges, LeadsInGroup, ReadsInRow}
use Rattle.cx_design_leads.proofs.NodeLemmas.{below_is, distinct, within}
use Rattle.cx_rules.proofs.FoundLemmas.{same_is, source_in}
use Rattle.cx_meaning.specs.Active.{same_port}
use Rattle.cx_design_leads.proofs.DriverLemmas.{driver_of, of_owner, leads_either}
use Rattle.cx_design_leads.proofs.WayLemmas.{way_depends, node_way, group_sound, group_all}
use Rattle.cx_design_leads.proofs.ThereLemmas.{leads_there}
use Rattle.cx_callees.specs.Callees.{PlainCallee, callee_at, callee_of}
use Rattle.cx_shape_calls.specs.Forms.{count_of}
use Rattle.cx_shape_calls.specs.Inputs.{IsDependent, AreDependent, AreDependentPorts, IsInputOf, is_an_input, is_input}
use Rattle.cx_callees.proofs.TargetLemmas.{target_of}
use Rattle.cx_meaning.proofs.PortsLemmas.{same_self}
use Rattle.cx_meaning.proofs.DesignsLemmas.{group_there}
use Rattle.cx_text.proofs.OptionLaws.{some_is}
use Rattle.cx_rules.proofs.PortsLemmas.{part_is}

-- PORTS of a component's cell
input_below : (part : PlainComponent) (p : ℕ) → is_an_input (part_port part p) ≡ true → p < suc (length part.inputs)
input_below part zero h = absurd (true≢false (sym h))
input_below part (suc n) h = choice (nat_lt n (length part.inputs)) refl h
  where
    from_lt : (x y : ℕ) → nat_lt x y ≡ true → suc x < suc y
    from_lt x y e = grind (arith, tests)

    no_input : (b : Bool) (m : ℕ) → is_an_input (cond b (AnOutput m) ItsDone) ≡ true → ⊥
    no_input true m h = true≢false (sym h)
    no_input false m h = true≢false (sym h)

    choice : (b : Bool) → nat_lt n (length part.inputs) ≡ b → is_an_input (cond b (AnInput n) (output_port (length part.outputs) (n - length part.inputs))) ≡ true → suc n < suc (length part.inputs)
    choice true e h = from_lt n (length part.inputs) e
    choice false e h = absurd (no_input (nat_lt (n - length part.inputs) (length part.outputs)) (n - length part.inputs) h)

no_less : (x y : ℕ) → y ≤ x → nat_lt x y ≡ false
no_less x y h = grind (arith, tests)

out_of : (part : PlainComponent) (q : ℕ) → suc (length part.inputs) ≤ q → ((m : ℕ) × (part_port part q ≡ AnOutput m)) ⊎ (part_port part q ≡ ItsDone)
out_of part zero h = absurd (omega (arith, h))
out_of part (suc n) h =
    let r = n - length part.inputs in
    let later : part_port part (suc n) ≡ output_port (length part.outputs) r = ap (λ b. cond b (AnInput n) (output_port (length part.outputs) r)) (no_less n (length part.inputs) (omega (arith, h))) in
    choice (nat_lt r (length part.outputs)) r later
  where
    choice : (b : Bool) (r : ℕ) → part_port part (suc n) ≡ cond b (AnOutput r) ItsDone → ((m : ℕ) × (part_port part (suc n) ≡ AnOutput m)) ⊎ (part_port part (suc n) ≡ ItsDone)
    choice true r e = inl (r, e)
    choice false r e = inr e

out_above : (part : PlainComponent) (q : ℕ) → is_part_output (part_port part q) ≡ true → suc (length part.inputs) ≤ q
out_above part zero h = absurd (true≢false (sym h))
out_above part (suc n) h = choice (nat_lt n (length part.inputs)) refl h
  where
    not_less : (x y : ℕ) → nat_lt x y ≡ false → suc y ≤ suc x
    not_less x y e = grind (arith, tests)

    choice : (b : Bool) → nat_lt n (length part.inputs) ≡ b → is_part_output (cond b (AnInput n) (output_port (length part.outputs) (n - length part.inputs))) ≡ true → suc (length part.inputs) ≤ suc n
    choice true e h = absurd (true≢false (sym h))
    choice false e h = not_less n (length part.inputs) e

an_input : (port : PartPort) → is_an_input port ≡ true → (n : ℕ) × (port ≡ AnInput n)
an_input Go h = absurd (true≢false (sym h))
an_input (AnInput n) h = (n, refl)
an_input (AnOutput n) h = absurd (true≢false (sym h))
an_input ItsDone h = absurd (true≢false (sym h))

-- WAYS of nodes and chains of ports
module _ (i : Instance) (act : Active) (targets : Targets) (sound : (m n : ℕ) → In (targets m) n → Between i (Leads i act) m n) where
  pub between_depends : (p q : PortRef) (m n : ℕ) → node_of i p ≡ Some m → node_of i q ≡ Some n → Way targets m n → Depends i act p q
  between_depends p q m n e f w =
      let r = way_depends i act targets sound w in
      subst (λ x. Depends i act p x) (distinct i r.to q n r.is_to f) (subst (λ x. Depends i act x r.to) (distinct i r.from p m r.is_from e) r.depends)

last_leads : {i : Instance} {act : Active} {p q : PortRef} → Depends i act p q → (r : PortRef) × Leads i act r q
last_leads {i} {act} {p} {q} (at_once l) = (p, l)
last_leads (by_way_of r l d) = last_leads d

-- a port that is named in a component of a design is there, and so is one of its component cells that is led to
module _ (d : PlainDesign) (k : ℕ) where
  abbrev at : Instance
  at = component_of d k

  same_part : part_of at ≡ component_at d k
  same_part = part_is d k

  abbrev is_row : At → Bool
  is_row Nothing = false
  is_row (OfRow row) = true
  is_row (OfInstance child) = false

  no_row : (p : PortRef) (c q : ℕ) (child : Instance) → cell_at (cells_of at) c ≡ OfInstance child → ReadsInRow at p (ports.Cell c q) → ⊥
  no_row p c q child stands r =
      let same : r.cell ≡ c = ap cell_number r.wanted.2 in
      true≢false (sym (ap is_row r.stands) ∙ ap (λ v. is_row (cell_at (cells_of at) v)) same ∙ ap is_row stands)

  module _ (design : IsDesign d) (within : k < length d.components) where
    source_there : (owner : Option ℕ) (a : PlainAssign) (q : PortRef) → StandsIn (component_at d k) owner a → AssignNames a q → IsThere at q
    source_there owner a q stands names =
        let r = source_in a q names in subst (λ p. IsThere at p) r.2 (((design.components k within).assigns owner a stands).sources r.0 r.1)

    led_there : (act : Active) (p : PortRef) (c q : ℕ) (child : Instance) → cell_at (cells_of at) c ≡ OfInstance child → Leads at act p (ports.Cell c q) → q < port_count (cell_at (cells_of at) c)
    led_there act p c q child stands l =
        ⊎_elim
        (λ e. ⊎_elim
        (λ o. let a = o.1 in
        (source_there None a.assign (ports.Cell c q) (subst (λ (part : PlainComponent). In part.always a.assign) same_part a.stands) a.names).1)
        (λ o. let a = o.2 in
        let s : In (group_at (component_at d k) o.0).assigns a.assign = subst (λ (part : PlainComponent). In (group_at part o.0).assigns a.assign) same_part a.stands in
        (source_there (Some o.0) a.assign (ports.Cell c q) (group_there (component_at d k) o.0 a.assign s, s) a.names).1)
        (of_owner (part_of at) p (ports.Cell c q) act (driver_of (part_of at) act p (ports.Cell c q) e.1)))
        (λ r. absurd (no_row p c q child stands r))
        (leads_either at act p (ports.Cell c q) l)

  -- UNDER A GROUP
  module _ (g : ℕ) (graph more : Edges) (bare : HasEdges at (Leads at nothing) graph) (own : HasEdges at (LeadsInGroup at g) more) where
    module _ (c p : ℕ) (child : Instance) (stands : cell_at (cells_of at) c ≡ OfInstance child) (input : is_an_input (part_port (part_of child) p) ≡ true)
        (start first last : ℕ) (is_start : node_of at (ports.Cell c p) ≡ Some start) (is_first : node_of at (ports.Cell c (suc (length (part_of child).inputs))) ≡ Some first)
        (is_last : node_of at (ports.Cell c (suc (length (part_of child).inputs + length (part_of child).outputs))) ≡ Some last) where
      abbrev part : PlainComponent
      part = part_of child

      abbrev before : ℕ
      before = ports_before (cells_of at) c

      count : port_count (cell_at (cells_of at) c) ≡ 2 + length part.inputs + length part.outputs
      count = ap port_count stands

      node_is : (q : ℕ) → q < 2 + length part.inputs + length part.outputs → node_of at (ports.Cell c q) ≡ Some (before + q)
      node_is q h = below_is (port_count (cell_at (cells_of at) c)) before q (subst (λ n. q < n) (sym count) h)

      start_at : start ≡ before + p
      start_at = some_is start (before + p) (sym is_start ∙ node_is p (let h = input_below part p input in omega (arith, h)))

      first_at : first ≡ before + suc (length part.inputs)
      first_at = some_is first (before + suc (length part.inputs)) (sym is_first ∙ node_is (suc (length part.inputs)) (omega arith))

      last_at : last ≡ before + suc (length part.inputs + length part.outputs)
      last_at = some_is last (before + suc (length part.inputs + length part.outputs)) (sym is_last ∙ node_is (suc (length part.inputs + length part.outputs)) (omega arith))

      pub reaches_depends : Reaches graph more start first last → IsDependent at g (ports.Cell c p)
      reaches_depends (n, low, high, inl (inl e)) =
          let h = input_below part p input in absurd (omega (arith, h, low, e, start_at, first_at))
      reaches_depends (n, low, high, inl (inr j)) = absurd j
      reaches_depends (n, low, high, inr (s, begins, w)) =
          let q = n - before in
          let is : n ≡ before + q = omega (arith, low, first_at) in
          let above : suc (length part.inputs) ≤ q = omega (arith, low, first_at, is) in
          let few : q < 2 + length part.inputs + length part.outputs = omega (arith, high, last_at, is) in
          let from : s ≡ start = ⊎_elim (λ e. sym e) (λ j. absurd j) begins in
          let kind = an_input (part_port part p) input in
          record {
            cell = c;
            input = p;
            is = refl;
            child = child;
            stands = stands;
            number = kind.0;
            is_input = kind.1;
            output = q;
            is_output = out_of part q above;
            depends = between_depends at (group g) (both graph more) (group_sound at g graph more bare own) (ports.Cell c p) (ports.Cell c q) start n is_start (node_is q few ∙ ap Some (sym is)) (subst (λ v. Way (both graph more) v n) from w);
          }

      out_is : (q : ℕ) → ((m : ℕ) × (part_port part q ≡ AnOutput m)) ⊎ (part_port part q ≡ ItsDone) → is_part_output (part_port part q) ≡ true
      out_is q (inl e) = ap is_part_output e.1
      out_is q (inr e) = ap is_part_output e

      abbrev child_part : At → PlainComponent
      child_part Nothing = part_of child
      child_part (OfRow row) = part_of child
      child_part (OfInstance other) = part_of other

      pub depends_reaches : IsDesign d → k < length d.components → IsDependent at g (ports.Cell c p) → Reaches graph more start first last
      depends_reaches design within r =
          let cell : r.cell ≡ c = sym (ap cell_number r.is) in
          let port : r.input ≡ p = sym (ap port_number r.is) in
          let same : part_of r.child ≡ part = ap child_part (sym r.stands ∙ ap (λ v. cell_at (cells_of at) v) cell ∙ stands) in
          let q = r.output in
          let depends : Depends at (group g) (ports.Cell c p) (ports.Cell c q) = subst (λ v. Depends at (group g) (ports.Cell c p) (ports.Cell v q)) cell (subst (λ x. Depends at (group g) x (ports.Cell r.cell q)) (sym r.is) r.depends) in
          let out : is_part_output (part_port part q) ≡ true = out_is q (subst (λ x. ((m : ℕ) × (part_port x q ≡ AnOutput m)) ⊎ (part_port x q ≡ ItsDone)) same r.is_output) in
          let above : suc (length part.inputs) ≤ q = out_above part q out in
          let led = last_leads depends in
          let few : q < 2 + length part.inputs + length part.outputs = subst (λ n. q < n) count (led_there design within (group g) led.0 c q child stands led.1) in
          let w = node_way at (group g) (both graph more) (group_all at g graph more bare own) (λ x y l. leads_there d k design within (group g) x y l) (before + q) (node_is q few) depends in
          let from : w.0 ≡ start = some_is w.0 start (sym w.1 ∙ is_start) in
          (before + q, omega (arith, above, first_at), omega (arith, few, last_at), inr (start, inl refl, subst (λ v. Way (both graph more) v (before + q)) from w.2))

    -- what a search finds of an input
    pub found_is : ∥ IsDesign d ∥₁ → k < length d.components → (port : PortRef) (key : PlainCallee) → IsInputOf at port key → (start first last f l : ℕ) → node_of at port ≡ Some start
        → f ≡ suc (length key.part.inputs) → l ≡ suc (length key.part.inputs + length key.part.outputs) → node_of at (ports.Cell key.cell f) ≡ Some first → node_of at (ports.Cell key.cell l) ≡ Some last
        → (found : Bool) → IsTrue found ↔ Reaches graph more start first last → IsTrue found ↔ IsDependent at g port
    found_is keeps within port key is start first last f l is_start f_is l_is is_first is_last found reach =
        let t = target_of at port key is.0 in
        let c = key.cell in
        let input : is_an_input (part_port (part_of t.child) t.port) ≡ true = ap (λ part. is_an_input (part_port part t.port)) (sym t.part) ∙ ap (is_input key.part) (sym t.is) ∙ is.1 in
        let one : node_of at (ports.Cell c t.port) ≡ Some start = ap (node_of at) (sym t.is) ∙ is_start in
        let two : node_of at (ports.Cell c (suc (length (part_of t.child).inputs))) ≡ Some first =
        ap (λ part. node_of at (ports.Cell c (suc (length part.inputs)))) (sym t.part) ∙ ap (λ n. node_of at (ports.Cell c n)) (sym f_is) ∙ is_first in
        let three : node_of at (ports.Cell c (suc (length (part_of t.child).inputs + length (part_of t.child).outputs))) ≡ Some last =
        ap (λ part. node_of at (ports.Cell c (suc (length part.inputs + length part.outputs)))) (sym t.part) ∙ ap (λ n. node_of at (ports.Cell c n)) (sym l_is) ∙ is_last in (
          λ e. subst (λ x. IsDependent at g x) (sym t.is) (reaches_depends c t.port t.child t.stands input start first last one two three (reach.0 e)),
          λ r. ∥∥₁_elim keeps (hlevel props) (λ design. reach.1 (depends_reaches c t.port t.child t.stands input start first last one two three design within (subst (λ x. IsDependent at g x) t.is r))),
        )

-- a dependent port is an input
pub dependent_input : (i : Instance) (g : ℕ) (port : PortRef) → IsDependent i g port → (key : PlainCallee) × IsInputOf i port key
dependent_input i g port r =
    (record { cell = r.cell; part = part_of r.child }, (ap (callee_of i) r.is ∙ ap (callee_at r.cell) r.stands, ap (is_input (part_of r.child)) r.is ∙ ap is_an_input r.is_input))

-- GRAPHS
pub graph_bounded : (i : Instance) (R : PortRef → PortRef → Type 0) (g : Edges) → HasEdges i R g → graphs.IsGraph g
graph_bounded i R g has n m j = let b = has.sound n m j in subst (λ count. m < count) (sym has.same_length) (within i b.to m b.is_to)

pub more_bounded : (i : Instance) (R : PortRef → PortRef → Type 0) (g : Edges) (count : ℕ) → count ≡ node_count i → HasEdges i R g → LeadsWithin count g
more_bounded i R g count same has n m j = let b = has.sound n m j in subst (λ v. m < v) (sym same) (within i b.to m b.is_to)

pub node_bounded : (i : Instance) (port : PortRef) (n count : ℕ) → count ≡ node_count i → node_of i port ≡ Some n → n < count
node_bounded i port n count same e = subst (λ v. n < v) (sym same) (within i port n e)

-- LISTS OF TARGETS
pub taken_more : (assigns : List Assign) (n : ℕ) (x : Assign) → n < length assigns → x ≡ get_or assigns n x → map plain_assign (take (n + 1) assigns) ≡ map plain_assign (take n assigns) ++ plain_assign x ∷ []
taken_more assigns n x h e =
    ap (λ l. map plain_assign l) (ap (λ m. take m assigns) (add-one n) ∙ take-suc assigns n x h ∙ ap (λ y. take n assigns ++ y ∷ []) (sym e)) ∙ map-append plain_assign (take n assigns) (x ∷ [])

in_ends : {A : Type 0} (xs : List A) (y x : A) → In (xs ++ y ∷ []) x → In xs x ⊎ (y ≡ x)
in_ends [] y x (inl e) = inr e
in_ends [] y x (inr j) = absurd j
in_ends (z ∷ xs) y x (inl e) = inl (inl e)
in_ends (z ∷ xs) y x (inr j) = ⊎_elim (λ p. inl (inr p)) (λ e. inr e) (in_ends xs y x j)

pub one_more : (i : Instance) (g : ℕ) (list : List PlainAssign) (a : PlainAssign) (found : List PortRef) → AreDependentPorts i g list found → IsDependent i g a.target
    → AreDependentPorts i g (list ++ a ∷ []) (found ++ a.target ∷ [])
one_more i g list a found are is = record {
  sound = λ port j. ⊎_elim (λ h. are.sound port h) (λ e. subst (λ x. IsDependent i g x) e is) (in_ends found a.target port j);
  all = λ b j r. ⊎_elim (λ h. in_left found (a.target ∷ []) b.target (are.all b h r)) (λ e. in_right found (a.target ∷ []) b.target (inl (ap (λ x. x.target) e))) (in_ends list a b j);
}

pub none_more : (i : Instance) (g : ℕ) (list : List PlainAssign) (a : PlainAssign) (found : List PortRef) → AreDependentPorts i g list found → (IsDependent i g a.target → ⊥)
    → AreDependentPorts i g (list ++ a ∷ []) found
none_more i g list a found are is_not = record {
  sound = are.sound;
  all = λ b j r. ⊎_elim (λ h. are.all b h r) (λ e. absurd (is_not (subst (λ x. IsDependent i g x.target) (sym e) r))) (in_ends list a b j);
}

counted_in : (w : PortRef) (ps : List PortRef) → nat_eq (count_of w ps) 0 ≡ false → In ps w
counted_in w [] h = absurd (true≢false h)
counted_in w (p ∷ ps) h = choice (same_port p w) refl h (λ e. counted_in w ps e)
  where
    choice : (b : Bool) → same_port p w ≡ b → nat_eq (length (cond b (p ∷ filter (λ q. same_port q w) ps) (filter (λ q. same_port q w) ps))) 0 ≡ false → (nat_eq (count_of w ps) 0 ≡ false → In ps w) → In (p ∷ ps) w
    choice true e h f = inl (same_is p w e)
    choice false e h f = inr (f h)

in_counted : (w : PortRef) (ps : List PortRef) → In ps w → nat_eq (count_of w ps) 0 ≡ false
in_counted w [] j = absurd j
in_counted w (p ∷ ps) (inl e) =
    subst (λ b. nat_eq (length (cond b (p ∷ filter (λ q. same_port q w) ps) (filter (λ q. same_port q w) ps))) 0 ≡ false) (sym (ap (λ x. same_port x w) e ∙ same_self w)) (some (length (filter (λ q. same_port q w) ps)))
  where
    some : (n : ℕ) → nat_eq (suc n) 0 ≡ false
    some n = grind (arith, tests)
in_counted w (p ∷ ps) (inr j) = choice (same_port p w) (in_counted w ps j)
  where
    some : (n : ℕ) → nat_eq (suc n) 0 ≡ false
    some n = grind (arith, tests)

    choice : (b : Bool) → nat_eq (count_of w ps) 0 ≡ false → nat_eq (length (cond b (p ∷ filter (λ q. same_port q w) ps) (filter (λ q. same_port q w) ps))) 0 ≡ false
    choice true h = some (length (filter (λ q. same_port q w) ps))
    choice false h = h

-- those that are counted
pub are_dependent : (i : Instance) (g : ℕ) (assigns : List PlainAssign) (found : List PortRef) (times : ℕ → ℕ → ℕ) → AreDependentPorts i g assigns found
    → ((c p : ℕ) → times c p ≡ count_of (ports.Cell c p) found) → AreDependent i g assigns times
are_dependent i g assigns found times are counts a c p there at =
    let w = ports.Cell c p in (
      λ e. subst (λ x. IsDependent i g x) (sym at) (are.sound w (counted_in w found (ap (λ n. nat_eq n 0) (sym (counts c p)) ∙ e))),
      λ r. ap (λ n. nat_eq n 0) (counts c p) ∙ in_counted w found (subst (λ x. In found x) at (are.all a there r)),
    )
