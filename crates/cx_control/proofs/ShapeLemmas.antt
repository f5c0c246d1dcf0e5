-- What the rules say of a group that calls, in an instance of the tree.
use Rattle.std.proofs.Common.{◌≡◌, ℕ, suc, ◌+◌, ◌<◌, ◌⊎◌, inl, inr, Bool, true, false, ◌&&◌, ◌||◌, nat_eq, List, [], ◌∷◌, Option, Some, None, length, refl, sym, ap, ◌∙◌, subst}
use Rattle.std.specs.Prelude.{is_some}
use Rattle.std.proofs.lemmas.Bool.{eqb-true, true_from_ne_false}
use Rattle.std.proofs.lemmas.Bool.Decides.{eqb_tells}
use Rattle.cx_text.specs.Members.{In}
use Rattle.cx_prim.specs.Rows.{Row}
use Rattle.cx_meaning.specs.declared.ports.PortRef.{PortRef}
use Rattle.cx_meaning.specs.declared.ports.PortRef.TheVariants as ports
use Rattle.cx_meaning.specs.Designs.{PlainAssign, PlainComponent, group_at, PlainDesign}
use Rattle.cx_meaning.specs.Instances.{Instance, Cells, At, Nothing, OfRow, OfInstance, cell_at, cells_of, part_of, just, Path, tree_of, instance_at}
use Rattle.cx_meaning.specs.Active.{Owned, group, same_port, source_order}
use Rattle.cx_meaning.specs.Sights.{AnInput, AnOutput, ItsDone, part_port}
use Rattle.cx_meaning.specs.Control.{targets_cell, assigns_drive, group_drives}
use Rattle.cx_meaning.specs.Calls.{if_instance, called_by, called_in, enables_at}
use Rattle.cx_rules.specs.Ports.{is_primitive_enable, is_instance, is_part_port, component_of}
use Rattle.cx_rules.specs.Items.{is_plain}
use Rattle.cx_rules.specs.Footprints.{Depends}
use Rattle.cx_rules.specs.ShapeRules.{is_hole_of, some_target}
use Rattle.cx_rules.specs.InvokeShape.{latency_at, is_static_port}
use Rattle.cx_rules.proofs.FoundLemmas.{same_is}
use Rattle.cx_rules.specs.CallShape.{is_port_of, Calls, go_port, is_right_go, wrong_go, done_port, is_register_enable, with_target, is_right_enable, captured, wanted_dones, is_right_done, CallBreak, another_cell, input_by_output, wrong_enable, wrong_done}
use Rattle.cx_control.proofs.BesideLemmas.{IsBeside, depends_too, KeepsCalls, StandsFor, of_component, of_nothing, instance_stands, keeps_calls}
use Rattle.cx_text.proofs.NumberLaws.{equal, never}
use Rattle.cx_rules.proofs.ShapeRulesLemmas.{some_in, a_target}
use Rattle.cx_rules.specs.Accepted.{IsAccepted}
use Rattle.cx_meaning.proofs.InstancesLemmas.{just_true}
use Rattle.cx_text.proofs.OptionLaws.{none_some, some_is}
use Rattle.cx_meaning.proofs.ControlLemmas.{called_child as called_instance}
use Rattle.cx_meaning.proofs.ActiveLemmas.{group_stands}

-- an assignment of a port of a component cell
pub record Driving (cells : Cells) (list : List PlainAssign) (c : ℕ) : Type 0 where
  pub assign : PlainAssign
  pub is_in : In list assign
  pub port : ℕ
  pub target : assign.target ≡ ports.Cell c port

more_driving : (cells : Cells) (x : PlainAssign) (list : List PlainAssign) (c : ℕ) → Driving cells list c → Driving cells (x ∷ list) c
more_driving cells x list c r = record { assign = r.assign; is_in = inr r.is_in; port = r.port; target = r.target }

pub called_driving : (cells : Cells) (list : List PlainAssign) (c : ℕ) → called_in cells list ≡ Some c → Driving cells list c
called_driving cells [] c e = absurd (none_some c e)
called_driving cells (a ∷ rest) c e = of_target a.target refl e (λ f. more_driving cells a rest c (called_driving cells rest c f))
  where
    of_at : (at : At) (d p : ℕ) → a.target ≡ ports.Cell d p → if_instance at d (called_in cells rest) ≡ Some c → (called_in cells rest ≡ Some c → Driving cells (a ∷ rest) c) → Driving cells (a ∷ rest) c
    of_at Nothing d p is f later = later f
    of_at (OfRow row) d p is f later = later f
    of_at (OfInstance child) d p is f later = record { assign = a; is_in = inl refl; port = p; target = is ∙ ap (λ k. ports.Cell k p) (some_is d c f) }

    of_target : (p : PortRef) → a.target ≡ p → called_by cells p (called_in cells rest) ≡ Some c → (called_in cells rest ≡ Some c → Driving cells (a ∷ rest) c) → Driving cells (a ∷ rest) c
    of_target (ports.Cell d n) is f later = of_at (cell_at cells d) d n is f later
    of_target (ports.Input n) is f later = later f
    of_target (ports.Output n) is f later = later f
    of_target (ports.Done g) is f later = later f
    of_target (ports.Literal w v) is f later = later f

pub drives_driving : (cells : Cells) (list : List PlainAssign) (c : ℕ) → assigns_drive list c ≡ true → Driving cells list c
drives_driving cells [] c e = absurd (cc)
drives_driving cells (a ∷ rest) c e = of_target a.target refl e (λ f. more_driving cells a rest c (drives_driving cells rest c f))
  where
    by : (b : Bool) (d p : ℕ) → a.target ≡ ports.Cell d p → just d c ≡ b → (b || assigns_drive rest c) ≡ true → (assigns_drive rest c ≡ true → Driving cells (a ∷ rest) c) → Driving cells (a ∷ rest) c
    by true d p is same f later = record { assign = a; is_in = inl refl; port = p; target = is ∙ ap (λ k. ports.Cell k p) (just_true d c same) }
    by false d p is same f later = later f

    of_target : (p : PortRef) → a.target ≡ p → (targets_cell p c || assigns_drive rest c) ≡ true → (assigns_drive rest c ≡ true → Driving cells (a ∷ rest) c) → Driving cells (a ∷ rest) c
    of_target (ports.Cell d p) is f later = by (just d c) d p is refl f later
    of_target (ports.Input n) is f later = later f
    of_target (ports.Output n) is f later = later f
    of_target (ports.Done g) is f later = later f
    of_target (ports.Literal w v) is f later = later f

-- a group that drives a port of a component cell calls some cell
pub calls_some : (cells : Cells) (list : List PlainAssign) (a : PlainAssign) (c p : ℕ) (child : Instance) → In list a → a.target ≡ ports.Cell c p → cell_at cells c ≡ OfInstance child → (b : ℕ) × (called_in cells list ≡ Some b)
calls_some cells [] a c p child i e at = absurd i
calls_some cells (x ∷ list) a c p child (inl same) e at =
    (c, ap (λ (y : PlainAssign). called_by cells y.target (called_in cells list)) same ∙ ap (λ t. called_by cells t (called_in cells list)) e ∙ ap (λ k. if_instance k c (called_in cells list)) at)
calls_some cells (x ∷ list) a c p child (inr i) e at = of_target x.target (calls_some cells list a c p child i e at)
  where
    of_at : (k : At) (d : ℕ) → (b : ℕ) × (called_in cells list ≡ Some b) → (b : ℕ) × (if_instance k d (called_in cells list) ≡ Some b)
    of_at Nothing d r = r
    of_at (OfRow row) d r = r
    of_at (OfInstance other) d r = (d, refl)

    of_target : (t : PortRef) → (b : ℕ) × (called_in cells list ≡ Some b) → (b : ℕ) × (called_by cells t (called_in cells list) ≡ Some b)
    of_target (ports.Cell d n) r = of_at (cell_at cells d) d r
    of_target (ports.Input n) r = r
    of_target (ports.Output n) r = r
    of_target (ports.Done g) r = r
    of_target (ports.Literal w v) r = r

-- THE SHAPE, of an instance beside its component
module _ (i whole : Instance) (keeps : KeepsCalls i whole) where
  abbrev beside : IsBeside i whole
  beside = KeepsCalls.beside keeps

  abbrev part : PlainComponent
  part = part_of whole

  part_port_there : (p : PortRef) (c n : ℕ) (child : Instance) → p ≡ ports.Cell c n → cell_at (cells_of i) c ≡ OfInstance child → is_part_port whole p ≡ true
  part_port_there p c n child e at = ap (is_part_port whole) e ∙ ap is_instance ((KeepsCalls.beside keeps).parts c child at).1

  -- what is driven is no cell of a static component
  dynamic_of : (o : Owned) → In (source_order part) o → (c n : ℕ) (child : Instance) → o.assign.target ≡ ports.Cell c n → cell_at (cells_of whole) c ≡ OfInstance child → (part_of child).latency ≡ None
  dynamic_of o stands c n child e at = by (part_of child).latency refl
    where
      by : (latency : Option ℕ) → (part_of child).latency ≡ latency → (part_of child).latency ≡ None
      by None is = is
      by (Some n) is = absurd (keeps.dynamic o stands (ap (is_static_port whole) e ∙ ap (λ x. is_some (latency_at x)) at ∙ ap is_some is))

  -- nothing continuous drives a port of a component cell
  pub none_outside : (o : Owned) → In (source_order part) o → o.owner ≡ None → (c n : ℕ) (child : Instance) → o.assign.target ≡ ports.Cell c n → cell_at (cells_of i) c ≡ OfInstance child → ⊥
  none_outside o stands owner c n child e at = keeps.shaped o stands (inl (part_port_there o.assign.target c n child e at, inl owner))

  module _ (g : ℕ) where
    abbrev assigns : List PlainAssign
    assigns = (group_at part g).assigns

    -- nor a group that is not plain
    pub plain_group : (a : PlainAssign) → In assigns a → (c n : ℕ) (child : Instance) → a.target ≡ ports.Cell c n → cell_at (cells_of i) c ≡ OfInstance child → is_plain (group_at part g).kind ≡ true
    plain_group a j c n child e at =
        true_from_ne_false (is_plain (group_at part g).kind)
        (λ none. keeps.shaped (record { owner = Some g; assign = a }) (group_stands part g a j) (inl (part_port_there a.target c n child e at, inr (g, refl, none))))

    abbrev calls_of : (a : PlainAssign) → In assigns a → (c n : ℕ) (child : Instance) → a.target ≡ ports.Cell c n → cell_at (cells_of i) c ≡ OfInstance child → Calls whole assigns c
    calls_of a j c n child e at = record {
      child = ((KeepsCalls.beside keeps).parts c child at).0;
      is_component = ((KeepsCalls.beside keeps).parts c child at).1;
      dynamic = dynamic_of (record { owner = Some g; assign = a }) (group_stands part g a j) c n ((KeepsCalls.beside keeps).parts c child at).0 e ((KeepsCalls.beside keeps).parts c child at).1;
      driven = some_in (is_port_of c) assigns a j (ap (is_port_of c) e ∙ equal c);
    }

    -- all its component cells are one
    pub one_cell : (a b : PlainAssign) → In assigns a → In assigns b → (c n : ℕ) (child : Instance) → a.target ≡ ports.Cell c n → cell_at (cells_of i) c ≡ OfInstance child
        → (d m : ℕ) (other : Instance) → b.target ≡ ports.Cell d m → cell_at (cells_of i) d ≡ OfInstance other → d ≡ c
    one_cell a b j k c n child e at d m other f at_other = either (eqb_tells d c)
      where
        either : ((nat_eq d c ≡ true) × (d ≡ c)) ⊎ ((nat_eq d c ≡ false) × (d ≡ c → ⊥)) → d ≡ c
        either (inl r) = r.1
        either (inr r) =
            absurd (keeps.shaped (record { owner = Some g; assign = b }) (group_stands part g b k)
            (inr (record {
              group = g;
              owner = refl;
              plain = plain_group a j c n child e at;
              cell = c;
              calls = calls_of a j c n child e at;
              breaks = another_cell ((d, calls_of b k d m other f at_other, r.1), part_port_there b.target d m other f at_other);
            })))

    -- so the cells that it drives are those that it calls
    pub calls_what_it_drives : (c : ℕ) (child : Instance) → cell_at (cells_of i) c ≡ OfInstance child → group_drives part g c ≡ true → called_in (cells_of i) assigns ≡ Some c
    calls_what_it_drives c child at drives =
        let it = drives_driving (cells_of i) assigns c drives in
        let some = calls_some (cells_of i) assigns it.assign c it.port child it.is_in it.target at in
        let first = called_driving (cells_of i) assigns some.0 some.1 in
        let other = called_instance (cells_of i) assigns some.0 some.1 in
        some.1 ∙ ap Some (one_cell it.assign first.assign it.is_in first.is_in c it.port child it.target at some.0 first.port other.0 first.target other.1)

    -- THE CALL of a cell
    module _ (c : ℕ) (e : called_in (cells_of i) assigns ≡ Some c) where
      it : Driving (cells_of i) assigns c
      it = called_driving (cells_of i) assigns c e

      abbrev pub child : (child : Instance) × (cell_at (cells_of i) c ≡ OfInstance child)
      child = called_instance (cells_of i) assigns c e

      abbrev calls : Calls whole assigns c
      calls = calls_of (it).assign (it).is_in c (it).port child.0 (it).target child.1

      pub is_a_plain_group : is_plain (group_at part g).kind ≡ true
      is_a_plain_group = plain_group (it).assign (it).is_in c (it).port child.0 (it).target child.1

      no_break : (a : PlainAssign) → In assigns a → CallBreak whole g c (Calls.child calls) a.target → ⊥
      no_break a j breaks = keeps.shaped (record { owner = Some g; assign = a }) (group_stands part g a j) (inr (record { group = g; owner = refl; plain = is_a_plain_group; cell = c; calls = calls; breaks = breaks }))

      -- no input that it drives depends on an output of the cell
      pub no_output : (a : PlainAssign) → In assigns a → (p q n : ℕ) → a.target ≡ ports.Cell c p → part_port (part_of child.0) p ≡ AnInput n
          → ((m : ℕ) × (part_port (part_of child.0) q ≡ AnOutput m)) ⊎ (part_port (part_of child.0) q ≡ ItsDone) → Depends i (group g) (ports.Cell c p) (ports.Cell c q) → ⊥
      no_output a j p q n target input output depends =
          let same = ((KeepsCalls.beside keeps).parts c child.0 child.1).2 in
          no_break a j (subst (CallBreak whole g c (Calls.child calls)) (sym target)
          (input_by_output p ((n, ap (λ x. part_port x p) same ∙ input), (q, up same output, depends_too i whole (KeepsCalls.beside keeps) (group g) depends))))
        where
          up : part_of (Calls.child calls) ≡ part_of child.0 → ((m : ℕ) × (part_port (part_of child.0) q ≡ AnOutput m)) ⊎ (part_port (part_of child.0) q ≡ ItsDone)
              → ((m : ℕ) × (part_port (part_of (Calls.child calls)) q ≡ AnOutput m)) ⊎ (part_port (part_of (Calls.child calls)) q ≡ ItsDone)
          up same (inl r) = inl (r.0, ap (λ x. part_port x q) same ∙ r.1)
          up same (inr r) = inr (ap (λ x. part_port x q) same ∙ r)

      same_done : done_port c (Calls.child calls) ≡ done_port c child.0
      same_done = ap (λ (x : PlainComponent). ports.Cell c (suc (length x.inputs + length x.outputs))) ((KeepsCalls.beside keeps).parts c child.0 child.1).2

      -- each other enabling port is the write_en of a register
      pub right_enable : (a : PlainAssign) → In assigns a → (r p : ℕ) (row : Row) → a.target ≡ ports.Cell r p → cell_at (cells_of i) r ≡ OfRow row → enables_at (OfRow row) p ≡ true
          → (is_register_enable part a.target && is_right_enable (done_port c child.0) (with_target a.target assigns)) ≡ true
      right_enable a j r p row target at enables =
          true_from_ne_false _ (λ none. no_break a j (wrong_enable
          (ap (is_primitive_enable whole) target ∙ ap (λ k. enables_at k p) ((KeepsCalls.beside keeps).rows r row at) ∙ enables)
          (ap (λ d. is_register_enable part a.target && is_right_enable d (with_target a.target assigns)) same_done ∙ none)))

      -- its go is 1 while the cell is not done
      pub right_go : g < length (PlainComponent.groups part) → is_right_go (done_port c child.0) (with_target (go_port c) assigns) ≡ true
      right_go there =
          let driven = true_from_ne_false _ (λ lacks. keeps.driven g there is_a_plain_group c calls lacks) in
          let go = a_target (same_port (go_port c)) assigns (and_first (some_target (same_port (go_port c)) assigns) _ driven) in
          true_from_ne_false _ (λ none. no_break go.0 go.1
          (subst (CallBreak whole g c (Calls.child calls)) (same_is (go_port c) go.0.target go.2)
          (wrong_go (ap (λ d. is_right_go d (with_target (go_port c) assigns)) same_done ∙ none))))
        where
          and_first : (a b : Bool) → (a && b) ≡ true → a ≡ true
          and_first true b f = refl
          and_first false b f = absurd (cc)

      -- and its done is that of the cell or of the captured registers
      pub right_done : g < length (PlainComponent.groups part) → is_right_done (wanted_dones (done_port c child.0) (captured part assigns)) (with_target (ports.Done g) assigns) ≡ true
      right_done there =
          let driven = true_from_ne_false _ (λ lacks. keeps.driven g there is_a_plain_group c calls lacks) in
          let hole = a_target (is_hole_of g) assigns (and_second _ (some_target (is_hole_of g) assigns) driven) in
          true_from_ne_false _ (λ none. no_break hole.0 hole.1
          (subst (CallBreak whole g c (Calls.child calls)) (sym (is_hole hole.0.target hole.2))
          (wrong_done (ap (λ d. is_right_done (wanted_dones d (captured part assigns)) (with_target (ports.Done g) assigns)) same_done ∙ none))))
        where
          and_second : (a b : Bool) → (a && b) ≡ true → b ≡ true
          and_second true b f = f
          and_second false b f = absurd (cc)

          is_hole : (p : PortRef) → is_hole_of g p ≡ true → p ≡ ports.Done g
          is_hole (ports.Cell d n) f = absurd (cc)
          is_hole (ports.Input n) f = absurd (cc)
          is_hole (ports.Output n) f = absurd (cc)
          is_hole (ports.Done h) f = ap ports.Done (eqb-true h g f)
          is_hole (ports.Literal w v) f = absurd (cc)

-- IN A DESIGN a group that drives a component cell is a plain one
pub plain_if_driven : (d : PlainDesign) → IsAccepted d → (path : Path) (g c : ℕ) (child : Instance) → cell_at (cells_of (instance_at (tree_of d) path)) c ≡ OfInstance child
    → group_drives (part_of (instance_at (tree_of d) path)) g c ≡ true → is_plain (group_at (part_of (instance_at (tree_of d) path)) g).kind ≡ true
plain_if_driven d accepted path g c child at drives = by (instance_stands d path)
  where
    by : StandsFor d (instance_at (tree_of d) path) → is_plain (group_at (part_of (instance_at (tree_of d) path)) g).kind ≡ true
    by (of_component k l beside) =
        let it = drives_driving (cells_of (instance_at (tree_of d) path)) (group_at (part_of (component_of d k)) g).assigns c (sym (ap (λ part. group_drives part g c) beside.same) ∙ drives) in
        ap (λ part. is_plain (group_at part g).kind) beside.same
        ∙ plain_group (instance_at (tree_of d) path) (component_of d k) (keeps_calls d accepted k l (instance_at (tree_of d) path) beside) g it.assign it.is_in c it.port child it.target at
    by (of_nothing none) = never (sym (ap (λ part. group_drives part g c) none) ∙ drives)
