-- An instrumented design keeps the rules on static invokes and on static components: their lengths, their cells, what they bind, and that
-- their continuous assignments name no input.
use Rattle.std.proofs.Common.{◌≡◌, ℕ, suc, ◌+◌, ◌*◌, ◌<◌, inl, inr, ◌⊎◌, ⊎_elim, true, false, List, [], ◌∷◌, length, map, Some, is_some, refl, sym, ap, ◌∙◌, subst}
use Rattle.std.specs.Prelude.{◌≢◌}
use Rattle.cx_text.proofs.MemberLaws.{image_in}
use Rattle.cx_text.specs.declared.places.Place.{Place}
use Rattle.cx_text.specs.declared.rules.Rule.TheVariants as rules
use Rattle.cx_text.proofs.OptionLaws.{none_some}
use Rattle.cx_prim.specs.Rows.{Row}
use Rattle.cx_meaning.specs.declared.ports.PortRef.{PortRef}
use Rattle.cx_meaning.specs.declared.ports.PortRef.TheVariants as ports
use Rattle.cx_meaning.specs.Designs.{PlainAssign, PlainInvoke, PlainComponent, PlainDesign, component_at, form_of, Timed, PlainStatement, Placed}
use Rattle.cx_meaning.specs.Instances.{Instance, OfRow, cell_at, cells_of, part_of, tree_within}
use Rattle.cx_meaning.specs.Active.{Owned, same_port, source_order}
use Rattle.cx_text.specs.Members.{In}
use Rattle.cx_meaning.proofs.DesignsLemmas.{same_part}
use Rattle.cx_meaning.proofs.InstancesLemmas.{instance_is, row_instance}
use Rattle.cx_rules.specs.Accepted.{IsAccepted}
use Rattle.cx_rules.specs.Footprints.{AssignNames, Rests}
use Rattle.cx_rules.specs.Invokes.{invoke_at, invoke_length, lasts, invoke_in}
use Rattle.cx_rules.specs.InvokeShape.{latency_at, is_static_port, BreaksStaticCell, LeadsToCell, itself, through, input_port, InvokeBreak, another_kind, unbound, restless, fed_back, BreaksInvoke}
use Rattle.cx_rules.specs.Items.{InStatic, Visited, statements_in}
use Rattle.cx_rules.specs.Ports.{component_of, path_of, cell_name}
use Rattle.cx_rules.specs.ShapeRules.{some_target, BreaksInvokeLength, IsWrongControl, BreaksKept}
use Rattle.cx_rules.specs.Spots.{Itself}
use Rattle.cx_rules.specs.StaticControl.{is_timed, may_stand, has_length}
use Rattle.cx_rules.specs.Wellformed.{IsDesign, IsInvoke}
use Rattle.cx_rules.proofs.PortsLemmas.{part_is}
use Rattle.cx_rewrites.specs.Moving.{moved_assign, moved_statement}
use Rattle.cx_rewrites.proofs.MovedInvokes.{timed_back}
use Rattle.cx_rewrites.proofs.MovedLists.{may_stand-moved, form_has_length-moved, some_moved, moved_visited}
use Rattle.cx_rewrites.proofs.ReflectLemmas.{names_back}
use Rattle.cx_profiling.specs.Counters.{counters, shown_in}
use Rattle.cx_profiling.specs.Instrumented.{address_width, moved_in, moved_invoke, with_counts}
use Rattle.cx_profiling.proofs.GainedLemmas.{grown_at}
use Rattle.cx_profiling.proofs.InvokesKept.{bind_stays, keeps_at}
use Rattle.cx_profiling.proofs.InvokesMade.{invoke_back, words_kept, lasts-moved, own_invoke}
use Rattle.cx_profiling.proofs.PairLemmas.{CellPair, row_pair, child_pair, pair_at}
use Rattle.cx_profiling.proofs.PartTable.{length_kept, AlwaysMade, old_always, showing_always, always_made, OwnedMade, old_owned, showing, counting, storing, owned_made}
use Rattle.cx_profiling.proofs.PortLemmas.{IsInside}
use Rattle.cx_profiling.proofs.PortsKept.{counter_target, StoreTarget, to_memory, to_hole, store_target, cell_back, input_back, counter_row_there, counts_row, memory_there, rests_moved}
use Rattle.cx_profiling.proofs.RoleLemmas.{Role, as_main, as_child, as_kept, role}
use Rattle.cx_profiling.proofs.ShapesKept as shapes

no_timed : (v : Visited) (n : ℕ) → invoke_in v.form ≡ [] → v.form ≡ Timed n → ⊥
no_timed v n none is = absurd (let wrong : n ∷ [] ≡ [] = ap invoke_in (sym is) ∙ none in cc)

-- a written length that is not that of the invoke, or a length of 0
abbrev IsWrongLength : PlainInvoke → Type 0
IsWrongLength v = ((n : ℕ) × (v.length ≡ Some n) × (n ≢ invoke_length (Some v))) ⊎ (invoke_length (Some v) ≡ 0)

module _ (d : PlainDesign) (design : IsDesign d) (accepted : IsAccepted d) (m k : ℕ) (count : length d.components ≡ suc m) (within : k < length d.components) where
  abbrev part : PlainComponent
  part = component_at d k

  abbrev other : PlainComponent
  other = component_at (with_counts d) k

  abbrev i : Instance
  i = tree_within d (suc m) k

  abbrev j : Instance
  j = tree_within (with_counts d) (suc m) k

  abbrev mv : PortRef → PortRef
  mv p = moved_in d part p

  abbrev memory : ℕ
  memory = length part.cells + 2 * length (counters (component_of d k))

  abbrev OldInvoke : ℕ → PlainInvoke → Type 0
  OldInvoke n v = (x : PlainInvoke) × (invoke_at part n ≡ Some x) × (moved_invoke d part x ≡ v)

  -- RULE static-shape: the length of a static invoke
  invoke_length_old : (w : Visited) → In (statements_in part) w → (place : Place) (name : List ℕ) → BreaksInvokeLength j (moved_visited mv w) place name → ⊥
  invoke_length_old w stands place name (n, v, is, at, timed, bad, told) = by (invoke_back d design k within n v at)
    where
      by : OldInvoke n v → ⊥
      by (x, old, e) =
          shapes.old_visited d design accepted m k count within BreaksInvokeLength (λ s p z on. accepted.shapes rules.StaticShape s p z refl (inr (inr (inr (inr (inl on)))))) w stands w.place []
          (n, x, timed_back mv w.form n is, old, ap (λ y. is_timed (Some y)) e ∙ timed, subst IsWrongLength (sym e) bad, (refl, refl))

  pub invoke_length_never : (v : Visited) → In (statements_in other) v → (place : Place) (name : List ℕ) → BreaksInvokeLength j v place name → ⊥
  invoke_length_never = shapes.no_visited d design accepted m k count within BreaksInvokeLength (λ v place name n breaks. no_timed v breaks.0 n.untimed breaks.2) invoke_length_old

  -- and that of a static component
  pub part_length_never : (latency : ℕ) → other.latency ≡ Some latency → IsWrongControl other latency → ⊥
  part_length_never latency static wrong = by (role d k within)
    where
      old_static : part.latency ≡ Some latency
      old_static = sym (keeps_at d k within).latency ∙ static

      may_kept : (s : PlainStatement) → may_stand other InStatic (form_of (moved_statement mv s)) ≡ may_stand part InStatic (form_of s)
      may_kept (Placed form place) = may_stand-moved mv part other (length_kept d design k within) (words_kept d design k within) InStatic form

      has_kept : (s : PlainStatement) → has_length other InStatic (moved_statement mv s) ≡ has_length part InStatic s
      has_kept (Placed form place) = form_has_length-moved mv part other (length_kept d design k within) (words_kept d design k within) InStatic form

      back : other.control ≡ moved_statement mv part.control → IsWrongControl other latency → IsWrongControl part latency
      back e (inl bars) = inl (sym (may_kept part.control) ∙ ap (λ s. may_stand other InStatic (form_of s)) (sym e) ∙ bars)
      back e (inr (has, differs)) =
          inr (sym (has_kept part.control) ∙ ap (has_length other InStatic) (sym e) ∙ has, λ same. differs (ap (lasts other) e ∙ lasts-moved d design k within part.control ∙ same))

      old : other.control ≡ moved_statement mv part.control → ⊥
      old e =
          accepted.shapes rules.StaticShape (record { component = k; part = Itself 0 }) part.place part.name refl
          (inr (inr (inr (inr (inr (record { within = within; is = refl; latency = latency; static = old_static; control = back e wrong; tells = (refl, refl) }))))))

      by : Role d k → ⊥
      by (as_main names is e) = none_some latency (sym (ap (λ n. (component_at d n).latency) is ∙ design.main_dynamic) ∙ old_static)
      by (as_child names is reached e) = old (ap (λ (x : PlainComponent). x.control) e)
      by (as_kept is reached e) = old (ap (λ (x : PlainComponent). x.control) e)

  -- RULE call-shape: cells of static components
  static_kept : (p : PortRef) → IsInside d part p → is_static_port j (mv p) ≡ is_static_port i p
  static_kept (ports.Cell c p) here = by (pair_at d design m k within c here.0)
    where
      same_latency : (e : ℕ) → e < length d.components → (part_of (tree_within (with_counts d) m e)).latency ≡ (part_of (tree_within d m e)).latency
      same_latency e below = ap (λ (x : PlainComponent). x.latency) (same_part (with_counts d) m e) ∙ (keeps_at d e below).latency ∙ ap (λ (x : PlainComponent). x.latency) (sym (same_part d m e))

      by : CellPair d design m k within c → is_static_port j (mv (ports.Cell c p)) ≡ is_static_port i (ports.Cell c p)
      by (row_pair row first second moved) = ap (λ x. is_some (latency_at x)) second ∙ ap (λ x. is_some (latency_at x)) (sym first)
      by (child_pair cell e stands is below first second moved) =
          ap (λ x. is_some (latency_at x)) second ∙ ap is_some (same_latency e below) ∙ ap (λ x. is_some (latency_at x)) (sym first)
  static_kept (ports.Input n) here = refl
  static_kept (ports.Output n) here = refl
  static_kept (ports.Done g) here = refl
  static_kept (ports.Literal w v) here = refl

  pub static_cell_never : (o : Owned) → In (source_order other) o → (place : Place) (name : List ℕ) → BreaksStaticCell j o place name → ⊥
  static_cell_never o inside place name (is, told) = by (owned_made d design k within o inside)
    where
      no_static : (c p : ℕ) (row : Row) → cell_at (cells_of j) c ≡ OfRow row → o.assign.target ≡ ports.Cell c p → ⊥
      no_static c p row at e = absurd (let wrong : false ≡ true = sym (ap (λ x. is_some (latency_at x)) at) ∙ ap (is_static_port j) (sym e) ∙ is in cc)

      of_store : k ≡ d.main → (h : ℕ) → StoreTarget memory h o.assign → ⊥
      of_store main h (to_memory p e) = no_static memory p (counts_row d design m k within) (memory_there d design m k within main) e
      of_store main h (to_hole e names) = absurd (let wrong : false ≡ true = ap (is_static_port j) (sym e) ∙ is in cc)

      by : OwnedMade d design k within o → ⊥
      by (old_owned w stands e) =
          shapes.old_assign d design accepted m k count within BreaksStaticCell (λ s p n on. accepted.shapes rules.CallShape s p n refl (inr (inr (inl on)))) w stands w.assign.place (path_of i w.assign.target)
          (sym (static_kept w.assign.target (shapes.target_inside d design accepted m k count within w stands)) ∙ ap (λ (x : Owned). is_static_port j x.assign.target) e ∙ is, (refl, refl))
      by (showing none n x main reached at e) = absurd (let wrong : false ≡ true = ap (λ (y : PlainAssign). is_static_port j y.target) e ∙ is in cc)
      by (counting h r some own reached few counted x) =
          let t = counter_target part.place r o.assign x in
          let row = counter_row_there d design m k within reached (record { group = h; register = r }) own t.0 t.3 in
          no_static t.0 t.1 row.0 row.1 t.2
      by (storing n x main at some h) = of_store main (length part.groups + n) (store_target part.place memory (address_width (length (shown_in (component_of d k)))) (length part.groups + n) n x.port o.assign h)

  -- and static invokes
  leads_back : (e c : ℕ) → LeadsToCell other e c → LeadsToCell part e c
  leads_back e c itself = itself
  leads_back e c (through x p q a leads stands target names) = by (leads_back e x leads) (always_made d design k within a stands)
    where
      by : LeadsToCell part e x → AlwaysMade d design k within a → LeadsToCell part e c
      by before (old_always b h is) =
          let t = cell_back d design m k within b.target x p (ap (λ (y : PlainAssign). y.target) is ∙ target) in
          let y = names_back mv b (ports.Cell c q) (subst (λ (z : PlainAssign). AssignNames z (ports.Cell c q)) (sym is) names) in
          let u = cell_back d design m k within y.0 c q y.1 in
          through x t.0 u.0 b before h t.1 (subst (AssignNames b) u.1 y.2)
      by before (showing_always n s main reached at is) = absurd (let clash : ports.Output (length part.outputs + n) ≡ ports.Cell x p = ap (λ (y : PlainAssign). y.target) is ∙ target in cc)

  abbrev OldBind : PlainInvoke → PlainAssign → Type 0
  OldBind x a = (b : PlainAssign) × In x.inputs b × (moved_assign mv b ≡ a)

  break_back : (x : PlainInvoke) → IsInvoke (component_of d k) x → InvokeBreak j (moved_invoke d part x) → InvokeBreak i x
  break_back x w (another_kind none) = another_kind none
  break_back x w (unbound child n at few missing) = by (pair_at d design m k within x.cell (subst (λ (p : PlainComponent). x.cell < length p.cells) (part_is d k) w.cell))
    where
      bound : some_target (same_port (input_port x.cell n)) (map (moved_assign mv) x.inputs) ≡ some_target (same_port (input_port x.cell n)) x.inputs
      bound =
          some_moved mv (same_port (input_port x.cell n)) (same_port (input_port x.cell n)) x.inputs
          (λ a h. ap (same_port (input_port x.cell n)) (bind_stays d design k within x.cell a w.cell (w.inputs a h)))

      by : CellPair d design m k within x.cell → InvokeBreak i x
      by (row_pair row first second moved) = absurd (row_instance row child (sym second ∙ at))
      by (child_pair cell f stands is below first second moved) =
          let same : tree_within (with_counts d) m f ≡ child = instance_is (tree_within (with_counts d) m f) child (sym second ∙ at) in
          let inputs : length (part_of child).inputs ≡ length (part_of (tree_within d m f)).inputs =
          ap (λ t. length (part_of t).inputs) (sym same) ∙ ap (λ (p : PlainComponent). length p.inputs) (same_part (with_counts d) m f) ∙ ap length (grown_at d f below).inputs
          ∙ ap (λ (p : PlainComponent). length p.inputs) (sym (same_part d m f)) in
          unbound (tree_within d m f) n first (subst (λ c. n < c) inputs few) (sym bound ∙ missing)
  break_back x w (restless a q h names wrong) = by (image_in (moved_assign mv) x.inputs a h)
    where
      by : OldBind x a → InvokeBreak i x
      by (b, l, e) =
          let y = names_back mv b q (subst (λ (z : PlainAssign). AssignNames z q) (sym e) names) in
          restless b y.0 l y.2 (λ rests. wrong (subst (Rests j) y.1 (rests_moved d design m k within y.0 rests)))
  break_back x w (fed_back a e p h names leads) = by (image_in (moved_assign mv) x.inputs a h)
    where
      by : OldBind x a → InvokeBreak i x
      by (b, l, is) =
          let y = names_back mv b (ports.Cell e p) (subst (λ (z : PlainAssign). AssignNames z (ports.Cell e p)) (sym is) names) in
          let q = cell_back d design m k within y.0 e p y.1 in
          fed_back b e q.0 l (subst (AssignNames b) q.1 y.2) (leads_back e x.cell leads)

  invoke_old : (w : Visited) → In (statements_in part) w → (place : Place) (name : List ℕ) → BreaksInvoke j (moved_visited mv w) place name → ⊥
  invoke_old w stands place name (n, v, is, at, broken, told) = by (invoke_back d design k within n v at)
    where
      by : OldInvoke n v → ⊥
      by (x, old, e) =
          shapes.old_visited d design accepted m k count within BreaksInvoke (λ s p z on. accepted.shapes rules.CallShape s p z refl (inr (inr (inr on)))) w stands w.place (cell_name part.cells x.cell)
          (n, x, timed_back mv w.form n is, old, break_back x (own_invoke d design k within n x old) (subst (InvokeBreak j) (sym e) broken), (refl, refl))

  pub invoke_never : (v : Visited) → In (statements_in other) v → (place : Place) (name : List ℕ) → BreaksInvoke j v place name → ⊥
  invoke_never = shapes.no_visited d design accepted m k count within BreaksInvoke (λ v place name n breaks. no_timed v breaks.0 n.untimed breaks.2) invoke_old

  -- RULE output-not-state: what a static component keeps
  pub kept_never : (o : Owned) → In (source_order other) o → (place : Place) (name : List ℕ) → BreaksKept j o place name → ⊥
  kept_never o inside place name (latency, static, owner, (n, names), told) = by (owned_made d design k within o inside)
    where
      by : OwnedMade d design k within o → ⊥
      by (old_owned w stands e) =
          let y = shapes.names_of d design accepted m k count within o w e (ports.Input n) names in
          shapes.old_assign d design accepted m k count within BreaksKept (λ s p z on. accepted.shapes rules.OutputNotState s p z refl (inr on)) w stands w.assign.place (path_of i w.assign.target) (
            latency,
            sym (keeps_at d k within).latency ∙ static,
            shapes.owner_is d design accepted m k count within o w e ∙ owner,
            (n, subst (AssignNames w.assign) (input_back d design m k within y.0 n y.1) y.2),
            (refl, refl),
          )
      by (showing none s x main reached at is) =
          let c = shapes.shown_cell d design accepted m k count within x (shapes.shown_there d design accepted m k count within s x at) in
          let same : x.port ≡ ports.Input n = ⊎_elim (λ wrong. absurd wrong) (λ e. e) (subst (λ (y : PlainAssign). AssignNames y (ports.Input n)) (sym is) names) in
          absurd (let clash : ports.Cell c.0 c.1 ≡ ports.Input n = sym c.2 ∙ same in cc)
      by (counting h r some own reached few is h2) = shapes.no_owner d design accepted m k count within o h owner some
      by (storing s x main at some h) = shapes.no_owner d design accepted m k count within o (length part.groups + s) owner some
