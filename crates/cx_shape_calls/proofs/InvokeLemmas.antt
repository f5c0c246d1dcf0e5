-- Whether a static invoke breaks the rule, by what is found of it.
use Rattle.std.proofs.Common.{◌≡◌, ◌<◌, ℕ, zero, suc, ◌+◌, Bool, true, false, not, ◌↔◌, is_some, nat_eq, List, [], ◌∷◌, ◌++◌, Some, length, length-append, map, get_or, slice_get, inl, inr, ⊎_elim, refl, sym, ap, ◌∙◌, subst, arith, true≢false}
use denote.Struct.Props.{props}
use Rattle.std.proofs.Math.Logic.{∥∥₁_elim}
use Rattle.cx_text.proofs.MemberLaws.{flat_in, in_flat}
use Rattle.cx_text.specs.Members.{In}
use Rattle.cx_graphs.specs.Graphs.{Edges, IsReached, at_start, by_edge}
use Rattle.cx_meaning.specs.declared.ports.PortRef.TheVariants as ports
use Rattle.cx_meaning.specs.Designs.{PlainAssign, PlainInvoke, PlainComponent, PlainDesign, Always, component_at}
use Rattle.cx_meaning.specs.Instances.{Instance, At, Nothing, OfRow, OfInstance, part_of, cells_of, cell_at, input_count}
use Rattle.cx_meaning.specs.Sights.{GuardNames}
use Rattle.cx_rules.specs.Ports.{component_of}
use Rattle.cx_rules.specs.Items.{sources_of}
use Rattle.cx_rules.specs.Wellformed.{IsDesign, IsThere}
use Rattle.cx_rules.specs.InvokeShape.{LeadsToCell, itself, through, InvokeBreak, another_kind, unbound, restless, fed_back}
use Rattle.cx_design.specs.declared.components.Component.{Component}
use Rattle.cx_design.specs.declared.invokes.StaticInvoke.{StaticInvoke}
use Rattle.cx_design.specs.PlainForms.{plain_component, plain_invoke}
use Rattle.cx_meaning.proofs.DesignsLemmas.{same_part}
use Rattle.cx_race.specs.Cells.{named_in, named_in_all}
use Rattle.cx_race.specs.Links.{AreLinks}
use Rattle.cx_race.proofs.CellLemmas.{cell_is, has_cell, in_named, is_named}
use Rattle.cx_race.proofs.ArmLemmas.{as_node, from_node}
use Rattle.cx_shape_calls.specs.StaticInvokes.{is_bound, some_unbound, is_restless, FeedsBack, IsWrong, IsMarkOf, AreMarksOf}
use Rattle.cx_rules.specs.Invokes.{invoke_at}
use Rattle.cx_text.proofs.ListLaws.{front, get_end, item_at}
use Rattle.cx_text.proofs.NumberLaws.{from_eq}
use Rattle.cx_text.proofs.OptionLaws.{same_some}
use Rattle.cx_shape_calls.proofs.BoolLemmas.{any_in, any_has}
use Rattle.cx_shape_state.specs.Resting.{rests_at}
use Rattle.cx_shape_state.specs.StateBreaks.{all_rest}
use Rattle.cx_shape_state.proofs.StateLemmas.{one_fails, all_fail, unrested, never_rests}
use Rattle.cx_text.proofs.BoolLaws.{from_not, or_either, or_left, or_right}
use Rattle.std.proofs.lemmas.Bool.{not_from_false}
use Rattle.cx_rules.proofs.FoundLemmas.{source_in, source_named}

-- FED BACK: what is reached along the links from the cells that the inputs name
module _ (part : PlainComponent) (g : Edges) (links : AreLinks part g) (inputs : List PlainAssign) where
  pub reached_feeds : (c : ℕ) → IsReached g (named_in_all inputs) c → FeedsBack part inputs c
  reached_feeds c (at_start i) =
      let a = flat_in named_in inputs c (from_node (named_in_all inputs) c i) in
      let n = is_named a.0 c a.2 in
      record { input = a.0; stands = a.1; cell = c; port = n.0; names = n.1; leads = itself }
  reached_feeds c (by_edge m r i) =
      let f = reached_feeds m r in
      let a = links.links.sound m c i in
      let t = cell_is a.0.target m a.2 in
      let n = is_named a.0 c a.3 in
      record { input = f.input; stands = f.stands; cell = f.cell; port = f.port; names = f.names; leads = through m t.0 n.0 a.0 f.leads a.1 t.1 n.1 }

  leads_reached : (e c : ℕ) → LeadsToCell part e c → IsReached g (named_in_all inputs) e → IsReached g (named_in_all inputs) c
  leads_reached e c itself r = r
  leads_reached e c (through m p q a l i t n) r = by_edge m (leads_reached e m l r) (links.links.all m c a i (has_cell a.target m p t) (in_named a c q n))

  pub feeds_reached : (c : ℕ) → FeedsBack part inputs c → IsReached g (named_in_all inputs) c
  feeds_reached c f =
      leads_reached f.cell c f.leads
      (at_start (as_node (named_in_all inputs) f.cell (in_flat named_in inputs f.input f.cell f.stands (in_named f.input f.cell f.port f.names))))

-- UNBOUND: one of the first so many inputs
less : (x y : ℕ) → nat_eq x y ≡ false → x < y + 1 → x < y
less x y e l = grind arith

module _ (c : ℕ) (inputs : List PlainAssign) where
  pub unbound_sound : (count : ℕ) → some_unbound c inputs count ≡ true → (n : ℕ) × (n < count) × (is_bound c inputs n ≡ false)
  unbound_sound zero h = absurd (true≢false (sym h))
  unbound_sound (suc count) h =
      ⊎_elim
      (λ l. (count, omega arith, from_not (is_bound c inputs count) l))
      (λ r. let x = unbound_sound count r in (x.0, omega (arith, x.1), x.2))
      (or_either (not (is_bound c inputs count)) (some_unbound c inputs count) h)

  pub unbound_complete : (count n : ℕ) → n < count → is_bound c inputs n ≡ false → some_unbound c inputs count ≡ true
  unbound_complete zero n h e = absurd (omega (arith, h))
  unbound_complete (suc count) n h e = choice (nat_eq n count) refl (λ s. unbound_complete count n (less n count s (omega (arith, h))) e)
    where
      choice : (b : Bool) → nat_eq n count ≡ b → (nat_eq n count ≡ false → some_unbound c inputs count ≡ true) → some_unbound c inputs (suc count) ≡ true
      choice true s f =
          or_left (not (is_bound c inputs count)) (some_unbound c inputs count)
          (not_from_false (is_bound c inputs count) (subst (λ m. is_bound c inputs m ≡ false) (from_eq n count s) e))
      choice false s f = or_right (not (is_bound c inputs count)) (some_unbound c inputs count) (f s)

-- A STATIC INVOKE breaks the rule exactly where what is looked for is found
module _ (d : PlainDesign) (k : ℕ) (w : PlainInvoke) where
  abbrev i : Instance
  i = component_of d k

  abbrev moves : PlainAssign → Bool
  moves a = not (all_rest i true (sources_of a))

  unbound_breaks : (at : At) → cell_at (cells_of i) w.cell ≡ at → some_unbound w.cell w.inputs (input_count at) ≡ true → InvokeBreak i w
  unbound_breaks Nothing e u = absurd (true≢false (sym u))
  unbound_breaks (OfRow row) e u = absurd (true≢false (sym u))
  unbound_breaks (OfInstance child) e u =
      let x = unbound_sound w.cell w.inputs (length (part_of child).inputs) u in unbound child x.0 e x.1 x.2

  restless_breaks : is_restless i w.inputs ≡ true → InvokeBreak i w
  restless_breaks r =
      let a = any_in moves w.inputs r in
      let p = one_fails (λ x. rests_at i true x.port) (sources_of a.0) (from_not (all_rest i true (sources_of a.0)) a.2) in
      restless a.0 p.0.port a.1 (source_named a.0 p.0 p.1) (unrested d k p.0.port p.2)

  pub wrong_breaks : IsWrong i w → InvokeBreak i w
  wrong_breaks (inl e) = another_kind e
  wrong_breaks (inr (inl u)) = unbound_breaks (cell_at (cells_of i) w.cell) refl u
  wrong_breaks (inr (inr (inl r))) = restless_breaks r
  wrong_breaks (inr (inr (inr f))) = fed_back f.input f.cell f.port f.stands f.names f.leads

  pub breaks_wrong : InvokeBreak i w → IsWrong i w
  breaks_wrong (another_kind e) = inl e
  breaks_wrong (unbound child n stands h e) =
      inr (inl (ap (λ at. some_unbound w.cell w.inputs (input_count at)) stands ∙ unbound_complete w.cell w.inputs (length (part_of child).inputs) n h e))
  breaks_wrong (restless a q j names none) =
      let p = source_in a q names in
      let fails : rests_at i true p.0.port ≡ false = ap (rests_at i true) p.2 ∙ never_rests d k q none in
      let all : all_rest i true (sources_of a) ≡ false = all_fail (λ x. rests_at i true x.port) (sources_of a) p.0 p.1 fails in
      inr (inr (inl (any_has moves w.inputs a j (not_from_false (all_rest i true (sources_of a)) all))))
  breaks_wrong (fed_back a e p j names l) = inr (inr (inr (record { input = a; stands = j; cell = e; port = p; names = names; leads = l })))

  pub marked_wrong : IsWrong i w → IsMarkOf i w true
  marked_wrong s = (λ e. wrong_breaks s, λ b. refl)

  same : part_of i ≡ component_at d k
  same = same_part d (length d.components) k

  -- where the first three are not found it breaks the rule exactly where it feeds back
  pub marked_late : is_some w.latency ≡ true → some_unbound w.cell w.inputs (input_count (cell_at (cells_of i) w.cell)) ≡ false → is_restless i w.inputs ≡ false
      → (fed : Bool) → (fed ≡ true) ↔ FeedsBack (component_at d k) w.inputs w.cell → IsMarkOf i w fed
  marked_late timed bound rests fed fed_is =
      (λ h. wrong_breaks (inr (inr (inr (subst (λ p. FeedsBack p w.inputs w.cell) (sym same) (fed_is.0 h))))), λ b. others (breaks_wrong b))
    where
      others : IsWrong i w → fed ≡ true
      others (inl e) = absurd (true≢false (sym timed ∙ ap is_some e))
      others (inr (inl u)) = absurd (true≢false (sym u ∙ bound))
      others (inr (inr (inl r))) = absurd (true≢false (sym r ∙ rests))
      others (inr (inr (inr f))) = fed_is.1 (subst (λ p. FeedsBack p w.inputs w.cell) same f)

-- a static invoke as it stands in its component
pub got_invoke : (part : PlainComponent) (component : Component) (list : List StaticInvoke) (n : ℕ) (x : StaticInvoke) → plain_component component ≡ part → list ≡ component.invokes.items
    → n < length list → x ≡ get_or list n x → invoke_at part n ≡ Some (plain_invoke x)
got_invoke part component list n x is same within at =
    ap (λ (p : PlainComponent). slice_get p.invokes n) (sym is) ∙ ap (λ l. slice_get (map plain_invoke l) n) (sym same) ∙ item_at plain_invoke list n x within at

pub marks_more : (at : Instance) (n : ℕ) (list : List Bool) (b : Bool) (w : PlainInvoke) → invoke_at (part_of at) n ≡ Some w → AreMarksOf at n list → IsMarkOf at w b
    → AreMarksOf at (n + 1) (list ++ b ∷ [])
marks_more at n list b w is so_far mark = record { many = length-append list (b ∷ []) ∙ ap (λ m. m + 1) so_far.many; tell = λ k v h e. choice k v h e (nat_eq k n) refl }
  where
    choice : (k : ℕ) (v : PlainInvoke) → k < n + 1 → invoke_at (part_of at) k ≡ Some v → (s : Bool) → nat_eq k n ≡ s
        → (x : Bool) × (slice_get (list ++ b ∷ []) k ≡ Some x) × IsMarkOf at v x
    choice k v h e true s =
        let same : k ≡ n = from_eq k n s in
        let one : w ≡ v = same_some w v (sym is ∙ ap (invoke_at (part_of at)) (sym same) ∙ e) in
        (b, subst (λ m. slice_get (list ++ b ∷ []) m ≡ Some b) (so_far.many ∙ sym same) (get_end list b), subst (λ x. IsMarkOf at x b) one mark)
    choice k v h e false s = let r = so_far.tell k v (less k n s h) e in (r.0, front list (b ∷ []) k r.0 r.1, r.2)

-- the cell of a static invoke and those that its inputs name are there
module _ (d : PlainDesign) (keeps : ∥ IsDesign d ∥₁) (k : ℕ) (within : k < length d.components) (w : PlainInvoke) (stands : In (component_at d k).invokes w) where
  abbrev here : Instance
  here = component_of d k

  in_part : (c : ℕ) → c < length (part_of here).cells → c < length (component_at d k).cells
  in_part c h = subst (λ p. c < length p.cells) (same_part d (length d.components) k) h

  pub invoked_there : w.cell < length (component_at d k).cells
  invoked_there = ∥∥₁_elim keeps (hlevel props) (λ design. in_part w.cell ((design.components k within).invokes w stands).cell)

  pub named_there : (c : ℕ) → In (named_in_all w.inputs) c → c < length (component_at d k).cells
  named_there c h = ∥∥₁_elim keeps (hlevel props) (λ design.
      let a = flat_in named_in w.inputs c h in
      let bind = ((design.components k within).invokes w stands).inputs a.0 a.1 in
      let n = is_named a.0 c a.2 in
      ⊎_elim
      (λ g. absurd (let none : GuardNames Always (ports.Cell c n.0) = subst (λ guard. GuardNames guard (ports.Cell c n.0)) bind.no_guard g in none))
      (λ e. let there : IsThere here (ports.Cell c n.0) = subst (IsThere here) e bind.source in in_part c there.0)
      n.1)
