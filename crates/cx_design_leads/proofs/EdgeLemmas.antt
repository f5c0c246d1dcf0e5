-- The edges of a component are what leads to what in it.
use Rattle.std.proofs.Common.{◌≡◌, ℕ, zero, suc, ◌+◌, ◌<◌, inl, inr, ◌⊎◌, ⊎_elim, Bool, true, false, Some, None, List, [], ◌∷◌, ◌++◌, length, map, get_or, take, nat_lt, refl, sym, ap, ◌∙◌, subst, arith}
use Rattle.std.specs.Prelude.{if◌then◌else◌}
use Rattle.std.proofs.lemmas.List.{take_more}
use Rattle.cx_text.proofs.MemberLaws.{in_either, in_left, in_right}
use Rattle.cx_graphs.specs.Graphs.{Edges, targets_of}
use Rattle.cx_graphs.specs.Additions.{IsEdge, Adds, IsBare}
use Rattle.cx_graphs.proofs.Additions.{adds_none, adds_then, adds_as, bare_adds}
use Rattle.cx_graphs.proofs.Lists.{in_last, the_last}
use Rattle.cx_prim.specs.declared.ports.Side.{Side}
use Rattle.cx_prim.specs.declared.ports.Side.TheVariants.{Enable, Plain, Output, Registered}
use Rattle.cx_prim.specs.Rows.{Row}
use Rattle.cx_meaning.specs.declared.ports.PortRef.{PortRef}
use Rattle.cx_meaning.specs.declared.ports.PortRef.TheVariants as ports
use Rattle.cx_meaning.specs.declared.ports.PlacedPort.{PlacedPort}
use Rattle.cx_meaning.specs.Rows.{side_of}
use Rattle.cx_design.specs.declared.groups.Group.{Group}
use Rattle.cx_design.specs.PlainForms.{plain_assigns, plain_group}
use Rattle.cx_meaning.specs.Designs.{no_group, PlainAssign, group_at}
use Rattle.cx_meaning.specs.Instances.{Instance, OfRow, cell_at, cells_of, part_of, cell_count}
use Rattle.cx_meaning.specs.Active.{nothing}
use Rattle.cx_text.specs.Members.{In}
use Rattle.cx_rules.specs.Items.{operands_of}
use Rattle.cx_rules.specs.Footprints.{Leads}
use Rattle.cx_rules.specs.Ports.{is_source_only}
use Rattle.cx_design_leads.specs.Nodes.{node_of, node_count}
use Rattle.cx_design_leads.specs.Edges.{Between, HasEdges, IsSpread, LeadsInGroup}
use Rattle.cx_design_leads.specs.Links.{driven_node, ToPort, ToPorts, ToNamed, OfAssign, OfAssigns, ToInputs, OfPort, OfPorts, OfCell, OfCells}
use Rattle.cx_design_parts.specs.Outputs.{is_combinational}
use Rattle.cx_design_leads.proofs.NodeLemmas.{cell_there}
use Rattle.cx_design_leads.proofs.DriverLemmas.{bare_drives, drives_bare, leads_either, either_leads, row_leads}
use Rattle.cx_meaning.proofs.RowsLemmas.{side_below}
use Rattle.cx_text.proofs.OptionLaws.{none_some}
use Rattle.cx_rules.proofs.FoundLemmas.{guard_operand, operand_named}

-- OPERANDS of a guard are what it names
-- LISTS that grow
in_none : {A : Type 0} (xs : List A) (x : A) → In (take 0 xs) x → ⊥
in_none xs x i = i

pub in_take_more : {A : Type 0} (xs : List A) (k : ℕ) (x y : A) → k < length xs → get_or xs k x ≡ x → In (take (k + 1) xs) y → In (take k xs) y ⊎ (x ≡ y)
in_take_more xs k x y h e i =
    ⊎_elim inl (λ j. ⊎_elim (λ f. inr (sym e ∙ f)) (λ n. absurd n) j) (in_either (take k xs) (get_or xs k x ∷ []) y (subst (λ l. In l y) (take_more xs k x h) i))

pub take_more_has : {A : Type 0} (xs : List A) (k : ℕ) (x y : A) → k < length xs → get_or xs k x ≡ x → In (take k xs) y ⊎ (x ≡ y) → In (take (k + 1) xs) y
take_more_has xs k x y h e i =
    subst (λ l. In l y) (sym (take_more xs k x h)) (⊎_elim (λ j. in_left (take k xs) (get_or xs k x ∷ []) y j) (λ f. in_right (take k xs) (get_or xs k x ∷ []) y (inl (e ∙ f))) i)

module _ (i : Instance) where
  -- TO PORTS
  pub port_added : (g after : Edges) (from to : ℕ) (q : PortRef) → node_of i q ≡ Some to → Adds g (IsEdge from to) after → Adds g (ToPort i from q) after
  port_added g after from to q e a = adds_as g after (IsEdge from to) (ToPort i from q)
      (λ m n h. (h.0, e ∙ ap Some (sym h.1)))
      (λ m n h. (h.0, some_is n to (sym h.1 ∙ e))) a
    where
      some_is : (x y : ℕ) → Some x ≡ Some y → x ≡ y
      some_is x y f = cc

  pub no_port_added : (g : Edges) (from : ℕ) (q : PortRef) → node_of i q ≡ None → Adds g (ToPort i from q) g
  no_port_added g from q e = adds_none g (ToPort i from q) (λ m n h. none_some n (sym e ∙ h.1))
    where
      none_some : (x : ℕ) → None ≡ Some x → ⊥
      none_some x f = cc

  pub no_ports : (g : Edges) (from : ℕ) → Adds g (ToPorts i from []) g
  no_ports g from = adds_none g (ToPorts i from []) (λ m n h. h.1.1)

  pub more_ports : (g h k : Edges) (from : ℕ) (list more : List PlacedPort) (p : PlacedPort) → ((q : PlacedPort) → In more q → In list q ⊎ (p ≡ q)) → ((q : PlacedPort) → In list q ⊎ (p ≡ q) → In more q)
      → Adds g (ToPorts i from list) h → Adds h (ToPort i from p.port) k → Adds g (ToPorts i from more) k
  more_ports g h k from list more p split join a b = adds_as g k (λ m n. ToPorts i from list m n ⊎ ToPort i from p.port m n) (ToPorts i from more)
      (λ m n e. ⊎_elim (λ x. (x.0, (x.1.0, join x.1.0 (inl x.1.1), x.1.2))) (λ x. (x.0, (p, join p (inr refl), x.1))) e)
      (λ m n e. ⊎_elim (λ x. inl (e.0, (e.1.0, x, e.1.2))) (λ x. inr (e.0, subst (λ (q : PlacedPort). node_of i q.port ≡ Some n) (sym x) e.1.2)) (split e.1.0 e.1.1))
      (adds_then g h k (ToPorts i from list) (ToPort i from p.port) a b)

  -- the operands of the guard and the source are what an assignment names
  pub named_added : (g h k : Edges) (from : ℕ) (a : PlainAssign) → Adds g (ToPorts i from (operands_of a.guard)) h → Adds h (ToPort i from a.source.port) k → Adds g (ToNamed i from a) k
  named_added g h k from a x y = adds_as g k (λ m n. ToPorts i from (operands_of a.guard) m n ⊎ ToPort i from a.source.port m n) (ToNamed i from a)
      (λ m n e. ⊎_elim
      (λ p. (p.0, (p.1.0.port, inl (operand_named a.guard p.1.0 p.1.1), p.1.2)))
      (λ p. (p.0, (a.source.port, inr refl, p.1))) e)
      (λ m n e. ⊎_elim
      (λ x. let r = guard_operand a.guard e.1.0 x in inl (e.0, (r.0, r.1, ap (node_of i) r.2 ∙ e.1.2)))
      (λ x. inr (e.0, ap (node_of i) x ∙ e.1.2)) e.1.1)
      (adds_then g h k (ToPorts i from (operands_of a.guard)) (ToPort i from a.source.port) x y)

  -- ASSIGNMENTS
  pub assign_added : (g k : Edges) (from : ℕ) (a : PlainAssign) → driven_node i a.target ≡ Some from → Adds g (ToNamed i from a) k → Adds g (OfAssign i a) k
  assign_added g k from a e x = adds_as g k (ToNamed i from a) (OfAssign i a)
      (λ m n h. (e ∙ ap Some (sym h.0), h.1))
      (λ m n h. (some_is m from (sym h.0 ∙ e), h.1)) x
    where
      some_is : (x y : ℕ) → Some x ≡ Some y → x ≡ y
      some_is x y f = cc

  pub no_assign_added : (g : Edges) (a : PlainAssign) → driven_node i a.target ≡ None → Adds g (OfAssign i a) g
  no_assign_added g a e = adds_none g (OfAssign i a) (λ m n h. none_some m (sym e ∙ h.0))
    where
      none_some : (x : ℕ) → None ≡ Some x → ⊥
      none_some x f = cc

  pub no_assigns : (g : Edges) → Adds g (OfAssigns i []) g
  no_assigns g = adds_none g (OfAssigns i []) (λ m n h. h.1)

  pub more_assigns : (g h k : Edges) (list more : List PlainAssign) (a : PlainAssign) → ((b : PlainAssign) → In more b → In list b ⊎ (a ≡ b)) → ((b : PlainAssign) → In list b ⊎ (a ≡ b) → In more b)
      → Adds g (OfAssigns i list) h → Adds h (OfAssign i a) k → Adds g (OfAssigns i more) k
  more_assigns g h k list more a split join x y = adds_as g k (λ m n. OfAssigns i list m n ⊎ OfAssign i a m n) (OfAssigns i more)
      (λ m n e. ⊎_elim (λ p. (p.0, join p.0 (inl p.1), p.2)) (λ p. (a, join a (inr refl), p)) e)
      (λ m n e. ⊎_elim (λ p. inl (e.0, p, e.2)) (λ p. inr (subst (λ b. OfAssign i b m n) (sym p) e.2)) (split e.0 e.1))
      (adds_then g h k (OfAssigns i list) (OfAssign i a) x y)

  -- ROWS
  pub no_inputs : (g : Edges) (from c : ℕ) → Adds g (ToInputs i from c 0) g
  no_inputs g from c = adds_none g (ToInputs i from c 0) (λ m n h. let none : h.1.0 < 0 = h.1.1 in omega (arith, none))

  pub more_inputs : (g h k : Edges) (from c count : ℕ) → Adds g (ToInputs i from c count) h → Adds h (ToPort i from (ports.Cell c count)) k → Adds g (ToInputs i from c (count + 1)) k
  more_inputs g h k from c count x y = adds_as g k (λ m n. ToInputs i from c count m n ⊎ ToPort i from (ports.Cell c count) m n) (ToInputs i from c (count + 1))
      (λ m n e. ⊎_elim (λ p. let lt : p.1.0 < count = p.1.1 in (p.0, (p.1.0, omega (arith, lt), p.1.2))) (λ p. (p.0, (count, omega arith, p.1))) e)
      (λ m n e. ⊎_elim
      (λ lt. inl (e.0, (e.1.0, lt, e.1.2)))
      (λ same. inr (e.0, subst (λ q. node_of i (ports.Cell c q) ≡ Some n) same e.1.2))
      (last_or count e.1.0 e.1.1))
      (adds_then g h k (ToInputs i from c count) (ToPort i from (ports.Cell c count)) x y)
    where
      last_or : (count q : ℕ) → q < count + 1 → (q < count) ⊎ (q ≡ count)
      last_or count q h = grind arith

  pub port_of_row : (g k : Edges) (from c p count : ℕ) (row : Row) → side_of row p ≡ Output → node_of i (ports.Cell c p) ≡ Some from → ((q : ℕ) → row.reads p q ≡ nat_lt q count)
      → Adds g (ToInputs i from c count) k → Adds g (OfPort i c row p) k
  port_of_row g k from c p count row side e reads x = adds_as g k (ToInputs i from c count) (OfPort i c row p)
      (λ m n h. (side, e ∙ ap Some (sym h.0), (h.1.0, reads h.1.0 ∙ true_lt h.1.0 count h.1.1, h.1.2)))
      (λ m n h. (some_is m from (sym h.1 ∙ e), (h.2.0, lt_true h.2.0 count (sym (reads h.2.0) ∙ h.2.1), h.2.2))) x
    where
      some_is : (x y : ℕ) → Some x ≡ Some y → x ≡ y
      some_is x y f = cc

      true_lt : (n count : ℕ) → n < count → nat_lt n count ≡ true
      true_lt n count h = grind arith

      lt_true : (n count : ℕ) → nat_lt n count ≡ true → n < count
      lt_true n count h = grind arith

  pub no_output : (g : Edges) (c p : ℕ) (row : Row) → (side_of row p ≡ Output → ⊥) → Adds g (OfPort i c row p) g
  no_output g c p row d = adds_none g (OfPort i c row p) (λ m n h. d h.0)

  pub no_node_output : (g : Edges) (c p : ℕ) (row : Row) → node_of i (ports.Cell c p) ≡ None → Adds g (OfPort i c row p) g
  no_node_output g c p row e = adds_none g (OfPort i c row p) (λ m n h. none_some m (sym e ∙ h.1))
    where
      none_some : (x : ℕ) → None ≡ Some x → ⊥
      none_some x f = cc

  pub no_outputs : (g : Edges) (c : ℕ) (row : Row) → Adds g (OfPorts i c row 0) g
  no_outputs g c row = adds_none g (OfPorts i c row 0) (λ m n h. let none : h.0 < 0 = h.1 in omega (arith, none))

  pub more_outputs : (g h k : Edges) (c count : ℕ) (row : Row) → Adds g (OfPorts i c row count) h → Adds h (OfPort i c row count) k → Adds g (OfPorts i c row (count + 1)) k
  more_outputs g h k c count row x y = adds_as g k (λ m n. OfPorts i c row count m n ⊎ OfPort i c row count m n) (OfPorts i c row (count + 1))
      (λ m n e. ⊎_elim (λ p. let lt : p.0 < count = p.1 in (p.0, omega (arith, lt), p.2)) (λ p. (count, omega arith, p)) e)
      (λ m n e. ⊎_elim (λ lt. inl (e.0, lt, e.2)) (λ same. inr (subst (λ q. OfPort i c row q m n) same e.2)) (last_or count e.0 e.1))
      (adds_then g h k (OfPorts i c row count) (OfPort i c row count) x y)
    where
      last_or : (count q : ℕ) → q < count + 1 → (q < count) ⊎ (q ≡ count)
      last_or count q h = grind arith

  pub cell_added : (g k : Edges) (c : ℕ) (row : Row) → cell_at (cells_of i) c ≡ OfRow row → Adds g (OfPorts i c row (length row.ports)) k → Adds g (OfCell i c) k
  cell_added g k c row e x = adds_as g k (OfPorts i c row (length row.ports)) (OfCell i c)
      (λ m n h. (row, e, (h.0, h.2)))
      (λ m n h. let same : h.0 ≡ row = row_is h.0 row (sym h.1 ∙ e) in let o = subst (λ r. OfPort i c r h.2.0 m n) same h.2.1 in (h.2.0, side_below row.ports h.2.0 o.0, o)) x
    where
      row_is : (a b : Row) → OfRow a ≡ OfRow b → a ≡ b
      row_is a b f = cc

  pub no_cell_added : (g : Edges) (c : ℕ) → ((row : Row) → cell_at (cells_of i) c ≡ OfRow row → ⊥) → Adds g (OfCell i c) g
  no_cell_added g c d = adds_none g (OfCell i c) (λ m n h. d h.0 h.1)

  pub no_cells : (g : Edges) → Adds g (OfCells i 0) g
  no_cells g = adds_none g (OfCells i 0) (λ m n h. let none : h.0 < 0 = h.1 in omega (arith, none))

  pub more_cells : (g h k : Edges) (count : ℕ) → Adds g (OfCells i count) h → Adds h (OfCell i count) k → Adds g (OfCells i (count + 1)) k
  more_cells g h k count x y = adds_as g k (λ m n. OfCells i count m n ⊎ OfCell i count m n) (OfCells i (count + 1))
      (λ m n e. ⊎_elim (λ p. let lt : p.0 < count = p.1 in (p.0, omega (arith, lt), p.2)) (λ p. (count, omega arith, p)) e)
      (λ m n e. ⊎_elim (λ lt. inl (e.0, lt, e.2)) (λ same. inr (subst (λ q. OfCell i q m n) same e.2)) (last_or count e.0 e.1))
      (adds_then g h k (OfCells i count) (OfCell i count) x y)
    where
      last_or : (count q : ℕ) → q < count + 1 → (q < count) ⊎ (q ≡ count)
      last_or count q h = grind arith

-- a combinational output, by the test
pub combinational_is : (side : Side) → is_combinational side ≡ true → side ≡ Output
combinational_is Enable e = absurd (cc)
combinational_is Plain e = absurd (cc)
combinational_is Output e = refl
combinational_is Registered e = absurd (cc)

pub not_combinational : (side : Side) → is_combinational side ≡ false → side ≡ Output → ⊥
not_combinational side e f = let both : true ≡ false = ap is_combinational (sym f) ∙ e in absurd (cc)

-- members of a list that a function makes
in_map_last : {A B : Type 0} (f : A → B) (xs : List A) (x : A) (y : B) → In (map f (xs ++ x ∷ [])) y → In (map f xs) y ⊎ (f x ≡ y)
in_map_last f [] x y (inl e) = inr e
in_map_last f [] x y (inr i) = absurd i
in_map_last f (z ∷ xs) x y (inl e) = inl (inl e)
in_map_last f (z ∷ xs) x y (inr i) = ⊎_elim (λ j. inl (inr j)) inr (in_map_last f xs x y i)

map_last_in : {A B : Type 0} (f : A → B) (xs : List A) (x : A) (y : B) → In (map f xs) y ⊎ (f x ≡ y) → In (map f (xs ++ x ∷ [])) y
map_last_in f [] x y (inl i) = absurd i
map_last_in f [] x y (inr e) = inl e
map_last_in f (z ∷ xs) x y (inl (inl e)) = inl e
map_last_in f (z ∷ xs) x y (inl (inr i)) = inr (map_last_in f xs x y (inl i))
map_last_in f (z ∷ xs) x y (inr e) = inr (map_last_in f xs x y (inr e))

pub map_take_more : {A B : Type 0} (f : A → B) (xs : List A) (k : ℕ) (x : A) (y : B) → k < length xs → get_or xs k x ≡ x → In (map f (take (k + 1) xs)) y → In (map f (take k xs)) y ⊎ (f x ≡ y)
map_take_more f xs k x y h e i = in_map_last f (take k xs) x y (subst (λ l. In (map f l) y) (take_more xs k x h ∙ ap (λ z. take k xs ++ z ∷ []) e) i)

pub take_more_map : {A B : Type 0} (f : A → B) (xs : List A) (k : ℕ) (x : A) (y : B) → k < length xs → get_or xs k x ≡ x → In (map f (take k xs)) y ⊎ (f x ≡ y) → In (map f (take (k + 1) xs)) y
take_more_map f xs k x y h e i = subst (λ l. In (map f l) y) (sym (take_more xs k x h ∙ ap (λ z. take k xs ++ z ∷ []) e)) (map_last_in f (take k xs) x y i)

-- THE TARGETS of a group, with one more
pub spread_more : (i : Instance) (count : ℕ) (g after : Edges) (targets later : List ℕ) (from : ℕ) (a : PlainAssign) → IsSpread count g targets → from < count
    → Adds g (ToNamed i from a) after → later ≡ targets ++ from ∷ [] → IsSpread count after later
spread_more i count g after targets later from a s below x e = record {
  same_length = x.same_length ∙ s.same_length;
  within = λ n j. ⊎_elim (λ k. s.within n k) (λ same. subst (λ k. k < count) same below) (in_last targets from n (subst (λ l. In l n) e j));
  from_targets = λ m n j. subst (λ l. In l m) (sym e)
      (⊎_elim
      (λ k. in_left targets (from ∷ []) m (s.from_targets m n k))
      (λ k. subst (In (targets ++ from ∷ [])) (sym k.0) (the_last targets from))
      (x.known m n j));
}

-- something is in a list that is not empty
pub something : (xs : List ℕ) → (length xs ≡ 0 → ⊥) → (n : ℕ) × In xs n
something [] never = absurd (never refl)
something (x ∷ xs) never = (x, inl refl)

-- one target is taken away with its edges
pub spread_less : (count : ℕ) (g after : Edges) (targets rest : List ℕ) (t : ℕ) → targets ≡ rest ++ t ∷ [] → length after ≡ length g
    → ((m n : ℕ) → In (targets_of after m) n → In (targets_of g m) n × (m ≡ t → ⊥)) → IsSpread count g targets → IsSpread count after rest
spread_less count g after targets rest t e long fewer s = record {
  same_length = long ∙ s.same_length;
  within = λ n j. s.within n (subst (λ l. In l n) (sym e) (in_left rest (t ∷ []) n j));
  from_targets = λ m n j.
      let r = fewer m n j in
      ⊎_elim (λ k. k) (λ same. absurd (r.1 (sym same))) (in_last rest t m (subst (λ l. In l m) e (s.from_targets m n r.0)));
}

pub driven_is : (i : Instance) (p : PortRef) (m : ℕ) → driven_node i p ≡ Some m → (is_source_only i p ≡ false) × (node_of i p ≡ Some m)
driven_is i p m e = choice (is_source_only i p) refl e
  where
    choice : (b : Bool) → is_source_only i p ≡ b → (if b then None else node_of i p) ≡ Some m → (is_source_only i p ≡ false) × (node_of i p ≡ Some m)
    choice true f g = absurd (none_some m g)
    choice false f g = (f, g)

is_driven : (i : Instance) (p : PortRef) (m : ℕ) → is_source_only i p ≡ false → node_of i p ≡ Some m → driven_node i p ≡ Some m
is_driven i p m f e = ap (λ b. if b then None else node_of i p) f ∙ e

assign_between : (i : Instance) (m n : ℕ) → OfAssigns i (part_of i).always m n → Between i (Leads i nothing) m n
assign_between i m n (a, j, o) =
    let d = driven_is i a.target m o.0 in
    record {
      from = a.target;
      to = o.1.0;
      is_from = d.1;
      is_to = o.1.2;
      leads = either_leads i nothing a.target o.1.0 m d.1 (inl (d.0, drives_bare (part_of i) a.target o.1.0 (record { assign = a; stands = j; target = refl; names = o.1.1 })));
    }

cell_between : (i : Instance) (m n count : ℕ) → OfCells i count m n → Between i (Leads i nothing) m n
cell_between i m n count (c, h, (row, at, (p, o))) = record {
  from = ports.Cell c p;
  to = ports.Cell c o.2.0;
  is_from = o.1;
  is_to = o.2.2;
  leads = row_leads i nothing (ports.Cell c p) (ports.Cell c o.2.0) (record { cell = c; port = p; row = row; is = refl; stands = at; side = o.0; wanted = (o.2.0, o.2.1, refl) });
}

between_either : (i : Instance) (m n : ℕ) → Between i (Leads i nothing) m n → OfAssigns i (part_of i).always m n ⊎ OfCells i (cell_count (cells_of i)) m n
between_either i m n b =
    ⊎_elim
    (λ d. let a = bare_drives (part_of i) b.from b.to d.1 in
    inl (a.assign, a.stands, (subst (λ p. driven_node i p ≡ Some m) (sym a.target) (is_driven i b.from m d.0 b.is_from), (b.to, a.names, b.is_to))))
    (λ r. let from : node_of i (ports.Cell r.cell r.port) ≡ Some m = ap (node_of i) (sym r.is) ∙ b.is_from in
    inr (r.cell, cell_there i r.cell r.port m from, (r.row, r.stands, (r.port, (r.side, from, (r.wanted.0, r.wanted.1, ap (node_of i) r.wanted.2 ∙ b.is_to))))))
    (leads_either i nothing b.from b.to b.leads)

pub continuous_edges : (i : Instance) (g h k : Edges) → IsBare (node_count i) g → Adds g (OfAssigns i (part_of i).always) h → Adds h (OfCells i (cell_count (cells_of i))) k → HasEdges i (Leads i nothing) k
continuous_edges i g h k bare x y =
    let both = adds_then g h k (OfAssigns i (part_of i).always) (OfCells i (cell_count (cells_of i))) x y in
    record {
      same_length = both.same_length ∙ bare.same_length;
      sound = λ m n e. ⊎_elim (assign_between i m n) (cell_between i m n (cell_count (cells_of i)))
          (bare_adds (node_count i) g k (λ m n. OfAssigns i (part_of i).always m n ⊎ OfCells i (cell_count (cells_of i)) m n) bare both m n e);
      all = λ m n b. both.all m n (between_either i m n b);
    }

pub group_edges : (i : Instance) (group : ℕ) (g h : Edges) → IsBare (node_count i) g → Adds g (OfAssigns i (group_at (part_of i) group).assigns) h → HasEdges i (LeadsInGroup i group) h
group_edges i group g h bare x = record {
  same_length = x.same_length ∙ bare.same_length;
  sound = λ m n e. of_assigns m n (bare_adds (node_count i) g h (OfAssigns i (group_at (part_of i) group).assigns) bare x m n e);
  all = λ m n b. x.all m n (b.leads.assign, b.leads.stands, (subst (λ p. driven_node i p ≡ Some m) (sym b.leads.target) (is_driven i b.from m b.leads.drivable b.is_from), (b.to, b.leads.names, b.is_to)));
}
  where
    of_assigns : (m n : ℕ) → OfAssigns i (group_at (part_of i) group).assigns m n → Between i (LeadsInGroup i group) m n
    of_assigns m n (a, j, o) =
        let d = driven_is i a.target m o.0 in
        record { from = a.target; to = o.1.0; is_from = d.1; is_to = o.1.2; leads = record { assign = a; stands = j; target = refl; drivable = d.0; names = o.1.1 } }

pub driven_from : (i : Instance) (g m n : ℕ) → Between i (LeadsInGroup i g) m n → (a : PlainAssign) × In (group_at (part_of i) g).assigns a × (driven_node i a.target ≡ Some m)
driven_from i g m n b = (b.leads.assign, b.leads.stands, subst (λ p. driven_node i p ≡ Some m) (sym b.leads.target) (is_driven i b.from m b.leads.drivable b.is_from))

-- the assignments of a group that is found
pub found_assigns : (groups : List Group) (g : ℕ) (x : Group) → g < length groups → x ≡ get_or groups g x → plain_assigns x.assigns.items ≡ (get_or (map plain_group groups) g no_group).assigns
found_assigns [] g x h e = absurd (omega (arith, h))
found_assigns (y ∷ groups) zero x h e = ap (λ (v : Group). plain_assigns v.assigns.items) e
found_assigns (y ∷ groups) (suc g) x h e = found_assigns groups g x (omega (arith, h)) e
