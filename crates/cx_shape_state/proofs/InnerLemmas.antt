-- What rests on state where inputs never rest is what rests on state and leads back to no signature input.
use Rattle.std.proofs.Common.{◌≡◌, ◌<◌, ℕ, zero, suc, nat_lt, nat_eq, Bool, true, false, cond, ◌&&◌, not, List, [], ◌∷◌, ◌⊎◌, inl, inr, ⊎_elim, refl, sym, ap, ◌∙◌, subst, arith, true≢false}
use Rattle.std.proofs.lemmas.Bool.{eqb-true, eq-eqb, ltb-true}
use Rattle.std.proofs.lemmas.Bool.Decides.{nat_tests}
use Rattle.cx_text.specs.Members.{In}
use Rattle.cx_prim.specs.declared.ports.PortRow.{PortRow}
use Rattle.cx_prim.specs.declared.ports.Side.{Side}
use Rattle.cx_prim.specs.declared.ports.Side.TheVariants as sides
use Rattle.cx_prim.specs.Rows.{Row, is_plain_side}
use Rattle.cx_meaning.specs.declared.ports.PortRef.{PortRef}
use Rattle.cx_meaning.specs.declared.ports.PortRef.TheVariants as ports
use Rattle.cx_meaning.specs.Rows.{side_of, side_from}
use Rattle.cx_meaning.specs.Designs.{PlainAssign, group_at}
use Rattle.cx_meaning.specs.Instances.{Instance, OfRow, OfInstance, part_of, cells_of, cell_at}
use Rattle.cx_meaning.specs.Active.{nothing}
use Rattle.cx_meaning.specs.Sights.{AnOutput, ItsDone, part_port}
use Rattle.cx_rules.specs.Items.{sources_of}
use Rattle.cx_rules.specs.Footprints.{AssignNames, Rests, literal_rests, input_rests, registered_rests, output_rests, done_rests, combinational_rests, SideLeads, PartLeads, CellLeads, Leads, Depends, at_once, by_way_of}
use Rattle.cx_rules.specs.ShapeRules.{LeadsToInput}
use Rattle.cx_design_parts.specs.Outputs.{is_write_data, is_read_port, read_count}
use Rattle.cx_design_parts.proofs.ReadLemmas.{AllRead}
use Rattle.cx_shape_state.proofs.Names.{Drives, drives, mentions}
use Rattle.cx_shape_state.proofs.RestLemmas.{RestsBy, by_literal, by_input, by_registered, by_output, by_done, by_combinational}
use Rattle.cx_rules.proofs.FoundLemmas.{source_in, source_named}

-- what is read is a plain input
plain_side : (side : Side) (b : Bool) → is_plain_side side && b ≡ true → side ≡ sides.Plain
plain_side sides.Enable b e = absurd (true≢false (sym e))
plain_side sides.Plain b e = refl
plain_side sides.Output b e = absurd (true≢false (sym e))
plain_side sides.Registered b e = absurd (true≢false (sym e))

none_below : (k : ℕ) → nat_lt k 0 ≡ true → ⊥
none_below k f = let few : k < 0 = ltb-true k 0 f in omega (arith, few)

below_less : (k n : ℕ) → nat_lt (suc k) (suc n) ≡ true → nat_lt k n ≡ true
below_less k n h = grind (arith, nat_tests)

read_plain : (rows : List PortRow) (m : ℕ) → nat_lt m (read_count rows) ≡ true → side_from rows m ≡ sides.Plain
read_plain [] m e = absurd (none_below m e)
read_plain (row ∷ rows) m e = by_test (is_read_port row) refl m e (read_plain rows)
  where
    at : (k : ℕ) → is_read_port row ≡ true → nat_lt k (suc (read_count rows)) ≡ true → ((n : ℕ) → nat_lt n (read_count rows) ≡ true → side_from rows n ≡ sides.Plain) → side_from (row ∷ rows) k ≡ sides.Plain
    at zero h f rest = plain_side row.side (not (is_write_data row.name)) h
    at (suc k) h f rest = rest k (below_less k (read_count rows) f)

    by_test : (b : Bool) → is_read_port row ≡ b → (k : ℕ) → nat_lt k (cond b (suc (read_count rows)) 0) ≡ true
        → ((n : ℕ) → nat_lt n (read_count rows) ≡ true → side_from rows n ≡ sides.Plain) → side_from (row ∷ rows) k ≡ sides.Plain
    by_test true h k f rest = at k h f rest
    by_test false h k f rest = absurd (none_below k f)

all_or : {A : Type 0} (P : A → Type 0) (Q : Type 0) (xs : List A) → ((x : A) → In xs x → P x ⊎ Q) → ((x : A) → In xs x → P x) ⊎ Q
all_or P Q [] h = inl (λ x i. absurd i)
all_or P Q (y ∷ xs) h =
    ⊎_elim
    (λ first. ⊎_elim
    (λ rest. inl (λ x i. ⊎_elim (λ e. subst P e first) (λ j. rest x j) i))
    (λ q. inr q)
    (all_or P Q xs (λ x i. h x (inr i))))
    (λ q. inr q)
    (h y (inl refl))

module _ (i : Instance) (reads : AllRead (cells_of i)) where
  -- leads of an output, and of an input that it reads
  out_leads : (c p : ℕ) (row : Row) (q : PortRef) → cell_at (cells_of i) c ≡ OfRow row → side_of row p ≡ sides.Output → Leads i nothing (ports.Cell c p) q → (m : ℕ) × (row.reads p m ≡ true) × (ports.Cell c m ≡ q)
  out_leads c p row q at side l = subst (λ s. SideLeads (part_of i) nothing row c p s q) side (subst (λ x. CellLeads (part_of i) nothing c p x q) at l)

  leads_in : (c p m : ℕ) (row : Row) → cell_at (cells_of i) c ≡ OfRow row → side_of row p ≡ sides.Output → row.reads p m ≡ true → Leads i nothing (ports.Cell c p) (ports.Cell c m)
  leads_in c p m row at side r =
      subst (λ x. CellLeads (part_of i) nothing c p x (ports.Cell c m)) (sym at) (subst (λ s. SideLeads (part_of i) nothing row c p s (ports.Cell c m)) (sym side) (m, r, refl))

  plain_at : (c p m : ℕ) (row : Row) → cell_at (cells_of i) c ≡ OfRow row → side_of row p ≡ sides.Output → row.reads p m ≡ true → side_of row m ≡ sides.Plain
  plain_at c p m row at side r = read_plain row.ports m (sym ((reads c row at).first p m side) ∙ r)

  in_leads : (c m : ℕ) (row : Row) (q : PortRef) → cell_at (cells_of i) c ≡ OfRow row → side_of row m ≡ sides.Plain → Leads i nothing (ports.Cell c m) q → Drives (part_of i) (ports.Cell c m) q
  in_leads c m row q at side l =
      drives (part_of i) (ports.Cell c m) q (subst (λ s. SideLeads (part_of i) nothing row c m s q) side (subst (λ x. CellLeads (part_of i) nothing c m x q) at l))

  leads_on : (c m : ℕ) (row : Row) (q : PortRef) → cell_at (cells_of i) c ≡ OfRow row → side_of row m ≡ sides.Plain → Drives (part_of i) (ports.Cell c m) q → Leads i nothing (ports.Cell c m) q
  leads_on c m row q at side d =
      subst (λ x. CellLeads (part_of i) nothing c m x q) (sym at) (subst (λ s. SideLeads (part_of i) nothing row c m s q) (sym side) (mentions (part_of i) (ports.Cell c m) q d))

  -- what rests where inputs never rest leads to none
  abbrev IsInner : PortRef → Type 0
  IsInner q = (n : ℕ) → (q ≡ ports.Input n → ⊥) × (Depends i nothing q (ports.Input n) → ⊥)

  -- what leads nowhere
  leads_none : (q : PortRef) → ((x : PortRef) → Leads i nothing q x → ⊥) → (n : ℕ) → Depends i nothing q (ports.Input n) → ⊥
  leads_none q none n (at_once l) = none (ports.Input n) l
  leads_none q none n (by_way_of r l rest) = none r l

  registered_none : (c p : ℕ) (row : Row) → cell_at (cells_of i) c ≡ OfRow row → side_of row p ≡ sides.Registered → (x : PortRef) → Leads i nothing (ports.Cell c p) x → ⊥
  registered_none c p row at side x l = subst (λ s. SideLeads (part_of i) nothing row c p s x) side (subst (λ a. CellLeads (part_of i) nothing c p a x) at l)

  output_none : (c p n : ℕ) (child : Instance) → cell_at (cells_of i) c ≡ OfInstance child → part_port (part_of child) p ≡ AnOutput n → (x : PortRef) → Leads i nothing (ports.Cell c p) x → ⊥
  output_none c p n child at port x l = subst (λ s. PartLeads (part_of i) nothing c p s x) port (subst (λ a. CellLeads (part_of i) nothing c p a x) at l)

  done_none : (c p : ℕ) (child : Instance) → cell_at (cells_of i) c ≡ OfInstance child → part_port (part_of child) p ≡ ItsDone → (x : PortRef) → Leads i nothing (ports.Cell c p) x → ⊥
  done_none c p child at port x l = subst (λ s. PartLeads (part_of i) nothing c p s x) port (subst (λ a. CellLeads (part_of i) nothing c p a x) at l)

  -- an input that an output reads, where all that its drivers name is inner
  input_inner : (c m : ℕ) (row : Row) → cell_at (cells_of i) c ≡ OfRow row → side_of row m ≡ sides.Plain
      → ((a : PlainAssign) (q : PortRef) → In (part_of i).always a → a.target ≡ ports.Cell c m → AssignNames a q → IsInner q) → (n : ℕ) → Depends i nothing (ports.Cell c m) (ports.Input n) → ⊥
  input_inner c m row at side named n (at_once l) =
      let d = in_leads c m row (ports.Input n) at side l in (named d.assign (ports.Input n) d.stands d.target d.names n).0 refl
  input_inner c m row at side named n (by_way_of r l rest) =
      let d = in_leads c m row r at side l in (named d.assign r d.stands d.target d.names n).1 rest

  combinational_inner : (c p : ℕ) (row : Row) → cell_at (cells_of i) c ≡ OfRow row → side_of row p ≡ sides.Output
      → ((m : ℕ) (a : PlainAssign) (q : PortRef) → row.reads p m ≡ true → In (part_of i).always a → a.target ≡ ports.Cell c m → AssignNames a q → IsInner q)
      → (n : ℕ) → Depends i nothing (ports.Cell c p) (ports.Input n) → ⊥
  combinational_inner c p row at side named n (at_once l) = let o = out_leads c p row (ports.Input n) at side l in let wrong = o.2 in cc
  combinational_inner c p row at side named n (by_way_of r l rest) =
      let o = out_leads c p row r at side l in
      input_inner c o.0 row at (plain_at c p o.0 row at side o.1) (λ a q j t k. named o.0 a q o.1 j t k) n (subst (λ x. Depends i nothing x (ports.Input n)) (sym o.2) rest)

  inner : {q : PortRef} → RestsBy i false q → IsInner q
  inner (by_literal {w = w} {v = v}) n = (λ e. cc, leads_none (ports.Literal w v) (λ x l. l) n)
  inner (by_input e) n = absurd (true≢false (sym e))
  inner (by_registered {c = c} {p = p} row at side) n = (λ e. cc, leads_none (ports.Cell c p) (registered_none c p row at side) n)
  inner (by_output {c = c} {p = p} k child at port) n = (λ e. cc, leads_none (ports.Cell c p) (output_none c p k child at port) n)
  inner (by_done {c = c} {p = p} child at port) n = (λ e. cc, leads_none (ports.Cell c p) (done_none c p child at port) n)
  inner (by_combinational {c = c} {p = p} row at side none named) n = (λ e. cc, combinational_inner c p row at side (λ m a q r j t k. inner (named m a q r j t k)) n)

  pub inner_leads : (q : PortRef) → RestsBy i false q → LeadsToInput i q → ⊥
  inner_leads q r (n, l) = ⊎_elim (inner r n).0 (inner r n).1 l

  -- one that rests on state rests so without inputs, or leads back to one
  abbrev Either : PortRef → Type 0
  Either q = RestsBy i false q ⊎ LeadsToInput i q

  leads_back : (c p m : ℕ) (row : Row) (a : PlainAssign) (q : PortRef) → cell_at (cells_of i) c ≡ OfRow row → side_of row p ≡ sides.Output → row.reads p m ≡ true
      → In (part_of i).always a → a.target ≡ ports.Cell c m → AssignNames a q → LeadsToInput i q → LeadsToInput i (ports.Cell c p)
  leads_back c p m row a q at side r j t k (n, l) =
      let plain = plain_at c p m row at side r in
      let on : Leads i nothing (ports.Cell c m) q = leads_on c m row q at plain (record { assign = a; stands = j; target = t; names = k }) in
      let first = leads_in c p m row at side r in
      (n, inr (by_way_of (ports.Cell c m) first (⊎_elim (λ e. at_once (subst (λ x. Leads i nothing (ports.Cell c m) x) e on)) (λ d. by_way_of q on d) l)))

  module _ (c p : ℕ) (row : Row) (at : cell_at (cells_of i) c ≡ OfRow row) (side : side_of row p ≡ sides.Output)
      (named : (m : ℕ) (a : PlainAssign) (q : PortRef) → row.reads p m ≡ true → In (part_of i).always a → a.target ≡ ports.Cell c m → AssignNames a q → Either q) where
    abbrev Inside : PlainAssign → Type 0
    Inside a = (m : ℕ) (q : PortRef) → row.reads p m ≡ true → a.target ≡ ports.Cell c m → AssignNames a q → RestsBy i false q

    read_inside : (a : PlainAssign) (m : ℕ) → In (part_of i).always a → a.target ≡ ports.Cell c m → row.reads p m ≡ true → Inside a ⊎ LeadsToInput i (ports.Cell c p)
    read_inside a m j t r =
        ⊎_elim
        (λ all. inl (λ n q s u k. let source = source_in a q k in subst (RestsBy i false) source.2 (all source.0 source.1)))
        (λ back. inr back)
        (all_or (λ s. RestsBy i false s.port) (LeadsToInput i (ports.Cell c p)) (sources_of a)
        (λ s k. ⊎_elim (λ h. inl h) (λ h. inr (leads_back c p m row a s.port at side r j t (source_named a s k) h)) (named m a s.port r j t (source_named a s k))))

    other : (a : PlainAssign) → ((m : ℕ) → a.target ≡ ports.Cell c m → row.reads p m ≡ true → ⊥) → Inside a
    other a none m q r t k = absurd (none m t r)

    abbrev port_number : PortRef → ℕ
    port_number (ports.Cell d m) = m
    port_number (ports.Input n) = 0
    port_number (ports.Output n) = 0
    port_number (ports.Done g) = 0
    port_number (ports.Literal w v) = 0

    abbrev cell_number : PortRef → ℕ
    cell_number (ports.Cell d m) = d
    cell_number (ports.Input n) = 0
    cell_number (ports.Output n) = 0
    cell_number (ports.Done g) = 0
    cell_number (ports.Literal w v) = 0

    one_inside : (a : PlainAssign) → In (part_of i).always a → Inside a ⊎ LeadsToInput i (ports.Cell c p)
    one_inside a j = by_target a.target refl
      where
        by_read : (d m : ℕ) → a.target ≡ ports.Cell d m → (same read : Bool) → nat_eq d c ≡ same → row.reads p m ≡ read → Inside a ⊎ LeadsToInput i (ports.Cell c p)
        by_read d m t true true e r = read_inside a m j (t ∙ ap (λ x. ports.Cell x m) (eqb-true d c e)) r
        by_read d m t false read e r =
            inl (other a (λ n u s. let same : d ≡ c = ap cell_number (sym t ∙ u) in true≢false (sym (subst (λ x. nat_eq x c ≡ true) (sym same) (eq_self c)) ∙ e)))
          where
            eq_self : (n : ℕ) → nat_eq n n ≡ true
            eq_self n = eq-eqb n n refl
        by_read d m t true false e r = inl (other a (λ n u s. let same : m ≡ n = ap port_number (sym t ∙ u) in true≢false (sym s ∙ ap (row.reads p) (sym same) ∙ r)))

        by_target : (target : PortRef) → a.target ≡ target → Inside a ⊎ LeadsToInput i (ports.Cell c p)
        by_target (ports.Cell d m) t = by_read d m t (nat_eq d c) (row.reads p m) refl refl
        by_target (ports.Input n) t = inl (other a (λ m u r. let wrong = sym t ∙ u in cc))
        by_target (ports.Output n) t = inl (other a (λ m u r. let wrong = sym t ∙ u in cc))
        by_target (ports.Done g) t = inl (other a (λ m u r. let wrong = sym t ∙ u in cc))
        by_target (ports.Literal w v) t = inl (other a (λ m u r. let wrong = sym t ∙ u in cc))

    combinational_either : ((m g : ℕ) (a : PlainAssign) → row.reads p m ≡ true → In (group_at (part_of i) g).assigns a → a.target ≡ ports.Cell c m → ⊥) → Either (ports.Cell c p)
    combinational_either none =
        ⊎_elim
        (λ all. inl (by_combinational row at side none (λ m a q r j t k. all a j m q r t k)))
        (λ back. inr back)
        (all_or Inside (LeadsToInput i (ports.Cell c p)) (part_of i).always one_inside)

  pub inner_or_leads : {q : PortRef} → Rests i q → Either q
  inner_or_leads literal_rests = inl by_literal
  inner_or_leads (input_rests {n = n}) = inr (n, inl refl)
  inner_or_leads (registered_rests row at side) = inl (by_registered row at side)
  inner_or_leads (output_rests n child at port) = inl (by_output n child at port)
  inner_or_leads (done_rests child at port) = inl (by_done child at port)
  inner_or_leads (combinational_rests {c = c} {p = p} row at side none named) = combinational_either c p row at side (λ m a q r j t k. inner_or_leads (named m a q r j t k)) none
