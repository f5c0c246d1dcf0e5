-- THE LIST OF THE FLAT COMPONENT does in a cycle what the tree does: its own groups, and for each invoke the copies of what the child does.
use Rattle.std.proofs.Common.{◌≡◌, ℕ, zero, suc, ◌+◌, ◌-◌, ◌<◌, inl, inr, ⊎_elim, Bool, true, false, ◌&&◌, nat_le, nat_lt, List, [], ◌∷◌, ◌++◌, length, map, Option, Some, None, refl, sym, ap, ◌∙◌, subst, arith}
use Rattle.std.proofs.lemmas.List.{map-append, append-nil, append_assoc}
use Rattle.cx_text.proofs.MemberLaws.{image_in, in_either, in_left, in_right}
use Rattle.cx_meaning.specs.declared.ports.PortRef.{PortRef}
use Rattle.cx_meaning.specs.declared.ports.PortRef.TheVariants as ports
use Rattle.cx_meaning.specs.Designs.{PlainInvoke, PlainComponent, PlainForm, Empty, Enable, Seq, Par, If, While, Repeat, StaticSeq, StaticPar, StaticIf, StaticRepeat, Timed, PlainStatement, Placed, PlainStatements, no_statements, a_statement}
use Rattle.cx_meaning.specs.Instances.{Instance, Node, Cells, no_cells, a_primitive, an_instance, OfInstance, part_of, cells_of, cell_at, Path}
use Rattle.cx_meaning.specs.Active.{Entry}
use Rattle.cx_meaning.specs.Control.{groups_in, groups_of, groups_in_all}
use Rattle.cx_meaning.specs.Islands.{group_length, or_zero, length_of, Condition, condition, Occurrence, occurrence, rounds_from, form_flat, flat, seq_flat, par_flat, is_wanted, entry_if, active_in}
use Rattle.cx_meaning.specs.Islands as islands
use Rattle.cx_text.specs.Members.{In}
use Rattle.cx_rules.specs.Invokes.{lasts}
use Rattle.cx_flattening.specs.Events.{the_invoke, Spot, spot, Sample, Event, Feeds, Beginning, Events, source_to, group_events, capture_events, rounds_events, bound_below, invoke_events, form_events, events, seq_events, par_events, control_events, events_below}
use Rattle.cx_flattening.specs.Deeds.{History, hold, Deed, Acts, Fed, deed_if, is_now, deeds_in}
use Rattle.cx_flattening.specs.Whole.{is_static}
use Rattle.cx_flattening.specs.Copies.{copied_form, copied_statement, copied_statements}
use Rattle.cx_flattening.specs.Flattened.{Kids, kid_at, kept_at, start_of, wire_at, flat_kids, flat_part, port_if, own_port, invoke_port, copy_of, with_capture, inlined, flat_form, flat_statement, flat_statements}
use Rattle.cx_flattening.specs.Acting.{IsUsed}
use Rattle.cx_flattening.specs.Levels.{own_of}
use Rattle.cx_flattening.specs.Fair.{IsNamed, IsFair, AllFair, AllFairBelow}
use Rattle.cx_flattening.specs.Sampling.{placed, AgreesAt, AgreesBelow}
use Rattle.cx_flattening.specs.Controlled.{timed_in, timed_of, timed_all, tested_in, tested_of, tested_all, IsInvoked, IsControlled, AllControlled, AllControlledBelow}
use Rattle.cx_flattening.proofs.CopiedControl.{statement_twice}
use Rattle.cx_flattening.proofs.FlatGroups.{in_one_of, own-length}
use Rattle.cx_flattening.proofs.LevelSights.{kid-static}
use Rattle.cx_flattening.proofs.FlatLengths.{LastsAlike, copied_one, Lasting, lasting_left, lasting_right, AllThere, there_left, there_right, invoke_lasting, one_lasting, kids_last, captures_in_it}
use Rattle.cx_flattening.proofs.Windows.{deeds-both, events-child, InWindow, window_now, ControlWithin, kids_within}

-- a deed below a path, and an entry by the number of its group's copy
abbrev pub lower : Path → Deed → Deed
lower at (Acts path e) = Acts (at ++ path) e
lower at (Fed path c inputs) = Fed (at ++ path) c inputs

abbrev pub entry_by : (ℕ → ℕ) → Entry → Entry
entry_by copy e = record { group = copy e.group; offset = e.offset }

lower_twice : (at : Path) (c : ℕ) (list : List Deed) → map (lower at) (map (lower (c ∷ [])) list) ≡ map (lower (at ++ (c ∷ []))) list
lower_twice at c [] = refl
lower_twice at c (Acts path e ∷ rest) = ap (λ p. Acts p e ∷ map (lower at) (map (lower (c ∷ [])) rest)) (sym (append_assoc at (c ∷ []) path)) ∙ ap (λ l. Acts ((at ++ (c ∷ [])) ++ path) e ∷ l) (lower_twice at c rest)
lower_twice at c (Fed path d inputs ∷ rest) = ap (λ p. Fed p d inputs ∷ map (lower at) (map (lower (c ∷ [])) rest)) (sym (append_assoc at (c ∷ []) path)) ∙ ap (λ l. Fed ((at ++ (c ∷ [])) ++ path) d inputs ∷ l) (lower_twice at c rest)

entry_twice : (copy other : ℕ → ℕ) (list : List Entry) → map (entry_by copy) (map (entry_by other) list) ≡ map (entry_by (λ g. copy (other g))) list
entry_twice copy other [] = refl
entry_twice copy other (e ∷ rest) = ap (λ l. entry_by (λ g. copy (other g)) e ∷ l) (entry_twice copy other rest)

-- WHAT IS DONE BESIDE WHAT ACTS: own groups as they are; and for an invoke what the child does, behind its feed, beside the copies of what acts there
pub data Pairs : Instance → List Deed → List Entry → Type 0 where
  none_done : {i : Instance} → Pairs i [] []
  own_group : {i : Instance} {ds : List Deed} {es : List Entry} (e : Entry) → e.group < length (part_of i).groups → Pairs i ds es → Pairs i (Acts [] e ∷ ds) (e ∷ es)
  an_invoke : {i : Instance} {ds kds : List Deed} {es kes : List Entry} (j : ℕ) (child : Instance) → j < length (part_of i).invokes → cell_at (cells_of i) (the_invoke (part_of i) j).cell ≡ OfInstance child → is_static child ≡ true
      → Pairs child kds kes → ((e : Entry) → In kes e → IsUsed (flat_part child) e.group) → Pairs i ds es
      → Pairs i (Fed [] (the_invoke (part_of i) j).cell (the_invoke (part_of i) j).inputs ∷ (map (lower ((the_invoke (part_of i) j).cell ∷ [])) kds ++ ds)) (map (entry_by (copy_of (flat_kids (cells_of i)) (part_of i) (flat_part child) j)) kes ++ es)

pub pairs_both : {i : Instance} {ds ws : List Deed} {es xs : List Entry} → Pairs i ds es → Pairs i ws xs → Pairs i (ds ++ ws) (es ++ xs)
pairs_both none_done other = other
pairs_both (own_group e less rest) other = own_group e less (pairs_both rest other)
pairs_both {i} {ws = ws} {xs = xs} (an_invoke {ds = ds} {kds = kds} {es = es} {kes = kes} j child there at static inner used rest) other =
    subst (λ l. Pairs i (Fed [] (the_invoke (part_of i) j).cell (the_invoke (part_of i) j).inputs ∷ l) ((map (entry_by (copy_of (flat_kids (cells_of i)) (part_of i) (flat_part child) j)) kes ++ es) ++ xs)) (sym (append_assoc (map (lower ((the_invoke (part_of i) j).cell ∷ [])) kds) ds ws))
    (subst (λ l. Pairs i (Fed [] (the_invoke (part_of i) j).cell (the_invoke (part_of i) j).inputs ∷ (map (lower ((the_invoke (part_of i) j).cell ∷ [])) kds ++ (ds ++ ws))) l) (sym (append_assoc (map (entry_by (copy_of (flat_kids (cells_of i)) (part_of i) (flat_part child) j)) kes) es xs))
    (an_invoke j child there at static inner used (pairs_both rest other)))

-- nothing acts where nothing is done
pub none_acts : {i : Instance} {ds : List Deed} {es : List Entry} → ds ≡ [] → Pairs i ds es → es ≡ []
none_acts e none_done = refl
none_acts e (own_group x less rest) = absurd (cc)
none_acts e (an_invoke j child there at static inner used rest) = absurd (cc)

-- what is found of a statement of an instance below a path: what is done, and what acts of its copy, whose groups are among these
pub record Found (i : Instance) (at : Path) (copy : ℕ → ℕ) (groups : List ℕ) (done : List Deed) (acting : List Entry) : Type 0 where
  pub deeds : List Deed
  pub entries : List Entry
  pub are_deeds : done ≡ map (lower at) deeds
  pub are_entries : acting ≡ map (entry_by copy) entries
  pub pairs : Pairs i deeds entries
  pub among : (e : Entry) → In entries e → In groups e.group

pub found_none : (i : Instance) (at : Path) (copy : ℕ → ℕ) (groups : List ℕ) → Found i at copy groups [] []
found_none i at copy groups = record { deeds = []; entries = []; are_deeds = refl; are_entries = refl; pairs = none_done; among = λ e i. absurd i }

pub found_both : (i : Instance) (at : Path) (copy : ℕ → ℕ) (gs hs : List ℕ) (ds ws : List Deed) (es xs : List Entry) → Found i at copy gs ds es → Found i at copy hs ws xs → Found i at copy (gs ++ hs) (ds ++ ws) (es ++ xs)
found_both i at copy gs hs ds ws es xs one other = record {
  deeds = one.deeds ++ other.deeds;
  entries = one.entries ++ other.entries;
  are_deeds = ap (λ l. l ++ ws) one.are_deeds ∙ ap (λ l. map (lower at) one.deeds ++ l) other.are_deeds ∙ sym (map-append (lower at) one.deeds other.deeds);
  are_entries = ap (λ l. l ++ xs) one.are_entries ∙ ap (λ l. map (entry_by copy) one.entries ++ l) other.are_entries ∙ sym (map-append (entry_by copy) one.entries other.entries);
  pairs = pairs_both one.pairs other.pairs;
  among = λ e j. ⊎_elim (λ k. in_left gs hs e.group (one.among e k)) (λ k. in_right gs hs e.group (other.among e k)) (in_either one.entries other.entries e j);
}

pub active-both : (h : islands.History) (t : ℕ) (xs ys : List Occurrence) → active_in h t (xs ++ ys) ≡ active_in h t xs ++ active_in h t ys
active-both h t [] ys = refl
active-both h t (islands.Runs g from to conditions ∷ xs) ys = choice (nat_le from t && nat_lt t to && islands.hold h conditions) (active-both h t xs ys)
  where
    choice : (b : Bool) → active_in h t (xs ++ ys) ≡ active_in h t xs ++ active_in h t ys
        → entry_if b g (t - from) (active_in h t (xs ++ ys)) ≡ entry_if b g (t - from) (active_in h t xs) ++ active_in h t ys
    choice true ih = ap (λ l. record { group = g; offset = t - from } ∷ l) ih
    choice false ih = ih
active-both h t (islands.Looks port at conditions ∷ xs) ys = active-both h t xs ys

module _ (h : History) (k : islands.History) where
  agrees_child : (kids : Kids) (part : PlainComponent) (rest : Cells) (c n first : ℕ) (at : Path) (child : Instance) → AgreesBelow h k kids part rest c first at → cell_at rest n ≡ OfInstance child → is_static child ≡ true
      → AgreesAt h k child (first + start_of kids part (c + n)) (at ++ ((c + n) ∷ []))
  agrees_child kids part no_cells c n first at child agree e static = absurd (cc)
  agrees_child kids part (a_primitive row rest) c zero first at child agree e static = absurd (cc)
  agrees_child kids part (a_primitive row rest) c (suc n) first at child agree e static = subst (λ d. AgreesAt h k child (first + start_of kids part d) (at ++ (d ∷ []))) (plus c n) (agrees_child kids part rest (suc c) n first at child agree e static)
    where
      plus : (a b : ℕ) → suc a + b ≡ a + suc b
      plus a b = omega arith
  agrees_child kids part (an_instance other rest) c zero first at child agree e static =
      subst (λ d. AgreesAt h k child (first + start_of kids part d) (at ++ (d ∷ []))) (plus_zero c)
      (subst (λ j. is_static j ≡ true → AgreesAt h k j (first + start_of kids part c) (at ++ (c ∷ []))) (same_child e) agree.0 static)
    where
      plus_zero : (a : ℕ) → a ≡ a + 0
      plus_zero a = omega arith

      same_child : OfInstance other ≡ OfInstance child → other ≡ child
      same_child e = cc
  agrees_child kids part (an_instance other rest) c (suc n) first at child agree e static = subst (λ d. AgreesAt h k child (first + start_of kids part d) (at ++ (d ∷ []))) (plus c n) (agrees_child kids part rest (suc c) n first at child agree.1 e static)
    where
      plus : (a b : ℕ) → suc a + b ≡ a + suc b
      plus a b = omega arith

  -- and of its inputs, at their sources: f gives the ports of the copy, bound where the ports of the instance are seen
  pub record Binds (i : Instance) (first : ℕ) (f : PortRef → PortRef) (bound : PortRef → Spot) (at : Path) : Type 0 where
    pub cells : (e p : ℕ) → f (ports.Cell e p) ≡ ports.Cell (first + e) p
    pub literals : (w v : ℕ) → f (ports.Literal w v) ≡ ports.Literal w v
    pub inputs : (n : ℕ) → n < length (part_of i).inputs → (u : ℕ) → k (f (ports.Input n)) u ≡ h (bound (ports.Input n)) u
    pub own_cells : (c p : ℕ) → bound (ports.Cell c p) ≡ spot at (ports.Cell c p)
    pub own_literals : (w v : ℕ) → bound (ports.Literal w v) ≡ spot at (ports.Literal w v)

  -- so a port that may be tested is sampled alike
  pub sampled : (i : Instance) (first : ℕ) (f : PortRef → PortRef) (bound : PortRef → Spot) (at : Path) → Binds i first f bound at → AgreesAt h k i first at → (p : PortRef) → IsNamed i p → (u : ℕ) → k (f (own_of i p)) u ≡ h (bound p) u
  sampled (Node part cells) first f bound at binds agree (ports.Cell c p) named u =
      choice (kid_at (flat_kids cells) c) ∙ agree.0 (ports.Cell c p) named tt u ∙ ap (λ x. h x u) (sym (binds.own_cells c p))
    where
      choice : (o : Option PlainComponent) → k (f (port_if (flat_kids cells) part o c p)) u ≡ k (placed first (port_if (flat_kids cells) part o c p)) u
      choice None = ap (λ q. k q u) (binds.cells (kept_at (flat_kids cells) c) p)
      choice (Some kid) = ap (λ q. k q u) (binds.cells (wire_at (flat_kids cells) part kid c (p - 1 - length kid.inputs)) 1)
  sampled (Node part cells) first f bound at binds agree (ports.Input n) named u = binds.inputs n named u
  sampled (Node part cells) first f bound at binds agree (ports.Output n) named u = absurd named
  sampled (Node part cells) first f bound at binds agree (ports.Done g) named u = absurd named
  sampled (Node part cells) first f bound at binds agree (ports.Literal w v) named u = ap (λ q. k q u) (binds.literals w v) ∙ agree.0 (ports.Literal w v) named tt u ∙ ap (λ x. h x u) (sym (binds.own_literals w v))

found_as : (i : Instance) (at : Path) (copy : ℕ → ℕ) (gs hs : List ℕ) (ds ws : List Deed) (es xs : List Entry) → ds ≡ ws → es ≡ xs → ((g : ℕ) → In hs g → In gs g) → Found i at copy hs ws xs → Found i at copy gs ds es
found_as i at copy gs hs ds ws es xs d e wider found = record {
  deeds = found.deeds;
  entries = found.entries;
  are_deeds = d ∙ found.are_deeds;
  are_entries = e ∙ found.are_entries;
  pairs = found.pairs;
  among = λ x j. wider x.group (found.among x j);
}

module _ (h : History) (k : islands.History) (t : ℕ) where
  -- what is claimed of a tree
  abbrev pub DeedsAlike : Instance → Type 0
  DeedsAlike i = (J : PlainComponent) (f : PortRef → PortRef) (copy : ℕ → ℕ) (first x : ℕ) (at : Path) (bound : PortRef → Spot) (samples : List Sample) (conditions : List Condition)
      → Lasting J (flat_part i) copy (groups_of (flat_part i).control) → Binds h k i first f bound at → AgreesAt h k i first at → hold h samples ≡ islands.hold k conditions
      → Found i at copy (groups_of (flat_part i).control) (deeds_in h t (control_events i (record { at = at; bound = bound; from = x; conditions = samples })))
      (active_in k t (flat J (copied_statement f copy (flat_part i).control) x conditions))

  module _ (part : PlainComponent) (cells : Cells) (fair : IsFair (Node part cells)) (controlled : IsControlled (Node part cells))
      (lasting : (c : ℕ) (child : Instance) → cell_at cells c ≡ OfInstance child → LastsAlike child)
      (within : (c : ℕ) (child : Instance) → cell_at cells c ≡ OfInstance child → ControlWithin h t child)
      (below : (c : ℕ) (child : Instance) → cell_at cells c ≡ OfInstance child → DeedsAlike child)
      (J : PlainComponent) (f : PortRef → PortRef) (copy : ℕ → ℕ) (first : ℕ) (at : Path) (bound : PortRef → Spot)
      (binds : Binds h k (Node part cells) first f bound at) (agree : AgreesAt h k (Node part cells) first at) where
    abbrev kids : Kids
    kids = flat_kids cells

    abbrev K : PlainComponent
    K = flat_part (Node part cells)

    abbrev start : ℕ → List Sample → Beginning
    start x samples = record { at = at; bound = bound; from = x; conditions = samples }

    abbrev FoundIn : List ℕ → List Event → List Occurrence → Type 0
    FoundIn groups one other = Found (Node part cells) at copy groups (deeds_in h t one) (active_in k t other)

    abbrev SameHold : List Sample → List Condition → Type 0
    SameHold samples conditions = hold h samples ≡ islands.hold k conditions

    both_found : (gs hs : List ℕ) (one two : List Event) (other more : List Occurrence) → FoundIn gs one other → FoundIn hs two more → FoundIn (gs ++ hs) (one ++ two) (other ++ more)
    both_found gs hs one two other more a b =
        found_as (Node part cells) at copy (gs ++ hs) (gs ++ hs) (deeds_in h t (one ++ two)) (deeds_in h t one ++ deeds_in h t two) (active_in k t (other ++ more)) (active_in k t other ++ active_in k t more)
        (deeds-both h t one two) (active-both k t other more) (λ g j. j) (found_both (Node part cells) at copy gs hs (deeds_in h t one) (deeds_in h t two) (active_in k t other) (active_in k t more) a b)

    -- a group of its own
    group_found : (g : ℕ) → g < length part.groups → (o : Option ℕ) (x : ℕ) (samples : List Sample) (conditions : List Condition) → SameHold samples conditions → FoundIn (g ∷ []) (group_events g o (start x samples)) (occurrence (copy g) x conditions o)
    group_found g less None x samples conditions same = found_none (Node part cells) at copy (g ∷ [])
    group_found g less (Some n) x samples conditions same =
        found_as (Node part cells) at copy (g ∷ []) (g ∷ []) _ (deed_if (nat_le x t && nat_lt t (x + n) && islands.hold k conditions) (Acts at (record { group = g; offset = t - x })) []) _
        (entry_if (nat_le x t && nat_lt t (x + n) && islands.hold k conditions) (copy g) (t - x) [])
        (ap (λ b. deed_if (nat_le x t && nat_lt t (x + n) && b) (Acts at (record { group = g; offset = t - x })) []) same) refl (λ j i. i) (choice (nat_le x t && nat_lt t (x + n) && islands.hold k conditions))
      where
        choice : (b : Bool) → Found (Node part cells) at copy (g ∷ []) (deed_if b (Acts at (record { group = g; offset = t - x })) []) (entry_if b (copy g) (t - x) [])
        choice true = record {
          deeds = Acts [] (record { group = g; offset = t - x }) ∷ [];
          entries = record { group = g; offset = t - x } ∷ [];
          are_deeds = ap (λ p. Acts p (record { group = g; offset = t - x }) ∷ []) (sym (append-nil at));
          are_entries = refl;
          pairs = own_group (record { group = g; offset = t - x }) less none_done;
          among = λ e i. ⊎_elim (λ (same_entry : record { group = g; offset = t - x } ≡ e). inl (ap (λ y. y.group) same_entry)) (λ none. absurd none) i;
        }
        choice false = found_none (Node part cells) at copy (g ∷ [])

    -- so many rounds
    rounds_found : (gs : List ℕ) (body : Events) (list : List Condition → ℕ → List Occurrence) (n m : ℕ) → m ≡ n → ((x : ℕ) (samples : List Sample) (conditions : List Condition) → SameHold samples conditions → FoundIn gs (body (start x samples)) (list conditions x))
        → (count x : ℕ) (samples : List Sample) (conditions : List Condition) → SameHold samples conditions → FoundIn gs (rounds_events body n count (start x samples)) (rounds_from (λ y. list conditions y) m count x)
    rounds_found gs body list n m e one zero x samples conditions same = found_none (Node part cells) at copy gs
    rounds_found gs body list n m e one (suc count) x samples conditions same =
        found_as (Node part cells) at copy gs (gs ++ gs) _ _ _ _ refl refl (λ g i. ⊎_elim (λ j. j) (λ j. j) (in_either gs gs g i))
        (both_found gs gs (body (start x samples)) (rounds_events body n count (start (x + n) samples)) (list conditions x) (rounds_from (λ y. list conditions y) m count (x + m)) (one x samples conditions same)
        (subst (λ z. FoundIn gs (rounds_events body n count (start (x + n) samples)) (rounds_from (λ y. list conditions y) m count (x + z))) (sym e) (rounds_found gs body list n m e one count (x + n) samples conditions same)))

    -- an invoke, without what captures
    module _ (j : ℕ) (there : j < length part.invokes) (its : IsInvoked (Node part cells) (the_invoke part j)) where
      abbrev v : PlainInvoke
      v = the_invoke part j

      abbrev kid : PlainComponent
      kid = flat_part its.child

      abbrev move : PortRef → PortRef
      move = invoke_port kids part kid v

      abbrev copied : ℕ → ℕ
      copied = copy_of kids part kid j

      zero_plus : (a : ℕ) → 0 + a ≡ a
      zero_plus a = omega arith

      sum : (a b c : ℕ) → a + (b + c) ≡ a + b + c
      sum a b c = omega arith

      its_binds : Binds h k its.child (first + start_of kids part v.cell) (λ q. f (move q)) (bound_below bound at v.cell v.inputs) (at ++ (v.cell ∷ []))
      its_binds = record {
        cells = λ e p. binds.cells (start_of kids part v.cell + e) p ∙ ap (λ n. ports.Cell n p) (sum first (start_of kids part v.cell) e);
        literals = binds.literals;
        inputs = λ n less u. sampled h k (Node part cells) first f bound at binds agree (source_to v.cell v.inputs n) (fair.sources j n its.child there its.stands less) u;
        own_cells = λ c p. refl;
        own_literals = λ w x. refl;
      }

      its_agree : AgreesAt h k its.child (first + start_of kids part v.cell) (at ++ (v.cell ∷ []))
      its_agree = subst (λ d. AgreesAt h k its.child (first + start_of kids part d) (at ++ (d ∷ []))) (zero_plus v.cell) (agrees_child h k kids part cells 0 v.cell first at its.child agree.1 its.stands its.static)

      abbrev child_start : ℕ → List Sample → Beginning
      child_start x samples = record { at = at ++ (v.cell ∷ []); bound = bound_below bound at v.cell v.inputs; from = x; conditions = samples }

      abbrev ChildFound : List Deed → List Entry → Type 0
      ChildFound ds es = Found its.child (at ++ (v.cell ∷ [])) (λ g. copy (copied g)) (groups_of kid.control) ds es

      feed_found : (b : Bool) (ds : List Deed) (es : List Entry) → ChildFound ds es → (b ≡ false → ds ≡ []) → Found (Node part cells) at copy (groups_of (copied_statement move copied kid.control)) (deed_if b (Fed at v.cell v.inputs) ds) es
      feed_found true ds es found none = record {
        deeds = Fed [] v.cell v.inputs ∷ (map (lower (v.cell ∷ [])) found.deeds ++ []);
        entries = map (entry_by copied) found.entries ++ [];
        are_deeds =
            ap (λ p. Fed p v.cell v.inputs ∷ ds) (sym (append-nil at))
            ∙ ap (λ l. Fed (at ++ []) v.cell v.inputs ∷ l) (found.are_deeds ∙ sym (lower_twice at v.cell found.deeds) ∙ ap (map (lower at)) (sym (append-nil (map (lower (v.cell ∷ [])) found.deeds))));
        are_entries = found.are_entries ∙ sym (entry_twice copy copied found.entries) ∙ ap (map (entry_by copy)) (sym (append-nil (map (entry_by copied) found.entries)));
        pairs = an_invoke j its.child there its.stands its.static found.pairs (λ e i. in_one_of e.group (groups_of kid.control) (found.among e i)) none_done;
        among = λ e i.
            let r = image_in (entry_by copied) found.entries e (subst (λ l. In l e) (append-nil (map (entry_by copied) found.entries)) i) in
            subst (λ x. In (groups_of (copied_statement move copied kid.control)) x.group) r.2 (copied_one move copied kid.control r.0.group (found.among r.0 r.1));
      }
      feed_found false ds es found none =
          let no_deeds : found.deeds ≡ [] = map_none found.deeds (sym found.are_deeds ∙ none refl) in
          found_as (Node part cells) at copy (groups_of (copied_statement move copied kid.control)) (groups_of (copied_statement move copied kid.control)) ds [] es [] (none refl)
          (found.are_entries ∙ ap (map (entry_by (λ g. copy (copied g)))) (none_acts no_deeds found.pairs)) (λ g i. i) (found_none (Node part cells) at copy (groups_of (copied_statement move copied kid.control)))
        where
          map_none : (list : List Deed) → map (lower (at ++ (v.cell ∷ []))) list ≡ [] → list ≡ []
          map_none [] e = refl
          map_none (d ∷ rest) e = absurd (cc)

      invoke_found : (x : ℕ) (samples : List Sample) (conditions : List Condition) → SameHold samples conditions → Lasting J K copy (groups_in (with_capture v.captures (copied_statement move copied kid.control)))
          → Found (Node part cells) at copy (groups_of (copied_statement move copied kid.control))
          (deed_if (is_now h t x (x + or_zero v.latency) samples) (Fed at v.cell v.inputs) (deeds_in h t (events_below cells v.cell (child_start x samples))))
          (active_in k t (flat J (copied_statement f copy (copied_statement move copied kid.control)) x conditions))
      invoke_found x samples conditions same lasts_there =
          subst (λ l. Found (Node part cells) at copy (groups_of (copied_statement move copied kid.control)) (deed_if (is_now h t x (x + or_zero v.latency) samples) (Fed at v.cell v.inputs) (deeds_in h t l))
          (active_in k t (flat J (copied_statement f copy (copied_statement move copied kid.control)) x conditions))) (sym (events-child cells v.cell its.child (child_start x samples) its.stands))
          (subst (λ s. Found (Node part cells) at copy (groups_of (copied_statement move copied kid.control)) (deed_if (is_now h t x (x + or_zero v.latency) samples) (Fed at v.cell v.inputs) (deeds_in h t (control_events its.child (child_start x samples))))
          (active_in k t (flat J s x conditions))) (sym (statement_twice f move copy copied kid.control))
          (feed_found (is_now h t x (x + or_zero v.latency) samples) _ _
          (below v.cell its.child its.stands J (λ q. f (move q)) (λ g. copy (copied g)) (first + start_of kids part v.cell) x (at ++ (v.cell ∷ [])) (bound_below bound at v.cell v.inputs) samples conditions
          (invoke_lasting part cells fair controlled lasting J copy j there kid (kid-static cells v.cell its.child its.stands its.static) lasts_there) its_binds its_agree same)
          (λ now. outside (deeds_in h t (control_events its.child (child_start x samples))) now (λ d i. subst (λ n. InWindow h t x (x + n) samples) (sym (ap or_zero its.latency)) (within v.cell its.child its.stands (child_start x samples) d i)))))
        where
          outside : (list : List Deed) → is_now h t x (x + or_zero v.latency) samples ≡ false → ((d : Deed) → In list d → InWindow h t x (x + or_zero v.latency) samples) → list ≡ []
          outside [] now inside = refl
          outside (d ∷ rest) now inside = absurd (let none : true ≡ false = sym (window_now h t x (x + or_zero v.latency) samples (inside d (inl refl))) ∙ now in cc)

    -- an invoke
    timed_found : (j : ℕ) → j < length part.invokes → (x : ℕ) (samples : List Sample) (conditions : List Condition) → SameHold samples conditions
        → Lasting J K copy (groups_in (inlined kids part (kid_at kids (the_invoke part j).cell) j (the_invoke part j)))
        → FoundIn (groups_in (inlined kids part (kid_at kids (the_invoke part j).cell) j (the_invoke part j))) (invoke_events (events_below cells) (the_invoke part j) (start x samples))
        (form_flat J (copied_form f copy (inlined kids part (kid_at kids (the_invoke part j).cell) j (the_invoke part j))) x conditions)
    timed_found j there x samples conditions same lasts_there =
        let its = controlled.invokes j there in
        let v = the_invoke part j in
        let at_kid : kid_at kids v.cell ≡ Some (flat_part its.child) = kid-static cells v.cell its.child its.stands its.static in
        subst (λ o. FoundIn (groups_in (inlined kids part o j v)) (invoke_events (events_below cells) v (start x samples)) (form_flat J (copied_form f copy (inlined kids part o j v)) x conditions)) (sym at_kid)
        (with_captures j there its v.captures refl x samples conditions same (subst (λ o. Lasting J K copy (groups_in (inlined kids part o j v))) at_kid lasts_there))
      where
        fed_both : (b : Bool) (d : Deed) (xs ys : List Deed) → deed_if b d (xs ++ ys) ≡ deed_if b d xs ++ ys
        fed_both true d xs ys = refl
        fed_both false d xs ys = refl

        with_none : (s : PlainStatement) (y : ℕ) (cs : List Condition) → form_flat J (copied_form f copy (with_capture None s)) y cs ≡ flat J (copied_statement f copy s) y cs
        with_none (Placed form place) y cs = refl

        none_groups : (s : PlainStatement) (g : ℕ) → In (groups_of s) g → In (groups_in (with_capture None s)) g
        none_groups (Placed form place) g i = i

        with_captures : (j : ℕ) (there : j < length part.invokes) (its : IsInvoked (Node part cells) (the_invoke part j)) (o : Option ℕ) → (the_invoke part j).captures ≡ o → (x : ℕ) (samples : List Sample) (conditions : List Condition) → SameHold samples conditions
            → Lasting J K copy (groups_in (with_capture (the_invoke part j).captures (copied_statement (invoke_port kids part (flat_part its.child) (the_invoke part j)) (copy_of kids part (flat_part its.child) j) (flat_part its.child).control)))
            → FoundIn (groups_in (with_capture o (copied_statement (invoke_port kids part (flat_part its.child) (the_invoke part j)) (copy_of kids part (flat_part its.child) j) (flat_part its.child).control)))
            (Feeds at (the_invoke part j).cell (the_invoke part j).inputs x (x + or_zero (the_invoke part j).latency) samples
            ∷ (events_below cells (the_invoke part j).cell (child_start j there its x samples) ++ capture_events o (start (x + or_zero (the_invoke part j).latency) samples)))
            (form_flat J (copied_form f copy (with_capture o (copied_statement (invoke_port kids part (flat_part its.child) (the_invoke part j)) (copy_of kids part (flat_part its.child) j) (flat_part its.child).control))) x conditions)
        with_captures j there its None e x samples conditions same lasts_there =
            let s = copied_statement (invoke_port kids part (flat_part its.child) (the_invoke part j)) (copy_of kids part (flat_part its.child) j) (flat_part its.child).control in
            found_as (Node part cells) at copy (groups_in (with_capture None s)) (groups_of s) _
            (deed_if (is_now h t x (x + or_zero (the_invoke part j).latency) samples) (Fed at (the_invoke part j).cell (the_invoke part j).inputs) (deeds_in h t (events_below cells (the_invoke part j).cell (child_start j there its x samples)))) _
            (active_in k t (flat J (copied_statement f copy s) x conditions))
            (ap (λ l. deed_if (is_now h t x (x + or_zero (the_invoke part j).latency) samples) (Fed at (the_invoke part j).cell (the_invoke part j).inputs) (deeds_in h t l)) (append-nil (events_below cells (the_invoke part j).cell (child_start j there its x samples))))
            (ap (active_in k t) (with_none s x conditions)) (none_groups s) (invoke_found j there its x samples conditions same lasts_there)
        with_captures j there its (Some g) e x samples conditions same lasts_there =
            let s = copied_statement (invoke_port kids part (flat_part its.child) (the_invoke part j)) (copy_of kids part (flat_part its.child) j) (flat_part its.child).control in
            let captured = its.captures g e in
            let lasts_one : group_length J (copy g) ≡ Some 1 = subst (λ o. Lasting J K copy (groups_in (with_capture o s))) e lasts_there g (captures_in_it g s) ∙ own-length kids part g captured.0 ∙ captured.1 in
            let length_is : length_of J (copied_statement f copy s) ≡ or_zero (the_invoke part j).latency =
            ap (length_of J) (statement_twice f (invoke_port kids part (flat_part its.child) (the_invoke part j)) copy (copy_of kids part (flat_part its.child) j) (flat_part its.child).control)
            ∙ lasting (the_invoke part j).cell its.child its.stands J (λ q. f (invoke_port kids part (flat_part its.child) (the_invoke part j) q)) (λ n. copy (copy_of kids part (flat_part its.child) j n))
            (invoke_lasting part cells fair controlled lasting J copy j there (flat_part its.child) (kid-static cells (the_invoke part j).cell its.child its.stands its.static) lasts_there) ∙ sym (ap or_zero its.latency) in
            found_as (Node part cells) at copy (groups_of s ++ (g ∷ [])) (groups_of s ++ (g ∷ [])) _
            (deed_if (is_now h t x (x + or_zero (the_invoke part j).latency) samples) (Fed at (the_invoke part j).cell (the_invoke part j).inputs) (deeds_in h t (events_below cells (the_invoke part j).cell (child_start j there its x samples)))
            ++ deeds_in h t (group_events g (Some 1) (start (x + or_zero (the_invoke part j).latency) samples))) _
            (active_in k t (flat J (copied_statement f copy s) x conditions) ++ active_in k t (occurrence (copy g) (x + or_zero (the_invoke part j).latency) conditions (Some 1)))
            (ap (deed_if (is_now h t x (x + or_zero (the_invoke part j).latency) samples) (Fed at (the_invoke part j).cell (the_invoke part j).inputs))
            (deeds-both h t (events_below cells (the_invoke part j).cell (child_start j there its x samples)) (group_events g (Some 1) (start (x + or_zero (the_invoke part j).latency) samples)))
            ∙ fed_both (is_now h t x (x + or_zero (the_invoke part j).latency) samples) (Fed at (the_invoke part j).cell (the_invoke part j).inputs) (deeds_in h t (events_below cells (the_invoke part j).cell (child_start j there its x samples)))
            (deeds_in h t (group_events g (Some 1) (start (x + or_zero (the_invoke part j).latency) samples))))
            (active-both k t (flat J (copied_statement f copy s) x conditions) (occurrence (copy g) (x + length_of J (copied_statement f copy s)) conditions (group_length J (copy g)) ++ [])
            ∙ ap (λ l. active_in k t (flat J (copied_statement f copy s) x conditions) ++ active_in k t l)
            (append-nil (occurrence (copy g) (x + length_of J (copied_statement f copy s)) conditions (group_length J (copy g)))
            ∙ ap (λ n. occurrence (copy g) (x + n) conditions (group_length J (copy g))) length_is ∙ ap (occurrence (copy g) (x + or_zero (the_invoke part j).latency) conditions) lasts_one))
            (λ n i. i)
            (found_both (Node part cells) at copy (groups_of s) (g ∷ []) _ _ _ _ (invoke_found j there its x samples conditions same lasts_there)
            (group_found g captured.0 (Some 1) (x + or_zero (the_invoke part j).latency) samples conditions same))

    -- A STATEMENT, beside its flat form
    mutual
      pub form_found : (form : PlainForm) → AllThere (groups_in form) (length part.groups) → AllThere (timed_in form) (length part.invokes) → ((p : PortRef) → In (tested_in form) p → IsNamed (Node part cells) p)
          → Lasting J K copy (groups_in (flat_form kids part form)) → (x : ℕ) (samples : List Sample) (conditions : List Condition) → SameHold samples conditions
          → FoundIn (groups_in (flat_form kids part form)) (form_events part (events_below cells) form (start x samples)) (form_flat J (copied_form f copy (flat_form kids part form)) x conditions)
      form_found Empty own timed tested lasts_there x samples conditions same = found_none (Node part cells) at copy []
      form_found (Enable g) own timed tested lasts_there x samples conditions same =
          subst (λ o. FoundIn (g ∷ []) (group_events g (group_length part g) (start x samples)) (occurrence (copy g) x conditions o)) (sym (lasts_there g (inl refl) ∙ own-length kids part g (own g (inl refl))))
          (group_found g (own g (inl refl)) (group_length part g) x samples conditions same)
      form_found (Seq ss) own timed tested lasts_there x samples conditions same = found_none (Node part cells) at copy (groups_in_all (flat_statements kids part ss))
      form_found (Par arms) own timed tested lasts_there x samples conditions same = found_none (Node part cells) at copy (groups_in_all (flat_statements kids part arms))
      form_found (If test comb a b) own timed tested lasts_there x samples conditions same = found_none (Node part cells) at copy (groups_in (flat_form kids part (If test comb a b)))
      form_found (While test comb a) own timed tested lasts_there x samples conditions same = found_none (Node part cells) at copy (groups_in (flat_form kids part (While test comb a)))
      form_found (Repeat count a) own timed tested lasts_there x samples conditions same = found_none (Node part cells) at copy (groups_of (flat_statement kids part a))
      form_found (StaticSeq length ss) own timed tested lasts_there x samples conditions same = seq_found ss own timed tested lasts_there x samples conditions same
      form_found (StaticPar length arms) own timed tested lasts_there x samples conditions same = par_found arms own timed tested lasts_there x samples conditions same
      form_found (StaticIf length test a b) own timed tested lasts_there x samples conditions same =
          both_found (groups_of (flat_statement kids part a)) (groups_of (flat_statement kids part b))
          (events part (events_below cells) a (start x (record { spot = bound test.port; cycle = x; wanted = true } ∷ samples))) (events part (events_below cells) b (start x (record { spot = bound test.port; cycle = x; wanted = false } ∷ samples)))
          (flat J (copied_statement f copy (flat_statement kids part a)) x (condition (f (own_port kids part test.port)) x true ∷ conditions)) (flat J (copied_statement f copy (flat_statement kids part b)) x (condition (f (own_port kids part test.port)) x false ∷ conditions))
          (one_found a (there_left (groups_of a) (groups_of b) _ own) (there_left (timed_of a) (timed_of b) _ timed) (λ p i. tested p (inr (in_left (tested_of a) (tested_of b) p i)))
          (lasting_left J K copy (groups_of (flat_statement kids part a)) (groups_of (flat_statement kids part b)) lasts_there) x _ _ (holds_with true))
          (one_found b (there_right (groups_of a) (groups_of b) _ own) (there_right (timed_of a) (timed_of b) _ timed) (λ p i. tested p (inr (in_right (tested_of a) (tested_of b) p i)))
          (lasting_right J K copy (groups_of (flat_statement kids part a)) (groups_of (flat_statement kids part b)) lasts_there) x _ _ (holds_with false))
        where
          holds_with : (wanted : Bool) → (is_wanted wanted (h (bound test.port) x) && hold h samples) ≡ (is_wanted wanted (k (f (own_port kids part test.port)) x) && islands.hold k conditions)
          holds_with wanted =
              ap (λ y. is_wanted wanted y && hold h samples) (sym (sampled h k (Node part cells) first f bound at binds agree test.port (tested test.port (inl refl)) x))
              ∙ ap (λ y. is_wanted wanted (k (f (own_port kids part test.port)) x) && y) same
      form_found (StaticRepeat length count a) own timed tested lasts_there x samples conditions same =
          rounds_found (groups_of (flat_statement kids part a)) (events part (events_below cells) a) (λ cs y. flat J (copied_statement f copy (flat_statement kids part a)) y cs) (lasts part a) (length_of J (copied_statement f copy (flat_statement kids part a)))
          (one_lasting part cells fair controlled lasting J f copy a own timed lasts_there) (λ y ss cs e. one_found a own timed tested lasts_there y ss cs e) count x samples conditions same
      form_found (Timed j) own timed tested lasts_there x samples conditions same = timed_found j (timed j (inl refl)) x samples conditions same lasts_there

      pub one_found : (s : PlainStatement) → AllThere (groups_of s) (length part.groups) → AllThere (timed_of s) (length part.invokes) → ((p : PortRef) → In (tested_of s) p → IsNamed (Node part cells) p)
          → Lasting J K copy (groups_of (flat_statement kids part s)) → (x : ℕ) (samples : List Sample) (conditions : List Condition) → SameHold samples conditions
          → FoundIn (groups_of (flat_statement kids part s)) (events part (events_below cells) s (start x samples)) (flat J (copied_statement f copy (flat_statement kids part s)) x conditions)
      one_found (Placed form place) own timed tested lasts_there x samples conditions same = form_found form own timed tested lasts_there x samples conditions same

      seq_found : (ss : PlainStatements) → AllThere (groups_in_all ss) (length part.groups) → AllThere (timed_all ss) (length part.invokes) → ((p : PortRef) → In (tested_all ss) p → IsNamed (Node part cells) p)
          → Lasting J K copy (groups_in_all (flat_statements kids part ss)) → (x : ℕ) (samples : List Sample) (conditions : List Condition) → SameHold samples conditions
          → FoundIn (groups_in_all (flat_statements kids part ss)) (seq_events part (events_below cells) ss (start x samples)) (seq_flat J (copied_statements f copy (flat_statements kids part ss)) x conditions)
      seq_found no_statements own timed tested lasts_there x samples conditions same = found_none (Node part cells) at copy []
      seq_found (a_statement s ss) own timed tested lasts_there x samples conditions same =
          both_found (groups_of (flat_statement kids part s)) (groups_in_all (flat_statements kids part ss)) (events part (events_below cells) s (start x samples)) (seq_events part (events_below cells) ss (start (x + lasts part s) samples))
          (flat J (copied_statement f copy (flat_statement kids part s)) x conditions) (seq_flat J (copied_statements f copy (flat_statements kids part ss)) (x + length_of J (copied_statement f copy (flat_statement kids part s))) conditions)
          (one_found s (there_left (groups_of s) (groups_in_all ss) _ own) (there_left (timed_of s) (timed_all ss) _ timed) (λ p i. tested p (in_left (tested_of s) (tested_all ss) p i)) here x samples conditions same)
          (subst (λ n. FoundIn (groups_in_all (flat_statements kids part ss)) (seq_events part (events_below cells) ss (start (x + lasts part s) samples)) (seq_flat J (copied_statements f copy (flat_statements kids part ss)) (x + n) conditions))
          (sym (one_lasting part cells fair controlled lasting J f copy s (there_left (groups_of s) (groups_in_all ss) _ own) (there_left (timed_of s) (timed_all ss) _ timed) here))
          (seq_found ss (there_right (groups_of s) (groups_in_all ss) _ own) (there_right (timed_of s) (timed_all ss) _ timed) (λ p i. tested p (in_right (tested_of s) (tested_all ss) p i))
          (lasting_right J K copy (groups_of (flat_statement kids part s)) (groups_in_all (flat_statements kids part ss)) lasts_there) (x + lasts part s) samples conditions same))
        where
          here : Lasting J K copy (groups_of (flat_statement kids part s))
          here = lasting_left J K copy (groups_of (flat_statement kids part s)) (groups_in_all (flat_statements kids part ss)) lasts_there

      par_found : (ss : PlainStatements) → AllThere (groups_in_all ss) (length part.groups) → AllThere (timed_all ss) (length part.invokes) → ((p : PortRef) → In (tested_all ss) p → IsNamed (Node part cells) p)
          → Lasting J K copy (groups_in_all (flat_statements kids part ss)) → (x : ℕ) (samples : List Sample) (conditions : List Condition) → SameHold samples conditions
          → FoundIn (groups_in_all (flat_statements kids part ss)) (par_events part (events_below cells) ss (start x samples)) (par_flat J (copied_statements f copy (flat_statements kids part ss)) x conditions)
      par_found no_statements own timed tested lasts_there x samples conditions same = found_none (Node part cells) at copy []
      par_found (a_statement s ss) own timed tested lasts_there x samples conditions same =
          both_found (groups_of (flat_statement kids part s)) (groups_in_all (flat_statements kids part ss)) (events part (events_below cells) s (start x samples)) (par_events part (events_below cells) ss (start x samples))
          (flat J (copied_statement f copy (flat_statement kids part s)) x conditions) (par_flat J (copied_statements f copy (flat_statements kids part ss)) x conditions)
          (one_found s (there_left (groups_of s) (groups_in_all ss) _ own) (there_left (timed_of s) (timed_all ss) _ timed) (λ p i. tested p (in_left (tested_of s) (tested_all ss) p i))
          (lasting_left J K copy (groups_of (flat_statement kids part s)) (groups_in_all (flat_statements kids part ss)) lasts_there) x samples conditions same)
          (par_found ss (there_right (groups_of s) (groups_in_all ss) _ own) (there_right (timed_of s) (timed_all ss) _ timed) (λ p i. tested p (in_right (tested_of s) (tested_all ss) p i))
          (lasting_right J K copy (groups_of (flat_statement kids part s)) (groups_in_all (flat_statements kids part ss)) lasts_there) x samples conditions same)

  mutual
    -- THE CONTROL OF A STATIC CHILD, copied, beside what the child does
    pub control_found : (i : Instance) → AllFair i → AllControlled i → DeedsAlike i
    control_found (Node part cells) fair controlled J f copy first x at bound samples conditions lasts_there binds agree same =
        one_found part cells fair.0 controlled.0 (kids_last cells fair.1 controlled.1) (kids_within h t cells controlled.1) (kids_found cells fair.1 controlled.1) J f copy first at bound binds agree part.control
        controlled.0.enables controlled.0.timed controlled.0.tests lasts_there x samples conditions same

    pub kids_found : (cells : Cells) → AllFairBelow cells → AllControlledBelow cells → (c : ℕ) (child : Instance) → cell_at cells c ≡ OfInstance child → DeedsAlike child
    kids_found no_cells fair controlled c child e = absurd (cc)
    kids_found (a_primitive row rest) fair controlled zero child e = absurd (cc)
    kids_found (a_primitive row rest) fair controlled (suc c) child e = kids_found rest fair controlled c child e
    kids_found (an_instance other rest) fair controlled zero child e = let same : other ≡ child = cc in subst DeedsAlike same (control_found other fair.0 controlled.0)
    kids_found (an_instance other rest) fair controlled (suc c) child e = kids_found rest fair.1 controlled.1 c child e
