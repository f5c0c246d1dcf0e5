-- What sources show: a port that is seen by a source before any run is seen as this shows in the asked instance; and operators, by what their inputs are seen as.
use Rattle.std.proofs.Common.{◌≡◌, ◌≢◌, ℕ, zero, suc, ◌+◌, ◌<◌, ◌≤◌, true, Option, Some, None, Err, List, [], ◌∷◌, drop, get_or, length, nat_lt, set, take, ⊎_elim, refl, sym, ap, ◌∙◌, subst, arith}
use Rattle.std.specs.Prelude.{option_map, slice_get}
use Rattle.std.proofs.lemmas.Option.{get_or_from_slice_get, slice_get_read}
use Rattle.cx_bits.specs.BitVector.{BitVector}
use Rattle.cx_text.proofs.ListLaws.{set_other, set_same, there_at, there_below}
use Rattle.cx_text.proofs.NumberLaws.{lt_true, same_or, true_lt}
use Rattle.cx_prim.specs.CellStates.{CellState, IsState}
use Rattle.cx_prim.specs.declared.ports.PortRow.{PortRow}
use Rattle.cx_prim.specs.Rows.{FitsPorts, HasSide, KeepsRegistered, Row, is_output_side}
use Rattle.cx_meaning.specs.declared.ports.PortRef.{PortRef}
use Rattle.cx_meaning.specs.declared.ports.PortRef.TheVariants.{Cell}
use Rattle.cx_meaning.specs.declared.sights.Seen.{Seen}
use Rattle.cx_meaning.specs.declared.sights.Seen.TheVariants.{Undefined}
use Rattle.cx_meaning.specs.Instances.{Instance, OfRow, cell_at, cells_of, tree_of}
use Rattle.cx_meaning.specs.Rows.{side_of}
use Rattle.cx_meaning.specs.Sights.{Given, Lacks, gather, output_seen}
use Rattle.cx_rules.specs.Ports.{width_of}
use Rattle.cx_rules.specs.Wellformed.{IsThere}
use Rattle.cx_design_leads.specs.Nodes.{node_of}
use Rattle.cx_design_parts.specs.Outputs.{ReadsFirst}
use Rattle.cx_state.specs.ReadStates.{state_in}
use Rattle.cx_state.specs.States.{StandsFor, instance_state}
use Rattle.cx_state.specs.Tables.{row_at}
use Rattle.cx_state.proofs.HeldLemmas.{Holds}
use Rattle.cx_eval_drives.specs.Gathers.{entry_of, gather_all}
use Rattle.cx_eval_drives.proofs.GatherLemmas.{IsSoFar, so_far_lacks, wanted_fits}
use Rattle.cx_eval_network.specs.declared.asking.Asking.{Asking}
use Rattle.cx_eval_network.specs.declared.listed.FoundBy.TheVariants as by
use Rattle.cx_eval_network.specs.declared.listed.ListedPort.{ListedPort}
use Rattle.cx_eval_network.specs.declared.marks.NodeMark.{NodeMark}
use Rattle.cx_eval_network.specs.declared.marks.NodeMark.TheVariants.{Unseen, Known}
use Rattle.cx_eval_network.specs.declared.network.Found.TheVariants.{Worth}
use Rattle.cx_eval_network.specs.declared.numbering.NodePort.{NodePort}
use Rattle.cx_eval_network.specs.declared.planned.PlannedPort.{PlannedPort}
use Rattle.cx_eval_network.specs.declared.planned.PlannedPort.TheVariants as planned
use Rattle.cx_eval_network.specs.declared.planned.PortPlan.{PortPlan}
use Rattle.cx_eval_network.specs.declared.planned.PortPlan.TheVariants.{Output}
use Rattle.cx_eval_network.specs.Asked.{CanAsk}
use Rattle.cx_eval_network.specs.Askings.{IsCellPort, IsFound, asked_of}
use Rattle.cx_eval_network.specs.Demands.{IsRight}
use Rattle.cx_eval_network.specs.Evaluated.{Gives, by_mark, port_found}
use Rattle.cx_eval_network.specs.Lists.{IsSource}
use Rattle.cx_eval_network.specs.Networks.{Asked, instance_of, seen_at, value_at}
use Rattle.cx_eval_network.specs.Nodes.{IsInList, first_node, part_at}
use Rattle.cx_eval_network.specs.Plans.{Inputs, cell_decides, side_decides}
use Rattle.cx_eval_network.proofs.AskLemmas.{is_there, there as there_is}
use Rattle.cx_eval_network.proofs.ListLemmas.{source_known}
use Rattle.cx_eval_network.proofs.OwnLemmas.{cell_port, cell_port_found, cells_hold_there, few_inputs, held_is, input_wide, is_output, none_seen, output_looked}
use Rattle.cx_eval_network.proofs.StepLemmas.{component_holds, held_state, no_state}
use Rattle.cx_eval_network.proofs.ValueLemmas.{value_there}
use Rattle.cx_eval.specs.declared.sources.Operator.{Operator}
use Rattle.cx_eval.specs.declared.sources.Source.{Source}
use Rattle.cx_eval.specs.Shown.{AreFound, ShowLook, ShowWide, Shows, source_value}
use Rattle.cx_eval.specs.Sources.{HasPlan, IsSeenBy, as_another, as_operator, as_state, as_value}

-- marks of which one alone is known
abbrev one_known : ℕ → Seen → List NodeMark
one_known zero x = Known x ∷ []
one_known (suc n) x = Unseen ∷ one_known n x

known_there : (n : ℕ) (x : Seen) → slice_get (one_known n x) n ≡ Some (Known x)
known_there zero x = refl
known_there (suc n) x = known_there n x

known_alone : (n m : ℕ) (x y : Seen) → slice_get (one_known n x) m ≡ Some (Known y) → (n ≡ m) × (x ≡ y)
known_alone zero zero x y e = (refl, (let f : Some (Known x) ≡ Some (Known y) = e in cc))
known_alone zero (suc m) x y e = absurd (let f : None ≡ Some (Known y) = e in cc)
known_alone (suc n) zero x y e = absurd (let f : Some Unseen ≡ Some (Known y) = e in cc)
known_alone (suc n) (suc m) x y e = let r = known_alone n m x y e in (ap suc r.0, r.1)

known_right : (value : ℕ → Seen) (n : ℕ) → IsRight value (one_known n (value n))
known_right value n m y e = let r = known_alone n m (value n) y e in sym r.1 ∙ ap value r.0

known_behind : (first n : ℕ) (x : Seen) → slice_get (drop first (one_known (first + n) x)) n ≡ Some (Known x)
known_behind zero n x = (let z : 0 + n ≡ n = omega arith in ap (λ k. slice_get (one_known k x) n) z) ∙ known_there n x
known_behind (suc first) n x = (let s : suc first + n ≡ suc (first + n) = omega arith in ap (λ k. slice_get (drop (suc first) (one_known k x)) n) s) ∙ known_behind first n x

none_right : (value : ℕ → Seen) → IsRight value []
none_right value n x e = absurd (let f : None ≡ Some (Known x) = e in cc)

module _ (asking : Asking) (can : CanAsk (asked_of asking) asking.nodes.now) where
  abbrev a : Asked
  a = asked_of asking

  abbrev i : Instance
  i = part_at a.design a.rows asking.instance

  abbrev first : ℕ
  first = first_node a.design a.rows a.instance

  abbrev value : ℕ → Seen
  value = value_at a asking.nodes.now

  value_is : (p : PortRef) (m : ℕ) → node_of i p ≡ Some m → value (first + m) ≡ seen_at a a.instance p
  value_is p m at = value_there a asking.nodes.now can.network [] a.instance (first + m) p (omega arith) can.within (ap (option_map (λ n. first + n)) at)

  -- an output of a cell that has a plan
  pub plan_port : (cell port : ℕ) (plan : PortPlan) → HasPlan i (Cell cell port) plan → IsCellPort a a.instance cell port
  plan_port cell port plan h = record { number = h.number; from = omega arith; within = can.within; at = h.at }

  module _ (p : PortRef) (plan : PortPlan) (h : HasPlan i p plan) where
    abbrev listed : ListedPort
    listed = record { number = h.number; found_by = by.Look }

    abbrev in_list : IsInList i asking.active.now listed
    in_list = record { port = p; number = h.at; plan = plan; plans = h.is; found_by = tt }

    source_gives : (source : PlannedPort) → IsSource asking.active.now plan source → (marks : List NodeMark) → IsRight value marks → Gives (seen_at a a.instance p) (port_found (drop first marks) source)
    source_gives source s marks right = subst (λ x. Gives x (port_found (drop first marks) source)) (value_is p h.number h.at) (source_known asking can listed in_list marks right source s)

    value_shows : (x : Seen) → IsSource asking.active.now plan (planned.Fixed x) → x ≡ seen_at a a.instance p
    value_shows x s = source_gives (planned.Fixed x) s [] (none_right value)

    another_shows : (q : PortRef) (number : ℕ) → IsSource asking.active.now plan (planned.Numbered number) → node_of i q ≡ Some number → seen_at a a.instance q ≡ seen_at a a.instance p
    another_shows q number s at =
        let x = value (first + number) in
        sym (value_is q number at)
        ∙ subst (λ o. Gives (seen_at a a.instance p) (by_mark number o)) (known_behind first number x) (source_gives (planned.Numbered number) s (one_known (first + number) x) (known_right value (first + number)))

  -- THE LAW: what a source is seen as is what the port is seen as
  pub shown_by : (operators : List Operator) (slots : List Seen) → AreFound a operators slots → (p : PortRef) (source : Source) → IsSeenBy i asking.active.now operators p source → Shows a slots p source
  shown_by operators slots found p source (as_value {seen = x} plan h s) = record { can = tt; value = value_shows p plan h x s }
  shown_by operators slots found p source (as_state {cell = cell} {output = output} h) = record { can = (plan_port cell output (Output 0) h, sym h.is); value = refl }
  shown_by operators slots found p source (as_operator {place = place} o at) =
      record { can = tt; value = get_or_from_slice_get slots place (seen_at a a.instance (Cell o.cell o.port)) Undefined (found place o at) }
  shown_by operators slots found p source (as_another {q = q} plan number h s at seen) =
      let shown = shown_by operators slots found q source seen in
      record { can = shown.can; value = shown.value ∙ another_shows p plan h q number s at }

-- OPERATORS are found one behind the other
taken : {A : Type 0} (xs : List A) (k n : ℕ) (x : A) → slice_get (take k xs) n ≡ Some x → (n < k) × (slice_get xs n ≡ Some x)
taken xs zero n x e = absurd (let f : None ≡ Some x = e in cc)
taken [] (suc k) n x e = absurd (let f : None ≡ Some x = e in cc)
taken (y ∷ xs) (suc k) zero x e = (omega arith, e)
taken (y ∷ xs) (suc k) (suc n) x e = let r = taken xs k n x e in let lt = r.0 in (omega (arith, lt), r.1)

below_next : (n count : ℕ) → n < count + 1 → n ≢ count → n < count
below_next zero zero lt differs = absurd (differs refl)
below_next zero (suc count) lt differs = omega arith
below_next (suc n) zero lt differs = absurd (omega (arith, lt))
below_next (suc n) (suc count) lt differs = let below = below_next n count (omega (arith, lt)) (λ e. differs (ap suc e)) in omega (arith, below)

module _ (a : Asked) (operators : List Operator) where
  -- so many, the first
  abbrev pub AreFirstFound : ℕ → List Seen → Type 0
  AreFirstFound count slots = (n : ℕ) (o : Operator) → n < count → slice_get operators n ≡ Some o → slice_get slots n ≡ Some (seen_at a a.instance (Cell o.cell o.port))

  pub first_found : (count : ℕ) (slots : List Seen) → AreFirstFound count slots → AreFound a (take count operators) slots
  first_found count slots far n o at = let r = taken operators count n o at in far n o r.0 r.1

  pub next_found : (count : ℕ) (slots : List Seen) (o : Operator) (x : Seen) → AreFirstFound count slots → slice_get operators count ≡ Some o → count < length slots
      → x ≡ seen_at a a.instance (Cell o.cell o.port) → AreFirstFound (count + 1) (set slots count x)
  next_found count slots o x far at lt is n other below there =
      ⊎_elim
      (λ s.
      let here : Some o ≡ Some other = sym at ∙ ap (slice_get operators) (sym s) ∙ there in
      let same : o ≡ other = cc in
      ap (slice_get (set slots count x)) s ∙ set_same slots count x lt ∙ ap Some is ∙ ap (λ (p : Operator). Some (seen_at a a.instance (Cell p.cell p.port))) same)
      (λ differs. set_other slots count n x differs ∙ far n other (below_next n count below differs) there) (same_or n count)

  pub all_found : (count : ℕ) (slots : List Seen) → AreFirstFound count slots → length operators ≤ count → AreFound a operators slots
  all_found count slots far le n o at = let lt = there_below operators n o at in far n o (omega (arith, lt, le)) at

-- AN OPERATOR in the asked instance
module _ (asking : Asking) (can : CanAsk (asked_of asking) asking.nodes.now) (cell port reads : ℕ) (row : Row)
    (plan : HasPlan (i asking can) (Cell cell port) (Output reads)) (at : cell_at (cells_of (i asking can)) cell ≡ OfRow row) where
  abbrev there : IsCellPort (asked_of asking) asking.instance cell port
  there = plan_port asking can cell port (Output reads) plan

  abbrev found : NodePort
  found = cell_port (asked_of asking) asking.instance cell port there

  abbrev is_found : IsFound (asked_of asking) found
  is_found = cell_port_found (asked_of asking) asking.instance cell port there

  reads_so : side_decides (i asking can) (Cell cell port) row (side_of row port) ≡ Inputs reads
  reads_so = sym (ap (cell_decides (i asking can) (Cell cell port) port) at) ∙ sym plan.is

  pub operator_side : HasSide row port is_output_side
  operator_side = is_output asking can found is_found cell port reads row refl at reads_so

  pub operator_reads : reads ≤ length row.ports
  operator_reads = few_inputs asking can found is_found cell port reads row refl at reads_so

  module _ (cells : List (Option CellState)) (same : cells ≡ (instance_state (asked_of asking).state asking.instance).cells) where
    holds : Holds row (get_or cells cell None)
    holds =
        component_holds (asked_of asking).design (row_at (asked_of asking).rows asking.instance).component cells cell row
        (cells_hold_there asking can found is_found cell port reads row refl at cells same) at

    pub operator_state : (state : CellState) → get_or cells cell None ≡ Some state → IsState row.shape state
    operator_state state e = held_state row (get_or cells cell None) state holds e

    pub operator_holds : get_or cells cell None ≡ None → ⊥
    operator_holds e = no_state row (get_or cells cell None) holds e

    -- what it is seen as, by what its inputs are
    pub operator_value : StandsFor (tree_of (asked_of asking).design) (asked_of asking).state (state_in (tree_of (asked_of asking).design) (asked_of asking).state) → ReadsFirst row → KeepsRegistered row
        → (state : CellState) (result : Seen) → get_or cells cell None ≡ Some state
        → result ≡ output_seen (λ given. row.output state given port) (gather (λ q. seen_at (asked_of asking) asking.instance (Cell cell q)) (λ q. nat_lt q reads) 0 row.ports)
        → result ≡ seen_at (asked_of asking) asking.instance (Cell cell port)
    operator_value stands first registered state result e is =
        output_looked asking can found is_found cell port reads row refl at reads_so [] (none_seen (asked_of asking) asking.instance cell port there) state (Worth result) first registered
        (held_is asking can found is_found cell port reads row refl at cells state stands same e) is

  -- its inputs are there, and as wide as they are seen
  module _ (q : ℕ) (r : PortRow) (here : slice_get row.ports q ≡ Some r) where
    pub input_there : IsThere (instance_of (asked_of asking) asking.instance) (Cell cell q)
    input_there =
        subst (λ x. IsThere x (Cell cell q)) (sym (there_is asking can found is_found))
        (is_there (asked_of asking).design (row_at (asked_of asking).rows asking.instance).component cell q row r (can.network.table.there asking.instance can.within) at here)

    pub input_width : (b : BitVector) → width_of (instance_of (asked_of asking) asking.instance) (Cell cell q) ≡ Some b.width → b.width ≡ r.width
    input_width b width = input_wide asking can found is_found cell port reads row refl at reads_so [] (none_seen (asked_of asking) asking.instance cell port there) q r b here width

-- WHAT SOURCES ARE SEEN AS is gathered
module _ (a : Asked) (slots : List Seen) (sources : List Source) where
  -- of a source, and of the first that is no value
  pub seen_there : (look : ℕ → Seen) (port : ℕ) (source : Source) (x : Seen) → ShowLook a slots sources look → port < length sources → source ≡ get_or sources port source → x ≡ source_value a slots source
      → entry_of (nat_lt port (length sources)) (look port) ≡ entry_of true x
  seen_there look port source x show lt at is =
      ap (λ w. entry_of w (look port)) (lt_true port (length sources) lt) ∙ ap (entry_of true) (sym (show port source (slice_get_read sources (length sources) port source refl lt at)) ∙ sym is)

  pub lacks_there : (look : ℕ → Seen) (count port : ℕ) (inputs : List (Option BitVector)) (source : Source) (x : Seen) → ShowLook a slots sources look → port < length sources → length sources ≤ count → length inputs ≡ count
      → source ≡ get_or sources port source → x ≡ source_value a slots source → entry_of true x ≡ Err x → IsSoFar look (λ q. nat_lt q (length sources)) count inputs port
      → Lacks port x ≡ gather_all look (λ q. nat_lt q (length sources)) 0 (length inputs)
  lacks_there look count port inputs source x show lt most sized at is none far =
      so_far_lacks look (λ q. nat_lt q (length sources)) count port inputs x (omega (arith, lt, most)) far (seen_there look port source x show lt at is ∙ none)
      ∙ ap (gather_all look (λ q. nat_lt q (length sources)) 0) (sym sized)

  abbrev shown : Option Source → Seen
  shown None = Undefined
  shown (Some source) = source_value a slots source

  abbrev pub shown_look : ℕ → Seen
  shown_look q = shown (slice_get sources q)

  pub shown_agrees : ShowLook a slots sources shown_look
  shown_agrees q source at = sym (ap shown at)

  pub shown_fits : (ports : List PortRow) (inputs : List (Option BitVector)) → length inputs ≡ length ports → ShowWide a slots sources ports
      → Given inputs ≡ gather_all shown_look (λ q. nat_lt q (length sources)) 0 (length inputs) → FitsPorts ports inputs
  shown_fits ports inputs sized wide given =
      wanted_fits shown_look (λ q. nat_lt q (length sources)) ports (length inputs) inputs sized
      (λ q port b at wanted e. let s = there_at sources q (true_lt q (length sources) wanted) in wide q s.0 port b s.1 at (shown_agrees q s.0 s.1 ∙ e)) given
