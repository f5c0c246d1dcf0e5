-- Outputs of primitives, and ports that depend on no other of their instance, at a port that is found.
use Rattle.std.proofs.Common.{◌≡◌, ℕ, zero, suc, ◌+◌, ◌-◌, ◌^◌, ◌≤◌, ◌<◌, ◌⊎◌, inl, inr, ⊎_elim, nat_lt, Option, Some, None, List, [], ◌∷◌, ◌++◌, get_or, length, refl, sym, ap, ◌∙◌, subst, arith}
use Rattle.std.specs.Prelude.{option_map, option_to_list, slice_get}
use Rattle.std.proofs.Math.Path.{fun_ext}
use Rattle.cx_text.proofs.MemberLaws.{in_left, in_right}
use Rattle.cx_text.specs.Members.{In}
use Rattle.cx_bits.specs.BitVector.{BitVector}
use Rattle.cx_prim.specs.CellStates.{CellState}
use Rattle.cx_prim.specs.declared.ports.PortRow.{PortRow}
use Rattle.cx_prim.specs.declared.ports.Side.{Side}
use Rattle.cx_prim.specs.declared.ports.Side.TheVariants as sides
use Rattle.cx_prim.specs.Rows.{HasSide, KeepsRegistered, Row, is_output_side}
use Rattle.cx_meaning.specs.declared.ports.PortRef.{PortRef}
use Rattle.cx_meaning.specs.declared.ports.PortRef.TheVariants as ports
use Rattle.cx_meaning.specs.declared.sights.Seen.{Seen}
use Rattle.cx_meaning.specs.Designs.{PlainComponent, component_at}
use Rattle.cx_meaning.specs.Active as plain
use Rattle.cx_meaning.specs.Instances.{Instance, At, OfRow, OfInstance, State, cell_at, cells_of, instance_at, part_of, tree_of, under}
use Rattle.cx_meaning.specs.Rows.{side_of}
use Rattle.cx_meaning.specs.Sights.{Below, Look, cell_step, gather, numbered, of_option, output_seen, side_step}
use Rattle.cx_meaning.proofs.SightsLemmas.{outputs_at}
use Rattle.cx_rules.specs.Ports.{cell_width, width_of}
use Rattle.cx_rules.proofs.PortsLemmas.{part_is}
use Rattle.cx_rules.specs.Wellformed.{port_count}
use Rattle.cx_text.proofs.OptionLaws.{none_is_some, same_width}
use Rattle.cx_design_parts.specs.Outputs.{ReadsFirst, read_count}
use Rattle.cx_state.specs.Tables.{child_of, row_at}
use Rattle.cx_state.specs.States.{HoldCells, StandsFor, instance_state}
use Rattle.cx_state.specs.ReadStates.{state_in}
use Rattle.cx_state.proofs.TableLemmas.{further}
use Rattle.cx_design_leads.specs.Nodes as part
use Rattle.cx_design_leads.proofs.NodeLemmas.{IsBelow, below_is, is_below, within}
use Rattle.cx_eval_network.specs.declared.asking.Asking.{Asking}
use Rattle.cx_eval_network.specs.declared.marks.NodeMark.{NodeMark}
use Rattle.cx_eval_network.specs.declared.marks.NodeMark.TheVariants.{Unseen, Open, Known}
use Rattle.cx_eval_network.specs.declared.network.Found.{Found}
use Rattle.cx_eval_network.specs.declared.network.Found.TheVariants.{Worth, Waits}
use Rattle.cx_eval_network.specs.declared.numbering.NodePort.{NodePort}
use Rattle.cx_eval_network.specs.declared.numbering.Nodes.{Nodes}
use Rattle.cx_eval_network.specs.Asked.{CanAsk}
use Rattle.cx_eval_network.specs.Askings.{IsCellPort, IsFound, LookedOwn, OwnSeen, asked_of}
use Rattle.cx_eval_network.specs.Demands.{Looked, is_known}
use Rattle.cx_eval_network.specs.Evaluated.{InputsAgree, IsOutput, by_mark}
use Rattle.cx_eval_network.specs.LeadPorts.{cell_leads, lead_ports, side_leads}
use Rattle.cx_eval_network.specs.Networks.{Asked, IsNetwork, active_at, instance_of, path_at, seen_at, value_at}
use Rattle.cx_eval_network.specs.Nodes.{first_node, node_at, part_at}
use Rattle.cx_eval_network.specs.Planned.{numbers_of}
use Rattle.cx_eval_network.specs.Plans.{Inputs, side_decides}
use Rattle.cx_eval_network.proofs.AskLemmas.{there}
use Rattle.cx_eval_network.proofs.GatheredLemmas.{gather_bare, nones}
use Rattle.cx_eval_network.proofs.LookLemmas.{below_of, state_of, step_seen}
use Rattle.cx_eval_network.proofs.NetworkLemmas.{child_later, number_at}
use Rattle.cx_eval_network.proofs.NodeLemmas.{rises}
use Rattle.cx_eval_network.proofs.OutputLemmas.{few_read, has_side, same_registered}
use Rattle.cx_eval_network.proofs.PlanLemmas.{numbers_within}
use Rattle.cx_eval_network.proofs.ValueLemmas.{child_path, child_seen, value_there}

pub looked_right : (xs ys : List ℕ) (value : Seen) (marks : List NodeMark) (r : Found) → Looked ys value marks r → Looked (xs ++ ys) value marks r
looked_right xs ys value marks (Worth x) l = l
looked_right xs ys value marks (Waits n) l = (in_right xs ys n l.0, l.1)

pub looked_mark : (list : List ℕ) (value : Seen) (marks : List NodeMark) (node : ℕ) → In list node → ((x : Seen) → slice_get marks node ≡ Some (Known x) → x ≡ value) → Looked list value marks (by_mark node (slice_get marks node))
looked_mark list value marks node listed known = by (slice_get marks node) refl
  where
    by : (o : Option NodeMark) → slice_get marks node ≡ o → Looked list value marks (by_mark node o)
    by None is = (listed, ap is_known is)
    by (Some Unseen) is = (listed, ap is_known is)
    by (Some Open) is = (listed, ap is_known is)
    by (Some (Known x)) is = known x is

-- an output of a cell is found as any port
module _ (a : Asked) (instance cell port : ℕ) (p : IsCellPort a instance cell port) where
  abbrev pub cell_port : NodePort
  cell_port = record { instance = instance; component = (row_at a.rows instance).component; port = ports.Cell cell port; number = p.number }

  pub cell_port_found : IsFound a cell_port
  cell_port_found = record { from = p.from; within = p.within; component = refl; number = p.at }

  -- where nothing is known
  pub none_seen : OwnSeen a cell_port []
  none_seen q n x e known = absurd (none_is_some (Known x) known)

-- THE OUTPUT of the instance at a cell
module _ (a : Asked) (nodes : Nodes) (h : IsNetwork a nodes) (k : ℕ) (from : a.instance ≤ k) (lt : k < length a.rows) (c n : ℕ) (child : Instance) (e : cell_at (cells_of (instance_of a k)) c ≡ OfInstance child) where
  abbrev j : ℕ
  j = child_of a.rows a.children k c

  pub output_there_at : n < length (part_of child).outputs → node_at a.design a.rows j (ports.Output n) ≡ Some (first_node a.design a.rows j + (part.first_output (part_at a.design a.rows j) + n))
  output_there_at has =
      let later = child_later a nodes h k c child lt e in
      let is : instance_of a j ≡ child = ap (instance_at (tree_of a.design)) (child_path a nodes h [] k c child lt e) ∙ further (tree_of a.design) (path_at a.design k) c child e in
      let there : n < length (part_of (part_at a.design a.rows j)).outputs =
      subst (λ i. n < length (part_of i).outputs) (sym is ∙ h.table.component j (path_at a.design j) (number_at a nodes h j later.1)) has in
      ap (option_map (λ i. first_node a.design a.rows j + i)) (below_is (length (part_of (part_at a.design a.rows j)).outputs) (part.first_output (part_at a.design a.rows j)) n there)

  pub output_value : (m : ℕ) → node_at a.design a.rows j (ports.Output n) ≡ Some m → value_at a nodes m ≡ seen_at a j (ports.Output n)
  output_value m at =
      let later = child_later a nodes h k c child lt e in
      let after = later.0 in
      value_there a nodes h [] j m (ports.Output n) (omega (arith, after, from)) later.1 at

  pub output_below : below_of a nodes h k from lt c n ≡ seen_at a j (ports.Output n)
  output_below = outputs_at (cells_of (instance_of a k)) (λ c. under c (state_of a nodes h k from lt)) c n child e ∙ sym (child_seen a nodes h [] k c n child from lt e)

-- AN OUTPUT OF A PRIMITIVE
module _ (i : Instance) (q : PortRef) (row : Row) (reads : ℕ) where
  pub kinds : (side : Side) → side_decides i q row side ≡ Inputs reads → ((side ≡ sides.Output) × (reads ≡ read_count row.ports)) ⊎ ((side ≡ sides.Registered) × (reads ≡ 0))
  kinds sides.Enable e = absurd (cc)
  kinds sides.Plain e = absurd (cc)
  kinds sides.Output e = inl (refl, same e)
    where
      same : Inputs (read_count row.ports) ≡ Inputs reads → reads ≡ read_count row.ports
      same f = cc
  kinds sides.Registered e = inr (refl, same e)
    where
      same : Inputs 0 ≡ Inputs reads → reads ≡ 0
      same f = cc

module _ (row : Row) (c p reads : ℕ) (first : ReadsFirst row) (registered : KeepsRegistered row) (lt : p < length row.ports) (own : PlainComponent) (act : plain.Active) (s : State) (look : Look) (below : Below) where
  abbrev given : Seen
  given = output_seen (λ inputs. row.output (s (c ∷ [])) inputs p) (gather (λ q. look (ports.Cell c q)) (λ q. nat_lt q reads) 0 row.ports)

  pub side_gives : ((side_of row p ≡ sides.Output) × (reads ≡ read_count row.ports)) ⊎ ((side_of row p ≡ sides.Registered) × (reads ≡ 0)) → side_step own act s look below row c p (side_of row p) ≡ given
  side_gives (inl k) =
      let reads_are : row.reads p ≡ (λ q. nat_lt q reads) = fun_ext (λ q. first.first p q k.0 ∙ ap (nat_lt q) (sym k.1)) in
      ap (side_step own act s look below row c p) k.0 ∙ ap (λ w. output_seen (λ inputs. row.output (s (c ∷ [])) inputs p) (gather (λ q. look (ports.Cell c q)) w 0 row.ports)) reads_are
  side_gives (inr k) =
      let there = same_registered row p lt k.0 in
      ap (side_step own act s look below row c p) k.0
      ∙ ap of_option (registered (s (c ∷ [])) [] (nones (length row.ports)) p there.0 there.1 there.2)
      ∙ ap (output_seen (λ inputs. row.output (s (c ∷ [])) inputs p)) (sym (gather_bare (λ q. look (ports.Cell c q)) row.ports))
      ∙ ap (λ n. output_seen (λ inputs. row.output (s (c ∷ [])) inputs p) (gather (λ q. look (ports.Cell c q)) (λ q. nat_lt q n) 0 row.ports)) (sym k.1)

  pub side_leads_are : ((side_of row p ≡ sides.Output) × (reads ≡ read_count row.ports)) ⊎ ((side_of row p ≡ sides.Registered) × (reads ≡ 0)) → side_leads own act row c p (side_of row p) ≡ numbered c reads
  side_leads_are (inl k) = ap (side_leads own act row c p) k.0 ∙ ap (numbered c) (sym k.1)
  side_leads_are (inr k) = ap (side_leads own act row c p) k.0 ∙ ap (numbered c) (sym k.1)

numbered_in : (i : Instance) (c q n reads : ℕ) → q < reads → part.node_of i (ports.Cell c q) ≡ Some n → In (numbers_of i (numbered c reads)) n
numbered_in i c q n zero lt e = absurd (omega (arith, lt))
numbered_in i c q n (suc reads) lt e =
    ⊎_elim
    (λ (l : q < reads). in_right (option_to_list (part.node_of i (ports.Cell c reads))) (numbers_of i (numbered c reads)) n (numbered_in i c q n reads l e))
    (λ (l : q ≡ reads). in_left (option_to_list (part.node_of i (ports.Cell c reads))) (numbers_of i (numbered c reads)) n (subst (λ o. In (option_to_list o) n) (sym (ap (λ m. part.node_of i (ports.Cell c m)) (sym l) ∙ e)) (inl refl)))
    (split q reads lt)
  where
    split : (q reads : ℕ) → q < suc reads → (q < reads) ⊎ (q ≡ reads)
    split zero zero lt = inr refl
    split zero (suc r) lt = inl (omega arith)
    split (suc q) zero lt = absurd (omega (arith, lt))
    split (suc q) (suc r) lt = ⊎_elim (λ (l : q < r). inl (omega (arith, l))) (λ (l : q ≡ r). inr (ap suc l)) (split q r (omega (arith, lt)))

module _ (asking : Asking) (can : CanAsk (asked_of asking) asking.nodes.now) (found : NodePort) (f : IsFound (asked_of asking) found) where
  abbrev a : Asked
  a = asked_of asking

  abbrev k : ℕ
  k = found.instance

  abbrev i : Instance
  i = part_at a.design a.rows k

  part_fits : first_node a.design a.rows k + part.node_count i < 2 ^ 64
  part_fits =
      let numbered = can.network.numbered in
      let lt = f.within in
      let up = rises a.design a.rows (suc k) (length a.rows) (omega (arith, lt)) in
      let fits = numbered.fits in
      omega (arith, up, fits)

  pub placed_fits : (own : List NodeMark) (r : Found) → LookedOwn a found own r → (n : ℕ) → r ≡ Waits n → first_node a.design a.rows k + n < 2 ^ 64
  placed_fits own (Worth x) l n e = absurd (cc)
  placed_fits own (Waits m) l n e =
      let same : m ≡ n = waits e in
      let below = numbers_within i (lead_ports (instance_of a k) (active_at a k) found.port) m l.0 in
      let fits = part_fits in
      omega (arith, same, below, fits)
    where
      waits : Waits m ≡ Waits n → m ≡ n
      waits g = cc

  -- what a port of a cell is seen as
  pub own_cell : (c : ℕ) (at : At) → cell_at (cells_of i) c ≡ at → cell_at (cells_of (instance_of a k)) c ≡ at
  own_cell c at e = ap (λ x. cell_at (cells_of x) c) (there asking can found f) ∙ e

  abbrev pub own_state : State
  own_state = state_of a asking.nodes.now can.network k f.from f.within

  abbrev pub own_below : Below
  own_below = below_of a asking.nodes.now can.network k f.from f.within

  pub cell_seen : (c p : ℕ) (at : At) → found.port ≡ ports.Cell c p → cell_at (cells_of i) c ≡ at
      → cell_step (part_of (instance_of a k)) (active_at a k) own_state (seen_at a k) own_below c p at ≡ seen_at a k found.port
  cell_seen c p at port e =
      ap (cell_step (part_of (instance_of a k)) (active_at a k) own_state (seen_at a k) own_below c p) (sym (own_cell c at e))
      ∙ step_seen a asking.nodes.now can.network k f.from f.within (ports.Cell c p) ∙ ap (seen_at a k) (sym port)

  module _ (c p reads : ℕ) (row : Row) (port : found.port ≡ ports.Cell c p) (at : cell_at (cells_of i) c ≡ OfRow row) where
    abbrev first : ℕ
    first = found.number - p

    stands : IsBelow (length row.ports) (part.ports_before (cells_of i) c) p found.number
    stands = subst (λ n. IsBelow n (part.ports_before (cells_of i) c) p found.number) (ap port_count at) (is_below _ (part.ports_before (cells_of i) c) p found.number (ap (part.node_of i) (sym port) ∙ f.number))

    pub port_within : p < length row.ports
    port_within = stands.lt

    first_is : first ≡ part.ports_before (cells_of i) c
    first_is = let is = stands.is in omega (arith, is)

    pub input_node : (q : ℕ) → q < length row.ports → part.node_of i (ports.Cell c q) ≡ Some (first + q)
    input_node q lt =
        below_is (port_count (cell_at (cells_of i) c)) (part.ports_before (cells_of i) c) q (subst (λ x. q < port_count x) (sym at) lt)
        ∙ ap (λ m. Some (m + q)) (sym first_is)

    pub inputs_fit_in : first + length row.ports < 2 ^ 64
    inputs_fit_in =
        let last = length row.ports - 1 in
        let some = port_within in
        let lt : last < length row.ports = omega (arith, some) in
        let below = within i (ports.Cell c last) (first + last) (input_node last lt) in
        let fits = part_fits in
        omega (arith, below, fits, some)

    pub held_is : (cells : List (Option CellState)) (state : CellState) → StandsFor (tree_of a.design) a.state (state_in (tree_of a.design) a.state) → cells ≡ (instance_state a.state k).cells → get_or cells c None ≡ Some state → own_state (c ∷ []) ≡ state
    held_is cells state stands same e = stands k c (path_at a.design k) state (number_at a asking.nodes.now can.network k f.within) (ap (λ xs. get_or xs c None) (sym same) ∙ e)

    pub cells_hold_there : (cells : List (Option CellState)) → cells ≡ (instance_state a.state k).cells → HoldCells (component_at a.design (row_at a.rows k).component).cells cells
    cells_hold_there cells same =
        subst (HoldCells (component_at a.design (row_at a.rows k).component).cells) (sym same)
        (subst (λ (x : PlainComponent). HoldCells x.cells (instance_state a.state k).cells) (ap part_of (there asking can found f) ∙ part_is a.design (row_at a.rows k).component)
        (can.fits.fits k (path_at a.design k) (number_at a asking.nodes.now can.network k f.within)).cells)

    module _ (by : side_decides i found.port row (side_of row p) ≡ Inputs reads) where
      side_kind : ((side_of row p ≡ sides.Output) × (reads ≡ read_count row.ports)) ⊎ ((side_of row p ≡ sides.Registered) × (reads ≡ 0))
      side_kind = kinds i found.port row reads (side_of row p) by

      pub is_output : HasSide row p is_output_side
      is_output = ⊎_elim
          (λ (x : (side_of row p ≡ sides.Output) × (reads ≡ read_count row.ports)). has_side row p sides.Output port_within x.0 refl)
          (λ (x : (side_of row p ≡ sides.Registered) × (reads ≡ 0)). has_side row p sides.Registered port_within x.0 refl) side_kind

      pub few_inputs : reads ≤ length row.ports
      few_inputs = ⊎_elim
          (λ (x : (side_of row p ≡ sides.Output) × (reads ≡ read_count row.ports)). let few = few_read row.ports in let e = x.1 in omega (arith, few, e))
          (λ (x : (side_of row p ≡ sides.Registered) × (reads ≡ 0)). let e = x.1 in omega (arith, e)) side_kind

      module _ (own : List NodeMark) (seen : OwnSeen a found own) where
        pub inputs_agree : InputsAgree own first reads (λ q. seen_at a k (ports.Cell c q))
        inputs_agree q x lt known = seen (ports.Cell c q) (first + q) x (input_node q (let few = few_inputs in omega (arith, lt, few))) known

        pub input_wide : (q : ℕ) (r : PortRow) (b : BitVector) → slice_get row.ports q ≡ Some r → width_of (instance_of a k) (ports.Cell c q) ≡ Some b.width → b.width ≡ r.width
        input_wide q r b e width = same_width (ap (option_map (λ (x : PortRow). x.width)) (sym e) ∙ ap (λ z. cell_width z q) (sym (own_cell c (OfRow row) at)) ∙ width)

        pub output_looked : (state : CellState) (result : Found) → ReadsFirst row → KeepsRegistered row → own_state (c ∷ []) ≡ state
            → IsOutput own first reads (output_seen (λ given. row.output state given p) (gather (λ q. seen_at a k (ports.Cell c q)) (λ q. nat_lt q reads) 0 row.ports)) result → LookedOwn a found own result
        output_looked state (Worth x) reads_first registered held l =
            l ∙ ap (λ s. output_seen (λ given. row.output s given p) (gather (λ q. seen_at a k (ports.Cell c q)) (λ q. nat_lt q reads) 0 row.ports)) (sym held)
            ∙ sym (side_gives row c p reads reads_first registered port_within (part_of (instance_of a k)) (active_at a k) own_state (seen_at a k) own_below side_kind)
            ∙ cell_seen c p (OfRow row) port at
        output_looked state (Waits n) reads_first registered held l =
            let q = l.0 in
            let node = input_node q (let few = few_inputs in let lt = l.1 in omega (arith, lt, few)) in
            let leads : lead_ports (instance_of a k) (active_at a k) found.port ≡ numbered c reads =
            ap (lead_ports (instance_of a k) (active_at a k)) port
            ∙ ap (cell_leads (part_of (instance_of a k)) (active_at a k) c p) (own_cell c (OfRow row) at)
            ∙ side_leads_are row c p reads reads_first registered port_within (part_of (instance_of a k)) (active_at a k) own_state (seen_at a k) own_below side_kind in
            (subst (λ qs. In (numbers_of i qs) n) (sym leads) (numbered_in i c q n reads l.1 (node ∙ ap Some (sym l.2))), l.3)
