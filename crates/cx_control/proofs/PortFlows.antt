-- What is seen as a value flows as that value: all ports.
use Rattle.std.proofs.Common.{◌≡◌, ℕ, zero, suc, ◌+◌, inl, inr, Bool, true, false, List, [], ◌∷◌, Option, Some, None, refl, sym, ap, ◌∙◌, subst, arith}
use Rattle.std.specs.Prelude.{unwrap_or}
use Rattle.cx_text.specs.Members.{In}
use Rattle.cx_bits.specs.BitVector.{BitVector}
use Rattle.cx_prim.specs.declared.ports.PortRow.{PortRow}
use Rattle.cx_prim.specs.declared.ports.Side.{Side}
use Rattle.cx_prim.specs.declared.ports.Side.TheVariants as sides
use Rattle.cx_prim.specs.Rows.{Inputs, Row, input, ReadsOnly}
use Rattle.cx_meaning.specs.declared.ports.PortRef.{PortRef}
use Rattle.cx_meaning.specs.declared.ports.PortRef.TheVariants as ports
use Rattle.cx_meaning.specs.declared.sights.Seen.{Seen}
use Rattle.cx_meaning.specs.declared.sights.Seen.TheVariants.{Value, Conflict, Undefined}
use Rattle.cx_meaning.specs.Rows.{side_of}
use Rattle.cx_meaning.specs.Instances.{Instance, At, Nothing, OfRow, OfInstance, part_of, cells_of, cell_at, State, under}
use Rattle.cx_meaning.specs.Active.{Active, nothing, group, Owned, source_order, drivers, offset_of, only_at}
use Rattle.cx_meaning.specs.Sights.{Look, Below, Held, unheld, bit_of, Sees, by_step, step, side_step, part_step, cell_step, Needs, SideNeeds, PartNeeds, CellNeeds, output_seen, Gathered, Given, Lacks, gather, gather_port, PartPort, Go, AnInput, AnOutput, ItsDone, part_port}
use Rattle.cx_rules.specs.Footprints.{Depends, at_once, by_way_of, Leads}
use Rattle.cx_rules.specs.Ports.{width_of}
use Rattle.cx_rules.proofs.FoundLemmas.{needs_leads}
use Rattle.cx_control.specs.Flows.{Values, zero_of, first_on, given, Around, side_flow, part_flow, cell_flow, flow, Solves, Reaches, Undisturbed}
use Rattle.cx_control.proofs.TargetFlows.{Right, target_flows, value_is}
use Rattle.cx_meaning.proofs.ActiveLemmas.{only_self}
use Rattle.cx_rules.proofs.FrameLemmas.{acting_alike}
use Rattle.cx_meaning.proofs.SightsLaws.{undefined_value, option_is}
use Rattle.cx_meaning.proofs.PortsLemmas.{given_is}

conflict_value : (b : BitVector) → Conflict ≡ Value b → ⊥
conflict_value b e = cc

given_lacks : (a : Inputs) (p : ℕ) (x : Seen) → Lacks p x ≡ Given a → ⊥
given_lacks a p x e = cc

-- what lacks is no value
gather_never : (look : ℕ → Seen) (wanted : ℕ → Bool) (rows : List PortRow) (p q : ℕ) (x : Seen) → gather look wanted p rows ≡ Lacks q x → (d : BitVector) → x ≡ Value d → ⊥
gather_never look wanted [] p q x e d f = other e
  where
    other : Given [] ≡ Lacks q x → ⊥
    other h = cc
gather_never look wanted (row ∷ rest) p q x e d f = by_port (wanted p) (look p) (gather look wanted (suc p) rest) refl e (λ h. gather_never look wanted rest (suc p) q x h d f)
  where
    by_port : (t : Bool) (y : Seen) (g : Gathered) → gather look wanted (suc p) rest ≡ g → gather_port t p y g ≡ Lacks q x → (gather look wanted (suc p) rest ≡ Lacks q x → ⊥) → ⊥
    by_port true (Value b) (Given more) h k later = other k
      where
        other : Given (Some b ∷ more) ≡ Lacks q x → ⊥
        other z = cc
    by_port true (Value b) (Lacks r y) h k later = later (h ∙ k)
    by_port true Conflict g h k later = let z : Conflict ≡ x = cc in conflict_value d (z ∙ f)
    by_port true Undefined g h k later = let z : Undefined ≡ x = cc in undefined_value d (z ∙ f)
    by_port false y (Given more) h k later = other k
      where
        other : Given (None ∷ more) ≡ Lacks q x → ⊥
        other z = cc
    by_port false y (Lacks r z) h k later = later (h ∙ k)

-- what is gathered stands at the ports that are wanted
module _ (look : Look) (v : Values) (c : ℕ) (wanted : ℕ → Bool) (right : (q : ℕ) → wanted q ≡ true → Right look v (ports.Cell c q)) where
  pub stands : (rows : List PortRow) (p : ℕ) (inputs : Inputs) → gather (λ q. look (ports.Cell c q)) wanted p rows ≡ Given inputs
      → (m k : ℕ) → k ≡ p + m → wanted k ≡ true → input inputs m ≡ input (given v c p rows) m
  stands [] p inputs e m k f w = ap (λ x. input x m) (sym (given_is [] inputs e))
  stands (row ∷ rest) p inputs e m k f w = by_port (wanted p) refl (look (ports.Cell c p)) refl (gather (λ q. look (ports.Cell c q)) wanted (suc p) rest) refl e (λ more h. stands rest (suc p) more h) m f
    where
      after : (entry : Option BitVector) (more : Inputs) → (entry ∷ more) ≡ inputs
          → (gather (λ q. look (ports.Cell c q)) wanted (suc p) rest ≡ Given more) → ((j : ℕ) → p ≡ k → entry ≡ Some (v (ports.Cell c p)))
          → ((more : Inputs) → gather (λ q. look (ports.Cell c q)) wanted (suc p) rest ≡ Given more → (j l : ℕ) → l ≡ suc p + j → wanted l ≡ true → input more j ≡ input (given v c (suc p) rest) j)
          → (j : ℕ) → k ≡ p + j → input inputs j ≡ input (Some (v (ports.Cell c p)) ∷ given v c (suc p) rest) j
      after entry more same g here later zero h = ap (λ x. input x 0) (sym same) ∙ here 0 (omega arith)
      after entry more same g here later (suc j) h = ap (λ x. input x (suc j)) (sym same) ∙ later more g j k (omega arith) w

      by_port : (t : Bool) → wanted p ≡ t → (x : Seen) → look (ports.Cell c p) ≡ x → (g : Gathered) → gather (λ q. look (ports.Cell c q)) wanted (suc p) rest ≡ g → gather_port t p x g ≡ Given inputs
          → ((more : Inputs) → gather (λ q. look (ports.Cell c q)) wanted (suc p) rest ≡ Given more → (j l : ℕ) → l ≡ suc p + j → wanted l ≡ true → input more j ≡ input (given v c (suc p) rest) j)
          → (j : ℕ) → k ≡ p + j → input inputs j ≡ input (Some (v (ports.Cell c p)) ∷ given v c (suc p) rest) j
      by_port true t (Value b) x (Given more) g h later j kj = after (Some b) more (given_is (Some b ∷ more) inputs h) g (λ i pk. ap Some (sym (right p t b x))) later j kj
      by_port true t (Value b) x (Lacks q y) g h later j kj = absurd (given_lacks inputs q y h)
      by_port true t Conflict x g0 g h later j kj = absurd (given_lacks inputs p Conflict h)
      by_port true t Undefined x g0 g h later j kj = absurd (given_lacks inputs p Undefined h)
      by_port false t x0 x (Given more) g h later j kj =
          after None more (given_is (None ∷ more) inputs h) g (λ i pk. absurd (wrong (sym t ∙ ap wanted pk ∙ w))) later j kj
        where
          wrong : false ≡ true → ⊥
          wrong y = cc
      by_port false t x0 x (Lacks q y) g h later j kj = absurd (given_lacks inputs q y h)

  output_flows : (row : Row) (p : ℕ) (f : Inputs → Option BitVector) → ((a b : Inputs) → ((m : ℕ) → wanted m ≡ true → input a m ≡ input b m) → f a ≡ f b)
      → (b : BitVector) → output_seen f (gather (λ q. look (ports.Cell c q)) wanted 0 row.ports) ≡ Value b → f (given v c 0 row.ports) ≡ Some b
  output_flows row p f local b e = go (gather (λ q. look (ports.Cell c q)) wanted 0 row.ports) refl e
    where
      go : (g : Gathered) → gather (λ q. look (ports.Cell c q)) wanted 0 row.ports ≡ g → output_seen f g ≡ Value b → f (given v c 0 row.ports) ≡ Some b
      go (Given inputs) h k = sym (local inputs (given v c 0 row.ports) (λ m w. stands row.ports 0 inputs h m m (omega arith) w)) ∙ option_is (f inputs) b k
      go (Lacks q x) h k = absurd (lacking (gather_never (λ r. look (ports.Cell c r)) wanted row.ports 0 q x h) k)
        where
          lacking : ((d : BitVector) → x ≡ Value d → ⊥) → x ≡ Value b → ⊥
          lacking n y = n b y

module _ (i : Instance) (held : Held) (act go : Active) (s : State) (around : Around) (v : Values) (solves : Solves i go s around v)
    (narrow : (c p : ℕ) (row : Row) → cell_at (cells_of i) c ≡ OfRow row → side_of row p ≡ sides.Enable → width_of i (ports.Cell c p) ≡ Some 1)
    (go_narrow : (c p : ℕ) (child : Instance) → cell_at (cells_of i) c ≡ OfInstance child → part_port (part_of child) p ≡ Go → width_of i (ports.Cell c p) ≡ Some 1)
    (own : (o : Owned) (g : ℕ) → In (source_order (part_of i)) o → o.assign.target ≡ ports.Done g → o.owner ≡ Some g)
    (outside : (o : Owned) (n : ℕ) → In (source_order (part_of i)) o → o.assign.target ≡ ports.Output n → o.owner ≡ None)
    (reads : (c : ℕ) (row : Row) → cell_at (cells_of i) c ≡ OfRow row → ReadsOnly row) where
  further : (p q r : PortRef) → Leads i act p q → Reaches i act q r → Reaches i act p r
  further p q r l (inl e) = inr (subst (Depends i act p) e (at_once l))
  further p q r l (inr d) = inr (by_way_of q l d)

  below_is : (p q : PortRef) → Leads i act p q → Undisturbed i held act go s around p → Undisturbed i held act go s around q
  below_is p q l u = record {
    assigns = λ c r o h j e. u.assigns c r o (further p q (ports.Cell c r) l h) j e;
    holes = λ g h. u.holes g (further p q (ports.Done g) l h);
    inputs = λ n b h e. u.inputs n b (further p q (ports.Input n) l h) e;
    outputs = λ c r n child b h e f g. u.outputs c r n child b (further p q (ports.Cell c r) l h) e f g;
    dones = λ c r child h e f. u.dones c r child (further p q (ports.Cell c r) l h) e f;
  }

  one_bit : (w : Option ℕ) (b : BitVector) → w ≡ Some 1 → bit_of false ≡ Value b → zero_of w ≡ b
  one_bit w b e f = ap zero_of e ∙ value_is (record { width = 1; value = 0 }) b f

  never : (w : Option ℕ) (b : BitVector) → Undefined ≡ Value b → zero_of w ≡ b
  never w b e = absurd (undefined_value b e)

  side_flows : (look : Look) (below : Below) (c p : ℕ) (row : Row) → cell_at (cells_of i) c ≡ OfRow row → Undisturbed i held act go s around (ports.Cell c p) → (side : Side) → side_of row p ≡ side
      → ((q : PortRef) → SideNeeds (part_of i) act look row c p side q → Right look v q) → (b : BitVector) → side_step (part_of i) act s look below row c p side ≡ Value b → side_flow i go s around v row c p side ≡ b
  side_flows look below c p row at u sides.Enable e r b h =
      ap (first_on v (zero_of (width_of i (ports.Cell c p)))) (sym (acting_alike act go (ports.Cell c p) (source_order (part_of i)) (λ o j f. u.assigns c p o (inl refl) j f)))
      ∙ target_flows look v (bit_of false) (zero_of (width_of i (ports.Cell c p))) (λ d f. one_bit (width_of i (ports.Cell c p)) d (narrow c p row at e) f) (drivers (part_of i) act (ports.Cell c p)) r b h
  side_flows look below c p row at u sides.Plain e r b h =
      ap (first_on v (zero_of (width_of i (ports.Cell c p)))) (sym (acting_alike act go (ports.Cell c p) (source_order (part_of i)) (λ o j f. u.assigns c p o (inl refl) j f)))
      ∙ target_flows look v Undefined (zero_of (width_of i (ports.Cell c p))) (never (width_of i (ports.Cell c p))) (drivers (part_of i) act (ports.Cell c p)) r b h
  side_flows look below c p row at u sides.Output e r b h =
      ap (λ o. unwrap_or o (zero_of (width_of i (ports.Cell c p))))
      (output_flows look v c (row.reads p) (λ q w. r (ports.Cell c q) (q, w, refl)) row p (λ inputs. row.output (s (c ∷ [])) inputs p) (λ x y f. reads c row at (s (c ∷ [])) x y p f) b h)
  side_flows look below c p row at u sides.Registered e r b h =
      ap (λ o. unwrap_or o (zero_of (width_of i (ports.Cell c p)))) (option_is (row.output (s (c ∷ [])) [] p) b h)

  part_flows : (look : Look) (below : Below) (c p : ℕ) (child : Instance) → cell_at (cells_of i) c ≡ OfInstance child → Undisturbed i held act go s around (ports.Cell c p)
      → ((n : ℕ) → Sees child unheld nothing (under c s) (ports.Output n) (below c n)) → (port : PartPort) → part_port (part_of child) p ≡ port
      → ((q : PortRef) → PartNeeds (part_of i) act look c p port q → Right look v q) → (b : BitVector) → part_step (part_of i) act s look below c p port ≡ Value b → part_flow i go s around v c p port ≡ b
  part_flows look below c p child at u below_sees Go e r b h =
      ap (first_on v (zero_of (width_of i (ports.Cell c p)))) (sym (acting_alike act go (ports.Cell c p) (source_order (part_of i)) (λ o j f. u.assigns c p o (inl refl) j f)))
      ∙ target_flows look v (bit_of false) (zero_of (width_of i (ports.Cell c p))) (λ d f. one_bit (width_of i (ports.Cell c p)) d (go_narrow c p child at e) f) (drivers (part_of i) act (ports.Cell c p)) r b h
  part_flows look below c p child at u below_sees (AnInput n) e r b h =
      ap (first_on v (zero_of (width_of i (ports.Cell c p)))) (sym (acting_alike act go (ports.Cell c p) (source_order (part_of i)) (λ o j f. u.assigns c p o (inl refl) j f)))
      ∙ target_flows look v Undefined (zero_of (width_of i (ports.Cell c p))) (never (width_of i (ports.Cell c p))) (drivers (part_of i) act (ports.Cell c p)) r b h
  part_flows look below c p child at u below_sees (AnOutput n) e r b h = u.outputs c p n child b (inl refl) at e (subst (Sees child unheld nothing (under c s) (ports.Output n)) h (below_sees n))
  part_flows look below c p child at u below_sees ItsDone e r b h = value_is (around.done c) b (u.dones c p child (inl refl) at e ∙ h)

  cell_flows : (look : Look) (below : Below) (c p : ℕ) → Undisturbed i held act go s around (ports.Cell c p) → (at : At) → cell_at (cells_of i) c ≡ at
      → ((n : ℕ) (child : Instance) → at ≡ OfInstance child → Sees child unheld nothing (under c s) (ports.Output n) (below c n))
      → ((q : PortRef) → CellNeeds (part_of i) act look c p at q → Right look v q) → (b : BitVector) → cell_step (part_of i) act s look below c p at ≡ Value b → cell_flow i go s around v c p at ≡ b
  cell_flows look below c p u Nothing e k r b h = absurd (undefined_value b h)
  cell_flows look below c p u (OfRow row) e k r b h = side_flows look below c p row e u (side_of row p) refl r b h
  cell_flows look below c p u (OfInstance child) e k r b h = part_flows look below c p child e u (λ n. k n child refl) (part_port (part_of child) p) refl r b h

  step_flows : (look : Look) (below : Below) (p : PortRef) → Undisturbed i held act go s around p → ((q : PortRef) → Needs i act look p q → Right look v q)
      → ((c port n : ℕ) (child : Instance) → p ≡ ports.Cell c port → cell_at (cells_of i) c ≡ OfInstance child → Sees child unheld nothing (under c s) (ports.Output n) (below c n))
      → (b : BitVector) → step i held act s look below p ≡ Value b → flow i go s around v p ≡ b
  step_flows look below (ports.Cell c p) u r k b h = cell_flows look below c p u (cell_at (cells_of i) c) refl (λ n child e. k c p n child refl e) r b h
  step_flows look below (ports.Input n) u r k b h = u.inputs n b (inl refl) h
  step_flows look below (ports.Output n) u r k b h =
      ap (first_on v (zero_of (width_of i (ports.Output n)))) (sym (acting_alike act go (ports.Output n) (source_order (part_of i)) (λ o j f. ap (offset_of act) (outside o n j f) ∙ sym (ap (offset_of go) (outside o n j f)))))
      ∙ target_flows look v Undefined (zero_of (width_of i (ports.Output n))) (never (width_of i (ports.Output n))) (drivers (part_of i) act (ports.Output n)) r b h
  step_flows look below (ports.Done g) u r k b h =
      ap (first_on v (zero_of (Some 1))) (sym (acting_alike act (group g) (ports.Done g) (source_order (part_of i))
      (λ o j e. ap (offset_of act) (own o g j e) ∙ u.holes g (inl refl) ∙ sym (self g) ∙ sym (ap (offset_of (group g)) (own o g j e)))))
      ∙ target_flows look v (bit_of false) (zero_of (Some 1)) (λ d f. value_is (record { width = 1; value = 0 }) d f) (drivers (part_of i) act (ports.Done g)) r b h
    where
      self : (n : ℕ) → only_at n n ≡ Some 0
      self n = only_self n
  step_flows look below (ports.Literal w n) u r k b h = value_is (record { width = w; value = n }) b h

  -- THE LAW
  pub seen_flows : {p : PortRef} {x : Seen} → Sees i held act s p x → Undisturbed i held act go s around p → (b : BitVector) → x ≡ Value b → v p ≡ b
  seen_flows {p} {x} (by_step look below needs children e) u b f =
      solves p ∙ step_flows look below p u (λ q need d h. seen_flows (needs q need) (below_is p q (needs_leads i act look p q need) u) d h) children b (e ∙ f)
