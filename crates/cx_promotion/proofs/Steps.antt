-- THE STEP OF A CELL: what it tells of the ports that were looked at, and that it hangs on them and on the state as it looks.
use Rattle.std.specs.Prelude.{◌≡◌, ◌<◌, ℕ, zero, suc, ◌+◌, ◌||◌, Bool, true, false, List, [], ◌∷◌, Option, Some, None, Result, Ok, Err, length, refl}
use Rattle.std.proofs.Common.{sym, ap, ◌∙◌, subst, arith}
use Rattle.std.proofs.Math.Path.{fun_ext}
use Rattle.cx_bits.specs.BitVector.{BitVector}
use Rattle.cx_prim.specs.declared.ports.PortRow.{PortRow}
use Rattle.cx_prim.specs.CellStates.{CellState}
use Rattle.cx_prim.specs.Rows.{Inputs, input, Row, edge, edge_of}
use Rattle.cx_meaning.specs.declared.ports.PortRef.TheVariants as ports
use Rattle.cx_meaning.specs.declared.sights.Seen.{Seen}
use Rattle.cx_meaning.specs.declared.sights.Seen.TheVariants as sights
use Rattle.cx_meaning.specs.declared.sights.FaultKind.{FaultKind}
use Rattle.cx_meaning.specs.Sights.{Look, Gathered, Given, Lacks, with_entry, gather_one, gather_port, gather}
use Rattle.cx_meaning.specs.Cycles.{Next, Stops, kind_of, after_edge, after_data, enables, looks_at, after_enabling, cell_outcome}
use Rattle.cx_meaning.proofs.SightsLemmas.{gather_alike}
use Rattle.cx_promotion.proofs.RowReady.{LooksAlike}
use Rattle.cx_promotion.proofs.RowSides.{IsPlainPort, LooksAtPlain}
use Rattle.cx_text.proofs.BoolLaws.{or_left}
use Rattle.cx_meaning.proofs.PortsLemmas.{given_is}
use Rattle.cx_meaning.proofs.CycleLemmas.{next_is}

-- WHAT WAS GATHERED: at each wanted port that is there the value that is seen
pub record HasEntry (look : ℕ → Seen) (p n : ℕ) (inputs : Inputs) : Type 0 where
  pub value : BitVector
  pub seen : look (p + n) ≡ sights.Value value
  pub stands : input inputs n ≡ Some value

lacks_given : {A : Type 0} (p : ℕ) (x : Seen) (b : Inputs) → Lacks p x ≡ Given b → A
lacks_given p x b e = absurd (cc)

-- what stands behind an entry
with_entry-given : (entry : Option BitVector) (rest : Gathered) (inputs : Inputs) → with_entry entry rest ≡ Given inputs → (later : Inputs) × (rest ≡ Given later) × (entry ∷ later ≡ inputs)
with_entry-given entry (Given later) inputs e = (later, refl, given_is (entry ∷ later) inputs e)
with_entry-given entry (Lacks p x) inputs e = lacks_given p x inputs e

gather_one-given : (p : ℕ) (x : Seen) (rest : Gathered) (inputs : Inputs) → gather_one p x rest ≡ Given inputs → (b : BitVector) × (x ≡ sights.Value b) × (with_entry (Some b) rest ≡ Given inputs)
gather_one-given p (sights.Value b) rest inputs e = (b, refl, e)
gather_one-given p sights.Conflict rest inputs e = lacks_given p sights.Conflict inputs e
gather_one-given p sights.Undefined rest inputs e = lacks_given p sights.Undefined inputs e

pub gathered_entry : (look : ℕ → Seen) (wanted : ℕ → Bool) (p : ℕ) (list : List PortRow) (inputs : Inputs) (n : ℕ) → gather look wanted p list ≡ Given inputs → n < length list → wanted (p + n) ≡ true
    → HasEntry look p n inputs
gathered_entry look wanted p [] inputs n e lt w = absurd (omega arith)
gathered_entry look wanted p (port ∷ list) inputs zero e lt w = first (wanted p) (subst (λ k. wanted k ≡ true) (omega arith) w) e
  where
    here : p ≡ p + 0
    here = omega arith

    first : (b : Bool) → b ≡ true → gather_port b p (look p) (gather look wanted (suc p) list) ≡ Given inputs → HasEntry look p 0 inputs
    first false off h = absurd (cc)
    first true on h =
        let r = gather_one-given p (look p) (gather look wanted (suc p) list) inputs h in
        let s = with_entry-given (Some r.0) (gather look wanted (suc p) list) inputs r.2 in
        record { value = r.0; seen = sym (ap look here) ∙ r.1; stands = subst (λ list. input list 0 ≡ Some r.0) s.2 refl }
gathered_entry look wanted p (port ∷ list) inputs (suc n) e lt w = later (λ after is. gathered_entry look wanted (suc p) list after n is (omega arith) (subst (λ k. wanted k ≡ true) (omega arith) w)) (rest_of (wanted p) e)
  where
    here : suc p + n ≡ p + suc n
    here = omega arith

    rest_of : (b : Bool) → gather_port b p (look p) (gather look wanted (suc p) list) ≡ Given inputs → (entry : Option BitVector) × (later : Inputs) × (gather look wanted (suc p) list ≡ Given later) × (entry ∷ later ≡ inputs)
    rest_of true h =
        let r = gather_one-given p (look p) (gather look wanted (suc p) list) inputs h in
        let s = with_entry-given (Some r.0) (gather look wanted (suc p) list) inputs r.2 in
        (Some r.0, s.0, s.1, s.2)
    rest_of false h = let s = with_entry-given None (gather look wanted (suc p) list) inputs h in (None, s.0, s.1, s.2)

    later : ((after : Inputs) → gather look wanted (suc p) list ≡ Given after → HasEntry look (suc p) n after)
        → (entry : Option BitVector) × (after : Inputs) × (gather look wanted (suc p) list ≡ Given after) × (entry ∷ after ≡ inputs) → HasEntry look p (suc n) inputs
    later below (entry, after, is, same) =
        let r = below after is in
        record { value = r.value; seen = sym (ap look here) ∙ r.seen; stands = subst (λ list. input list (suc n) ≡ Some r.value) same r.stands }

-- A CELL THAT GOES ON made its edge by what it saw at its enabling ports
pub record Stepped (look : Look) (c : ℕ) (row : Row) (state after : CellState) : Type 0 where
  pub inputs : Inputs
  pub made : edge row state inputs ≡ Ok after
  pub entry : (p : ℕ) → p < length row.ports → enables row p ≡ true → (b : BitVector) × (look (ports.Cell c p) ≡ sights.Value b) × (input inputs p ≡ Some b)

no_next : {A : Type 0} (kind : FaultKind) (p : ℕ) (after : CellState) → Stops kind p ≡ Next after → A
no_next kind p after e = absurd (cc)

module _ (look : Look) (c : ℕ) (row : Row) (state after : CellState) where
  abbrev at_cell : ℕ → Seen
  at_cell p = look (ports.Cell c p)

  by_edge : (inputs enabling : Inputs) → gather at_cell (looks_at row state enabling) 0 row.ports ≡ Given inputs → (o : Result CellState ℕ) → edge row state inputs ≡ o → after_edge o ≡ Next after
      → Stepped look c row state after
  by_edge inputs enabling is (Ok made) edges e = record {
    inputs = inputs;
    made = edges ∙ ap Ok (next_is made after e);
    entry = λ p lt enable.
        let first : p ≡ 0 + p = omega arith in
        let wanted : looks_at row state enabling (0 + p) ≡ true = subst (λ k. looks_at row state enabling k ≡ true) first (or_left (enables row p) (row.demands state enabling p) enable) in
        let r = gathered_entry at_cell (looks_at row state enabling) 0 row.ports inputs p is lt wanted in
        (r.value, ap at_cell first ∙ r.seen, r.stands);
  }
  by_edge inputs enabling is (Err port) edges e = no_next _ port after e

  by_data : (enabling : Inputs) (found : Gathered) → gather at_cell (looks_at row state enabling) 0 row.ports ≡ found → after_data row state found ≡ Next after → Stepped look c row state after
  by_data enabling (Given inputs) is e = by_edge inputs enabling is (edge row state inputs) refl e
  by_data enabling (Lacks p x) is e = no_next (kind_of x) p after e

  by_enabling : (found : Gathered) → after_enabling at_cell row state found ≡ Next after → Stepped look c row state after
  by_enabling (Given enabling) e = by_data enabling (gather at_cell (looks_at row state enabling) 0 row.ports) refl e
  by_enabling (Lacks p x) e = no_next (kind_of x) p after e

  pub stepped_by : cell_outcome look c row state ≡ Next after → Stepped look c row state after
  stepped_by e = by_enabling (gather at_cell (enables row) 0 row.ports) e

-- TWO STATES THAT LOOK ALIKE come to the same, where the ports that are looked at are seen alike
module _ (look more : Look) (c : ℕ) (row : Row) (a b : CellState) (alike : LooksAlike row a b) (sides_of : LooksAtPlain row)
    (enabling : (p : ℕ) → enables row p ≡ true → more (ports.Cell c p) ≡ look (ports.Cell c p))
    (plain : (p : ℕ) → IsPlainPort row p → more (ports.Cell c p) ≡ look (ports.Cell c p)) where
  data_alike : (found : Gathered) → after_data row a found ≡ after_data row b found
  data_alike (Given inputs) = ap (λ d. after_edge (edge_of (row.out_of_range inputs) d)) (alike.next inputs)
  data_alike (Lacks p x) = refl

  looked_alike : (inputs : Inputs) (p : ℕ) → looks_at row a inputs p ≡ true → more (ports.Cell c p) ≡ look (ports.Cell c p)
  looked_alike inputs p w = by (enables row p) refl w
    where
      by : (e : Bool) → enables row p ≡ e → (e || row.demands a inputs p) ≡ true → more (ports.Cell c p) ≡ look (ports.Cell c p)
      by true is h = enabling p is
      by false is h = plain p (sides_of.demands a inputs p h)

  enabling_alike : (found : Gathered) → after_enabling (λ p. more (ports.Cell c p)) row a found ≡ after_enabling (λ p. look (ports.Cell c p)) row b found
  enabling_alike (Given inputs) =
      ap (after_data row a)
      (gather_alike (λ p. more (ports.Cell c p)) (λ p. look (ports.Cell c p)) (looks_at row a inputs) 0 row.ports (looked_alike inputs)
      ∙ ap (λ w. gather (λ p. look (ports.Cell c p)) w 0 row.ports) (fun_ext (λ p. ap (λ d. enables row p || d) (alike.demands inputs p))))
      ∙ data_alike (gather (λ p. look (ports.Cell c p)) (looks_at row b inputs) 0 row.ports)
  enabling_alike (Lacks p x) = refl

  pub outcome_alike : cell_outcome more c row a ≡ cell_outcome look c row b
  outcome_alike =
      ap (after_enabling (λ p. more (ports.Cell c p)) row a) (gather_alike (λ p. more (ports.Cell c p)) (λ p. look (ports.Cell c p)) (enables row) 0 row.ports enabling)
      ∙ enabling_alike (gather (λ p. look (ports.Cell c p)) (enables row) 0 row.ports)
