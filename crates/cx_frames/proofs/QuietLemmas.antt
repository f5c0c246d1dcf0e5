-- A cell whose enabling ports are all 0 makes an idle step, and looks at nothing else.
use Rattle.std.proofs.Common.{⊎_elim, ◌≡◌, ℕ, zero, suc, Bool, true, false, ◌||◌, List, [], ◌∷◌, refl, sym, ap, ◌∙◌, subst}
use Rattle.std.specs.Prelude.{Some, None}
use Rattle.std.proofs.lemmas.Bool.{both_ways, or_cases}
use Rattle.cx_prim.specs.declared.ports.PortRow.{PortRow}
use Rattle.cx_prim.specs.declared.ports.Side.TheVariants as sides
use Rattle.cx_prim.specs.CellStates.{CellState}
use Rattle.cx_prim.specs.Rows.{Inputs, value_at, Row, IsLawful}
use Rattle.cx_meaning.specs.declared.ports.PortRef.TheVariants as ports
use Rattle.cx_meaning.specs.declared.sights.Seen.{Seen}
use Rattle.cx_meaning.specs.Rows.{side_of}
use Rattle.cx_meaning.specs.Sights.{Look, bit_of, Gathered, Given, with_entry, gather_one, gather_port, gather}
use Rattle.cx_meaning.specs.Cycles.{Next, after_edge, after_data, enables, looks_at, after_enabling, cell_outcome}
use Rattle.cx_prim.proofs.PortsLemmas.{is_enable_side-Enable}

-- no port holds more than 0
abbrev pub AreZero : Inputs → Type 0
AreZero inputs = (m : ℕ) → value_at inputs m ≡ 0

-- what is gathered where all that is wanted is 0
record GathersZero (found : Gathered) : Type 0 where
  inputs : Inputs
  given : found ≡ Given inputs
  zeros : AreZero inputs

add_none : (rest : Gathered) → GathersZero rest → GathersZero (with_entry None rest)
add_none rest h = record { inputs = None ∷ h.inputs; given = ap (with_entry None) h.given; zeros = zeros_after }
  where
    zeros_after : AreZero (None ∷ h.inputs)
    zeros_after zero = refl
    zeros_after (suc m) = h.zeros m

add_zero : (rest : Gathered) → GathersZero rest → GathersZero (with_entry (Some (record { width = 1; value = 0 })) rest)
add_zero rest h = record { inputs = Some (record { width = 1; value = 0 }) ∷ h.inputs; given = ap (with_entry (Some (record { width = 1; value = 0 }))) h.given; zeros = zeros_after }
  where
    zeros_after : AreZero (Some (record { width = 1; value = 0 }) ∷ h.inputs)
    zeros_after zero = refl
    zeros_after (suc m) = h.zeros m

gather-zero : (look : ℕ → Seen) (wanted : ℕ → Bool) (p : ℕ) (rows : List PortRow) → ((q : ℕ) → wanted q ≡ true → look q ≡ bit_of false) → GathersZero (gather look wanted p rows)
gather-zero look wanted p [] h = record { inputs = []; given = refl; zeros = λ m. refl }
gather-zero look wanted p (row ∷ rows) h = one (wanted p) (h p) (gather-zero look wanted (suc p) rows h)
  where
    one : (b : Bool) → (b ≡ true → look p ≡ bit_of false) → GathersZero (gather look wanted (suc p) rows) → GathersZero (gather_port b p (look p) (gather look wanted (suc p) rows))
    one true e rest = subst (λ x. GathersZero (gather_one p x (gather look wanted (suc p) rows))) (sym (e refl)) (add_zero (gather look wanted (suc p) rows) rest)
    one false e rest = add_none (gather look wanted (suc p) rows) rest

left_of_or : (a b : Bool) → (a || b) ≡ true → b ≡ false → a ≡ true
left_of_or a b e off = ⊎_elim (λ on. on) (λ on. absurd (both_ways b off on)) (or_cases a b e)

-- A CELL AT REST: no fault, and the idle edge
pub cell_outcome-idle : (look : Look) (c : ℕ) (row : Row) (state : CellState) → IsLawful row → ((p : ℕ) → enables row p ≡ true → look (ports.Cell c p) ≡ bit_of false) → cell_outcome look c row state ≡ Next (row.idle state)
cell_outcome-idle look c row state lawful zeros =
    let first = gather-zero (λ p. look (ports.Cell c p)) (enables row) 0 row.ports zeros in
    let second = gather-zero (λ p. look (ports.Cell c p)) (looks_at row state first.inputs) 0 row.ports
    (λ p w. zeros p (left_of_or (enables row p) (row.demands state first.inputs p) w (lawful.nothing_demanded state first.inputs p (λ n port at side. first.zeros n)))) in
    ap (after_enabling (λ p. look (ports.Cell c p)) row state) first.given
    ∙ ap (after_data row state) second.given
    ∙ ap after_edge (lawful.quiet_is_idle state second.inputs (λ n port at side. second.zeros n))

pub quiet_outcome : (row : Row) → IsLawful row → (look : Look) (c : ℕ) (state : CellState) → ((p : ℕ) → side_of row p ≡ sides.Enable → look (ports.Cell c p) ≡ bit_of false) → cell_outcome look c row state ≡ Next (row.idle state)
quiet_outcome row lawful look c state off = cell_outcome-idle look c row state lawful (λ p e. off p (is_enable_side-Enable (side_of row p) e))
