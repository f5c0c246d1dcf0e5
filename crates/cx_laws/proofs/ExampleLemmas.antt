-- A race, and a done that does not rest on state.
use Rattle.std.proofs.Common.{◌≡◌, ℕ, zero, suc, ◌<◌, inl, inr, ◌⊎◌, true, Some, None, List, [], ◌∷◌, refl, sym, ap, ◌∙◌, subst, arith}
use Rattle.std.specs.Prelude.{slice_get, codes}
use Rattle.cx_text.specs.declared.rules.Rule.TheVariants.{DoneNotState, Race}
use Rattle.cx_prim.specs.declared.ports.Side.TheVariants as sides
use Rattle.cx_prim.specs.Rows.{Row}
use Rattle.cx_prim.specs.Table.{no_row}
use Rattle.cx_meaning.specs.declared.ports.PortRef.{PortRef}
use Rattle.cx_meaning.specs.declared.ports.PortRef.TheVariants.{Cell, Done, Input, Literal}
use Rattle.cx_meaning.specs.Rows.{side_of}
use Rattle.cx_meaning.specs.Designs.{PlainComponent, component_at, Enable, PlainStatement, Placed, form_of}
use Rattle.cx_meaning.specs.Instances.{Instance, At, Nothing, OfRow, OfInstance, cell_at, cells_of, part_of}
use Rattle.cx_rules.specs.Ports.{component_of}
use Rattle.cx_rules.specs.Items.{Dynamic}
use Rattle.cx_rules.specs.Footprints as footprints
use Rattle.cx_rules.specs.Footprints.{Reads, Rests}
use Rattle.cx_rules.specs.Invokes.{drives_all}
use Rattle.cx_rules.specs.RaceRule.{IsShared}
use Rattle.cx_rules.proofs.InvokesLemmas.{reads_more}
use Rattle.cx_rules.specs.Accepted.{Breaks}
use Rattle.cx_laws.specs.Examples.{at, assign, racing, restless, statement_of_main, assign_of_main}
use Rattle.cx_text.proofs.NumberLaws.{false_true}

abbrev racing_part : PlainComponent
racing_part = part_of (component_of racing 0)

abbrev g : PlainStatement
g = Placed (Enable 0) (at 7 7)

abbrev h : PlainStatement
h = Placed (Enable 1) (at 7 10)

abbrev arms : List PlainStatement
arms = g ∷ h ∷ []

-- h reads the wire w, and w.in = x.out
wire_is_read : Reads racing_part h 3
wire_is_read = footprints.named 1 1 (assign (Cell 2 0) (Cell 3 1) 88 95) (inl refl) (inl refl) (inr refl)

x_is_read : Reads racing_part h 1
x_is_read = footprints.through 3 0 2 (assign (Cell 3 0) (Cell 1 2) 1 8) wire_is_read (inl refl) refl (inr refl)

zero_one : ◌≡◌ {A = ℕ} 0 1 → ⊥
zero_one e = cc

x_is_shared : IsShared racing_part arms 1
x_is_shared = (record { one = 0; other = 1; differ = zero_one; first = g; second = h; first_stands = refl; second_stands = refl }, refl, reads_more racing_part h 1 x_is_read)

-- no arm drives the memory, which is cell 0
arm_is : (n : ℕ) (s : PlainStatement) → slice_get arms n ≡ Some s → (g ≡ s) ⊎ (h ≡ s)
arm_is zero s e = inl (some_inj g s e)
  where
    some_inj : (a b : PlainStatement) → Some a ≡ Some b → a ≡ b
    some_inj a b e = cc
arm_is (suc zero) s e = inr (some_inj h s e)
  where
    some_inj : (a b : PlainStatement) → Some a ≡ Some b → a ≡ b
    some_inj a b e = cc
arm_is (suc (suc n)) s e = absurd (none_some s e)
  where
    none_some : (b : PlainStatement) → None ≡ Some b → ⊥
    none_some b e = cc

memory_undriven : (s : PlainStatement) → (g ≡ s) ⊎ (h ≡ s) → drives_all racing_part s 0 ≡ true → ⊥
memory_undriven s (inl e) d = false_true (subst (λ x. drives_all racing_part x 0 ≡ true) (sym e) d)
memory_undriven s (inr e) d = false_true (subst (λ x. drives_all racing_part x 0 ≡ true) (sym e) d)

x_is_first : (e : ℕ) → e < 1 → IsShared racing_part arms e → ⊥
x_is_first zero l (two, d, r) = memory_undriven two.first (arm_is two.one two.first two.first_stands) d
x_is_first (suc e) l shared = absurd (omega arith)

pub race_told : Breaks racing Race (statement_of_main 0) (at 7 1) (codes "x")
race_told = record {
  within = omega arith;
  number = 0;
  is = refl;
  statement = record { context = Dynamic; form = form_of (component_at racing 0).control; place = at 7 1 };
  stands = refl;
  breaks = inl (1, x_is_shared, x_is_first, (refl, refl));
}

-- n.out follows n.left, which g drives
abbrev restless_main : Instance
restless_main = component_of restless 0

abbrev row_in : At → Row
row_in Nothing = no_row
row_in (OfRow row) = row
row_in (OfInstance child) = no_row

out_side : (row : Row) → cell_at (cells_of restless_main) 1 ≡ OfRow row → side_of row 2 ≡ sides.Output
out_side row e = subst (λ r. side_of r 2 ≡ sides.Output) (ap row_in e) refl

out_reads : (row : Row) → cell_at (cells_of restless_main) 1 ≡ OfRow row → row.reads 2 0 ≡ true
out_reads row e = subst (λ r. r.reads 2 0 ≡ true) (ap row_in e) refl

cell_inj : {c p e q : ℕ} → Cell c p ≡ Cell e q → (c ≡ e) × (p ≡ q)
cell_inj {c} {p} {e} {q} h = (first h, second h)
  where
    first : Cell c p ≡ Cell e q → c ≡ e
    first h = cc

    second : Cell c p ≡ Cell e q → p ≡ q
    second h = cc

no_child : (child : Instance) → cell_at (cells_of restless_main) 1 ≡ OfInstance child → ⊥
no_child child e = cc

not_registered : sides.Output ≡ sides.Registered → ⊥
not_registered e = cc

done_does_not_rest : (q : PortRef) → q ≡ Cell 1 2 → Rests restless_main q → ⊥
done_does_not_rest _ same (footprints.literal_rests {w} {v}) = literal_cell same
  where
    literal_cell : Literal w v ≡ Cell 1 2 → ⊥
    literal_cell e = cc
done_does_not_rest _ same (footprints.input_rests {n}) = input_cell same
  where
    input_cell : Input n ≡ Cell 1 2 → ⊥
    input_cell e = cc
done_does_not_rest _ same (footprints.registered_rests {c} {p} row stands side) =
    let i = cell_inj same in
    not_registered (sym (out_side row (subst (λ x. cell_at (cells_of restless_main) x ≡ OfRow row) i.0 stands)) ∙ subst (λ x. side_of row x ≡ sides.Registered) i.1 side)
done_does_not_rest _ same (footprints.output_rests {c} {p} n child stands port) =
    no_child child (subst (λ x. cell_at (cells_of restless_main) x ≡ OfInstance child) (cell_inj same).0 stands)
done_does_not_rest _ same (footprints.done_rests {c} {p} child stands port) =
    no_child child (subst (λ x. cell_at (cells_of restless_main) x ≡ OfInstance child) (cell_inj same).0 stands)
done_does_not_rest _ same (footprints.combinational_rests {c} {p} row stands side undriven always) =
    let i = cell_inj same in
    undriven 0 0 (assign (Cell 1 0) (Cell 0 3) 11 20)
    (subst (λ x. row.reads x 0 ≡ true) (sym i.1) (out_reads row (subst (λ x. cell_at (cells_of restless_main) x ≡ OfRow row) i.0 stands)))
    (inl refl) (ap (λ x. Cell x 0) (sym i.0))

pub restless_told : Breaks restless DoneNotState (assign_of_main 4) (at 5 76) (codes "g")
restless_told = record {
  within = omega arith;
  number = 4;
  is = refl;
  assign = record { owner = Some 0; assign = assign (Done 0) (Cell 1 2) 76 86 };
  stands = refl;
  breaks = (0, refl, (Cell 1 2, inr refl, done_does_not_rest (Cell 1 2) refl), (refl, refl));
}
