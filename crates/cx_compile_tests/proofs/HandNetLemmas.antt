-- The net of `src/nets.rt` can be emitted.
use Rattle.std.proofs.Common.{◌≡◌, ℕ, zero, suc, ◌<◌, ◌≤◌, Bool, true, false, if◌then◌else◌, List, [], ◌∷◌, length, Some, IsSome, codes, slice_get, true≢false, refl, sym, ◌∙◌, subst, arith}
use Rattle.std.proofs.lemmas.Bool.{leb-true}
use Rattle.std.proofs.lemmas.List.Elements.{All-nil}
use Rattle.cx_text.specs.Members.{Each}
use Rattle.cx_bits.specs.BitVector.{Fits}
use Rattle.cx_prim.specs.declared.names.PrimitiveName.{PrimitiveName}
use Rattle.cx_prim.specs.declared.names.PrimitiveName.TheVariants.{Const, Wire, Add, Sub, And, Or, Xor, Not, Lsh, Rsh, Lt, Gt, Equal, Neq, Le, Ge, Slt, Sgt, Seq, Sneq, Sle, Sge, Slice, Pad, Mux, Reg, StdMemD1, StdMemD2, StdMemD3, StdMemD4, CombMemD1, CombMemD2, CombMemD3, CombMemD4, SeqMemD1, SeqMemD2, SeqMemD3, SeqMemD4, MultPipe, DivPipe, Timer}
use Rattle.cx_prim.specs.PrimitiveNames.{name_text, IsNamed}
use Rattle.cx_prim.specs.Rows.{IsOfWidth}
use Rattle.cx_prim.specs.Widths.{IsWidth}
use Rattle.cx_meaning.specs.Designs.{PlainCell}
use Rattle.cx_meaning.specs.declared.kinds.PortDecl.{PortDecl}
use Rattle.cx_meaning.specs.declared.ports.PortRef.TheVariants as ports
use Rattle.cx_net.specs.Nets.{PlainNetExpr, OfRegister, OfWire, OfGo, Sum, PlainNetTarget, ToPort, ToRegister, ToWire, ToDone, PlainNetDriver}
use Rattle.cx_net.specs.NetFits.{HasWidth, target_width, IsFitDriver, IsFitKind, IsFitComponent, HasNoHoles}
use Rattle.cx_net.specs.NetLimits.{StandsIn, IsWritableDriver, IsWritableComponent, nets_below, instances_below, words_below}
use Rattle.cx_net.specs.NetMeaning.{same_target, drivers_to}
use Rattle.cx_net.specs.NetTree.{net_component_at, net_tree}
use Rattle.cx_net.proofs.NetsLemmas.{each_all}
use Rattle.cx_vtree.specs.InstanceTree.{same_name}
use Rattle.cx_emit.specs.Emitted.{CanBeEmitted}
use Rattle.cx_emit.proofs.CellPorts.{in_each}
use Rattle.cx_compile_tests.specs.HandNet.{number, driver, register_done, hand_starts, hand_drivers, hand_cell, hand_part, hand_net}
use Rattle.cx_text.proofs.OptionLaws.{some_is}
use Rattle.cx_vtree.proofs.InstanceTreeLemmas.{is_same}

-- std_reg names the register alone
not_so : (name : PrimitiveName) → IsNamed name (codes "std_reg") → same_name (name_text name) (codes "std_reg") ≡ false → {A : Type 0} → A
not_so name h e = absurd (true≢false (sym (is_same (name_text name) (codes "std_reg") h.spelled) ∙ e))

pub named_register : (name : PrimitiveName) → IsNamed name (codes "std_reg") → name ≡ Reg
named_register Const h = not_so Const h refl
named_register Wire h = not_so Wire h refl
named_register Add h = not_so Add h refl
named_register Sub h = not_so Sub h refl
named_register And h = not_so And h refl
named_register Or h = not_so Or h refl
named_register Xor h = not_so Xor h refl
named_register Not h = not_so Not h refl
named_register Lsh h = not_so Lsh h refl
named_register Rsh h = not_so Rsh h refl
named_register Lt h = not_so Lt h refl
named_register Gt h = not_so Gt h refl
named_register Equal h = not_so Equal h refl
named_register Neq h = not_so Neq h refl
named_register Le h = not_so Le h refl
named_register Ge h = not_so Ge h refl
named_register Slt h = not_so Slt h refl
named_register Sgt h = not_so Sgt h refl
named_register Seq h = not_so Seq h refl
named_register Sneq h = not_so Sneq h refl
named_register Sle h = not_so Sle h refl
named_register Sge h = not_so Sge h refl
named_register Slice h = not_so Slice h refl
named_register Pad h = not_so Pad h refl
named_register Mux h = not_so Mux h refl
named_register Reg h = refl
named_register StdMemD1 h = not_so StdMemD1 h refl
named_register StdMemD2 h = not_so StdMemD2 h refl
named_register StdMemD3 h = not_so StdMemD3 h refl
named_register StdMemD4 h = not_so StdMemD4 h refl
named_register CombMemD1 h = not_so CombMemD1 h refl
named_register CombMemD2 h = not_so CombMemD2 h refl
named_register CombMemD3 h = not_so CombMemD3 h refl
named_register CombMemD4 h = not_so CombMemD4 h refl
named_register SeqMemD1 h = not_so SeqMemD1 h refl
named_register SeqMemD2 h = not_so SeqMemD2 h refl
named_register SeqMemD3 h = not_so SeqMemD3 h refl
named_register SeqMemD4 h = not_so SeqMemD4 h refl
named_register MultPipe h = not_so MultPipe h refl
named_register DivPipe h = not_so DivPipe h refl
named_register Timer h = not_so Timer h refl

fits_so : (width value : ℕ) → Fits (record { width = width; value = value }) → IsOfWidth width (record { width = width; value = value })
fits_so width value h = record { same_width = refl; fits = h }

one : IsOfWidth 1 (record { width = 1; value = 1 })
one = fits_so 1 1 (record { some_bits = omega arith; few_bits = omega arith; in_range = omega arith })

none : IsOfWidth 1 (record { width = 1; value = 0 })
none = fits_so 1 0 (record { some_bits = omega arith; few_bits = omega arith; in_range = omega arith })

a_byte : (value : ℕ) → value < 256 → IsOfWidth 8 (record { width = 8; value = value })
a_byte value h = fits_so 8 value (record { some_bits = omega arith; few_bits = omega arith; in_range = omega arith })

a_word : (value : ℕ) → value < 256 → IsOfWidth 32 (record { width = 32; value = value })
a_word value h = fits_so 32 value (record { some_bits = omega arith; few_bits = omega arith; in_range = omega arith })

-- DRIVERS fit
abbrev IsFitHere : PlainNetDriver → Type 0
IsFitHere d = IsFitDriver hand_net hand_part d

abbrev HasWidthHere : PlainNetExpr → ℕ → Type 0
HasWidthHere e w = HasWidth hand_net hand_part e w

-- a driver whose target has this width
a_driver : (d : PlainNetDriver) (width : ℕ) → HasWidthHere d.guard 1 → target_width hand_net hand_part d.target ≡ Some width → HasWidthHere d.source width → IsFitHere d
a_driver d width guard is source = record { guard = guard; source = λ w e. subst (HasWidthHere d.source) (some_is width w (sym is ∙ e)) source }

starts_fit : HasWidthHere hand_starts 1
starts_fit = (refl, (refl, (refl, ((refl, (32, refl, a_word 0 (omega arith))), tt))))

drivers_fit : Each IsFitHere hand_drivers
drivers_fit = (
  a_driver (driver (ToPort (ports.Cell 0 0)) OfGo (number 8 7)) 8 refl refl (a_byte 7 (omega arith)),
  (
    a_driver (driver (ToPort (ports.Cell 0 1)) (OfWire 0) (number 1 1)) 1 refl refl one,
    (
      a_driver (driver (ToPort (ports.Cell 0 0)) (OfWire 0) (number 8 9)) 8 refl refl (a_byte 9 (omega arith)),
      (
        a_driver (driver (ToWire 0) (number 1 1) hand_starts) 1 one refl starts_fit,
        (
          a_driver (driver (ToWire 0) OfGo (number 1 0)) 1 refl refl none,
          (
            a_driver (driver (ToRegister 0) register_done (Sum (OfRegister 0) (number 32 1))) 32 refl refl (refl, a_word 1 (omega arith)),
            (
              a_driver (driver ToDone (number 1 1) register_done) 1 one refl refl,
              tt,
            ),
          ),
        ),
      ),
    ),
  ),
)

component_fits : (k : ℕ) → k < 1 → IsFitComponent hand_net k
component_fits zero less = record {
  drivers = λ n d e. in_each IsFitHere hand_drivers d drivers_fit (n, e);
  cells = λ c cell e. in_each (λ (x : PlainCell). IsFitKind 0 x.kind) (hand_cell ∷ []) cell (refl, tt) (c, e);
}
component_fits (suc k) less = absurd (omega arith)

no_external : (c : ℕ) (cell : PlainCell) → slice_get (hand_cell ∷ []) c ≡ Some cell → cell.external ≡ true → ⊥
no_external c cell e external = true≢false (sym external ∙ in_each (λ (x : PlainCell). x.external ≡ false) (hand_cell ∷ []) cell (refl, tt) (c, e))

-- and can be written
fewer : (t : PlainNetTarget) (ds : List PlainNetDriver) → length (drivers_to t ds) ≤ length ds
fewer t [] = omega arith
fewer t (d ∷ ds) = by (same_target d.target t) (fewer t ds)
  where
    by : (b : Bool) → length (drivers_to t ds) ≤ length ds → length (if b then d ∷ drivers_to t ds else drivers_to t ds) ≤ suc (length ds)
    by true h = omega arith
    by false h = omega arith

simple : (d : PlainNetDriver) → StandsIn 47 d.guard → StandsIn 47 d.source → IsWritableDriver d
simple d guard source = record { guard = guard; source = source }

drivers_written : Each IsWritableDriver hand_drivers
drivers_written = (
  simple (driver (ToPort (ports.Cell 0 0)) OfGo (number 8 7)) tt tt,
  (
    simple (driver (ToPort (ports.Cell 0 1)) (OfWire 0) (number 1 1)) tt tt,
    (
      simple (driver (ToPort (ports.Cell 0 0)) (OfWire 0) (number 8 9)) tt tt,
      (
        simple (driver (ToWire 0) (number 1 1) hand_starts) tt (2, omega arith, omega arith, omega arith, (tt, ((omega arith, tt), ((omega arith, tt, tt), tt)))),
        (
          simple (driver (ToWire 0) OfGo (number 1 0)) tt tt,
          (
            simple (driver (ToRegister 0) register_done (Sum (OfRegister 0) (number 32 1))) tt (omega arith, tt, tt),
            (
              simple (driver ToDone (number 1 1) register_done) tt tt,
              tt,
            ),
          ),
        ),
      ),
    ),
  ),
)

component_written : (k : ℕ) → k < 1 → IsWritableComponent (net_component_at hand_net k)
component_written zero less = record {
  input_widths = All-nil (λ (d : PortDecl). IsWidth d.width);
  output_widths = All-nil (λ (d : PortDecl). IsWidth d.width);
  register_widths = each_all IsWidth (32 ∷ []) (record { some_bits = omega arith; few_bits = omega arith }, tt);
  wire_widths = each_all IsWidth (1 ∷ 3 ∷ []) (record { some_bits = omega arith; few_bits = omega arith }, (record { some_bits = omega arith; few_bits = omega arith }, tt));
  few_ports = omega arith;
  few_registers = omega arith;
  few_wires = omega arith;
  few_cells = omega arith;
  chains = λ t. (let h : length (drivers_to t hand_drivers) ≤ 7 = fewer t hand_drivers in omega arith);
  drivers = each_all IsWritableDriver hand_drivers drivers_written;
}
component_written (suc k) less = absurd (omega arith)

no_holes : HasNoHoles hand_net
no_holes zero = refl
no_holes (suc k) = refl

targets_there : (k : ℕ) → k < 1 → (m : ℕ) (d : PlainNetDriver) → slice_get (net_component_at hand_net k).drivers m ≡ Some d → IsSome (target_width hand_net (net_component_at hand_net k) d.target)
targets_there zero less m d e = in_each (λ (x : PlainNetDriver). IsSome (target_width hand_net hand_part x.target)) hand_drivers d (refl, (refl, (refl, (refl, (refl, (refl, (refl, tt))))))) (m, e)
targets_there (suc k) less m d e = absurd (omega arith)

pub hand_emitted : CanBeEmitted hand_net
hand_emitted = record {
  fits = record { has_main = omega arith; externals = λ c cell e external. absurd (no_external c cell e external); components = component_fits };
  targets = targets_there;
  no_holes = no_holes;
  writable = record {
    few = omega arith;
    components = component_written;
    main_last = refl;
    no_inputs = refl;
    no_outputs = refl;
    externals = λ c cell e external. absurd (no_external c cell e external);
    externals_apart = λ c e cell other here external there outer same. absurd (no_external c cell here external);
    nets = leb-true (nets_below (net_tree hand_net)) 4194304 refl;
    instances = leb-true (instances_below (net_tree hand_net)) 131072 refl;
    words = leb-true (words_below (net_tree hand_net)) 4194304 refl;
  };
}
