-- Each row of the table has enabling ports of one bit, and its outputs read plain inputs alone.
use Rattle.std.proofs.Common.{◌≡◌, ℕ, zero, suc, true, List, [], ◌∷◌, ◌++◌, Some, refl}
use Rattle.std.specs.Prelude.{slice_get}
use Rattle.cx_prim.specs.declared.ports.PortName.{PortName}
use Rattle.cx_prim.specs.declared.ports.PortName.TheVariants as names
use Rattle.cx_prim.specs.declared.ports.PortRow.{PortRow}
use Rattle.cx_prim.specs.declared.ports.Side.TheVariants as sides
use Rattle.cx_prim.specs.Rows.{Row}
use Rattle.cx_prim.specs.MemoryRows.{ports_named}
use Rattle.cx_prim.specs.Table.{PrimitiveRow, row_of}
use Rattle.cx_prim.proofs.TableCases.{OfEachKind, of_row}
use Rattle.cx_meaning.specs.Rows.{side_from, side_of}
use Rattle.cx_meaning.proofs.RowReads.{reads_plain}

abbrev AreNarrow : List PortRow → Type 0
AreNarrow [] = Unit {0}
AreNarrow (port ∷ rest) = (port.side ≡ sides.Enable → port.width ≡ 1) × AreNarrow rest

pub record HasRowPorts (r : Row) : Type 0 where
  narrow : AreNarrow r.ports
  pub reads_plain : (n m : ℕ) → r.reads n m ≡ true → side_of r m ≡ sides.Plain

plain_apart : sides.Plain ≡ sides.Enable → ⊥
plain_apart e = cc

output_apart : sides.Output ≡ sides.Enable → ⊥
output_apart e = cc

registered_apart : sides.Registered ≡ sides.Enable → ⊥
registered_apart e = cc

abbrev IsNarrow : Row → Type 0
IsNarrow r = AreNarrow r.ports

-- memories: the addresses come first
named_narrow : (list : List PortName) (widths : List ℕ) (rest : List PortRow) → AreNarrow rest → AreNarrow (ports_named list widths ++ rest)
named_narrow [] widths rest h = h
named_narrow (name ∷ list) [] rest h = h
named_narrow (name ∷ list) (w ∷ widths) rest h = ((λ e. absurd (plain_apart e)), named_narrow list widths rest h)

-- the table
each_kind_is_narrow : OfEachKind IsNarrow
each_kind_is_narrow = record {
  none = tt;
  constant = λ w v fits. ((λ e. absurd (output_apart e)), tt);
  unary = λ operator w v takes. ((λ e. absurd (plain_apart e)), ((λ e. absurd (output_apart e)), tt));
  binary = λ operator w ok. ((λ e. absurd (plain_apart e)), ((λ e. absurd (plain_apart e)), ((λ e. absurd (output_apart e)), tt)));
  mux = λ w ok. ((λ e. absurd (plain_apart e)), ((λ e. absurd (plain_apart e)), ((λ e. absurd (plain_apart e)), ((λ e. absurd (output_apart e)), tt))));
  register = λ w ok. ((λ e. absurd (plain_apart e)), ((λ e. refl), ((λ e. absurd (registered_apart e)), ((λ e. absurd (registered_apart e)), tt))));
  memory = λ w sizes address_widths layout. named_narrow (names.Addr0 ∷ names.Addr1 ∷ names.Addr2 ∷ names.Addr3 ∷ []) address_widths _
      ((λ e. absurd (plain_apart e)), ((λ e. refl), ((λ e. absurd (output_apart e)), ((λ e. absurd (registered_apart e)), tt))));
  sequential = λ w sizes address_widths layout. named_narrow (names.Addr0 ∷ names.Addr1 ∷ names.Addr2 ∷ names.Addr3 ∷ []) address_widths _
      ((λ e. refl), ((λ e. refl), ((λ e. absurd (plain_apart e)), ((λ e. absurd (registered_apart e)), ((λ e. absurd (registered_apart e)), tt)))));
  multiplier = λ w ok. ((λ e. refl), ((λ e. absurd (plain_apart e)), ((λ e. absurd (plain_apart e)), ((λ e. absurd (registered_apart e)), ((λ e. absurd (registered_apart e)), tt)))));
  divider = λ w ok. ((λ e. refl), ((λ e. absurd (plain_apart e)), ((λ e. absurd (plain_apart e)), ((λ e. absurd (registered_apart e)), ((λ e. absurd (registered_apart e)), ((λ e. absurd (registered_apart e)), tt))))));
  timer = λ n some few. ((λ e. refl), ((λ e. absurd (registered_apart e)), ((λ e. absurd (registered_apart e)), tt)));
}

-- EVERY ROW of the table
pub row_ports : (p : PrimitiveRow) → HasRowPorts (row_of p)
row_ports p = record { narrow = of_row IsNarrow each_kind_is_narrow p; reads_plain = (reads_plain p).plain }

enable_narrow : (list : List PortRow) (n : ℕ) → AreNarrow list → side_from list n ≡ sides.Enable → (port : PortRow) × (slice_get list n ≡ Some port) × (port.width ≡ 1)
enable_narrow [] n h e = absurd (registered_apart e)
enable_narrow (port ∷ list) zero h e = (port, refl, h.0 e)
enable_narrow (port ∷ list) (suc n) h e = enable_narrow list n h.1 e

-- an enabling port is of one bit
pub enable_width : (r : Row) → HasRowPorts r → (n : ℕ) → side_of r n ≡ sides.Enable → (port : PortRow) × (slice_get r.ports n ≡ Some port) × (port.width ≡ 1)
enable_width r has n e = enable_narrow r.ports n has.narrow e
