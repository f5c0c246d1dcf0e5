-- What the combinational outputs of a primitive read: its first inputs, up to the data of a write.
use Rattle.std.specs.Prelude.{◌≡◌, ℕ, suc, nat_lt, Bool, true, false, ◌&&◌, not, List, [], ◌∷◌, if◌then◌else◌}
use Rattle.cx_prim.specs.declared.ports.PortName.{PortName}
use Rattle.cx_prim.specs.declared.ports.PortName.TheVariants.{WriteData}
use Rattle.cx_prim.specs.declared.ports.PortRow.{PortRow}
use Rattle.cx_prim.specs.declared.ports.Side.{Side}
use Rattle.cx_prim.specs.declared.ports.Side.TheVariants.{Enable, Plain, Output, Registered}
use Rattle.cx_prim.specs.Rows.{Row, is_plain_side}
use Rattle.cx_meaning.specs.Rows.{side_of}

-- a combinational output
abbrev pub is_combinational : Side → Bool
is_combinational Enable = false
is_combinational Plain = false
is_combinational Output = true
is_combinational Registered = false

abbrev pub is_write_data : PortName → Bool
is_write_data WriteData = true
is_write_data _ = false

-- a plain input that is not the data of a write
abbrev pub is_read_port : PortRow → Bool
is_read_port port = is_plain_side port.side && not (is_write_data port.name)

-- how many of them stand first
abbrev pub read_count : List PortRow → ℕ
read_count [] = 0
read_count (port ∷ ports) = if is_read_port port then suc (read_count ports) else 0

-- the combinational outputs read those and no others
pub record ReadsFirst (row : Row) : Type 0 where
  pub first : (n m : ℕ) → side_of row n ≡ Output → row.reads n m ≡ nat_lt m (read_count row.ports)
