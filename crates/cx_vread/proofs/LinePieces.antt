-- The pieces of lines, one behind the other.
use Rattle.std.proofs.Common.{◌≡◌, ℕ, List, ◌++◌, append_assoc}
use Rattle.std.specs.Prelude.{codes}

pub sizes_pieces : (d s x : List ℕ) → (codes " " ++ d ++ s) ++ x ≡ codes " " ++ (d ++ (s ++ x))
sizes_pieces d s x = simp append_assoc

pub external_pieces : (n i d s x : List ℕ) → ((codes "// external " ++ (n ++ codes " ") ++ (i ++ codes " ") ++ d ++ s) ++ codes "\n") ++ x
    ≡ codes "// external " ++ (n ++ (codes " " ++ (i ++ (codes " " ++ (d ++ (s ++ (codes "\n" ++ x)))))))
external_pieces n i d s x = simp append_assoc

pub bounds_pieces : (d x : List ℕ) → (codes "[" ++ d ++ codes ":0] ") ++ x ≡ codes "[" ++ (d ++ (codes ":0] " ++ x))
bounds_pieces d x = simp append_assoc

pub port_pieces : (side bounds n x : List ℕ) → (side ++ (bounds ++ n)) ++ x ≡ side ++ (bounds ++ (n ++ x))
port_pieces side bounds n x = simp append_assoc

pub wire_pieces : (bounds n x : List ℕ) → ((codes "  wire " ++ bounds ++ n ++ codes ";") ++ codes "\n") ++ x ≡ codes "  wire " ++ (bounds ++ (n ++ (codes ";\n" ++ x)))
wire_pieces bounds n x = simp append_assoc

pub register_pieces : (bounds n x : List ℕ) → ((codes "  reg " ++ bounds ++ n ++ codes ";") ++ codes "\n") ++ x ≡ codes "  reg " ++ (bounds ++ (n ++ (codes ";\n" ++ x)))
register_pieces bounds n x = simp append_assoc

pub array_pieces : (bounds n k x : List ℕ) → ((codes "  reg " ++ bounds ++ n ++ codes " [0:" ++ k ++ codes "];") ++ codes "\n") ++ x ≡ codes "  reg " ++ (bounds ++ (n ++ (codes " [0:" ++ (k ++ (codes "];\n" ++ x)))))
array_pieces bounds n k x = simp append_assoc

pub assign_pieces : (n e x : List ℕ) → ((codes "  assign " ++ n ++ codes " = " ++ e ++ codes ";") ++ codes "\n") ++ x ≡ codes "  assign " ++ (n ++ (codes " = " ++ (e ++ (codes ";\n" ++ x))))
assign_pieces n e x = simp append_assoc

pub set_line_pieces : (n e x : List ℕ) → ((codes "      " ++ n ++ codes " <= " ++ e ++ codes ";") ++ codes "\n") ++ x ≡ codes "      " ++ (n ++ (codes " <= " ++ (e ++ (codes ";\n" ++ x))))
set_line_pieces n e x = simp append_assoc

pub store_pieces : (g n i v x : List ℕ) → ((codes "      if (" ++ g ++ codes ") " ++ n ++ codes "[" ++ i ++ codes "] <= " ++ v ++ codes ";") ++ codes "\n") ++ x
    ≡ codes "      if (" ++ (g ++ (codes ") " ++ (n ++ (codes "[" ++ (i ++ (codes "] <= " ++ (v ++ (codes ";\n" ++ x))))))))
store_pieces g n i v x = simp append_assoc

pub connection_pieces : (n m x : List ℕ) → (codes "." ++ n ++ codes "(" ++ m ++ codes ")") ++ x ≡ codes "." ++ (n ++ (codes "(" ++ (m ++ (codes ")" ++ x))))
connection_pieces n m x = simp append_assoc

pub instance_line_pieces : (k n cs x : List ℕ) → ((codes "  " ++ k ++ codes " " ++ n ++ codes "(" ++ cs ++ codes ");") ++ codes "\n") ++ x
    ≡ codes "  " ++ (k ++ (codes " " ++ (n ++ (codes "(" ++ (cs ++ (codes ");\n" ++ x))))))
instance_line_pieces k n cs x = simp append_assoc

pub branches_pieces : (sets items x : List ℕ) → (codes "  always @(posedge clk) begin\n    if (reset) begin\n" ++ (sets ++ (codes "    end else begin\n" ++ (items ++ codes "    end\n  end\n")))) ++ x
    ≡ codes "  always @(posedge clk) begin\n    if (reset) begin\n" ++ (sets ++ (codes "    end else begin\n" ++ (items ++ (codes "    end\n  end\n" ++ x))))
branches_pieces sets items x = simp append_assoc
