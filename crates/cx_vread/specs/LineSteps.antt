-- Reading one line, by what the lines before await.
use Rattle.std.specs.Prelude.{Option, Some, List, ℕ, codes, if◌then◌else◌}
use Rattle.cx_vread.specs.declared.astray.Between.{Between}
use Rattle.cx_vread.specs.declared.astray.Between.TheVariants.{Externals, Modules, Port, PortsDone, Decls, Assigns, Instances, Branches, Sets, Items, EdgeDone, ModuleDone}
use Rattle.cx_vread_exprs.specs.Passing.{passed_at}
use Rattle.cx_vread_exprs.specs.Places.{Place, Reads, then_reads, then_at, after, begins}
use Rattle.cx_vread_exprs.specs.Tokens.{name_at, small_at, bounds_at}
use Rattle.cx_vread.specs.Parts.{external_at, port_at, is_decl, is_instance, instance_at}

-- a fixed text, behind which this is awaited
abbrev pub fixed_by : List ℕ → Between → Place → Reads Between
fixed_by want next p = then_at (after want p) (λ q. Some (next, q))

abbrev pub external_line : Place → Reads Between
external_line p = then_reads (external_at p) (λ e q. Some (Externals, q))

abbrev pub module_line : Place → Reads Between
module_line p = then_at (after (codes "module ") p) (λ q. then_reads (name_at q) (λ n r. fixed_by (codes "(\n") Port r))

abbrev pub port_line : Place → Reads Between
port_line p =
    then_reads (port_at p) (λ x q.
    if begins (codes ",") q then fixed_by (codes ",\n") Port q else fixed_by (codes "\n") PortsDone q)

abbrev pub wire_line : Place → Reads Between
wire_line p =
    then_at (after (codes "  wire ") p)
    (λ q. then_reads (bounds_at q) (λ w r. then_reads (name_at r) (λ n s. fixed_by (codes ";\n") Decls s)))

-- the length of an array counts for nothing here
abbrev pub array_line : Place → Reads Between
array_line p = then_at (after (codes " [0:") p) (λ q. then_reads (small_at q) (λ k r. fixed_by (codes "];\n") Decls r))

abbrev pub register_line : Place → Reads Between
register_line p =
    then_at (after (codes "  reg ") p) (λ q.
    then_reads (bounds_at q) (λ w r. then_reads (name_at r)
    (λ n s. if begins (codes ";") s then fixed_by (codes ";\n") Decls s else array_line s)))

abbrev pub decl_line : Place → Reads Between
decl_line p = if begins (codes "  reg ") p then register_line p else wire_line p

-- an expression, and the end of its line
abbrev pub value_line : Between → Place → Reads Between
value_line next p = then_at (passed_at p) (fixed_by (codes ";\n") next)

abbrev pub assign_line : Place → Reads Between
assign_line p =
    then_at (after (codes "  assign ") p)
    (λ q. then_reads (name_at q) (λ n r. then_at (after (codes " = ") r) (value_line Assigns)))

abbrev pub instance_line : Place → Reads Between
instance_line p = then_reads (instance_at p) (λ i q. Some (Instances, q))

abbrev pub set_line : Between → Place → Reads Between
set_line next p =
    then_at (after (codes "      ") p)
    (λ q. then_reads (name_at q) (λ n r. then_at (after (codes " <= ") r) (value_line next)))

-- the guard and the array of a store
abbrev pub store_head : Place → Option Place
store_head p =
    then_at (after (codes "      if (") p) (λ q.
    then_at (passed_at q)
    (λ r. then_at (after (codes ") ") r) (λ s. then_reads (name_at s) (λ n t. after (codes "[") t))))

abbrev pub store_line : Place → Reads Between
store_line p =
    then_at (store_head p)
    (λ q. then_at (passed_at q) (λ r. then_at (after (codes "] <= ") r) (value_line Items)))

abbrev pub step_line : Place → Reads Between
step_line p = if begins (codes "      if (") p then store_line p else set_line Items p

-- the lines of a module behind its instances, its assigns and its declarations
abbrev pub after_instances : Place → Reads Between
after_instances p =
    if begins (codes "  always ") p then fixed_by (codes "  always @(posedge clk) begin\n") Branches p
    else fixed_by (codes "endmodule\n") Modules p

abbrev pub after_assigns : Place → Reads Between
after_assigns p = if is_instance p then instance_line p else after_instances p

abbrev pub after_decls : Place → Reads Between
after_decls p = if begins (codes "  assign ") p then assign_line p else after_assigns p

abbrev pub line_at : Between → Place → Reads Between
line_at Externals p = if begins (codes "/") p then external_line p else module_line p
line_at Modules p = module_line p
line_at Port p = port_line p
line_at PortsDone p = fixed_by (codes ");\n") Decls p
line_at Decls p = if is_decl p then decl_line p else after_decls p
line_at Assigns p = after_decls p
line_at Instances p = after_assigns p
line_at Branches p = fixed_by (codes "    if (reset) begin\n") Sets p
line_at Sets p = if begins (codes "     ") p then set_line Sets p else fixed_by (codes "    end else begin\n") Items p
line_at Items p = if begins (codes "     ") p then step_line p else fixed_by (codes "    end\n") EdgeDone p
line_at EdgeDone p = fixed_by (codes "  end\n") ModuleDone p
line_at ModuleDone p = fixed_by (codes "endmodule\n") Modules p
