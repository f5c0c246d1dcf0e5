-- Where the parts of a net stand among the instances of its text, and under which names.
use Rattle.std.specs.Prelude.{ℕ, zero, suc, ◌+◌, List, [], ◌∷◌, length, reverse, slice_get, codes}
use Rattle.std.specs.Option.{option_map_or}
use Rattle.cx_meaning.specs.declared.ports.PortRef.TheVariants as ports
use Rattle.cx_meaning.specs.Instances.{Path}
use Rattle.cx_vtree.specs.Plain.{PlainInstance, PlainSource}
use Rattle.cx_vtree.specs.InstanceTree.{tree_from, instances_of}
use Rattle.cx_net.specs.NetMeaning.{Node, APort, AWire, AHole, TheDone}
use Rattle.cx_emit.specs.Names.{input_name, output_name, cell_port_name, wire_name, undeclared_name}

-- the number of part s of instance `holder`, of whose parts the first one has the number n
abbrev pub part_number : PlainSource → ℕ → ℕ → List PlainInstance → ℕ → ℕ
part_number source holder n [] s = n
part_number source holder n (x ∷ xs) zero = n
part_number source holder n (x ∷ xs) (suc s) =
    part_number source holder (n + length (tree_from (reverse source.modules) x holder n)) xs s

abbrev pub parts_at : PlainSource → ℕ → List PlainInstance
parts_at source i = option_map_or (λ p. p.part.instances) (slice_get (instances_of source) i) []

-- the number of cell c of instance i: cells come behind their instance, in their order, each with all below it
abbrev pub cell_number : PlainSource → ℕ → ℕ → ℕ
cell_number source i c = part_number source i (i + 1) (parts_at source i) c

-- the number of what stands at a path below instance i
abbrev pub number_at : PlainSource → ℕ → Path → ℕ
number_at source i [] = i
number_at source i (c ∷ path) = number_at source (cell_number source i c) path

-- the net of a node in the module of its component
abbrev pub node_name : Node → List ℕ
node_name (APort (ports.Cell c p)) = cell_port_name c p
node_name (APort (ports.Input n)) = input_name n
node_name (APort (ports.Output n)) = output_name n
node_name (APort (ports.Done g)) = undeclared_name
node_name (APort (ports.Literal w v)) = undeclared_name
node_name (AWire n) = wire_name n
node_name (AHole n) = undeclared_name
node_name TheDone = codes "done"
