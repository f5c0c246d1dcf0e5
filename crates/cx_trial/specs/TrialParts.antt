-- Cells and groups of the design of a trial. Every part has the place 1:1.
use Rattle.std.specs.Prelude.{ℕ, zero, suc, ◌+◌, ◌*◌, ◌%◌, List, [], ◌∷◌, ◌++◌, None, codes, decimal}
use Rattle.cx_text.specs.declared.places.Place.{Place}
use Rattle.cx_ast.specs.PlainTree.{PlainAssign, PlainCell, PlainGroup, PlainWire, Group}
use Rattle.cx_ast.specs.declared.operands.OperandForm.TheVariants.{Port, Hole, Literal}
use Rattle.cx_ast.specs.declared.operands.OperandItem.{OperandItem}
use Rattle.cx_ast.specs.declared.wiring.GroupWord.TheVariants.{Plain}

abbrev pub place : Place
place = record { line = 1; column = 1 }

-- what there is for each number before n, in their order
unfoldable pub up_to : {A : Type 0} → (ℕ → List A) → ℕ → List A
up_to f zero = []
up_to f (suc n) = up_to f n ++ f n

-- a letter, and a number behind it
abbrev pub indexed : List ℕ → ℕ → List ℕ
indexed letter n = letter ++ decimal n

-- the group of a step of an arm
abbrev pub step_name : ℕ → ℕ → List ℕ
step_name arm step = indexed (indexed (codes "g") arm ++ codes "_") step

abbrev pub port_of : List ℕ → List ℕ → OperandItem
port_of cell port = record { form = Port cell port; place = place }

abbrev pub literal : ℕ → ℕ → OperandItem
literal width value = record { form = Literal width value; place = place }

abbrev pub assign_of : OperandItem → OperandItem → PlainAssign
assign_of target source = record { attributes = []; target = target; guard = None; source = source; place = place }

-- cell.port = source
abbrev pub drive : List ℕ → List ℕ → OperandItem → PlainAssign
drive cell port source = assign_of (port_of cell port) source

-- group[done] = cell.done
abbrev pub finish : List ℕ → List ℕ → PlainAssign
finish group cell = assign_of (record { form = Hole group (codes "done"); place = place }) (port_of cell (codes "done"))

abbrev pub group_of : List ℕ → List PlainAssign → PlainWire
group_of name assigns =
    Group
    (record { attributes = []; kind = Plain; name = name; marks = []; assigns = assigns; place = place })

-- a group that adds a number to a register
abbrev pub sum_group : List ℕ → List ℕ → List ℕ → ℕ → PlainWire
sum_group name adder register number = group_of name (
    drive adder (codes "left") (port_of register (codes "out"))
    ∷ drive adder (codes "right") (literal 32 number)
    ∷ drive register (codes "in") (port_of adder (codes "out"))
    ∷ drive register (codes "write_en") (literal 1 1)
    ∷ finish name register ∷ [])

-- step k of arm i adds seed + 5i + 3k, modulo 1000
abbrev pub step_group : ℕ → ℕ → ℕ → PlainWire
step_group seed arm step =
    sum_group (step_name arm step) (indexed (codes "a") arm) (indexed (codes "r") arm)
    ((seed + (5 * arm + 3 * step)) % 1000)

-- the sum of an arm's registers goes to its word of the memory
abbrev pub store_group : ℕ → PlainWire
store_group arm = group_of (indexed (codes "t") arm) (
    drive (indexed (codes "a") arm) (codes "left") (port_of (indexed (codes "r") arm) (codes "out"))
    ∷ drive (indexed (codes "a") arm) (codes "right") (port_of (indexed (codes "s") arm) (codes "out"))
    ∷ drive (codes "mem") (codes "addr0") (literal 4 arm)
    ∷ drive (codes "mem") (codes "write_data") (port_of (indexed (codes "a") arm) (codes "out"))
    ∷ drive (codes "mem") (codes "write_en") (literal 1 1)
    ∷ finish (indexed (codes "t") arm) (codes "mem") ∷ [])

-- a cell of 32 bits
abbrev pub cell : List ℕ → ℕ → List ℕ → PlainCell
cell letter arm kind =
    record {
      attributes = [];
      name = indexed letter arm;
      marks = [];
      kind = kind;
      numbers = 32 ∷ [];
      place = place;
    }

-- @external mem = std_mem_d1(32, 16, 4)
abbrev pub memory_cell : PlainCell
memory_cell = record {
  attributes = record { name = codes "external"; number = None } ∷ [];
  name = codes "mem";
  marks = [];
  kind = codes "std_mem_d1";
  numbers = 32 ∷ 16 ∷ 4 ∷ [];
  place = place;
}
