-- The go and the done of a primitive are among its ports.
use Rattle.std.proofs.Common.{◌≡◌, ℕ, ◌==◌, ◌*◌, ◌&&◌, ◌||◌, Bool, true, false, cond, List, [], ◌∷◌, ◌++◌, Some, None, length, take, drop, map, codes, unwrap_or, refl, ap, ◌∙◌, subst, is_some}
use Rattle.std.specs.List.{list_all}
use Rattle.cx_prim.specs.declared.names.PrimitiveName.{PrimitiveName}
use Rattle.cx_prim.specs.declared.names.PrimitiveName.TheVariants as primitives
use Rattle.cx_prim.specs.declared.ports.PortRow.{PortRow}
use Rattle.cx_prim.specs.PortNames.{text_of}
use Rattle.cx_prim.specs.Rows.{Row}
use Rattle.cx_prim.specs.Widths.{is_width}
use Rattle.cx_prim.specs.MemoryRows.{are_sizes, is_address_width, address_ports, memory_row, sequential_memory_row}
use Rattle.cx_prim.specs.RegisterRow.{register_row}
use Rattle.cx_prim.specs.PipeRows.{multiplier_row, divider_row}
use Rattle.cx_prim.specs.Table.{row_at, row_of, no_row, at_width, memory_at}
use Rattle.cx_numbering.specs.Names.{is_among, go_name}
use Rattle.cx_names_scopes.proofs.NameLemmas.{is_among-append}
use Rattle.cx_names.proofs.Base.{map_append}
use Rattle.cx_names_scopes.proofs.PrimitiveLemmas.{texts}

-- a row has a port of this go, and a done
pub record HasGo (go : List ℕ) (row : Row) : Type 0 where
  pub start : is_among go (texts row.ports) ≡ true
  pub done : is_among (codes "done") (texts row.ports) ≡ true

width_made : (go : List ℕ) (make : ℕ → Row) (numbers : List ℕ) → ((w : ℕ) → HasGo go (make w)) → is_some (at_width make numbers) ≡ true → HasGo go (unwrap_or (at_width make numbers) no_row)
width_made go make [] has h = absurd cc
width_made go make (w ∷ []) has h = by (is_width w) h
  where
    by : (b : Bool) → is_some (cond b (Some (make w)) None) ≡ true → HasGo go (unwrap_or (cond b (Some (make w)) None) no_row)
    by true h = has w
    by false h = absurd cc
width_made go make (w ∷ v ∷ rest) has h = absurd cc

memory_made : (go : List ℕ) (dimensions : ℕ) (make : ℕ → List ℕ → List ℕ → Row) (numbers : List ℕ) → ((w : ℕ) (sizes widths : List ℕ) → HasGo go (make w sizes widths)) → is_some (memory_at dimensions make numbers) ≡ true
    → HasGo go (unwrap_or (memory_at dimensions make numbers) no_row)
memory_made go dimensions make [] has h = absurd cc
memory_made go dimensions make (width ∷ rest) has h =
    by ((is_width width && (length rest == 2 * dimensions)) && (are_sizes (take dimensions rest) && list_all is_address_width (drop dimensions rest))) h
  where
    by : (b : Bool) → is_some (cond b (Some (make width (take dimensions rest) (drop dimensions rest))) None) ≡ true → HasGo go (unwrap_or (cond b (Some (make width (take dimensions rest) (drop dimensions rest))) None) no_row)
    by true h = has width (take dimensions rest) (drop dimensions rest)
    by false h = absurd cc

behind_addresses : (n : List ℕ) (front back : List PortRow) → is_among n (texts back) ≡ true → is_among n (texts (front ++ back)) ≡ true
behind_addresses n front back h =
    ap (is_among n) (map_append (λ port. text_of port.name) front back) ∙ is_among-append n (texts front) (texts back) ∙ or_true (is_among n (texts front)) (is_among n (texts back)) h
  where
    or_true : (a b : Bool) → b ≡ true → (a || b) ≡ true
    or_true true b h = refl
    or_true false b h = h

memory_go : (w : ℕ) (sizes widths : List ℕ) → HasGo (codes "write_en") (memory_row w sizes widths)
memory_go w sizes widths = record { start = behind_addresses (codes "write_en") (address_ports widths) _ refl; done = behind_addresses (codes "done") (address_ports widths) _ refl }

sequential_go : (w : ℕ) (sizes widths : List ℕ) → HasGo (codes "content_en") (sequential_memory_row w sizes widths)
sequential_go w sizes widths = record { start = behind_addresses (codes "content_en") (address_ports widths) _ refl; done = behind_addresses (codes "done") (address_ports widths) _ refl }

register_go : (w : ℕ) → HasGo (codes "write_en") (register_row w)
register_go w = record { start = refl; done = refl }

multiplier_go : (w : ℕ) → HasGo (codes "go") (multiplier_row w)
multiplier_go w = record { start = refl; done = refl }

divider_go : (w : ℕ) → HasGo (codes "go") (divider_row w)
divider_go w = record { start = refl; done = refl }

same_go : (go other : List ℕ) (row : Row) → Some other ≡ Some go → HasGo other row → HasGo go row
same_go go other row e has = let same : other ≡ go = cc in subst (λ g. HasGo g row) same has

pub register_ports : (numbers : List ℕ) → is_some (row_at primitives.Reg numbers) ≡ true → HasGo (codes "write_en") (row_of (record { name = primitives.Reg; numbers = numbers }))
register_ports numbers h = width_made (codes "write_en") register_row numbers register_go h

pub go_there : (name : PrimitiveName) (numbers : List ℕ) (go : List ℕ) → is_some (row_at name numbers) ≡ true → go_name name ≡ Some go → HasGo go (row_of (record { name = name; numbers = numbers }))
go_there primitives.Reg numbers go h e = same_go go (codes "write_en") _ e (width_made (codes "write_en") register_row numbers register_go h)
go_there primitives.StdMemD1 numbers go h e = same_go go (codes "write_en") _ e (memory_made (codes "write_en") 1 memory_row numbers memory_go h)
go_there primitives.StdMemD2 numbers go h e = same_go go (codes "write_en") _ e (memory_made (codes "write_en") 2 memory_row numbers memory_go h)
go_there primitives.StdMemD3 numbers go h e = same_go go (codes "write_en") _ e (memory_made (codes "write_en") 3 memory_row numbers memory_go h)
go_there primitives.StdMemD4 numbers go h e = same_go go (codes "write_en") _ e (memory_made (codes "write_en") 4 memory_row numbers memory_go h)
go_there primitives.CombMemD1 numbers go h e = same_go go (codes "write_en") _ e (memory_made (codes "write_en") 1 memory_row numbers memory_go h)
go_there primitives.CombMemD2 numbers go h e = same_go go (codes "write_en") _ e (memory_made (codes "write_en") 2 memory_row numbers memory_go h)
go_there primitives.CombMemD3 numbers go h e = same_go go (codes "write_en") _ e (memory_made (codes "write_en") 3 memory_row numbers memory_go h)
go_there primitives.CombMemD4 numbers go h e = same_go go (codes "write_en") _ e (memory_made (codes "write_en") 4 memory_row numbers memory_go h)
go_there primitives.SeqMemD1 numbers go h e = same_go go (codes "content_en") _ e (memory_made (codes "content_en") 1 sequential_memory_row numbers sequential_go h)
go_there primitives.SeqMemD2 numbers go h e = same_go go (codes "content_en") _ e (memory_made (codes "content_en") 2 sequential_memory_row numbers sequential_go h)
go_there primitives.SeqMemD3 numbers go h e = same_go go (codes "content_en") _ e (memory_made (codes "content_en") 3 sequential_memory_row numbers sequential_go h)
go_there primitives.SeqMemD4 numbers go h e = same_go go (codes "content_en") _ e (memory_made (codes "content_en") 4 sequential_memory_row numbers sequential_go h)
go_there primitives.MultPipe numbers go h e = same_go go (codes "go") _ e (width_made (codes "go") multiplier_row numbers multiplier_go h)
go_there primitives.DivPipe numbers go h e = same_go go (codes "go") _ e (width_made (codes "go") divider_row numbers divider_go h)
go_there _ numbers go h e = absurd cc
