-- Names of parts by their numbers.
use Rattle.std.proofs.Common.{◌≡◌, ℕ, zero, suc, List, [], ◌∷◌, Option, Some, None, slice_get, get_or, refl, sym, ap, ◌∙◌}
use Rattle.cx_prim.specs.declared.ports.PortRow.{PortRow}
use Rattle.cx_prim.specs.PortNames.{text_of}
use Rattle.cx_meaning.specs.declared.kinds.PortDecl.{PortDecl}
use Rattle.cx_meaning.specs.Designs.{PlainCell, PlainGroup, no_group}
use Rattle.cx_rules.specs.Ports.{row_port_name, declared_name, cell_name}

-- the name of what there is, and none where there is nothing
abbrev pub named : {A : Type 0} → (A → List ℕ) → Option A → List ℕ
named name None = []
named name (Some x) = name x

pub row_name : (ports : List PortRow) (p : ℕ) → row_port_name ports p ≡ named (λ row. text_of row.name) (slice_get ports p)
row_name [] p = refl
row_name (port ∷ ports) zero = refl
row_name (port ∷ ports) (suc p) = row_name ports p

pub decl_name : (decls : List PortDecl) (n : ℕ) → declared_name decls n ≡ named (λ decl. decl.name) (slice_get decls n)
decl_name [] n = refl
decl_name (decl ∷ decls) zero = refl
decl_name (decl ∷ decls) (suc n) = decl_name decls n

pub name_of_cell : (cells : List PlainCell) (c : ℕ) → cell_name cells c ≡ named (λ cell. cell.name) (slice_get cells c)
name_of_cell [] c = refl
name_of_cell (cell ∷ cells) zero = refl
name_of_cell (cell ∷ cells) (suc c) = name_of_cell cells c

pub name_of_group : (groups : List PlainGroup) (g : ℕ) → (get_or groups g no_group).name ≡ named (λ group. group.name) (slice_get groups g)
name_of_group [] g = refl
name_of_group (group ∷ groups) zero = refl
name_of_group (group ∷ groups) (suc g) = name_of_group groups g
