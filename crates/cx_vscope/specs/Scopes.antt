-- What maps and sets by name hold.
use Rattle.std.specs.Prelude.{◌≡◌, ℕ, List, map, unwrap_or}
use Rattle.std.specs.HashMap as maps
use Rattle.std.specs.HashMap.{HashMap}
use Rattle.std.specs.HashSet as sets
use Rattle.std.specs.HashSet.{HashSet}
use denote.Ref.{Bor}
use Rattle.cx_vtree.specs.InstanceTree.{same_name}
use Rattle.cx_vtree.specs.declared.meanings.Meaning.{Meaning}
use Rattle.cx_vtree.specs.declared.meanings.Meaning.TheVariants.{Nothing}
use Rattle.cx_vtree.specs.PlainParts.{plain_port}
use Rattle.cx_vscope.specs.declared.drafts.DraftModule.{DraftModule}
use Rattle.cx_vscope.specs.Drafts.{draft_decl}
use Rattle.cx_vtree.specs.Sound.{Scope, meant_in, has_name}

-- what each name stands for in a module
abbrev pub scope_of : DraftModule → Scope
scope_of m = meant_in (map plain_port m.ports.items) (map draft_decl m.decls.items)

-- no name stands for anything
abbrev pub nothing_meant : Scope
nothing_meant name = Nothing

-- what each name stands for by a map
abbrev pub meant_by : {S : Type 0} → HashMap (Bor (List ℕ)) Meaning S → Scope
meant_by m name = unwrap_or (maps.get_by (λ k. same_name name k.now) m) Nothing

-- a set has just the names of a list
abbrev pub HasAll : {S : Type 0} → HashSet (Bor (List ℕ)) S → List (List ℕ) → Type 0
HasAll s names = (name : List ℕ) → sets.contains_by (λ k. same_name name k.now) s ≡ has_name names name
