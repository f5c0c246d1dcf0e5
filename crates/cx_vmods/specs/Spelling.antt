-- Names in the text of a module.
use Rattle.std.specs.Prelude.{ℕ, ◌||◌, List, ◌++◌, if◌then◌else◌, codes}
use Rattle.cx_vtree.specs.InstanceTree.{same_name}
use Rattle.cx_vtree.specs.Plain.{PlainExpr, Named, Part, Word}

-- `go` and `done` are as they are, and another name stands behind `cx_`
unfoldable pub spelled : List ℕ → List ℕ
spelled name = if same_name name (codes "go") || same_name name (codes "done") then name else codes "cx_" ++ name

-- a net
abbrev pub net : List ℕ → PlainExpr
net name = Named (spelled name)

-- bits of a net, from high down to low
abbrev pub part : List ℕ → ℕ → ℕ → PlainExpr
part name high low = Part (spelled name) high low

-- a word of an array
abbrev pub word : List ℕ → PlainExpr → PlainExpr
word array index = Word (spelled array) index
