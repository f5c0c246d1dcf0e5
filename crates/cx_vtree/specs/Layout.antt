-- What the layout of a text asks of names and of lists.
use Rattle.std.specs.Prelude.{ℕ, ◌==◌, ◌&&◌, ◌||◌, not, nat_lt, nat_le, List, [], ◌∷◌, Bool, true, false, Option, Some, None, length, codes}
use Rattle.std.specs.List.{list_any, list_all}
use Rattle.cx_vtree.specs.Plain.{PlainExpr, Named, Number, Part, Word, Applied, Inverted, Chosen, Joined, PlainPort, PlainDecl, WireOf, RegisterOf, ArrayOf, PlainAssign, PlainConn, PlainInstance, PlainStore, PlainItem, SetTo, StoreTo, PlainEdge, PlainModule, PlainExternal, PlainSource}
use Rattle.cx_vtree.specs.InstanceTree.{same_name}

-- a letter or `_`
abbrev pub is_letter : ℕ → Bool
is_letter c = (nat_le 97 c && nat_le c 122) || (nat_le 65 c && nat_le c 90) || c == 95

-- a letter, `_` or a digit
abbrev pub is_name_byte : ℕ → Bool
is_name_byte c = is_letter c || (nat_le 48 c && nat_le c 57)

-- a word begins with a letter or `_`
abbrev pub begins_word : List ℕ → Bool
begins_word [] = false
begins_word (c ∷ cs) = is_letter c

-- a word of at most 255 bytes
abbrev pub is_word : List ℕ → Bool
is_word n = begins_word n && list_all is_name_byte n && nat_le (length n) 255

-- the words of the grammar itself
abbrev pub keywords : List (List ℕ)
keywords =
    codes "module" ∷ codes "input" ∷ codes "output" ∷ codes "wire" ∷ codes "reg" ∷ codes "assign"
    ∷ codes "always" ∷ codes "posedge"
    ∷ codes "begin" ∷ codes "end" ∷ codes "if" ∷ codes "else" ∷ codes "endmodule" ∷ []

abbrev pub is_keyword : List ℕ → Bool
is_keyword n = list_any (λ k. same_name n k) keywords

-- a word that is none of the grammar's own
abbrev pub is_name : List ℕ → Bool
is_name n = is_word n && not (is_keyword n)

abbrev pub expr_fits : PlainExpr → Bool
expr_fits (Named n) = is_name n
expr_fits (Number b) = true
expr_fits (Part n high low) = is_name n
expr_fits (Word n i) = is_name n && expr_fits i
expr_fits (Applied op a b) = expr_fits a && expr_fits b
expr_fits (Inverted a) = expr_fits a
expr_fits (Chosen c a b) = expr_fits c && expr_fits a && expr_fits b
expr_fits (Joined a b) = expr_fits a && expr_fits b

-- a width and a length are one more than a number of the text
abbrev pub port_fits : PlainPort → Bool
port_fits p = is_name p.name && nat_lt 0 p.width

abbrev pub decl_fits : PlainDecl → Bool
decl_fits (WireOf n w) = is_name n && nat_lt 0 w
decl_fits (RegisterOf n w) = is_name n && nat_lt 0 w
decl_fits (ArrayOf n w k) = is_name n && nat_lt 0 w && nat_lt 0 k

abbrev pub assign_fits : PlainAssign → Bool
assign_fits a = is_name a.name && expr_fits a.value

abbrev pub conn_fits : PlainConn → Bool
conn_fits c = is_name c.port && is_name c.net

abbrev pub instance_fits : PlainInstance → Bool
instance_fits i = is_name i.kind && is_name i.name && nat_lt 0 (length i.conns) && list_all conn_fits i.conns

abbrev pub item_fits : PlainItem → Bool
item_fits (SetTo a) = assign_fits a
item_fits (StoreTo s) = is_name s.array && expr_fits s.guard && expr_fits s.index && expr_fits s.value

abbrev pub edge_fits : Option PlainEdge → Bool
edge_fits None = true
edge_fits (Some e) = list_all assign_fits e.reset && list_all item_fits e.step

abbrev pub module_fits : PlainModule → Bool
module_fits m =
    is_name m.name && nat_lt 0 (length m.ports) && list_all port_fits m.ports
    && list_all decl_fits m.decls && list_all assign_fits m.assigns
    && list_all instance_fits m.instances && edge_fits m.edge

-- a memory's own name may be one of the grammar's words, since it stands in a comment
abbrev pub external_fits : PlainExternal → Bool
external_fits e = is_word e.name && is_name e.instance && nat_lt 0 (length e.sizes) && nat_le (length e.sizes) 4

-- a source that some text spells
abbrev pub is_laid_out : PlainSource → Bool
is_laid_out s = list_all external_fits s.externals && nat_lt 0 (length s.modules) && list_all module_fits s.modules
