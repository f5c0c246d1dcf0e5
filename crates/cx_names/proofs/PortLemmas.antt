-- The numbers of ports.
use Rattle.std.proofs.Common.{◌≡◌, ℕ, zero, suc, ◌+◌, ◌<◌, ◌≤◌, Bool, true, false, List, [], ◌∷◌, ◌++◌, Option, None, Some, cond, map, drop, length, slice_get, refl, sym, ◌∙◌, ap, subst, arith, codes, append_assoc}
use Rattle.std.proofs.lemmas.List.{length-map}
use Rattle.cx_prim.specs.declared.ports.PortRow.{PortRow}
use Rattle.cx_prim.specs.PortNames.{text_of}
use Rattle.cx_ast.specs.declared.components.PortItem.{PortItem}
use Rattle.cx_ast.specs.PlainTree.{PlainPort, PlainComponent, plain_port}
use Rattle.cx_numbering.specs.Names.{same_name, number_of, is_own_name, if_not_own, signature_ports, port_names, component_among, or_component, AComponent, cell_port_names, primitive_or}
use Rattle.cx_prim.specs.declared.names.PrimitiveName.{PrimitiveName}
use Rattle.cx_names_scopes.specs.declared.numbers.Numbers.{Numbers}
use Rattle.cx_names_scopes.specs.Numbered.{number_in, or_else, number_if, number_from, AreNumbersOf, IsAddedTo}
use Rattle.cx_names_scopes.specs.Scopes.{at_number}
use Rattle.cx_names_scopes.proofs.NameLemmas.{drop_found, number_from-start, number_within, numbered, part_at}
use Rattle.cx_names_scopes.proofs.PrimitiveLemmas.{texts}
use Rattle.cx_names.specs.Sites.{AddsNames, ArePortNumbers}

-- the port of a number has the name, or has not
pub row_first : (ports : List PortRow) (i : ℕ) (port : PortRow) (name text : List ℕ) (all : Option ℕ) → slice_get ports i ≡ Some port → text ≡ text_of port.name → same_name text name ≡ true
    → number_from i name (texts (drop i ports)) ≡ all → Some i ≡ all
row_first ports i port name text all found spelled same behind =
    sym (ap (λ b. cond b (Some i) (number_from (i + 1) name (texts (drop (i + 1) ports)))) (ap (λ t. same_name t name) (sym spelled) ∙ same))
    ∙ ap (λ ps. number_from i name (texts ps)) (sym (drop_found ports i port found))
    ∙ behind

pub row_other : (ports : List PortRow) (i : ℕ) (port : PortRow) (name text : List ℕ) (all : Option ℕ) → slice_get ports i ≡ Some port → text ≡ text_of port.name → same_name text name ≡ false
    → number_from i name (texts (drop i ports)) ≡ all → number_from (i + 1) name (texts (drop (i + 1) ports)) ≡ all
row_other ports i port name text all found spelled other behind =
    sym (ap (λ b. cond b (Some i) (number_from (i + 1) name (texts (drop (i + 1) ports)))) (ap (λ t. same_name t name) (sym spelled) ∙ other))
    ∙ ap (λ ps. number_from i name (texts ps)) (sym (drop_found ports i port found))
    ∙ behind

-- there are as many numbers of ports as components, and each is of its component
many_ports : (parts : List PlainComponent) (all : List Numbers) → ArePortNumbers parts all → length all ≡ length parts
many_ports [] [] are = refl
many_ports [] (numbers ∷ rest) are = absurd are
many_ports (part ∷ parts) [] are = absurd are
many_ports (part ∷ parts) (numbers ∷ rest) are = ap suc (many_ports parts rest are.1)

pub ports_within : (parts : List PlainComponent) (all : List Numbers) (numbers : Numbers) (name : List ℕ) (k : ℕ) → ArePortNumbers parts all → AreNumbersOf (map (λ part. part.name) parts) numbers
    → Some k ≡ number_in numbers name → k < length all
ports_within parts all numbers name k are of found =
    subst (λ n. k < n) (length-map parts (λ part. part.name) ∙ sym (many_ports parts all are))
    (number_within name (map (λ part. part.name) parts) k (numbered (map (λ part. part.name) parts) numbers name (Some k) of found))

ports_at : (parts : List PlainComponent) (all : List Numbers) (k : ℕ) (ports : Numbers) → ArePortNumbers parts all → slice_get all k ≡ Some ports
    → (part : PlainComponent) × (slice_get parts k ≡ Some part) × AreNumbersOf (cell_port_names (AComponent part)) ports
ports_at [] [] k ports are at = absurd cc
ports_at [] (numbers ∷ rest) k ports are at = absurd are
ports_at (part ∷ parts) [] k ports are at = absurd are
ports_at (part ∷ parts) (numbers ∷ rest) zero ports are at = (part, refl, subst (λ n. AreNumbersOf (cell_port_names (AComponent part)) n) (ap (λ o. or_first o) at) are.0)
  where
    or_first : Option Numbers → Numbers
    or_first None = numbers
    or_first (Some n) = n
ports_at (part ∷ parts) (numbers ∷ rest) (suc k) ports are at = ports_at parts rest k ports are.1 at

-- the number of a port of a component, by its name
pub port_of_component : (parts : List PlainComponent) (all : List Numbers) (numbers ports : Numbers) (name port : List ℕ) (k : ℕ) → ArePortNumbers parts all → AreNumbersOf (map (λ part. part.name) parts) numbers
    → Some k ≡ number_in numbers name → slice_get all k ≡ Some ports → number_in ports port ≡ number_of port (cell_port_names (or_component (component_among name parts)))
port_of_component parts all numbers ports name port k are of found at =
    let which = ports_at parts all k ports are at in
    which.2 port
    ∙ ap (λ o. number_of port (cell_port_names (or_component o)))
    (sym (part_at name parts ∙ ap (λ o. at_number o parts) (numbered (map (λ part. part.name) parts) numbers name (Some k) of found) ∙ which.1))

pub no_component : (parts : List PlainComponent) (numbers : Numbers) (name port : List ℕ) → AreNumbersOf (map (λ part. part.name) parts) numbers → None ≡ number_in numbers name
    → None ≡ number_of port (cell_port_names (or_component (component_among name parts)))
no_component parts numbers name port of found =
    ap (λ o. number_of port (cell_port_names (or_component o))) (sym (part_at name parts ∙ ap (λ o. at_number o parts) (numbered (map (λ part. part.name) parts) numbers name None of found)))

-- a cell that is of a component is of that of its kind's name
pub is_of_named : (o : Option PrimitiveName) (numbers : List ℕ) (found : Option PlainComponent) (part : PlainComponent) → AComponent part ≡ primitive_or o numbers found → or_component found ≡ primitive_or o numbers found
is_of_named None numbers found part is = refl
is_of_named (Some name) numbers found part is = absurd cc

-- names behind others
pub number_from-append : (k : ℕ) (n : List ℕ) (xs ys : List (List ℕ)) → number_from k n (xs ++ ys) ≡ or_else (number_from k n xs) (number_from (k + length xs) n ys)
number_from-append k n [] ys = ap (λ j. number_from j n ys) (sym (zero_right k))
  where
    zero_right : (k : ℕ) → k + 0 ≡ k
    zero_right k = omega arith
number_from-append k n (x ∷ xs) ys =
    by (same_name x n) (number_from-append (k + 1) n xs ys ∙ ap (λ j. or_else (number_from (k + 1) n xs) (number_from j n ys)) (more k (length xs)))
  where
    more : (k m : ℕ) → (k + 1) + m ≡ k + suc m
    more k m = omega arith

    by : (b : Bool) → number_from (k + 1) n (xs ++ ys) ≡ or_else (number_from (k + 1) n xs) (number_from (k + suc (length xs)) n ys)
        → cond b (Some k) (number_from (k + 1) n (xs ++ ys)) ≡ or_else (cond b (Some k) (number_from (k + 1) n xs)) (number_from (k + suc (length xs)) n ys)
    by true h = refl
    by false h = h

number_from-one : (k : ℕ) (n x : List ℕ) → number_from k n (x ∷ []) ≡ number_if (same_name x n) k
number_from-one k n x = by (same_name x n)
  where
    by : (b : Bool) → cond b (Some k) None ≡ number_if b k
    by true = refl
    by false = refl

-- the ports of a component's cell, one side after another
pub all_ports : (inputs outputs : List (List ℕ)) (none one two three last : Numbers) (next behind : ℕ) → AreNumbersOf [] none → IsAddedTo none (codes "go") 0 one → AddsNames 1 one inputs next two
    → AddsNames next two outputs behind three → IsAddedTo three (codes "done") behind last → AreNumbersOf (codes "go" ∷ (inputs ++ (outputs ++ (codes "done" ∷ [])))) last
all_ports inputs outputs none one two three last next behind empty added ins outs ended = λ n.
    ended n
    ∙ ap (λ o. or_else o (number_if (same_name (codes "done") n) behind)) (outs.numbers n ∙ ap (λ o. or_else o (number_from next n outputs)) (ins.numbers n ∙ ap (λ o. or_else o (number_from 1 n inputs)) (added n ∙ ap (λ o. or_else o (number_if (same_name (codes "go") n) 0)) (empty n))))
    ∙ shape n (same_name (codes "go") n) (number_from 1 n inputs) (number_from next n outputs) (number_if (same_name (codes "done") n) behind)
    ∙ ap (λ o. cond (same_name (codes "go") n) (Some 0) o)
    (ap (λ o. or_else (number_from 1 n inputs) (or_else (number_from next n outputs) o)) (sym (number_from-one behind n (codes "done")))
    ∙ ap (λ j. or_else (number_from 1 n inputs) (or_else (number_from next n outputs) (number_from j n (codes "done" ∷ [])))) outs.behind_all
    ∙ ap (λ o. or_else (number_from 1 n inputs) o) (sym (number_from-append next n outputs (codes "done" ∷ [])))
    ∙ ap (λ j. or_else (number_from 1 n inputs) (number_from j n (outputs ++ (codes "done" ∷ [])))) ins.behind_all
    ∙ sym (number_from-append 1 n inputs (outputs ++ (codes "done" ∷ []))))
    ∙ number_from-start n (codes "go" ∷ (inputs ++ (outputs ++ (codes "done" ∷ []))))
  where
    shape : (n : List ℕ) (g : Bool) (ins outs last : Option ℕ) → or_else (or_else (or_else (or_else None (number_if g 0)) ins) outs) last ≡ cond g (Some 0) (or_else ins (or_else outs last))
    shape n true ins outs last = refl
    shape n false (Some i) outs last = refl
    shape n false None (Some i) last = refl
    shape n false None None last = refl

-- one more port that is none of the own ones
pub counted_step : (behind : ℕ) (port : PlainPort) (rest : List PlainPort) (total : ℕ) → is_own_name port.name ≡ false → behind + length (port_names (port ∷ rest)) ≡ total → behind + 1 + length (port_names rest) ≡ total
counted_step behind port rest total other h =
    let more : length (port_names (port ∷ rest)) ≡ suc (length (port_names rest)) = ap (λ b. length (map (λ p. p.name) (if_not_own b port (signature_ports rest)))) other in omega (arith, more, h)

few_names : (ports : List PlainPort) → length (port_names ports) ≤ length ports
few_names [] = omega arith
few_names (port ∷ ports) = by (is_own_name port.name) (few_names ports)
  where
    by : (b : Bool) → length (port_names ports) ≤ length ports → length (map (λ p. p.name) (if_not_own b port (signature_ports ports))) ≤ suc (length ports)
    by true h = omega (arith, h)
    by false h = omega (arith, h)

pub few_ports : (ports : List PortItem) → length (port_names (map plain_port ports)) ≤ length ports
few_ports ports = subst (λ n. length (port_names (map plain_port ports)) ≤ n) (length-map ports plain_port) (few_names (map plain_port ports))

-- the numbers of one component more
pub all_step : (all : List PlainComponent) (part : PlainComponent) (numbers : Numbers) (left : List PlainComponent) (before after rest : List Numbers)
    → AreNumbersOf (cell_port_names (AComponent part)) numbers → after ≡ before ++ numbers ∷ []
    → ((more : List Numbers) → ArePortNumbers (part ∷ left) more → ArePortNumbers all (before ++ more))
    → ArePortNumbers left rest → ArePortNumbers all (after ++ rest)
all_step all part numbers left before after rest one pushed complete others =
    subst (λ xs. ArePortNumbers all xs) (sym (ap (λ xs. xs ++ rest) pushed ∙ append_assoc before (numbers ∷ []) rest)) (complete (numbers ∷ rest) (one, others))
