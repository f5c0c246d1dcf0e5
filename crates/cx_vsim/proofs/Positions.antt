-- Numbers of names within an instance.
use Rattle.std.proofs.Common.{◌≡◌, ℕ, zero, suc, ◌+◌, ◌<◌, ◌≤◌, ⊎_elim, Bool, true, false, List, [], ◌∷◌, ◌++◌, map, length, Option, Some, option_map, option_and_then, slice_get, refl, ap, ◌∙◌, arith, if◌then◌else◌}
use Rattle.std.specs.Option.{option_map_or}
use Rattle.std.specs.Cmp.Lexicographic.{bytes_decides}
use Rattle.std.proofs.lemmas.Bool.Decides.{eqb_tells}
use Rattle.std.proofs.lemmas.Option.{slice_get-map}
use Rattle.cx_vtree.specs.Plain.{PlainPort, PlainDecl, WireOf, RegisterOf, ArrayOf}
use Rattle.cx_vtree.specs.InstanceTree.{Placed, same_name, ports_at, decls_at, declared_nets, nets_at, NetKind, Driven, Input, Stored, declared_kind, kind_in, origin_by, origin_of, Origin}
use Rattle.cx_vtree.specs.NameNumbers.{position}
use Rattle.cx_vnets.specs.Numbers.{before}
use Rattle.cx_text.proofs.OptionLaws.{bind_some}
use Rattle.cx_text.proofs.ListLaws.{front}

-- a name has a number
abbrev pub HasPosition : List (List ℕ) → List ℕ → Type 0
HasPosition ns name = (h : ℕ) × (position ns name ≡ Some h)

-- a name that stands in a list has a first place
pub position_there : (ns : List (List ℕ)) (name : List ℕ) (k : ℕ) → slice_get ns k ≡ Some name → HasPosition ns name
position_there [] name k e = absurd (cc)
position_there (n ∷ ns) name zero e =
    let same : n ≡ name = cc in
    let is : same_name n name ≡ true = (bytes_decides n name).1 same in
    (0, ap (λ t. if t then Some 0 else option_map suc (position ns name)) is)
position_there (n ∷ ns) name (suc k) e = go (same_name n name) (position_there ns name k e) where
  go : (t : Bool) → HasPosition ns name → (h : ℕ) × ((if t then Some 0 else option_map suc (position ns name)) ≡ Some h)
  go true r = (0, refl)
  go false r = (suc r.0, ap (option_map suc) r.1)

-- what is of a kind by a name has a number
first_or : (x n : List ℕ) (names : List (List ℕ)) (a b : Option NetKind) (k : NetKind) → (if same_name x n then a else b) ≡ Some k → (b ≡ Some k → HasPosition names n) → HasPosition (x ∷ names) n
first_or x n names a b k e later = go (same_name x n) refl e where
  go : (t : Bool) → same_name x n ≡ t → (if t then a else b) ≡ Some k → HasPosition (x ∷ names) n
  go true is f = (0, ap (λ t. if t then Some 0 else option_map suc (position names n)) is)
  go false is f = let r = later f in (suc r.0, ap (λ t. if t then Some 0 else option_map suc (position names n)) is ∙ ap (option_map suc) r.1)

declared_position : (ds : List PlainDecl) (n : List ℕ) (k : NetKind) → declared_kind ds n ≡ Some k → HasPosition (declared_nets ds) n
declared_position [] n k e = absurd (cc)
declared_position (WireOf x w ∷ ds) n k e = first_or x n (declared_nets ds) (Some Driven) (declared_kind ds n) k e (declared_position ds n k)
declared_position (RegisterOf x w ∷ ds) n k e = first_or x n (declared_nets ds) (Some (Stored w)) (declared_kind ds n) k e (declared_position ds n k)
declared_position (ArrayOf x w s ∷ ds) n k e = declared_position ds n k e

kind_position : (ps : List PlainPort) (ds : List PlainDecl) (n : List ℕ) (k : NetKind) → kind_in ps ds n ≡ Some k → HasPosition (map (λ p. p.name) ps ++ declared_nets ds) n
kind_position [] ds n k e = declared_position ds n k e
kind_position (p ∷ ps) ds n k e =
    first_or p.name n (map (λ q. q.name) ps ++ declared_nets ds) (Some (if p.output then Driven else Input)) (kind_in ps ds n) k e (kind_position ps ds n k)

-- the names of an instance that is there
pub nets_there : (tree : List Placed) (i : ℕ) (p : Placed) → slice_get tree i ≡ Some p → nets_at tree i ≡ map (λ q. q.name) p.part.ports ++ declared_nets p.part.decls
nets_there tree i p at = ap (λ o. map (λ q. q.name) (option_map_or (λ q. q.part.ports) o []) ++ declared_nets (option_map_or (λ q. q.part.decls) o [])) at

pub ports_there : (tree : List Placed) (i : ℕ) (p : Placed) → slice_get tree i ≡ Some p → ports_at tree i ≡ p.part.ports
ports_there tree i p at = ap (λ o. option_map_or (λ q. q.part.ports) o []) at

pub decls_there : (tree : List Placed) (i : ℕ) (p : Placed) → slice_get tree i ≡ Some p → decls_at tree i ≡ p.part.decls
decls_there tree i p at = ap (λ o. option_map_or (λ q. q.part.decls) o []) at

-- what gives a net its value, and of which kind the net is
abbrev pub OriginFound : List Placed → ℕ → List ℕ → Origin → Type 0
OriginFound tree i name o =
    (p : Placed) × (slice_get tree i ≡ Some p) × ((k : NetKind) × (kind_in p.part.ports p.part.decls name ≡ Some k) × (origin_by tree i p name k ≡ Some o))

pub origin_found : (tree : List Placed) (i : ℕ) (name : List ℕ) (o : Origin) → origin_of tree i name ≡ Some o → OriginFound tree i name o
origin_found tree i name o e =
    let r = bind_some (λ (p : Placed). option_and_then (origin_by tree i p name) (kind_in p.part.ports p.part.decls name)) (slice_get tree i) o e in
    let s = bind_some (origin_by tree i r.0 name) (kind_in r.0.part.ports r.0.part.decls name) o r.2 in
    (r.0, r.1, s)

-- a net that has an origin has a number
pub origin_position : (tree : List Placed) (i : ℕ) (name : List ℕ) (o : Origin) → origin_of tree i name ≡ Some o → HasPosition (nets_at tree i) name
origin_position tree i name o e =
    let r = origin_found tree i name o e in
    let h = kind_position r.0.part.ports r.0.part.decls name r.2.0 r.2.1 in
    (h.0, ap (λ l. position l name) (nets_there tree i r.0 r.1) ∙ h.1)

-- a port is a net of its instance
pub port_net : (tree : List Placed) (i h : ℕ) (p : Placed) (port : PlainPort) → slice_get tree i ≡ Some p → slice_get p.part.ports h ≡ Some port → slice_get (nets_at tree i) h ≡ Some port.name
port_net tree i h p port at there =
    let named : slice_get (map (λ q. q.name) p.part.ports) h ≡ Some port.name = slice_get-map (λ q. q.name) p.part.ports h ∙ ap (option_map (λ q. q.name)) there in
    ap (λ l. slice_get l h) (nets_there tree i p at) ∙ front (map (λ q. q.name) p.part.ports) (declared_nets p.part.decls) h port.name named

-- a list has no more than all of them have
pub share : (lists : ℕ → List (List ℕ)) (n i : ℕ) → i < n → length (lists i) ≤ before lists n
share lists zero i lt = absurd (omega arith)
share lists (suc n) i lt = ⊎_elim
    (λ s. let same : length (lists i) ≡ length (lists n) = ap (λ k. length (lists k)) s.1 in let step : before lists (suc n) ≡ before lists n + length (lists n) = refl in omega arith)
    (λ d.
    let apart = d.1 in
    let lower : i < n = omega arith in
    let less = share lists n i lower in
    let step : before lists (suc n) ≡ before lists n + length (lists n) = refl in
    omega arith)
    (eqb_tells i n)
