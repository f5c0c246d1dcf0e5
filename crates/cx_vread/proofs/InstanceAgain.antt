-- The lines of instances that are spelled are read.
use Rattle.std.proofs.Common.{◌≡◌, ℕ, ◌<◌, not, true, false, ◌&&◌, ◌||◌, List, [], ◌∷◌, ◌++◌, map, length, Some, refl, ◌∙◌, ap, arith, append_assoc}
use Rattle.std.specs.Prelude.{codes, is_some, nat_lt}
use Rattle.std.specs.List.{list_all}
use Rattle.std.proofs.lemmas.Bool.{and_parts, ltb-true}
use Rattle.std.proofs.lemmas.List.{map-id}
use Rattle.cx_vtree.specs.Layout.{is_name, conn_fits, instance_fits}
use Rattle.cx_vtree.specs.Lines.{conn_text, more_conns_text, conns_text, InstanceLine, line_text, lines_text}
use Rattle.cx_vtree.specs.Plain.{PlainConn, PlainInstance}
use Rattle.cx_vread_exprs.specs.Places as places
use Rattle.cx_vread_exprs.specs.Places.{Place, Reads, then_reads, then_at, after_text, begins, many}
use Rattle.cx_vread_exprs.specs.Tokens.{name_at}
use Rattle.cx_vread.specs.Parts.{conn_at, next_conn_at, more_conns_at, conns_at, instance_by, instance_at, is_instance, instances_at, is_decl}
use Rattle.cx_vread_exprs.proofs.ExprAgain.{name_again}
use Rattle.cx_vread.proofs.ManyAgain.{joined_text, Again, all_again, lines_joined, Anything}
use Rattle.cx_vread_exprs.proofs.NumberAgain.{clean}
use Rattle.cx_vread_exprs.proofs.WordAgain.{other_word, no_keyword}

conn_again : (n m : List ℕ) (y : List ℕ) → is_name n ≡ true → is_name m ≡ true
    → conn_at (clean (codes "." ++ (n ++ (codes "(" ++ (m ++ (codes ")" ++ y)))))) ≡ Some (record { port = n; net = m }, clean y)
conn_again n m y f g =
    ap (λ r. then_reads r (λ n r. then_at (places.after (codes "(") r) (λ s. then_reads (name_at s) (λ m t. then_at (places.after (codes ")") t) (λ u. Some (record { port = n; net = m }, u))))))
    (name_again n (codes "(" ++ (m ++ (codes ")" ++ y))) f refl)
    ∙ ap (λ r. then_reads r (λ m t. then_at (places.after (codes ")") t) (λ u. Some (record { port = n; net = m }, u)))) (name_again m (codes ")" ++ y) g refl)

conn_pieces : (c : PlainConn) (y : List ℕ) → conn_text c ++ y ≡ codes "." ++ (c.port ++ (codes "(" ++ (c.net ++ (codes ")" ++ y))))
conn_pieces c y = simp append_assoc

one_conn : (c : PlainConn) (y : List ℕ) → conn_fits c ≡ true → conn_at (clean (conn_text c ++ y)) ≡ Some (c, clean y)
one_conn c y h =
    let parts = and_parts (is_name c.port) (is_name c.net) h in
    ap (λ t. conn_at (clean t)) (conn_pieces c y) ∙ conn_again c.port c.net y parts.0 parts.1

abbrev pub next_text : PlainConn → List ℕ
next_text c = codes ", " ++ conn_text c

conns_so : Again (begins (codes ",")) next_conn_at (λ c. c) next_text conn_fits Anything
conns_so = record {
  starts_so = λ c y h. refl;
  reads_so = λ c y h ends. one_conn c y h;
  follows_so = λ c y h. tt;
  some_text = λ c h. omega arith;
}

pub more_joined : (cs : List PlainConn) → more_conns_text cs ≡ joined_text next_text cs
more_joined [] = refl
more_joined (c ∷ cs) = ap (λ t. (codes ", " ++ conn_text c) ++ t) (more_joined cs)

conns_again : (c : PlainConn) (cs : List PlainConn) (y : List ℕ) → list_all conn_fits (c ∷ cs) ≡ true
    → conns_at (clean (conns_text (c ∷ cs) ++ (codes ");\n" ++ y))) ≡ Some (c ∷ cs, clean (codes ");\n" ++ y))
conns_again c cs y h =
    let parts = and_parts (conn_fits c) (list_all conn_fits cs) h in
    let z : List ℕ = codes ");\n" ++ y in
    ap (λ t. conns_at (clean t)) (append_assoc (conn_text c) (more_conns_text cs) z ∙ ap (λ t. conn_text c ++ (t ++ z)) (more_joined cs))
    ∙ ap (λ r. then_reads r (λ x q. then_reads (more_conns_at q) (λ xs r. Some (x ∷ xs, r)))) (one_conn c (joined_text next_text cs ++ z) parts.0)
    ∙ ap (λ r. then_reads r (λ xs r. Some (c ∷ xs, r))) (all_again conns_so cs z parts.1 tt refl ∙ ap (λ cs. Some (cs, clean z)) (map-id cs))

-- an instance, from its module on
pub instance_pieces : (i : PlainInstance) (y : List ℕ) → (line_text (InstanceLine i) ++ codes "\n") ++ y
    ≡ codes "  " ++ (i.kind ++ (codes " " ++ (i.name ++ (codes "(" ++ (conns_text i.conns ++ (codes ");\n" ++ y))))))
instance_pieces i y = simp append_assoc

pub instance_of : (k n : List ℕ) (cs : List PlainConn) (y : List ℕ) → is_name k ≡ true → is_name n ≡ true → 0 < length cs → list_all conn_fits cs ≡ true
    → instance_at (clean (codes "  " ++ (k ++ (codes " " ++ (n ++ (codes "(" ++ (conns_text cs ++ (codes ");\n" ++ y)))))))) ≡ Some (record { kind = k; name = n; conns = cs }, clean y)
instance_of k n [] y f g some h = absurd (omega arith)
instance_of k n (c ∷ cs) y f g some h =
    let end : List ℕ = conns_text (c ∷ cs) ++ (codes ");\n" ++ y) in
    ap (λ r. then_reads r (λ k r. then_at (places.after (codes " ") r) (λ s. then_reads (name_at s) (λ n t. instance_by k n t)))) (name_again k (codes " " ++ (n ++ (codes "(" ++ end))) f refl)
    ∙ ap (λ r. then_reads r (λ n t. instance_by k n t)) (name_again n (codes "(" ++ end) g refl)
    ∙ ap (λ r. then_reads r (λ cs r. then_at (places.after (codes ");\n") r) (λ s. Some (record { kind = k; name = n; conns = cs }, s)))) (conns_again c cs y h)

abbrev pub instance_text_of : PlainInstance → List ℕ
instance_text_of i = line_text (InstanceLine i) ++ codes "\n"

pub record InstanceParts (i : PlainInstance) : Type 0 where
  pub kind : is_name i.kind ≡ true
  pub name : is_name i.name ≡ true
  pub some : nat_lt 0 (length i.conns) ≡ true
  pub conns : list_all conn_fits i.conns ≡ true

pub instance_parts : (i : PlainInstance) → instance_fits i ≡ true → InstanceParts i
instance_parts i h =
    let a = and_parts (is_name i.kind && is_name i.name && nat_lt 0 (length i.conns)) (list_all conn_fits i.conns) h in
    let b = and_parts (is_name i.kind && is_name i.name) (nat_lt 0 (length i.conns)) a.0 in
    let c = and_parts (is_name i.kind) (is_name i.name) b.0 in
    record { kind = c.0; name = c.1; some = b.1; conns = a.1 }

-- the line of an instance begins as no line of another kind does
pub not_always : (k x : List ℕ) → is_name k ≡ true → begins (codes "  always ") (clean (codes "  " ++ (k ++ (codes " " ++ x)))) ≡ false
not_always k x h = ap is_some (other_word (codes "always") [] k x refl h (no_keyword k h).always)

pub starts_instance : (i : PlainInstance) (y : List ℕ) → instance_fits i ≡ true → is_instance (clean (instance_text_of i ++ y)) ≡ true
starts_instance i y h =
    ap (λ t. is_instance (clean t)) (instance_pieces i y)
    ∙ ap not (not_always i.kind (i.name ++ (codes "(" ++ (conns_text i.conns ++ (codes ");\n" ++ y)))) (instance_parts i h).kind)

pub instances_so : Again is_instance instance_at (λ i. i) instance_text_of instance_fits Anything
instances_so = record {
  starts_so = starts_instance;
  reads_so = λ i y h ends.
      let parts = instance_parts i h in
      ap (λ t. instance_at (clean t)) (instance_pieces i y) ∙ instance_of i.kind i.name i.conns y parts.kind parts.name (ltb-true 0 (length i.conns) parts.some) parts.conns;
  follows_so = λ i y h. tt;
  some_text = λ i h. omega arith;
}

pub instances_again : (is : List PlainInstance) (z : List ℕ) → list_all instance_fits is ≡ true → is_instance (clean z) ≡ false
    → instances_at (clean (lines_text (map InstanceLine is) ++ z)) ≡ Some (is, clean z)
instances_again is z f stops =
    ap (λ t. instances_at (clean (t ++ z))) (lines_joined InstanceLine is) ∙ all_again instances_so is z f tt stops ∙ ap (λ is. Some (is, clean z)) (map-id is)

-- no declaration or assign begins where the first instance does
pub instance-not_assign : (i : PlainInstance) (y : List ℕ) → instance_fits i ≡ true → begins (codes "  assign ") (clean (instance_text_of i ++ y)) ≡ false
instance-not_assign i y h =
    let x : List ℕ = i.name ++ (codes "(" ++ (conns_text i.conns ++ (codes ");\n" ++ y))) in
    let k = (instance_parts i h).kind in
    ap (λ t. begins (codes "  assign ") (clean t)) (instance_pieces i y)
    ∙ ap is_some (other_word (codes "assign") [] i.kind x refl k (no_keyword i.kind k).assign)

pub instance-not_decl : (i : PlainInstance) (y : List ℕ) → instance_fits i ≡ true → is_decl (clean (instance_text_of i ++ y)) ≡ false
instance-not_decl i y h =
    let x : List ℕ = i.name ++ (codes "(" ++ (conns_text i.conns ++ (codes ");\n" ++ y))) in
    let k = (instance_parts i h).kind in
    let p : Place = clean (codes "  " ++ (i.kind ++ (codes " " ++ x))) in
    let wire : begins (codes "  wire ") p ≡ false = ap is_some (other_word (codes "wire") [] i.kind x refl k (no_keyword i.kind k).wire) in
    let reg : begins (codes "  reg ") p ≡ false = ap is_some (other_word (codes "reg") [] i.kind x refl k (no_keyword i.kind k).reg) in
    ap (λ t. is_decl (clean t)) (instance_pieces i y) ∙ ap (λ b. b || begins (codes "  reg ") p) wire ∙ reg
