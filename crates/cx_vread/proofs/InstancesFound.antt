-- The lines of instances that are read stand in the text.
use Rattle.std.proofs.Common.{◌≡◌, ℕ, true, ◌&&◌, List, ◌∷◌, ◌++◌, length, Some, ◌∙◌, ap, sym, arith, append_assoc}
use Rattle.std.specs.Prelude.{codes, nat_lt}
use Rattle.std.specs.List.{list_all}
use Rattle.std.proofs.lemmas.Bool.{and_from, lt-ltb}
use Rattle.std.proofs.lemmas.List.{map-id}
use Rattle.cx_vtree.specs.Layout.{is_name, conn_fits, instance_fits}
use Rattle.cx_vtree.specs.Lines.{conn_text, more_conns_text, conns_text, InstanceLine, line_text}
use Rattle.cx_vtree.specs.Plain.{PlainConn, PlainInstance}
use Rattle.cx_vread_exprs.specs.Places.{Place, then_reads, then_at, after, begins}
use Rattle.cx_vread_exprs.specs.Tokens.{name_at}
use Rattle.cx_vread_exprs.proofs.Found.{ends, then_reads_some, step_at, name_found}
use Rattle.cx_vread.specs.Parts.{conn_at, next_conn_at, more_conns_at, conns_at, instance_by, instance_at}
use Rattle.cx_vread.proofs.LinePieces.{connection_pieces, instance_line_pieces}
use Rattle.cx_vread.proofs.InstanceAgain.{next_text as conn_next, more_joined}
use Rattle.cx_vread.proofs.ManyFound.{FindsBy, many_found}

-- Instances.
abbrev pub same_conn : PlainConn → PlainConn
same_conn c = c

conn_found : FindsBy same_conn conn_text conn_fits conn_at
conn_found p c q is ok =
    let s1 = step_at (codes ".") p c q (λ q. then_reads (name_at q) (λ n r. then_at (after (codes "(") r) (λ s. then_reads (name_at s) (λ m t. then_at (after (codes ")") t) (λ u. Some (record { port = n; net = m }, u)))))) is in
    let s2 = then_reads_some (name_at s1.0) c q (λ n r. then_at (after (codes "(") r) (λ s. then_reads (name_at s) (λ m t. then_at (after (codes ")") t) (λ u. Some (record { port = n; net = m }, u))))) s1.2 in
    let s3 = step_at (codes "(") s2.1 c q (λ s. then_reads (name_at s) (λ m t. then_at (after (codes ")") t) (λ u. Some (record { port = s2.0; net = m }, u)))) s2.3 in
    let s4 = then_reads_some (name_at s3.0) c q (λ m t. then_at (after (codes ")") t) (λ u. Some (record { port = s2.0; net = m }, u))) s3.2 in
    let s5 = step_at (codes ")") s4.1 c q (λ u. Some (record { port = s2.0; net = s4.0 }, u)) s4.3 in
    let both = ends c q (record { port = s2.0; net = s4.0 }) s5.0 s5.2 in
    let n = name_found s1.0 s2.0 s2.1 s2.2 in
    let m = name_found s3.0 s4.0 s4.1 s4.2 in
    let own : PlainConn = record { port = s2.0; net = s4.0 } in
    record {
      one = own;
      text_is = s1.1.text_is ∙ ap (λ t. codes "." ++ t) (n.stands.text_is ∙ ap (λ t. s2.0 ++ t) (s3.1.text_is ∙ ap (λ t. codes "(" ++ t) (m.stands.text_is ∙ ap (λ t. s4.0 ++ t) (s5.1.text_is ∙ ap (λ q. codes ")" ++ q.rest) both.1)))) ∙ sym (connection_pieces s2.0 s4.0 q.rest);
      fits_is = s1.1.fits_is ∙ n.stands.fits_is ∙ s3.1.fits_is ∙ m.stands.fits_is ∙ s5.1.fits_is ∙ ap (λ q. q.fits) both.1 ∙ ok;
      kept_is = both.0;
      good_is = and_from (is_name s2.0) (is_name s4.0) n.passes m.passes;
    }

next_conn_found : FindsBy same_conn conn_next conn_fits next_conn_at
next_conn_found p c q is ok =
    let s = step_at (codes ", ") p c q conn_at is in
    let f = conn_found s.0 c q s.2 ok in
    record { one = f.one; text_is = s.1.text_is ∙ ap (λ t. codes ", " ++ t) f.text_is ∙ sym (append_assoc (codes ", ") (conn_text f.one) q.rest); fits_is = s.1.fits_is ∙ f.fits_is; kept_is = f.kept_is; good_is = f.good_is }

record ConnsFound (p : Place) (cs : List PlainConn) (q : Place) : Type 0 where
  text_is : p.rest ≡ conns_text cs ++ q.rest
  fits_is : p.fits ≡ true
  good_is : list_all conn_fits cs ≡ true
  some : nat_lt 0 (length cs) ≡ true

conns_found : (p : Place) (cs : List PlainConn) (q : Place) → conns_at p ≡ Some (cs, q) → q.fits ≡ true → ConnsFound p cs q
conns_found p cs q is ok =
    let s1 = then_reads_some (conn_at p) cs q (λ x q. then_reads (more_conns_at q) (λ xs r. Some (x ∷ xs, r))) is in
    let s2 = then_reads_some (more_conns_at s1.1) cs q (λ xs r. Some (s1.0 ∷ xs, r)) s1.3 in
    let both = ends cs q (s1.0 ∷ s2.0) s2.1 s2.3 in
    let more = many_found (begins (codes ",")) next_conn_at next_conn_found (length s1.1.rest) s1.1 s2.0 s2.1 s2.2 (ap (λ q. q.fits) both.1 ∙ ok) in
    let one = conn_found p s1.0 s1.1 s1.2 more.fits_is in
    let rest : more.all ≡ s2.0 = sym (map-id more.all) ∙ more.kept_is in
    let whole : one.one ∷ more.all ≡ cs = ap (λ c. c ∷ more.all) one.kept_is ∙ ap (λ xs. s1.0 ∷ xs) rest ∙ both.0 in
    let text : p.rest ≡ conns_text (one.one ∷ more.all) ++ q.rest =
    one.text_is ∙ ap (λ t. conn_text one.one ++ t) (more.text_is ∙ ap (λ t. t ++ s2.1.rest) (sym (more_joined more.all)) ∙ ap (λ q. more_conns_text more.all ++ q.rest) both.1)
    ∙ sym (append_assoc (conn_text one.one) (more_conns_text more.all) q.rest) in
    record {
      text_is = text ∙ ap (λ cs. conns_text cs ++ q.rest) whole;
      fits_is = one.fits_is;
      good_is = ap (list_all conn_fits) (sym whole) ∙ and_from (conn_fits one.one) (list_all conn_fits more.all) one.good_is more.good_is;
      some = ap (λ cs. nat_lt 0 (length cs)) (sym whole) ∙ lt-ltb 0 (length (one.one ∷ more.all)) (omega arith);
    }

abbrev pub same_instance : PlainInstance → PlainInstance
same_instance i = i

abbrev pub instance_text_of : PlainInstance → List ℕ
instance_text_of i = line_text (InstanceLine i) ++ codes "\n"

pub instance_found : FindsBy same_instance instance_text_of instance_fits instance_at
instance_found p i q is ok =
    let s1 = step_at (codes "  ") p i q (λ q. then_reads (name_at q) (λ k r. then_at (after (codes " ") r) (λ s. then_reads (name_at s) (λ n t. instance_by k n t)))) is in
    let s2 = then_reads_some (name_at s1.0) i q (λ k r. then_at (after (codes " ") r) (λ s. then_reads (name_at s) (λ n t. instance_by k n t))) s1.2 in
    let s3 = step_at (codes " ") s2.1 i q (λ s. then_reads (name_at s) (λ n t. instance_by s2.0 n t)) s2.3 in
    let s4 = then_reads_some (name_at s3.0) i q (λ n t. instance_by s2.0 n t) s3.2 in
    let s5 = step_at (codes "(") s4.1 i q (λ q. then_reads (conns_at q) (λ cs r. then_at (after (codes ");\n") r) (λ s. Some (record { kind = s2.0; name = s4.0; conns = cs }, s)))) s4.3 in
    let s6 = then_reads_some (conns_at s5.0) i q (λ cs r. then_at (after (codes ");\n") r) (λ s. Some (record { kind = s2.0; name = s4.0; conns = cs }, s))) s5.2 in
    let s7 = step_at (codes ");\n") s6.1 i q (λ s. Some (record { kind = s2.0; name = s4.0; conns = s6.0 }, s)) s6.3 in
    let both = ends i q (record { kind = s2.0; name = s4.0; conns = s6.0 }) s7.0 s7.2 in
    let k = name_found s1.0 s2.0 s2.1 s2.2 in
    let n = name_found s3.0 s4.0 s4.1 s4.2 in
    let cs = conns_found s5.0 s6.0 s6.1 s6.2 (s7.1.fits_is ∙ ap (λ q. q.fits) both.1 ∙ ok) in
    let own : PlainInstance = record { kind = s2.0; name = s4.0; conns = s6.0 } in
    record {
      one = own;
      text_is = s1.1.text_is ∙ ap (λ t. codes "  " ++ t) (k.stands.text_is ∙ ap (λ t. s2.0 ++ t) (s3.1.text_is ∙ ap (λ t. codes " " ++ t) (n.stands.text_is ∙ ap (λ t. s4.0 ++ t) (s5.1.text_is ∙ ap (λ t. codes "(" ++ t)
          (cs.text_is ∙ ap (λ t. conns_text s6.0 ++ t) (s7.1.text_is ∙ ap (λ q. codes ");\n" ++ q.rest) both.1)))))) ∙ sym (instance_line_pieces s2.0 s4.0 (conns_text s6.0) q.rest);
      fits_is = s1.1.fits_is ∙ k.stands.fits_is ∙ s3.1.fits_is ∙ n.stands.fits_is ∙ s5.1.fits_is ∙ cs.fits_is;
      kept_is = both.0;
      good_is = and_from (is_name s2.0 && is_name s4.0 && nat_lt 0 (length s6.0)) (list_all conn_fits s6.0) (and_from (is_name s2.0 && is_name s4.0) (nat_lt 0 (length s6.0)) (and_from (is_name s2.0) (is_name s4.0) k.passes n.passes) cs.some) cs.good_is;
    }
