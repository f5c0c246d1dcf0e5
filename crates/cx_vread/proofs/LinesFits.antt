-- Lines without expressions and declarations note nothing.
use Rattle.std.proofs.Common.{◌≡◌, ℕ, zero, suc, Bool, true, false, List, [], ◌∷◌, length, Some, ◌∙◌, ap, if◌then◌else◌}
use Rattle.std.specs.Prelude.{codes}
use Rattle.cx_vtree.specs.Plain.{PlainConn, PlainInstance}
use Rattle.cx_vread_exprs.specs.Places.{Place, Reads, then_reads, then_at, after, begins, many}
use Rattle.cx_vread_exprs.specs.Tokens.{word_at, name_at, number_at, any_number_at, small_at, bounds_at}
use Rattle.cx_vread_exprs.proofs.Found.{ends, then_reads_some, step_at, word_found, name_found}
use Rattle.cx_vread_exprs.proofs.SignsFound.{number_found, any_number_found, small_found}
use Rattle.cx_vread.specs.Parts.{more_size_at, sizes_at, external_by, external_at, port_by, port_at, conn_at, next_conn_at, more_conns_at, conns_at, instance_by, instance_at}
use Rattle.cx_vread.proofs.LinesFound.{bounds_found}

abbrev KeepsFits : {X : Type 0} → (Place → Reads X) → Type 0
KeepsFits {X} read = (p : Place) (x : X) (q : Place) → read p ≡ Some (x, q) → p.fits ≡ q.fits

keeps_end : {X : Type 0} (x : X) → KeepsFits (λ p. Some (x, p))
keeps_end x p y q is = ap (λ q. q.fits) (ends y q x p is).1

keeps_at : {X : Type 0} (want : List ℕ) (read : Place → Reads X) → KeepsFits read → KeepsFits (λ p. then_at (after want p) read)
keeps_at want read keeps p x q is = let s = step_at want p x q read is in s.1.fits_is ∙ keeps s.0 x q s.2

keeps_then : {X Y : Type 0} (read : Place → Reads X) (more : X → Place → Reads Y) → KeepsFits read → ((x : X) → KeepsFits (more x)) → KeepsFits (λ p. then_reads (read p) more)
keeps_then read more keeps further p y q is = let s = then_reads_some (read p) y q more is in keeps p s.0 s.1 s.2 ∙ further s.0 s.1 y q s.3

keeps_many : {X : Type 0} (starts : Place → Bool) (one : Place → Reads X) → KeepsFits one → (n : ℕ) → KeepsFits (many starts one n)
keeps_many starts one keeps zero p xs q is = keeps_end [] p xs q is
keeps_many {X} starts one keeps (suc n) p xs q is = go (keeps_many starts one keeps n) (starts p) is
  where
    go : KeepsFits (many starts one n) → (t : Bool) → if◌then◌else◌ {A = Reads (List X)} t (then_reads (one p) (λ x q. then_reads (many starts one n q) (λ xs r. Some (x ∷ xs, r)))) (Some ([], p)) ≡ Some (xs, q) → p.fits ≡ q.fits
    go more true is = keeps_then one (λ x q. then_reads (many starts one n q) (λ xs r. Some (x ∷ xs, r))) keeps (λ x. keeps_then (many starts one n) (λ xs r. Some (x ∷ xs, r)) more (λ xs. keeps_end (x ∷ xs))) p xs q is
    go more false is = keeps_end [] p xs q is

keeps_word : KeepsFits word_at
keeps_word p n q is = (word_found p n q is).stands.fits_is

keeps_name : KeepsFits name_at
keeps_name p n q is = (name_found p n q is).stands.fits_is

keeps_number : KeepsFits (number_at 10)
keeps_number p n q is = (number_found p n q is).stands.fits_is

keeps_small : KeepsFits small_at
keeps_small p n q is = (small_found p n q is).stands.fits_is

keeps_bounds : KeepsFits bounds_at
keeps_bounds p w q is = (bounds_found p w q is).stands.fits_is

keeps_size : KeepsFits any_number_at
keeps_size p n q is = (any_number_found p n q is).fits_is

keeps_more_size : KeepsFits more_size_at
keeps_more_size = keeps_at (codes " ") any_number_at keeps_size

keeps_sizes : KeepsFits sizes_at
keeps_sizes =
    keeps_then any_number_at (λ k q. then_reads (many (begins (codes " ")) more_size_at 3 q) (λ ks r. Some (k ∷ ks, r))) keeps_size
    (λ k. keeps_then (many (begins (codes " ")) more_size_at 3) (λ ks r. Some (k ∷ ks, r)) (keeps_many (begins (codes " ")) more_size_at keeps_more_size 3) (λ ks. keeps_end (k ∷ ks)))

keeps_external : (n i : List ℕ) → KeepsFits (external_by n i)
keeps_external n i =
    keeps_then small_at (λ w q. then_at (after (codes " ") q) (λ r. then_reads (sizes_at r) (λ ks s. then_at (after (codes "\n") s) (λ t. Some (record { name = n; instance = i; width = w; sizes = ks }, t))))) keeps_small
    (λ w. keeps_at (codes " ") (λ r. then_reads (sizes_at r) (λ ks s. then_at (after (codes "\n") s) (λ t. Some (record { name = n; instance = i; width = w; sizes = ks }, t))))
    (keeps_then sizes_at (λ ks s. then_at (after (codes "\n") s) (λ t. Some (record { name = n; instance = i; width = w; sizes = ks }, t))) keeps_sizes
    (λ ks. keeps_at (codes "\n") (λ t. Some (record { name = n; instance = i; width = w; sizes = ks }, t)) (keeps_end (record { name = n; instance = i; width = w; sizes = ks })))))

pub external_fits_on : KeepsFits external_at
external_fits_on =
    keeps_at (codes "// external ") (λ q. then_reads (word_at q) (λ n r. then_at (after (codes " ") r) (λ s. then_reads (name_at s) (λ i t. then_at (after (codes " ") t) (external_by n i)))))
    (keeps_then word_at (λ n r. then_at (after (codes " ") r) (λ s. then_reads (name_at s) (λ i t. then_at (after (codes " ") t) (external_by n i)))) keeps_word
    (λ n. keeps_at (codes " ") (λ s. then_reads (name_at s) (λ i t. then_at (after (codes " ") t) (external_by n i)))
    (keeps_then name_at (λ i t. then_at (after (codes " ") t) (external_by n i)) keeps_name (λ i. keeps_at (codes " ") (external_by n i) (keeps_external n i)))))

keeps_port : (output : Bool) → KeepsFits (port_by output)
keeps_port output =
    keeps_then bounds_at (λ w q. then_reads (name_at q) (λ n r. Some (record { output = output; name = n; width = w }, r))) keeps_bounds
    (λ w. keeps_then name_at (λ n r. Some (record { output = output; name = n; width = w }, r)) keeps_name (λ n. keeps_end (record { output = output; name = n; width = w })))

pub port_fits_on : KeepsFits port_at
port_fits_on p x q is = go (begins (codes "  output wire ") p) is
  where
    go : (t : Bool) → (if t then then_at (after (codes "  output wire ") p) (port_by true) else then_at (after (codes "  input wire ") p) (port_by false)) ≡ Some (x, q) → p.fits ≡ q.fits
    go true is = keeps_at (codes "  output wire ") (port_by true) (keeps_port true) p x q is
    go false is = keeps_at (codes "  input wire ") (port_by false) (keeps_port false) p x q is

abbrev conn_of : List ℕ → List ℕ → PlainConn
conn_of n m = record { port = n; net = m }

keeps_conn : KeepsFits conn_at
keeps_conn =
    keeps_at (codes ".") (λ q. then_reads (name_at q) (λ n r. then_at (after (codes "(") r) (λ s. then_reads (name_at s) (λ m t. then_at (after (codes ")") t) (λ u. Some (conn_of n m, u))))))
    (keeps_then name_at (λ n r. then_at (after (codes "(") r) (λ s. then_reads (name_at s) (λ m t. then_at (after (codes ")") t) (λ u. Some (conn_of n m, u))))) keeps_name
    (λ n. keeps_at (codes "(") (λ s. then_reads (name_at s) (λ m t. then_at (after (codes ")") t) (λ u. Some (conn_of n m, u))))
    (keeps_then name_at (λ m t. then_at (after (codes ")") t) (λ u. Some (conn_of n m, u))) keeps_name (λ m. keeps_at (codes ")") (λ u. Some (conn_of n m, u)) (keeps_end (conn_of n m))))))

keeps_next_conn : KeepsFits next_conn_at
keeps_next_conn = keeps_at (codes ", ") conn_at keeps_conn

keeps_more_conns : KeepsFits more_conns_at
keeps_more_conns p cs q is = keeps_many (begins (codes ",")) next_conn_at keeps_next_conn (length p.rest) p cs q is

keeps_conns : KeepsFits conns_at
keeps_conns =
    keeps_then conn_at (λ x q. then_reads (more_conns_at q) (λ xs r. Some (x ∷ xs, r))) keeps_conn
    (λ x. keeps_then more_conns_at (λ xs r. Some (x ∷ xs, r)) keeps_more_conns (λ xs. keeps_end (x ∷ xs)))

abbrev instance_of : List ℕ → List ℕ → List PlainConn → PlainInstance
instance_of k n cs = record { kind = k; name = n; conns = cs }

keeps_instance : (k n : List ℕ) → KeepsFits (instance_by k n)
keeps_instance k n =
    keeps_at (codes "(") (λ q. then_reads (conns_at q) (λ cs r. then_at (after (codes ");\n") r) (λ s. Some (instance_of k n cs, s))))
    (keeps_then conns_at (λ cs r. then_at (after (codes ");\n") r) (λ s. Some (instance_of k n cs, s))) keeps_conns
    (λ cs. keeps_at (codes ");\n") (λ s. Some (instance_of k n cs, s)) (keeps_end (instance_of k n cs))))

pub instance_fits_on : KeepsFits instance_at
instance_fits_on =
    keeps_at (codes "  ") (λ q. then_reads (name_at q) (λ k r. then_at (after (codes " ") r) (λ s. then_reads (name_at s) (λ n t. instance_by k n t))))
    (keeps_then name_at (λ k r. then_at (after (codes " ") r) (λ s. then_reads (name_at s) (λ n t. instance_by k n t))) keeps_name
    (λ k. keeps_at (codes " ") (λ s. then_reads (name_at s) (λ n t. instance_by k n t)) (keeps_then name_at (λ n t. instance_by k n t) keeps_name (λ n. keeps_instance k n))))
