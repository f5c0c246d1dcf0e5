-- The lines of external memories that are spelled are read.
use Rattle.std.proofs.Common.{◌≡◌, ℕ, ◌<◌, ◌≤◌, Bool, true, false, ◌&&◌, List, [], ◌∷◌, ◌++◌, map, length, Some, None, refl, ◌∙◌, ap, arith, append_assoc, if◌then◌else◌}
use Rattle.std.specs.Prelude.{codes, nat_lt, nat_le}
use Rattle.std.specs.List.{list_all}
use Rattle.std.proofs.lemmas.List.{map-id}
use Rattle.std.proofs.lemmas.Bool.{and_parts, ltb-true, leb-true}
use Rattle.cx_vtree.specs.Layout.{is_name, is_word, is_name_byte, begins_word, external_fits}
use Rattle.cx_vtree.specs.Lines.{decimal_text, sizes_text, ExternalLine, line_text, lines_text}
use Rattle.cx_vtree.specs.Plain.{PlainExternal}
use Rattle.cx_vread_exprs.specs.Places as places
use Rattle.cx_vread_exprs.specs.Places.{Place, Reads, then_reads, then_at, begins, many}
use Rattle.cx_text.specs.Spans.{back, Stops}
use Rattle.cx_text.proofs.SpanLemmas.{front_again, back_again}
use Rattle.cx_vread_exprs.specs.Tokens.{is_digit_in, kept_small, word_at, name_at}
use Rattle.cx_vread.specs.Parts.{more_size_at, sizes_at, external_by, external_at, externals_at}
use Rattle.cx_vread_exprs.proofs.ExprAgain.{name_again, small_again}
use Rattle.cx_vread.proofs.Kept.{kept_external}
use Rattle.cx_vread.proofs.ManyAgain.{joined_text, Again, many_again, all_again, lines_joined, Anything}
use Rattle.cx_vread_exprs.proofs.NumberAgain.{clean, any_number_again}

word_again : (n rest : List ℕ) → is_word n ≡ true → Stops is_name_byte rest → word_at (clean (n ++ rest)) ≡ Some (n, clean rest)
word_again n rest h ends =
    let parts = and_parts (begins_word n && list_all is_name_byte n) (nat_le (length n) 255) h in
    let all : list_all is_name_byte n ≡ true = (and_parts (begins_word n) (list_all is_name_byte n) parts.0).1 in
    ap (λ w. if is_word w then Some (w, clean (back is_name_byte (n ++ rest))) else None) (front_again is_name_byte n rest all ends)
    ∙ ap (λ r. if is_word n then Some (n, clean r) else None) (back_again is_name_byte n rest all ends)
    ∙ ap (λ b. if b then Some (n, clean rest) else None) h

abbrev pub next_text : ℕ → List ℕ
next_text k = codes " " ++ decimal_text k

abbrev pub any_size : ℕ → Bool
any_size k = true

any_sizes : (ks : List ℕ) → list_all any_size ks ≡ true
any_sizes [] = refl
any_sizes (k ∷ ks) = any_sizes ks

sizes_so : Again (begins (codes " ")) more_size_at (λ k. k) next_text any_size (Stops (is_digit_in 10))
sizes_so = record {
  starts_so = λ k y h. refl;
  reads_so = λ k y h ends. any_number_again k y ends;
  follows_so = λ k y h. refl;
  some_text = λ k h. omega arith;
}

pub sizes_joined : (ks : List ℕ) → sizes_text ks ≡ joined_text next_text ks
sizes_joined [] = refl
sizes_joined (k ∷ ks) = ap (λ t. (codes " " ++ decimal_text k) ++ t) (sizes_joined ks)

stops_after : (ks : List ℕ) (y : List ℕ) → Stops (is_digit_in 10) (joined_text next_text ks ++ (codes "\n" ++ y))
stops_after [] y = refl
stops_after (k ∷ ks) y = refl

sizes_again : (k : ℕ) (ks : List ℕ) (y : List ℕ) → length (k ∷ ks) ≤ 4
    → sizes_at (clean (decimal_text k ++ (sizes_text ks ++ (codes "\n" ++ y)))) ≡ Some (k ∷ ks, clean (codes "\n" ++ y))
sizes_again k ks y few =
    let z : List ℕ = codes "\n" ++ y in
    let three : length ks ≤ 3 = omega arith in
    ap (λ t. sizes_at (clean (decimal_text k ++ (t ++ z)))) (sizes_joined ks)
    ∙ ap (λ r. then_reads r (λ k q. then_reads (many (begins (codes " ")) more_size_at 3 q) (λ ks r. Some (k ∷ ks, r)))) (any_number_again k (joined_text next_text ks ++ z) (stops_after ks y))
    ∙ ap (λ r. then_reads r (λ ks r. Some (k ∷ ks, r))) (many_again sizes_so ks 3 z (any_sizes ks) refl refl three)
    ∙ ap (λ ks. Some (k ∷ ks, clean z)) (map-id ks)

abbrev external_text_of : PlainExternal → List ℕ
external_text_of e = line_text (ExternalLine e) ++ codes "\n"

external_of : (n i : List ℕ) (w : ℕ) (ks : List ℕ) (y : List ℕ) → is_word n ≡ true → is_name i ≡ true → 0 < length ks → length ks ≤ 4
    → external_at (clean ((line_text (ExternalLine (record { name = n; instance = i; width = w; sizes = ks })) ++ codes "\n") ++ y)) ≡ Some (record { name = n; instance = i; width = kept_small w; sizes = ks }, clean y)
external_of n i w [] y f g some few = absurd (omega arith)
external_of n i w (k ∷ ks) y f g some few =
    let x3 : List ℕ = decimal_text k ++ (sizes_text ks ++ (codes "\n" ++ y)) in
    let x2 : List ℕ = codes " " ++ x3 in
    let x1 : List ℕ = decimal_text w ++ x2 in
    let e : (line_text (ExternalLine (record { name = n; instance = i; width = w; sizes = k ∷ ks })) ++ codes "\n") ++ y ≡ codes "// external " ++ (n ++ (codes " " ++ (i ++ (codes " " ++ (decimal_text w ++ (codes " " ++ (decimal_text k ++ (sizes_text ks ++ (codes "\n" ++ y))))))))) = simp append_assoc in
    ap (λ t. external_at (clean t)) e
    ∙ ap (λ r. then_reads r (λ n r. then_at (places.after (codes " ") r) (λ s. then_reads (name_at s) (λ i t. then_at (places.after (codes " ") t) (external_by n i))))) (word_again n (codes " " ++ (i ++ (codes " " ++ x1))) f refl)
    ∙ ap (λ r. then_reads r (λ i t. then_at (places.after (codes " ") t) (external_by n i))) (name_again i (codes " " ++ x1) g refl)
    ∙ ap (λ r. then_reads r (λ w q. then_at (places.after (codes " ") q) (λ r. then_reads (sizes_at r) (λ ks s. then_at (places.after (codes "\n") s) (λ t. Some (record { name = n; instance = i; width = w; sizes = ks }, t)))))) (small_again w x2 refl)
    ∙ ap (λ r. then_reads r (λ ks s. then_at (places.after (codes "\n") s) (λ t. Some (record { name = n; instance = i; width = kept_small w; sizes = ks }, t)))) (sizes_again k ks y few)

pub externals_so : Again (begins (codes "/")) external_at kept_external external_text_of external_fits Anything
externals_so = record {
  starts_so = λ e y h. refl;
  reads_so = λ e y h ends.
      let f3 = and_parts (is_word e.name && is_name e.instance && nat_lt 0 (length e.sizes)) (nat_le (length e.sizes) 4) h in
      let f2 = and_parts (is_word e.name && is_name e.instance) (nat_lt 0 (length e.sizes)) f3.0 in
      let f1 = and_parts (is_word e.name) (is_name e.instance) f2.0 in
      external_of e.name e.instance e.width e.sizes y f1.0 f1.1 (ltb-true 0 (length e.sizes) f2.1) (leb-true (length e.sizes) 4 f3.1);
  follows_so = λ e y h. tt;
  some_text = λ e h. omega arith;
}

pub externals_again : (es : List PlainExternal) (z : List ℕ) → list_all external_fits es ≡ true → begins (codes "/") (clean z) ≡ false
    → externals_at (clean (lines_text (map ExternalLine es) ++ z)) ≡ Some (map kept_external es, clean z)
externals_again es z f stops = ap (λ t. externals_at (clean (t ++ z))) (lines_joined ExternalLine es) ∙ all_again externals_so es z f tt stops
