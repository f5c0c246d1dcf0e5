-- The lines of an edge that are spelled are read.
use Rattle.std.proofs.Common.{◌≡◌, ℕ, ◌<◌, true, false, ◌&&◌, List, ◌++◌, map, length, Option, Some, None, refl, ◌∙◌, ap, sym, arith, append_assoc, if◌then◌else◌}
use Rattle.std.specs.Prelude.{codes, is_some, option_map}
use Rattle.std.specs.List.{list_all}
use Rattle.std.proofs.lemmas.Bool.{and_parts}
use Rattle.cx_vtree.specs.Layout.{is_name, expr_fits, assign_fits, item_fits, edge_fits}
use Rattle.cx_vtree.specs.Lines.{expr_text, SetLine, line_text, lines_text}
use Rattle.cx_vtree.specs.Plain.{PlainExpr, PlainAssign, PlainItem, SetTo, StoreTo, PlainEdge}
use Rattle.cx_vtree.specs.Spelling.{item_line, edge_lines}
use Rattle.cx_vwrite.proofs.LinesText.{edge_text}
use Rattle.cx_vread_exprs.specs.Places as places
use Rattle.cx_vread_exprs.specs.Places.{Place, Reads, then_reads, then_at, begins}
use Rattle.cx_vread_exprs.specs.Tokens.{name_at}
use Rattle.cx_vread_exprs.specs.Deep.{whole_expr_at}
use Rattle.cx_vread.proofs.Kept.{kept_assign, kept_item, kept_edge}
use Rattle.cx_vread_exprs.proofs.Kept.{kept_by}
use Rattle.cx_vtree.specs.Sound.{Scope}
use Rattle.cx_vread.specs.Parts.{assigned_by, set_at, store_by, store_at, item_at, sets_at, items_at, edge_at, edge_or_none_at}
use Rattle.cx_vread_exprs.proofs.ExprAgain.{closed, name_again}
use Rattle.cx_vread_exprs.proofs.WholeExprs.{whole_again}
use Rattle.cx_vread.proofs.LineAgain.{assigned_again}
use Rattle.cx_vread.proofs.ManyAgain.{joined_text, Again, all_again, lines_joined, Anything}
use Rattle.cx_vread_exprs.proofs.NumberAgain.{clean}
use Rattle.cx_vread_exprs.proofs.WordAgain.{other_word, no_keyword}

abbrev set_text_of : PlainAssign → List ℕ
set_text_of a = line_text (SetLine a) ++ codes "\n"

pub set_pieces : (a : PlainAssign) (y : List ℕ) → set_text_of a ++ y ≡ codes "      " ++ (a.name ++ (codes " <= " ++ (expr_text a.value ++ (codes ";\n" ++ y))))
set_pieces a y = simp append_assoc

abbrev item_text_of : PlainItem → List ℕ
item_text_of i = line_text (item_line i) ++ codes "\n"

-- the line that sets a register begins as no store does
pub not_store : (n : List ℕ) (x : List ℕ) → is_name n ≡ true → begins (codes "      if (") (clean (codes "      " ++ (n ++ (codes " " ++ x)))) ≡ false
not_store n x h = ap is_some (other_word (codes "if") (codes "(") n x refl h (no_keyword n h).branch)

pub starts_item : (i : PlainItem) (y : List ℕ) → begins (codes "     ") (clean (item_text_of i ++ y)) ≡ true
starts_item (SetTo a) y = refl
starts_item (StoreTo s) y = refl

some_item : (i : PlainItem) → 0 < length (item_text_of i)
some_item (SetTo a) = omega arith
some_item (StoreTo s) = omega arith

items_joined : (xs : List PlainItem) → lines_text (map item_line xs) ≡ joined_text item_text_of xs
items_joined xs = lines_joined item_line xs

module _ (scope : Scope) where
  set_again : (n : List ℕ) (e : PlainExpr) (y : List ℕ) → is_name n ≡ true → expr_fits e ≡ true
      → set_at scope (clean (codes "      " ++ (n ++ (codes " <= " ++ (expr_text e ++ (codes ";\n" ++ y)))))) ≡ Some (record { name = n; value = kept_by scope e }, clean y)
  set_again n e y f g =
      ap (λ r. then_reads r (λ n r. then_at (places.after (codes " <= ") r) (assigned_by scope n))) (name_again n (codes " <= " ++ (expr_text e ++ (codes ";\n" ++ y))) f refl)
      ∙ assigned_again scope n e y g

  one_set : (a : PlainAssign) (y : List ℕ) → assign_fits a ≡ true → set_at scope (clean (set_text_of a ++ y)) ≡ Some (kept_assign scope a, clean y)
  one_set a y f =
      let fits = and_parts (is_name a.name) (expr_fits a.value) f in
      ap (λ t. set_at scope (clean t)) (set_pieces a y) ∙ set_again a.name a.value y fits.0 fits.1

  sets_so : Again (begins (codes "     ")) (set_at scope) (kept_assign scope) set_text_of assign_fits Anything
  sets_so = record {
    starts_so = λ a y h. refl;
    reads_so = λ a y h ends. one_set a y h;
    follows_so = λ a y h. tt;
    some_text = λ a h. omega arith;
  }

  store_again : (g : PlainExpr) (n : List ℕ) (i v : PlainExpr) (y : List ℕ) → is_name n ≡ true → expr_fits g ≡ true → expr_fits i ≡ true → expr_fits v ≡ true
      → store_at scope (clean (codes "      if (" ++ (expr_text g ++ (codes ") " ++ (n ++ (codes "[" ++ (expr_text i ++ (codes "] <= " ++ (expr_text v ++ (codes ";\n" ++ y))))))))))
      ≡ Some (StoreTo (record { guard = kept_by scope g; array = n; index = kept_by scope i; value = kept_by scope v }), clean y)
  store_again g n i v y fn fg fi fv =
      let x4 : List ℕ = codes ";\n" ++ y in
      let x3 : List ℕ = codes "] <= " ++ (expr_text v ++ x4) in
      let x2 : List ℕ = codes "[" ++ (expr_text i ++ x3) in
      let x1 : List ℕ = codes ") " ++ (n ++ x2) in
      ap (λ r. then_reads (then_reads r (λ g r. then_at (places.after (codes ") ") r) (λ s. then_reads (name_at s) (λ n t. then_at (places.after (codes "[") t) (λ u. Some ((g, n), u)))))) (λ h q. then_reads (store_by scope h q) (λ s r. Some (StoreTo s, r))))
      (whole_again scope g x1 fg (closed 41 _ refl refl))
      ∙ ap (λ r. then_reads (then_reads r (λ n t. then_at (places.after (codes "[") t) (λ u. Some ((kept_by scope g, n), u)))) (λ h q. then_reads (store_by scope h q) (λ s r. Some (StoreTo s, r))))
      (name_again n x2 fn refl)
      ∙ ap (λ r. then_reads (then_reads r (λ i q. then_at (places.after (codes "] <= ") q) (λ r. then_reads (whole_expr_at scope r) (λ v s. then_at (places.after (codes ";\n") s) (λ t. Some (record { guard = kept_by scope g; array = n; index = i; value = v }, t)))))) (λ s r. Some (StoreTo s, r)))
      (whole_again scope i x3 fi (closed 93 _ refl refl))
      ∙ ap (λ r. then_reads (then_reads r (λ v s. then_at (places.after (codes ";\n") s) (λ t. Some (record { guard = kept_by scope g; array = n; index = kept_by scope i; value = v }, t)))) (λ s r. Some (StoreTo s, r)))
      (whole_again scope v x4 fv (closed 59 _ refl refl))

  one_item : (i : PlainItem) (y : List ℕ) → item_fits i ≡ true → item_at scope (clean (item_text_of i ++ y)) ≡ Some (kept_item scope i, clean y)
  one_item (SetTo a) y f =
      let fits = and_parts (is_name a.name) (expr_fits a.value) f in
      let p : Place = clean (codes "      " ++ (a.name ++ (codes " <= " ++ (expr_text a.value ++ (codes ";\n" ++ y))))) in
      ap (λ t. item_at scope (clean t)) (set_pieces a y)
      ∙ ap (λ b. if b then store_at scope p else then_reads (set_at scope p) (λ a q. Some (SetTo a, q))) (not_store a.name (codes "<= " ++ (expr_text a.value ++ (codes ";\n" ++ y))) fits.0)
      ∙ ap (λ r. then_reads r (λ a q. Some (SetTo a, q))) (set_again a.name a.value y fits.0 fits.1)
  one_item (StoreTo s) y f =
      let f3 = and_parts (is_name s.array && expr_fits s.guard && expr_fits s.index) (expr_fits s.value) f in
      let f2 = and_parts (is_name s.array && expr_fits s.guard) (expr_fits s.index) f3.0 in
      let f1 = and_parts (is_name s.array) (expr_fits s.guard) f2.0 in
      let e : item_text_of (StoreTo s) ++ y ≡ codes "      if (" ++ (expr_text s.guard ++ (codes ") " ++ (s.array ++ (codes "[" ++ (expr_text s.index ++ (codes "] <= " ++ (expr_text s.value ++ (codes ";\n" ++ y)))))))) = simp append_assoc in
      ap (λ t. item_at scope (clean t)) e ∙ store_again s.guard s.array s.index s.value y f1.0 f1.1 f2.1 f3.1

  items_so : Again (begins (codes "     ")) (item_at scope) (kept_item scope) item_text_of item_fits Anything
  items_so = record {
    starts_so = λ i y h. starts_item i y;
    reads_so = λ i y h ends. one_item i y h;
    follows_so = λ i y h. tt;
    some_text = λ i h. some_item i;
  }

  sets_again : (xs : List PlainAssign) (z : List ℕ) → list_all assign_fits xs ≡ true → begins (codes "     ") (clean z) ≡ false
      → sets_at scope (clean (lines_text (map SetLine xs) ++ z)) ≡ Some (map (kept_assign scope) xs, clean z)
  sets_again xs z f stops = ap (λ t. sets_at scope (clean (t ++ z))) (lines_joined SetLine xs) ∙ all_again sets_so xs z f tt stops

  items_again : (xs : List PlainItem) (z : List ℕ) → list_all item_fits xs ≡ true → begins (codes "     ") (clean z) ≡ false
      → items_at scope (clean (lines_text (map item_line xs) ++ z)) ≡ Some (map (kept_item scope) xs, clean z)
  items_again xs z f stops = ap (λ t. items_at scope (clean (t ++ z))) (items_joined xs) ∙ all_again items_so xs z f tt stops

  edge_some : (e : PlainEdge) (z : List ℕ) → edge_fits (Some e) ≡ true
      → edge_or_none_at scope (clean (lines_text (edge_lines (Some e)) ++ z)) ≡ Some (Some (kept_edge scope e), clean z)
  edge_some e z f =
      let fit = and_parts (list_all assign_fits e.reset) (list_all item_fits e.step) f in
      let end : List ℕ = codes "    end\n  end\n" ++ z in
      let middle : List ℕ = codes "    end else begin\n" ++ (lines_text (map item_line e.step) ++ end) in
      let g : (codes "  always @(posedge clk) begin\n    if (reset) begin\n" ++ (lines_text (map SetLine e.reset) ++ (codes "    end else begin\n" ++ (lines_text (map item_line e.step) ++ codes "    end\n  end\n")))) ++ z
      ≡ codes "  always @(posedge clk) begin\n    if (reset) begin\n" ++ (lines_text (map SetLine e.reset) ++ middle) = simp append_assoc in
      ap (λ t. edge_or_none_at scope (clean t)) (ap (λ t. t ++ z) (sym (edge_text e)) ∙ g)
      ∙ ap (λ r. then_reads (then_reads r (λ sets r. then_at (places.after (codes "    end else begin\n") r) (λ s. then_reads (items_at scope s) (λ items t. then_at (places.after (codes "    end\n  end\n") t) (λ u. Some (record { reset = sets; step = items }, u)))))) (λ e q. Some (Some e, q)))
      (sets_again e.reset middle fit.0 refl)
      ∙ ap (λ r. then_reads (then_reads r (λ items t. then_at (places.after (codes "    end\n  end\n") t) (λ u. Some (record { reset = map (kept_assign scope) e.reset; step = items }, u)))) (λ e q. Some (Some e, q)))
      (items_again e.step end fit.1 refl)

  pub edge_again : (e : Option PlainEdge) (z : List ℕ) → edge_fits e ≡ true → begins (codes "  always ") (clean z) ≡ false
      → edge_or_none_at scope (clean (lines_text (edge_lines e) ++ z)) ≡ Some (option_map (kept_edge scope) e, clean z)
  edge_again None z f stops = ap (λ b. if b then then_reads (edge_at scope (clean z)) (λ e q. Some (Some e, q)) else Some (None, clean z)) stops
  edge_again (Some e) z f stops = edge_some e z f
