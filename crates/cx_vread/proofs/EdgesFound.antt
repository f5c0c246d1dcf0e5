-- The lines of an edge that are read stand in the text.
use Rattle.std.proofs.Common.{◌≡◌, ℕ, Bool, true, false, ◌&&◌, List, ◌++◌, map, length, Option, Some, None, refl, ◌∙◌, ap, sym, subst, if◌then◌else◌}
use Rattle.std.specs.Prelude.{codes, option_map}
use Rattle.std.specs.List.{list_all}
use Rattle.std.proofs.lemmas.Bool.{and_from}
use Rattle.cx_vtree.specs.Layout.{is_name, expr_fits, assign_fits, item_fits, edge_fits}
use Rattle.cx_vtree.specs.Lines.{expr_text, SetLine, line_text, lines_text}
use Rattle.cx_vtree.specs.Plain.{PlainExpr, PlainAssign, PlainStore, PlainItem, SetTo, StoreTo, PlainEdge}
use Rattle.cx_vtree.specs.Spelling.{item_line, edge_lines}
use Rattle.cx_vwrite.proofs.LinesText.{edge_text}
use Rattle.cx_vtree.specs.Sound.{Scope}
use Rattle.cx_vread_exprs.specs.Places.{Place, Reads, then_reads, then_at, after, begins}
use Rattle.cx_vread_exprs.specs.Tokens.{name_at}
use Rattle.cx_vread_exprs.specs.Deep.{whole_expr_at}
use Rattle.cx_vread_exprs.proofs.Kept.{kept_by}
use Rattle.cx_vread_exprs.proofs.Found.{ends, then_reads_some, step_at, name_found}
use Rattle.cx_vread_exprs.proofs.ExprAgain.{Ends, closed}
use Rattle.cx_vread_exprs.proofs.WholeExprs.{whole_found}
use Rattle.cx_vread.specs.Parts.{assigned_by, set_at, store_by, store_head_at, store_at, item_at, sets_at, items_at, edge_at, edge_or_none_at}
use Rattle.cx_vread.proofs.LinePieces.{set_line_pieces, store_pieces, branches_pieces}
use Rattle.cx_vread.proofs.Kept.{kept_assign, kept_item, kept_edge}
use Rattle.cx_vread.proofs.ManyAgain.{lines_joined}
use Rattle.cx_vread.proofs.ManyFound.{Found, FindsBy, many_found}
use Rattle.cx_vread.proofs.LinesFound.{assigned_found}

abbrev set_text_of : PlainAssign → List ℕ
set_text_of a = line_text (SetLine a) ++ codes "\n"

abbrev item_text_of : PlainItem → List ℕ
item_text_of i = line_text (item_line i) ++ codes "\n"

abbrev store_of : PlainExpr → List ℕ → PlainExpr → PlainExpr → PlainStore
store_of g n i v = record { guard = g; array = n; index = i; value = v }

module _ (scope : Scope) where
  set_found : FindsBy (kept_assign scope) set_text_of assign_fits (set_at scope)
  set_found p a q is ok =
      let s1 = step_at (codes "      ") p a q (λ q. then_reads (name_at q) (λ n r. then_at (after (codes " <= ") r) (assigned_by scope n))) is in
      let s2 = then_reads_some (name_at s1.0) a q (λ n r. then_at (after (codes " <= ") r) (assigned_by scope n)) s1.2 in
      let s3 = step_at (codes " <= ") s2.1 a q (assigned_by scope s2.0) s2.3 in
      let n = name_found s1.0 s2.0 s2.1 s2.2 in
      let v = assigned_found scope s2.0 s3.0 a q s3.2 ok in
      record {
        one = record { name = s2.0; value = v.value };
        text_is = s1.1.text_is ∙ ap (λ t. codes "      " ++ t) (n.stands.text_is ∙ ap (λ t. s2.0 ++ t) (s3.1.text_is ∙ ap (λ t. codes " <= " ++ t) v.text_is)) ∙ sym (set_line_pieces s2.0 (expr_text v.value) q.rest);
        fits_is = s1.1.fits_is ∙ n.stands.fits_is ∙ s3.1.fits_is ∙ v.fits_is;
        kept_is = v.kept_is;
        good_is = and_from (is_name s2.0) (expr_fits v.value) n.passes v.laid;
      }

  -- the index and the value of a store, behind its array
  record StoreFound (m : Place) (g : PlainExpr) (n : List ℕ) (s : PlainStore) (q : Place) : Type 0 where
    index : PlainExpr
    value : PlainExpr
    text_is : m.rest ≡ expr_text index ++ (codes "] <= " ++ (expr_text value ++ (codes ";\n" ++ q.rest)))
    fits_is : m.fits ≡ true
    kept_is : store_of g n (kept_by scope index) (kept_by scope value) ≡ s
    index_laid : expr_fits index ≡ true
    value_laid : expr_fits value ≡ true

  store_by_found : (m : Place) (g : PlainExpr) (n : List ℕ) (s : PlainStore) (q : Place) → store_by scope (g, n) m ≡ Some (s, q) → q.fits ≡ true → StoreFound m g n s q
  store_by_found m g n s q is ok =
      let s1 = then_reads_some (whole_expr_at scope m) s q (λ i q. then_at (after (codes "] <= ") q) (λ r. then_reads (whole_expr_at scope r) (λ v s. then_at (after (codes ";\n") s) (λ t. Some (record { guard = g; array = n; index = i; value = v }, t))))) is in
      let s2 = step_at (codes "] <= ") s1.1 s q (λ r. then_reads (whole_expr_at scope r) (λ v s. then_at (after (codes ";\n") s) (λ t. Some (record { guard = g; array = n; index = s1.0; value = v }, t)))) s1.3 in
      let s3 = then_reads_some (whole_expr_at scope s2.0) s q (λ v s. then_at (after (codes ";\n") s) (λ t. Some (record { guard = g; array = n; index = s1.0; value = v }, t))) s2.2 in
      let s4 = step_at (codes ";\n") s3.1 s q (λ t. Some (record { guard = g; array = n; index = s1.0; value = s3.0 }, t)) s3.3 in
      let both = ends s q (store_of g n s1.0 s3.0) s4.0 s4.2 in
      let v = whole_found scope s2.0 s3.0 s3.1 s3.2 (s4.1.fits_is ∙ ap (λ q. q.fits) both.1 ∙ ok) (subst Ends (sym s4.1.text_is) (closed 59 _ refl refl)) in
      let i = whole_found scope m s1.0 s1.1 s1.2 (s2.1.fits_is ∙ v.fits_is) (subst Ends (sym s2.1.text_is) (closed 93 _ refl refl)) in
      record {
        index = i.one;
        value = v.one;
        text_is = i.text_is ∙ ap (λ t. expr_text i.one ++ t) (s2.1.text_is ∙ ap (λ t. codes "] <= " ++ t) (v.text_is ∙ ap (λ t. expr_text v.one ++ t) (s4.1.text_is ∙ ap (λ q. codes ";\n" ++ q.rest) both.1)));
        fits_is = i.fits_is;
        kept_is = ap (λ i. store_of g n i (kept_by scope v.one)) i.kept_is ∙ ap (store_of g n s1.0) v.kept_is ∙ both.0;
        index_laid = i.laid;
        value_laid = v.laid;
      }

  store_found : FindsBy (kept_item scope) item_text_of item_fits (store_at scope)
  store_found p y q is ok =
      let t1 = then_reads_some (store_head_at scope p) y q (λ h q. then_reads (store_by scope h q) (λ s r. Some (StoreTo s, r))) is in
      let t2 = then_reads_some (store_by scope t1.0 t1.1) y q (λ s r. Some (StoreTo s, r)) t1.3 in
      let last = ends y q (StoreTo t2.0) t2.1 t2.3 in
      let s1 = step_at (codes "      if (") p t1.0 t1.1 (λ q. then_reads (whole_expr_at scope q) (λ g r. then_at (after (codes ") ") r) (λ s. then_reads (name_at s) (λ n t. then_at (after (codes "[") t) (λ u. Some ((g, n), u)))))) t1.2 in
      let s2 = then_reads_some (whole_expr_at scope s1.0) t1.0 t1.1 (λ g r. then_at (after (codes ") ") r) (λ s. then_reads (name_at s) (λ n t. then_at (after (codes "[") t) (λ u. Some ((g, n), u))))) s1.2 in
      let s3 = step_at (codes ") ") s2.1 t1.0 t1.1 (λ s. then_reads (name_at s) (λ n t. then_at (after (codes "[") t) (λ u. Some ((s2.0, n), u)))) s2.3 in
      let s4 = then_reads_some (name_at s3.0) t1.0 t1.1 (λ n t. then_at (after (codes "[") t) (λ u. Some ((s2.0, n), u))) s3.2 in
      let s5 = step_at (codes "[") s4.1 t1.0 t1.1 (λ u. Some ((s2.0, s4.0), u)) s4.3 in
      let both = ends t1.0 t1.1 (s2.0, s4.0) s5.0 s5.2 in
      let same_head : store_by scope (s2.0, s4.0) t1.1 ≡ Some (t2.0, q) = ap (λ h. store_by scope h t1.1) both.0 ∙ t2.2 ∙ ap (λ q. Some (t2.0, q)) last.1 in
      let s = store_by_found t1.1 s2.0 s4.0 t2.0 q same_head ok in
      let n = name_found s3.0 s4.0 s4.1 s4.2 in
      let g = whole_found scope s1.0 s2.0 s2.1 s2.2 (s3.1.fits_is ∙ n.stands.fits_is ∙ s5.1.fits_is ∙ ap (λ q. q.fits) both.1 ∙ s.fits_is) (subst Ends (sym s3.1.text_is) (closed 41 _ refl refl)) in
      let own : PlainStore = record { guard = g.one; array = s4.0; index = s.index; value = s.value } in
      record {
        one = StoreTo own;
        text_is = s1.1.text_is ∙ ap (λ t. codes "      if (" ++ t) (g.text_is ∙ ap (λ t. expr_text g.one ++ t) (s3.1.text_is ∙ ap (λ t. codes ") " ++ t) (n.stands.text_is ∙ ap (λ t. s4.0 ++ t) (s5.1.text_is ∙ ap (λ q. codes "[" ++ q.rest) both.1
            ∙ ap (λ t. codes "[" ++ t) s.text_is)))) ∙ sym (store_pieces (expr_text g.one) s4.0 (expr_text s.index) (expr_text s.value) q.rest);
        fits_is = s1.1.fits_is ∙ g.fits_is;
        kept_is = ap (λ g. StoreTo (store_of g s4.0 (kept_by scope s.index) (kept_by scope s.value))) g.kept_is ∙ ap StoreTo s.kept_is ∙ last.0;
        good_is = and_from (is_name s4.0 && expr_fits g.one && expr_fits s.index) (expr_fits s.value) (and_from (is_name s4.0 && expr_fits g.one) (expr_fits s.index) (and_from (is_name s4.0) (expr_fits g.one) n.passes g.laid) s.index_laid) s.value_laid;
      }

  item_found : FindsBy (kept_item scope) item_text_of item_fits (item_at scope)
  item_found p y q is ok = go (begins (codes "      if (") p) is
    where
      go : (t : Bool) → (if t then store_at scope p else then_reads (set_at scope p) (λ a q. Some (SetTo a, q))) ≡ Some (y, q) → Found (kept_item scope) item_text_of item_fits p y q
      go true is = store_found p y q is ok
      go false is =
          let s = then_reads_some (set_at scope p) y q (λ a q. Some (SetTo a, q)) is in
          let both = ends y q (SetTo s.0) s.1 s.3 in
          let f = set_found p s.0 s.1 s.2 (ap (λ q. q.fits) both.1 ∙ ok) in
          record { one = SetTo f.one; text_is = f.text_is ∙ ap (λ q. set_text_of f.one ++ q.rest) both.1; fits_is = f.fits_is; kept_is = ap SetTo f.kept_is ∙ both.0; good_is = f.good_is }

  pub record EdgeFound (p : Place) (e : Option PlainEdge) (q : Place) : Type 0 where
    pub one : Option PlainEdge
    pub text_is : p.rest ≡ lines_text (edge_lines one) ++ q.rest
    pub fits_is : p.fits ≡ true
    pub kept_is : option_map (kept_edge scope) one ≡ e
    pub laid : edge_fits one ≡ true

  edge_lines_found : (p : Place) (e : PlainEdge) (q : Place) → edge_at scope p ≡ Some (e, q) → q.fits ≡ true → EdgeFound p (Some e) q
  edge_lines_found p e q is ok =
      let s1 = step_at (codes "  always @(posedge clk) begin\n    if (reset) begin\n") p e q (λ q. then_reads (sets_at scope q) (λ sets r. then_at (after (codes "    end else begin\n") r) (λ s. then_reads (items_at scope s) (λ items t. then_at (after (codes "    end\n  end\n") t) (λ u. Some (record { reset = sets; step = items }, u)))))) is in
      let s2 = then_reads_some (sets_at scope s1.0) e q (λ sets r. then_at (after (codes "    end else begin\n") r) (λ s. then_reads (items_at scope s) (λ items t. then_at (after (codes "    end\n  end\n") t) (λ u. Some (record { reset = sets; step = items }, u))))) s1.2 in
      let s3 = step_at (codes "    end else begin\n") s2.1 e q (λ s. then_reads (items_at scope s) (λ items t. then_at (after (codes "    end\n  end\n") t) (λ u. Some (record { reset = s2.0; step = items }, u)))) s2.3 in
      let s4 = then_reads_some (items_at scope s3.0) e q (λ items t. then_at (after (codes "    end\n  end\n") t) (λ u. Some (record { reset = s2.0; step = items }, u))) s3.2 in
      let s5 = step_at (codes "    end\n  end\n") s4.1 e q (λ u. Some (record { reset = s2.0; step = s4.0 }, u)) s4.3 in
      let both = ends e q (record { reset = s2.0; step = s4.0 }) s5.0 s5.2 in
      let items = many_found (begins (codes "     ")) (item_at scope) item_found (length s3.0.rest) s3.0 s4.0 s4.1 s4.2 (s5.1.fits_is ∙ ap (λ q. q.fits) both.1 ∙ ok) in
      let sets = many_found (begins (codes "     ")) (set_at scope) set_found (length s1.0.rest) s1.0 s2.0 s2.1 s2.2 (s3.1.fits_is ∙ items.fits_is) in
      let own : PlainEdge = record { reset = sets.all; step = items.all } in
      record {
        one = Some own;
        text_is = s1.1.text_is ∙ ap (λ t. codes "  always @(posedge clk) begin\n    if (reset) begin\n" ++ t) (sets.text_is ∙ ap (λ t. t ++ s2.1.rest) (sym (lines_joined SetLine sets.all)) ∙ ap (λ t. lines_text (map SetLine sets.all) ++ t)
            (s3.1.text_is ∙ ap (λ t. codes "    end else begin\n" ++ t) (items.text_is ∙ ap (λ t. t ++ s4.1.rest) (sym (lines_joined item_line items.all)) ∙ ap (λ t. lines_text (map item_line items.all) ++ t) (s5.1.text_is ∙ ap (λ q. codes "    end\n  end\n" ++ q.rest) both.1))))
            ∙ sym (branches_pieces (lines_text (map SetLine sets.all)) (lines_text (map item_line items.all)) q.rest) ∙ ap (λ t. t ++ q.rest) (edge_text own);
        fits_is = s1.1.fits_is ∙ sets.fits_is;
        kept_is = ap (λ sets. Some (record { reset = sets; step = map (kept_item scope) items.all })) sets.kept_is ∙ ap (λ items. Some (record { reset = s2.0; step = items })) items.kept_is ∙ ap (λ e. Some e) both.0;
        laid = and_from (list_all assign_fits sets.all) (list_all item_fits items.all) sets.good_is items.good_is;
      }

  pub edge_found : (p : Place) (e : Option PlainEdge) (q : Place) → edge_or_none_at scope p ≡ Some (e, q) → q.fits ≡ true → EdgeFound p e q
  edge_found p e q is ok = go (begins (codes "  always ") p) is
    where
      go : (t : Bool) → if◌then◌else◌ {A = Reads (Option PlainEdge)} t (then_reads (edge_at scope p) (λ e q. Some (Some e, q))) (Some (None, p)) ≡ Some (e, q) → EdgeFound p e q
      go true is =
          let s = then_reads_some (edge_at scope p) e q (λ e q. Some (Some e, q)) is in
          let both = ends e q (Some s.0) s.1 s.3 in
          let f = edge_lines_found p s.0 s.1 s.2 (ap (λ q. q.fits) both.1 ∙ ok) in
          record { one = f.one; text_is = f.text_is ∙ ap (λ q. lines_text (edge_lines f.one) ++ q.rest) both.1; fits_is = f.fits_is; kept_is = f.kept_is ∙ both.0; laid = f.laid }
      go false is =
          let both = ends e q None p is in
          record { one = None; text_is = ap (λ q. q.rest) both.1; fits_is = ap (λ q. q.fits) both.1 ∙ ok; kept_is = both.0; laid = refl }
