-- WHAT A RUN TELLS is kept: its turns, the words of the external memories, and the kind, the name and the turn of its fault.
use Rattle.std.proofs.Common.{◌≡◌, ℕ, zero, suc, ◌+◌, ◌≤◌, inl, inr, ⊎_elim, Bool, true, false, List, [], ◌∷◌, length, map, Some, None, refl, sym, ap, ◌∙◌, subst, arith}
use Rattle.std.proofs.lemmas.Bool.{cases_lt}
use Rattle.std.proofs.lemmas.List.{get_or_past}
use Rattle.cx_text.specs.Members.{In}
use Rattle.cx_prim.specs.Rows.{Row}
use Rattle.cx_prim.specs.CellStates as cell_states
use Rattle.cx_prim.specs.Table.{row_of}
use Rattle.cx_meaning.specs.Designs.{PlainKind, OfPrimitive, OfComponent, PlainCell, PlainDesign, component_at, no_component}
use Rattle.cx_meaning.specs.Instances.{Instance, Node, OfRow, part_of, cells_of, cell_at, add_cell, cells_for, tree_within, tree_of, State, if_external, externals_from, words_of, start}
use Rattle.cx_meaning.specs.Cycles.{Fault}
use Rattle.cx_meaning.specs.Answers.{Answer, End, More}
use Rattle.cx_meaning.specs.Answers as answers
use Rattle.cx_meaning.specs.Running.{run_main}
use Rattle.cx_meaning.specs.Sights.{unheld}
use Rattle.cx_meaning.proofs.DesignsLemmas.{same_part}
use Rattle.cx_rules.specs.Ports.{cell_name}
use Rattle.cx_rules.specs.Accepted.{IsAccepted}
use Rattle.cx_rules.specs.Wellformed.{IsDesign}
use Rattle.cx_rules.specs.Flat.{HasPlainNames, ArePlainNames}
use Rattle.cx_rules.proofs.CircleLemmas.{Reached, a_tree, no_tree, reached}
use Rattle.cx_flattening.specs.Whole.{whole_main}
use Rattle.cx_flattening.specs.Flattened.{Kids, kid_at, kept, kept_at, flat_kids}
use Rattle.cx_flattening.specs.Embedded.{Stands}
use Rattle.cx_flattening.specs.FlatDesign.{flat_design}
use Rattle.cx_flattening.specs.FlatFaults.{flat_fault}
use Rattle.cx_flattening.specs.Runs.{AnswerAs}
use Rattle.cx_flattening.specs.Ends.{NoneNamesDone}
use Rattle.cx_flattening.specs.Told.{told, Ended, Faulted, KeepsRuns}
use Rattle.cx_flattening.proofs.Standing.{stands_row}
use Rattle.cx_flattening.proofs.FlatRows.{flat_rows}
use Rattle.cx_flattening.proofs.FlatTrees.{flat_tree}
use Rattle.cx_flattening.proofs.FlatStarts.{OwnExternal, none_external, own_within, externals_are}
use Rattle.cx_flattening.proofs.FaultRuns.{Told}
use Rattle.cx_flattening.proofs.KnownFaults.{Known}
use Rattle.cx_flattening.proofs.ToldRuns.{control_told}
use Rattle.cx_flattening.proofs.ToldNames.{ArePlain, fault_told}
use Rattle.cx_flattening.proofs.AcceptedTrees.{good}
use Rattle.cx_flattening.proofs.AcceptedRuns.{accepted_runs}

zero_plus : (a : ℕ) → 0 + a ≡ a
zero_plus a = omega arith

plus_zero : (a : ℕ) → a + 0 ≡ a
plus_zero a = omega arith

next : (a b : ℕ) → suc a + b ≡ a + suc b
next a b = omega arith

-- WORDS. An external cell of a list
abbrev ExternalAt : List PlainCell → ℕ → Type 0
ExternalAt [] c = ⊥
ExternalAt (x ∷ xs) zero = x.external ≡ true
ExternalAt (x ∷ xs) (suc c) = ExternalAt xs c

abbrev told_words : State → List ℕ → List (List ℕ)
told_words s es = map (λ c. cell_states.words_of (s (c ∷ []))) es

module _ (s z : State) where
  abbrev AreSame : Kids → List PlainCell → ℕ → ℕ → Type 0
  AreSame kids cs n m = (c : ℕ) → ExternalAt cs c → kid_at kids c ≡ None → z ((m + kept_at kids c) ∷ []) ≡ s ((n + c) ∷ [])

  words_front : (b : Bool) (n m : ℕ) (es fs : List ℕ) → (b ≡ true → z (m ∷ []) ≡ s (n ∷ [])) → told_words z es ≡ told_words s fs → told_words z (if_external b m es) ≡ told_words s (if_external b n fs)
  words_front false n m es fs same rest = rest
  words_front true n m es fs same rest = ap (λ x. cell_states.words_of x ∷ told_words z es) (same refl) ∙ ap (λ l. cell_states.words_of (s (n ∷ [])) ∷ l) rest

  words_kept : (kids : Kids) (cs : List PlainCell) (n m : ℕ) → OwnExternal kids cs → AreSame kids cs n m → told_words z (externals_from m (kept kids cs)) ≡ told_words s (externals_from n cs)
  words_kept [] [] n m own same = refl
  words_kept [] (y ∷ ys) n m own same =
      words_front y.external n m (externals_from (suc m) ys) (externals_from (suc n) ys)
      (λ e. ap (λ k. z (k ∷ [])) (sym (plus_zero m)) ∙ same 0 e refl ∙ ap (λ k. s (k ∷ [])) (plus_zero n))
      (words_kept [] ys (suc n) (suc m) tt (λ c e none. ap (λ k. z (k ∷ [])) (next m c) ∙ same (suc c) e refl ∙ sym (ap (λ k. s (k ∷ [])) (next n c))))
  words_kept (k ∷ ks) [] n m own same = refl
  words_kept (None ∷ ks) (y ∷ ys) n m own same =
      words_front y.external n m (externals_from (suc m) (kept ks ys)) (externals_from (suc n) ys)
      (λ e. ap (λ k. z (k ∷ [])) (sym (plus_zero m)) ∙ same 0 e refl ∙ ap (λ k. s (k ∷ [])) (plus_zero n))
      (words_kept ks ys (suc n) (suc m) own (λ c e none. ap (λ k. z (k ∷ [])) (next m (kept_at ks c)) ∙ same (suc c) e none ∙ sym (ap (λ k. s (k ∷ [])) (next n c))))
  words_kept (Some child ∷ ks) (y ∷ ys) n m own same =
      words_kept ks ys (suc n) m own.1 (λ c e none. same (suc c) e none ∙ sym (ap (λ k. s (k ∷ [])) (next n c)))
      ∙ ap (λ b. told_words s (if_external b n (externals_from (suc n) ys))) (sym own.0)

-- an external cell is a primitive's
row_at : (trees : ℕ → Instance) (cs : List PlainCell) (c : ℕ) → ((x : PlainCell) (k : ℕ) → In cs x → x.kind ≡ OfComponent k → x.external ≡ false) → ExternalAt cs c
    → (row : Row) × (cell_at (cells_for trees cs) c ≡ OfRow row)
row_at trees [] c none e = absurd e
row_at trees (x ∷ xs) zero none e = by x.kind refl
  where
    by : (kind : PlainKind) → x.kind ≡ kind → (row : Row) × (cell_at (add_cell trees kind (cells_for trees xs)) 0 ≡ OfRow row)
    by (OfPrimitive p) f = (row_of p, refl)
    by (OfComponent k) f = absurd (let clash : true ≡ false = sym e ∙ none x k (inl refl) f in cc)
row_at trees (x ∷ xs) (suc c) none e = by x.kind (row_at trees xs c (λ y k i f. none y k (inr i) f) e)
  where
    by : (kind : PlainKind) → (row : Row) × (cell_at (cells_for trees xs) c ≡ OfRow row) → (row : Row) × (cell_at (add_cell trees kind (cells_for trees xs)) (suc c) ≡ OfRow row)
    by (OfPrimitive p) rest = rest
    by (OfComponent k) rest = rest

stands_external : (i : Instance) (s z : State) → Stands i 0 s z → (c : ℕ) (row : Row) → cell_at (cells_of i) c ≡ OfRow row → z ((0 + kept_at (flat_kids (cells_of i)) c) ∷ []) ≡ s ((0 + c) ∷ [])
stands_external (Node part cells) s z stands c row at =
    ap (λ k. z ((0 + kept_at (flat_kids cells) k) ∷ [])) (sym (zero_plus c)) ∙ stands_row (flat_kids cells) part 0 s z cells 0 c row stands at

-- NAMES of all instances of a tree
no_plain : HasPlainNames no_component
no_plain = record { cells = λ cell i. absurd i; inputs = λ decl i. absurd i; outputs = λ decl i. absurd i }

plain_part : (d : PlainDesign) → ArePlainNames d → (k : ℕ) → HasPlainNames (component_at d k)
plain_part d plain k = ⊎_elim (λ less. plain k less) (λ past. subst HasPlainNames (sym (get_or_past d.components k no_component past)) no_plain) (cases_lt k (length d.components))

plain_reached : (d : PlainDesign) → ArePlainNames d → {i : Instance} → Reached d i → HasPlainNames (part_of i)
plain_reached d plain (a_tree m k) = subst HasPlainNames (sym (same_part d m k)) (plain_part d plain k)
plain_reached d plain no_tree = no_plain

plain_tree : (d : PlainDesign) → ArePlainNames d → ArePlain (tree_of d)
plain_tree d plain path = plain_reached d plain (reached d path (length d.components) d.main)

module _ (d : PlainDesign) (design : IsDesign d) where
  row_within : (n c : ℕ) → length d.components ≤ n → ExternalAt (part_of (tree_within d n d.main)).cells c → (row : Row) × (cell_at (cells_of (tree_within d n d.main)) c ≡ OfRow row)
  row_within zero c deep e = absurd (let less = design.main_there in omega (arith, less, deep))
  row_within (suc n) c deep e = row_at (tree_within d n) (component_at d d.main).cells c (none_external d design) e

  words_same : (s z : State) → Stands (tree_of d) 0 s z → words_of (tree_of (flat_design d)) z ≡ words_of (tree_of d) s
  words_same s z stands =
      ap (told_words z) (externals_are d design)
      ∙ words_kept s z (flat_kids (cells_of (tree_of d))) (part_of (tree_of d)).cells 0 0 (own_within d design (length d.components))
      (λ c e none. let r = row_within (length d.components) c (omega arith) e in stands_external (tree_of d) s z stands c r.0 r.1)

  module _ (accepted : IsAccepted d) (undone : NoneNamesDone d) (plain : ArePlainNames d) where
    -- A FAULT by its name
    name_same : (f : Fault) (n : ℕ) → Known false (tree_of d) f → told (flat_design d) (answers.Fault (flat_fault (tree_of d) 0 f) n) ≡ told d (answers.Fault f n)
    name_same f n known =
        ap (λ name. Faulted f.kind name n)
        (fault_told false (tree_of d) (good d design accepted undone).fair (plain_tree d plain) 0 (tree_of (flat_design d)) [] (flat_tree d design).1
        (λ e less. ap (cell_name (part_of (tree_of (flat_design d))).cells) (zero_plus e) ∙ (flat_tree d design).0.names e) (λ dynamic. (refl, refl, (flat_tree d design).0)) f.path f.port known)

    told_same : (x y : Answer State Fault) → AnswerAs (tree_of d) x y → Told (Known false (tree_of d)) x → told (flat_design d) y ≡ told d x
    told_same (End after n) y r known = ap (told (flat_design d)) r.1 ∙ ap (Ended n) (words_same after r.0 r.2)
    told_same (answers.Fault f n) y r known = ap (told (flat_design d)) r ∙ name_same f n known
    told_same More y r known = ap (told (flat_design d)) r

    -- WHAT FLATTENING KEEPS
    pub keeps_runs : KeepsRuns d
    keeps_runs = record {
      rows = flat_rows d design;
      runs = λ words n.
          let g = good d design accepted undone in
          told_same (whole_main d words n) (run_main (flat_design d) words n) (accepted_runs d design accepted undone words n)
          (control_told (tree_of d) g.fair g.controlled g.rules g.has unheld (start (tree_of d) words) n);
    }
