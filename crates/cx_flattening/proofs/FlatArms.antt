-- THE ARMS OF A PAR: what two arms make of a state stands in what the flat arms make of it. Of a static child that an arm drives, it leaves
-- the cells that its flat arm does not drive, and so do the later arms.
use Rattle.std.proofs.Common.{◌≡◌, ℕ, suc, ◌+◌, ◌<◌, Bool, true, false, nat_le, [], ◌∷◌, length, Some, None, refl, sym, ap, ◌∙◌, subst, arith}
use Rattle.std.specs.Prelude.{if◌then◌else◌}
use Rattle.std.proofs.Math.Path.{fun_ext}
use Rattle.cx_meaning.specs.Designs.{PlainComponent}
use Rattle.cx_meaning.specs.Instances.{Instance, Node, Cells, no_cells, a_primitive, an_instance, OfRow, OfInstance, cell_at, Path, State, Set, under, merge}
use Rattle.cx_meaning.specs.Cycles.{Fault}
use Rattle.cx_meaning.specs.Answers.{Answer, End, More, both}
use Rattle.cx_meaning.specs.Answers as answers
use Rattle.cx_flattening.specs.Whole.{is_static}
use Rattle.cx_flattening.specs.Flattened.{Kids, kid_at, kept_at, start_of, flat_kids, flat_part}
use Rattle.cx_flattening.specs.Embedded.{Stands, AllStand}
use Rattle.cx_flattening.specs.Fair.{IsFair, AllFair, AllFairBelow}
use Rattle.cx_flattening.specs.FlatFaults.{flat_fault}
use Rattle.cx_flattening.specs.Runs.{AnswerAs}
use Rattle.cx_flattening.proofs.Placing.{kept_less}
use Rattle.std.proofs.lemmas.List.{length-append}
use Rattle.cx_flattening.specs.Flattened.{kept, blocks}
use Rattle.cx_flattening.proofs.Standing.{within_child, within_row, in_flat_cells}
use Rattle.cx_flattening.proofs.LevelSights.{kid-row, kid-static, kid-dynamic}
use Rattle.cx_flattening.proofs.FlatCycles.{stands_alike}

pub plus : (a b : ℕ) → a + suc b ≡ suc a + b
plus a b = omega arith

pub zero_plus : (a : ℕ) → a + 0 ≡ a
zero_plus a = omega arith

pub first_zero : (a : ℕ) → a ≡ 0 + a
first_zero a = omega arith

-- STATES that are the same in the cells of the flat component
mutual
  pub stands_within : (i : Instance) → AllFair i → (first : ℕ) (s z w : State) → ((e : ℕ) (path : Path) → e < length (flat_part i).cells → z ((first + e) ∷ path) ≡ w ((first + e) ∷ path)) → Stands i first s z → Stands i first s w
  stands_within (Node part cells) fair first s z w same h = all_within part cells fair.0 first s z w same cells 0 fair.1 (λ n. ap (cell_at cells) (first_zero n)) h

  all_within : (part : PlainComponent) (cells : Cells) → IsFair (Node part cells) → (first : ℕ) (s z w : State)
      → ((e : ℕ) (path : Path) → e < length (flat_part (Node part cells)).cells → z ((first + e) ∷ path) ≡ w ((first + e) ∷ path))
      → (rest : Cells) (c : ℕ) → AllFairBelow rest → ((n : ℕ) → cell_at rest n ≡ cell_at cells (c + n)) → AllStand (flat_kids cells) part rest c first s z → AllStand (flat_kids cells) part rest c first s w
  all_within part cells fair first s z w same no_cells c below tail h = tt
  all_within part cells fair first s z w same (a_primitive row rest) c below tail h = (
    sym (same (kept_at (flat_kids cells) c) [] inside) ∙ h.0,
    all_within part cells fair first s z w same rest (suc c) below (λ n. tail (suc n) ∙ ap (cell_at cells) (plus c n)) h.1,
  )
    where
      at : cell_at cells c ≡ OfRow row
      at = ap (cell_at cells) (sym (zero_plus c)) ∙ sym (tail 0)

      inside : kept_at (flat_kids cells) c < length (flat_part (Node part cells)).cells
      inside =
          let less = kept_less (flat_kids cells) part.cells c (within_row (Node part cells) fair c row at) (kid-row cells c row at) in
          let all = length-append (kept (flat_kids cells) part.cells) (blocks (flat_kids cells) part.cells) in
          omega (arith, less, all)
  all_within part cells fair first s z w same (an_instance child rest) c below tail h = (
    λ static. stands_within child below.0 (first + start_of (flat_kids cells) part c) (under c s) z w
        (λ e path less. ap (λ k. z (k ∷ path)) (moved first (start_of (flat_kids cells) part c) e) ∙ same (start_of (flat_kids cells) part c + e) path (inside static e less) ∙ ap (λ k. w (k ∷ path)) (sym (moved first (start_of (flat_kids cells) part c) e)))
        (h.0 static),
    λ dynamic. subst (Stands child 0 (under c s)) (fun_ext (λ path. same (kept_at (flat_kids cells) c) path (front dynamic))) (h.1 dynamic),
    all_within part cells fair first s z w same rest (suc c) below.1 (λ n. tail (suc n) ∙ ap (cell_at cells) (plus c n)) h.2,
  )
    where
      moved : (a b n : ℕ) → a + b + n ≡ a + (b + n)
      moved a b n = omega arith

      at : cell_at cells c ≡ OfInstance child
      at = ap (cell_at cells) (sym (zero_plus c)) ∙ sym (tail 0)

      inside : is_static child ≡ true → (e : ℕ) → e < length (flat_part child).cells → start_of (flat_kids cells) part c + e < length (flat_part (Node part cells)).cells
      inside static e less = in_flat_cells (flat_kids cells) part c e (flat_part child) (within_child (Node part cells) fair c child at) (kid-static cells c child at static) (omega (arith, less))

      front : is_static child ≡ false → kept_at (flat_kids cells) c < length (flat_part (Node part cells)).cells
      front dynamic =
          let less = kept_less (flat_kids cells) part.cells c (within_child (Node part cells) fair c child at) (kid-dynamic cells c child at dynamic) in
          let all = length-append (kept (flat_kids cells) part.cells) (blocks (flat_kids cells) part.cells) in
          omega (arith, less, all)

-- A MERGED STATE: of a cell that is kept both take the same, of a static child the flat one takes what differs of neither
picked : (set : Set) (a b : State) (c : ℕ) (path : Path) (x : State) (bit : Bool) → set c ≡ bit → (if bit then a (c ∷ path) else b (c ∷ path)) ≡ x (c ∷ path) → merge set a b (c ∷ path) ≡ x (c ∷ path)
picked set a b c path x bit e same = ap (λ y. if y then a (c ∷ path) else b (c ∷ path)) e ∙ same

module _ (part : PlainComponent) (cells : Cells) (fair : AllFair (Node part cells)) (set flat_set : Set) (a b x y : State)
    (kept : (c : ℕ) → c < length part.cells → kid_at (flat_kids cells) c ≡ None → flat_set (0 + kept_at (flat_kids cells) c) ≡ set c)
    (left : (c e : ℕ) (child : PlainComponent) → c < length part.cells → kid_at (flat_kids cells) c ≡ Some child → e < length child.cells → set c ≡ false → flat_set (0 + start_of (flat_kids cells) part c + e) ≡ false)
    (untouched : (c e : ℕ) (child : PlainComponent) → c < length part.cells → kid_at (flat_kids cells) c ≡ Some child → e < length child.cells → set c ≡ true
    → flat_set (0 + start_of (flat_kids cells) part c + e) ≡ false → (path : Path) → y ((0 + start_of (flat_kids cells) part c + e) ∷ path) ≡ x ((0 + start_of (flat_kids cells) part c + e) ∷ path)) where
  abbrev kids : Kids
  kids = flat_kids cells

  all_merged : (rest : Cells) (c : ℕ) → AllFairBelow rest → ((n : ℕ) → cell_at rest n ≡ cell_at cells (c + n)) → AllStand kids part rest c 0 a x → AllStand kids part rest c 0 b y
      → AllStand kids part rest c 0 (merge set a b) (merge flat_set x y)
  all_merged no_cells c below tail h k = tt
  all_merged (a_primitive row rest) c below tail h k = (
    one (set c) (flat_set (0 + kept_at kids c)) (kept c (within_row (Node part cells) fair.0 c row at) (kid-row cells c row at)),
    all_merged rest (suc c) below (λ n. tail (suc n) ∙ ap (cell_at cells) (plus c n)) h.1 k.1,
  )
    where
      at : cell_at cells c ≡ OfRow row
      at = ap (cell_at cells) (sym (zero_plus c)) ∙ sym (tail 0)

      one : (p q : Bool) → q ≡ p → (if q then x ((0 + kept_at kids c) ∷ []) else y ((0 + kept_at kids c) ∷ [])) ≡ (if p then a (c ∷ []) else b (c ∷ []))
      one true q e = ap (λ v. if v then x ((0 + kept_at kids c) ∷ []) else y ((0 + kept_at kids c) ∷ [])) e ∙ h.0
      one false q e = ap (λ v. if v then x ((0 + kept_at kids c) ∷ []) else y ((0 + kept_at kids c) ∷ [])) e ∙ k.0
  all_merged (an_instance child rest) c below tail h k = (
    λ static. in_block static (set c) refl,
    λ dynamic. whole dynamic (set c) refl,
    all_merged rest (suc c) below.1 (λ n. tail (suc n) ∙ ap (cell_at cells) (plus c n)) h.2 k.2,
  )
    where
      at : cell_at cells c ≡ OfInstance child
      at = ap (cell_at cells) (sym (zero_plus c)) ∙ sym (tail 0)

      here : c < length part.cells
      here = within_child (Node part cells) fair.0 c child at

      whole : is_static child ≡ false → (bit : Bool) → set c ≡ bit → Stands child 0 (under c (merge set a b)) (under (0 + kept_at kids c) (merge flat_set x y))
      whole dynamic true e =
          stands_alike child 0 (under c a) (under c (merge set a b)) (under (0 + kept_at kids c) x) (under (0 + kept_at kids c) (merge flat_set x y))
          (λ path. sym (picked set a b c path a true e refl))
          (λ path. sym (picked flat_set x y (0 + kept_at kids c) path x true (kept c here (kid-dynamic cells c child at dynamic) ∙ e) refl)) (h.1 dynamic)
      whole dynamic false e =
          stands_alike child 0 (under c b) (under c (merge set a b)) (under (0 + kept_at kids c) y) (under (0 + kept_at kids c) (merge flat_set x y))
          (λ path. sym (picked set a b c path b false e refl))
          (λ path. sym (picked flat_set x y (0 + kept_at kids c) path y false (kept c here (kid-dynamic cells c child at dynamic) ∙ e) refl)) (k.1 dynamic)

      in_block : is_static child ≡ true → (bit : Bool) → set c ≡ bit → Stands child (0 + start_of kids part c) (under c (merge set a b)) (merge flat_set x y)
      in_block static true e =
          stands_within child below.0 (0 + start_of kids part c) (under c (merge set a b)) x (merge flat_set x y)
          (λ n path less. sym (taken n path less (flat_set (0 + start_of kids part c + n)) refl))
          (stands_alike child (0 + start_of kids part c) (under c a) (under c (merge set a b)) x x (λ path. sym (picked set a b c path a true e refl)) (λ path. refl) (h.0 static))
        where
          taken : (n : ℕ) (path : Path) → n < length (flat_part child).cells → (q : Bool) → flat_set (0 + start_of kids part c + n) ≡ q → merge flat_set x y ((0 + start_of kids part c + n) ∷ path) ≡ x ((0 + start_of kids part c + n) ∷ path)
          taken n path less true f = picked flat_set x y (0 + start_of kids part c + n) path x true f refl
          taken n path less false f = picked flat_set x y (0 + start_of kids part c + n) path x false f (untouched c n (flat_part child) here (kid-static cells c child at static) less e f path)
      in_block static false e =
          stands_within child below.0 (0 + start_of kids part c) (under c (merge set a b)) y (merge flat_set x y)
          (λ n path less. sym (picked flat_set x y (0 + start_of kids part c + n) path y false (left c n (flat_part child) here (kid-static cells c child at static) less e) refl))
          (stands_alike child (0 + start_of kids part c) (under c b) (under c (merge set a b)) y y (λ path. sym (picked set a b c path b false e refl)) (λ path. refl) (k.0 static))

  pub merged_stands : Stands (Node part cells) 0 a x → Stands (Node part cells) 0 b y → Stands (Node part cells) 0 (merge set a b) (merge flat_set x y)
  merged_stands h k = all_merged cells 0 fair.1 (λ n. ap (cell_at cells) (first_zero n)) h k

-- TWO ANSWERS, of two arms
pub both_as : (i : Instance) (m flat_m : State → State → State) (x1 x2 y1 y2 : Answer State Fault) → AnswerAs i x1 y1 → AnswerAs i x2 y2
    → ((a b w v : State) (t u : ℕ) → y1 ≡ End w t → y2 ≡ End v u → Stands i 0 a w → Stands i 0 b v → Stands i 0 (m a b) (flat_m w v)) → AnswerAs i (both m x1 x2) (both flat_m y1 y2)
both_as i m flat_m (End a t) (End b u) y1 y2 h k merged =
    (flat_m h.0 k.0, ap (λ y. both flat_m y y2) h.1 ∙ ap (both flat_m (End h.0 t)) k.1, merged a b h.0 k.0 t u h.1 k.1 h.2 k.2)
both_as i m flat_m (End a t) (answers.Fault g u) y1 y2 h k merged = ap (λ y. both flat_m y y2) h.1 ∙ ap (both flat_m (End h.0 t)) k
both_as i m flat_m (End a t) More y1 y2 h k merged = ap (λ y. both flat_m y y2) h.1 ∙ ap (both flat_m (End h.0 t)) k
both_as i m flat_m (answers.Fault f t) (End b u) y1 y2 h k merged = ap (λ y. both flat_m y y2) h ∙ ap (both flat_m (answers.Fault (flat_fault i 0 f) t)) k.1
both_as i m flat_m (answers.Fault f t) (answers.Fault g u) y1 y2 h k merged =
    subst (AnswerAs i (if nat_le t u then answers.Fault f t else answers.Fault g u)) (sym (ap (λ y. both flat_m y y2) h ∙ ap (both flat_m (answers.Fault (flat_fault i 0 f) t)) k)) (sooner (nat_le t u))
  where
    sooner : (first : Bool) → AnswerAs i (if first then answers.Fault f t else answers.Fault g u) (if first then answers.Fault (flat_fault i 0 f) t else answers.Fault (flat_fault i 0 g) u)
    sooner true = refl
    sooner false = refl
both_as i m flat_m (answers.Fault f t) More y1 y2 h k merged = ap (λ y. both flat_m y y2) h ∙ ap (both flat_m (answers.Fault (flat_fault i 0 f) t)) k
both_as i m flat_m More (End b u) y1 y2 h k merged = ap (λ y. both flat_m y y2) h ∙ ap (both flat_m More) k.1
both_as i m flat_m More (answers.Fault g u) y1 y2 h k merged = ap (λ y. both flat_m y y2) h ∙ ap (both flat_m More) k
both_as i m flat_m More More y1 y2 h k merged = ap (λ y. both flat_m y y2) h ∙ ap (both flat_m More) k
