-- The work of a run, which bounds the calls of its functions: the statements, and the control of all instances below.
use Rattle.std.proofs.Common.{◌≡◌, ℕ, zero, suc, ◌+◌, ◌*◌, ◌≤◌, ◌<◌, List, [], ◌∷◌, ◌++◌, get_or, length, Some, refl, sym, ap, ◌∙◌, subst, arith}
use Rattle.cx_meaning.specs.Designs.{PlainDesign, PlainForm, Empty, Enable, Seq, Par, If, While, Repeat, StaticSeq, StaticPar, StaticIf, StaticRepeat, Timed, PlainStatement, Placed, PlainStatements, no_statements, a_statement, statements_of}
use Rattle.std.specs.List.{slice_get}
use Rattle.cx_state.specs.Tables.{IsNumber}
use Rattle.cx_meaning.specs.Instances.{Instance, Node, Cells, no_cells, a_primitive, an_instance, Nothing, OfRow, OfInstance, cell_at, cells_of, part_of, Path, instance_at, child_at, paths_of, tree_of}
use Rattle.cx_state.proofs.TableLemmas.{further}

abbrev mutual
  pub form_steps : PlainForm → ℕ
  form_steps Empty = 1
  form_steps (Enable g) = 1
  form_steps (Seq parts) = 1 + all_steps parts
  form_steps (Par arms) = 1 + all_steps arms
  form_steps (If test comb a b) = 1 + (steps a + steps b)
  form_steps (While test comb a) = 1 + steps a
  form_steps (Repeat count a) = 1 + steps a
  form_steps (StaticSeq length parts) = 1
  form_steps (StaticPar length arms) = 1
  form_steps (StaticIf length test a b) = 1
  form_steps (StaticRepeat length count a) = 1
  form_steps (Timed k) = 1

  pub steps : PlainStatement → ℕ
  steps (Placed form place) = 1 + form_steps form

  pub all_steps : PlainStatements → ℕ
  all_steps no_statements = 0
  all_steps (a_statement s ss) = steps s + all_steps ss

abbrev mutual
  pub work : Instance → ℕ
  work (Node part cells) = 2 * steps part.control + 3 + work_below cells

  pub work_below : Cells → ℕ
  work_below no_cells = 0
  work_below (a_primitive row rest) = work_below rest
  work_below (an_instance child rest) = work child + work_below rest

abbrev pub below_it : Instance → ℕ
below_it (Node part cells) = work_below cells

-- below instance n
abbrev pub below : PlainDesign → ℕ → ℕ
below d n = below_it (instance_at (tree_of d) (get_or (paths_of (tree_of d)) n []))

-- a part of a seq, or an arm of a par
pub part_steps : (parts : List PlainStatement) (k : ℕ) (d : PlainStatement) → k < length parts → steps (get_or parts k d) ≤ all_steps (statements_of parts)
part_steps [] k d lt = absurd (omega arith)
part_steps (s ∷ ss) zero d lt = omega arith
part_steps (s ∷ ss) (suc k) d lt =
    let h : steps (get_or ss k d) ≤ all_steps (statements_of ss) = part_steps ss k d (let e : suc k < suc (length ss) = lt in omega arith) in
    omega (arith, h)

-- THE CHILD at a cell has less work
child_work : (cells : Cells) (c : ℕ) (child : Instance) → cell_at cells c ≡ OfInstance child → work child ≤ work_below cells
child_work no_cells c child e = absurd (let f : Nothing ≡ OfInstance child = e in cc)
child_work (a_primitive row rest) zero child e = absurd (let f : OfRow row ≡ OfInstance child = e in cc)
child_work (a_primitive row rest) (suc c) child e = child_work rest c child e
child_work (an_instance own rest) zero child e =
    let same : own ≡ child = (let f : OfInstance own ≡ OfInstance child = e in cc) in
    let equal : work own ≡ work child = ap work same in
    omega (arith, equal)
child_work (an_instance own rest) (suc c) child e = let h : work child ≤ work_below rest = child_work rest c child e in omega (arith, h)

got_path : (paths : List Path) (n : ℕ) (path : Path) → slice_get paths n ≡ Some path → get_or paths n [] ≡ path
got_path [] n path e = cc
got_path (p ∷ paths) zero path e = let f : Some p ≡ Some path = e in cc
got_path (p ∷ paths) (suc n) path e = got_path paths n path e

work_of : (i : Instance) → work i ≡ 2 * steps (part_of i).control + 3 + below_it i
work_of (Node part cells) = refl

below_cells : (i : Instance) → below_it i ≡ work_below (cells_of i)
below_cells (Node part cells) = refl

-- a call goes below
pub call_falls : (d : PlainDesign) (n c number : ℕ) (path : Path) (child : Instance) → IsNumber d n path → IsNumber d number (path ++ c ∷ []) → cell_at (cells_of (instance_at (tree_of d) path)) c ≡ OfInstance child
    → 2 * steps (part_of (instance_at (tree_of d) (path ++ c ∷ []))).control + below d number < below d n
call_falls d n c number path child at there e =
    let i : Instance = instance_at (tree_of d) path in
    let j : Instance = instance_at (tree_of d) (path ++ c ∷ []) in
    let is : j ≡ child = further (tree_of d) path c child e in
    let above : below d n ≡ work_below (cells_of i) = ap (λ p. below_it (instance_at (tree_of d) p)) (got_path (paths_of (tree_of d)) n path at) ∙ below_cells i in
    let own : below d number ≡ below_it j = ap (λ p. below_it (instance_at (tree_of d) p)) (got_path (paths_of (tree_of d)) number (path ++ c ∷ []) there) in
    let less : work child ≤ work_below (cells_of i) = child_work (cells_of i) c child e in
    let whole : work child ≡ 2 * steps (part_of j).control + 3 + below_it j = ap work (sym is) ∙ work_of j in
    omega (arith, above, own, less, whole)
