-- WHERE COUNTS SHOW: at the register of a counter of the instance itself, or at an output that a child gains.
use Rattle.std.proofs.Common.{◌≡◌, ℕ, suc, ◌+◌, inl, inr, ⊎_elim, List, [], ◌∷◌, map, Some, slice_get, refl, sym, ap, ◌∙◌, arith}
use Rattle.cx_text.proofs.MemberLaws.{image_in, in_either}
use Rattle.cx_meaning.specs.declared.ports.PortRef.TheVariants as ports
use Rattle.cx_meaning.specs.Instances.{Instance, Node, Cells, no_cells, a_primitive, an_instance, OfInstance, cell_at, cells_of, part_of}
use Rattle.cx_text.specs.Members.{In}
use Rattle.cx_profiling.specs.Counters.{Counter, counters, Shown, first_gained, behind_cell, shown_here, shown_at_cell, shown_below, shown_in}

-- a count of a child, at an output that it gains
pub record IsBelow (cells : Cells) (c : ℕ) (x : Shown) : Type 0 where
  pub cell : ℕ
  pub child : Instance
  pub number : ℕ
  pub inner : Shown
  pub stands : cell_at cells cell ≡ OfInstance child
  pub listed : slice_get (shown_in child) number ≡ Some inner
  pub entry : x.entry ≡ behind_cell (c + cell) inner.entry
  pub port : x.port ≡ ports.Cell (c + cell) (first_gained (part_of child) + number)

at_a_cell : (c p : ℕ) (list : List Shown) (x : Shown) → In (shown_at_cell c p list) x
    → (n : ℕ) × (inner : Shown) × (slice_get list n ≡ Some inner) × (x.entry ≡ behind_cell c inner.entry) × (x.port ≡ ports.Cell c (p + n))
at_a_cell c p [] x i = absurd i
at_a_cell c p (y ∷ ys) x (inl e) =
    let none : p ≡ p + 0 = omega arith in
    (0, y, refl, ap (λ z. z.entry) (sym e), ap (λ z. z.port) (sym e) ∙ ap (ports.Cell c) none)
at_a_cell c p (y ∷ ys) x (inr i) =
    let r = at_a_cell c (suc p) ys x i in
    let next : suc p + r.0 ≡ p + suc r.0 = omega arith in
    (suc r.0, r.1, r.2, r.3, r.4 ∙ ap (ports.Cell c) next)

is_below : (cells : Cells) (c : ℕ) (x : Shown) → In (shown_below cells c) x → IsBelow cells c x
is_below no_cells c x i = absurd i
is_below (a_primitive row rest) c x i =
    let r = is_below rest (suc c) x i in
    let next : suc c + r.cell ≡ c + suc r.cell = omega arith in
    record { cell = suc r.cell; child = r.child; number = r.number; inner = r.inner; stands = r.stands; listed = r.listed; entry = r.entry ∙ ap (λ n. behind_cell n r.inner.entry) next; port = r.port ∙ ap (λ n. ports.Cell n (first_gained (part_of r.child) + r.number)) next }
is_below (an_instance child rest) c x i =
    ⊎_elim
    (λ here. let r = at_a_cell c (first_gained (part_of child)) (shown_in child) x here in
    let none : c ≡ c + 0 = omega arith in
    record { cell = 0; child = child; number = r.0; inner = r.1; stands = refl; listed = r.2; entry = r.3 ∙ ap (λ n. behind_cell n r.1.entry) none; port = r.4 ∙ ap (λ n. ports.Cell n (first_gained (part_of child) + r.0)) none })
    (λ there. let r = is_below rest (suc c) x there in
    let next : suc c + r.cell ≡ c + suc r.cell = omega arith in
    record { cell = suc r.cell; child = r.child; number = r.number; inner = r.inner; stands = r.stands; listed = r.listed; entry = r.entry ∙ ap (λ n. behind_cell n r.inner.entry) next; port = r.port ∙ ap (λ n. ports.Cell n (first_gained (part_of r.child) + r.number)) next })
    (in_either (shown_at_cell c (first_gained (part_of child)) (shown_in child)) (shown_below rest (suc c)) x i)

pub data WhereShown (i : Instance) (x : Shown) : Type 0 where
  own_count : (counter : Counter) → In (counters i) counter → shown_here counter ≡ x → WhereShown i x
  child_count : IsBelow (cells_of i) 0 x → WhereShown i x

pub where_shown : (i : Instance) (x : Shown) → In (shown_in i) x → WhereShown i x
where_shown (Node part cells) x i =
    ⊎_elim
    (λ own. let r = image_in shown_here (counters (Node part cells)) x own in own_count r.0 r.1 r.2)
    (λ deep. child_count (is_below cells 0 x deep))
    (in_either (map shown_here (counters (Node part cells))) (shown_below cells 0) x i)
