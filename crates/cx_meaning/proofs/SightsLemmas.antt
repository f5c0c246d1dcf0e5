-- A port is seen as one thing.
use Rattle.std.proofs.Common.{◌≡◌, ℕ, suc, Bool, true, false, inl, inr, List, [], ◌∷◌, refl, sym, ap, ◌∙◌, subst, zero}
use Rattle.cx_text.specs.Members.{In}
use Rattle.cx_meaning.specs.declared.ports.PortRef.{PortRef}
use Rattle.cx_meaning.specs.declared.ports.PortRef.TheVariants as ports
use Rattle.cx_meaning.specs.declared.sights.Seen.{Seen}
use Rattle.cx_meaning.specs.declared.sights.Seen.TheVariants.{Undefined}
use Rattle.cx_meaning.specs.Designs.{PlainGuard, Always, Atom, Negation, All, Any, Compared, Within, PlainGuards, no_guards, a_guard, PlainComponent}
use Rattle.cx_prim.specs.declared.ports.PortRow.{PortRow}
use Rattle.cx_prim.specs.declared.ports.Side.{Side}
use Rattle.cx_prim.specs.declared.ports.Side.TheVariants.{Enable, Plain, Output, Registered}
use Rattle.cx_prim.specs.Rows.{Row}
use Rattle.cx_meaning.specs.Rows.{side_of}
use Rattle.cx_meaning.specs.Instances.{Instance, At, Nothing, OfRow, OfInstance, part_of, cells_of, cell_at, State, Cells, a_primitive, an_instance, no_cells}
use Rattle.cx_meaning.specs.Active.{Active, Acting, drivers, nothing}
use Rattle.cx_meaning.specs.Truths.{truth_of, not_truth, and_truth, or_truth, compared}
use Rattle.cx_meaning.specs.Sights.{Look, Below, Held, bit_of, guard_truth, all_truth, any_truth, Taken, Sources, Stopped, take_guard, taken, agreed, all_agreed, settle, target_seen, gather_one, gather_port, gather, output_seen, PartPort, Go, AnInput, AnOutput, ItsDone, part_port, side_step, part_step, cell_step, step, GuardNames, AnyNames, IsTaken, TargetNeeds, SideNeeds, PartNeeds, CellNeeds, Needs, Sees, by_step, outputs_below, seen, unheld}
use Rattle.cx_meaning.proofs.InstancesLemmas.{instance_is}

two_alike : {A B C : Type 0} (f : A → B → C) (a b : A) (x y : B) → a ≡ b → x ≡ y → f a x ≡ f b y
two_alike f a b x y e h = ap (λ z. f z x) e ∙ ap (f b) h

-- looks that agree on the wanted ports gather the same
pub gather_alike : (look more : ℕ → Seen) (wanted : ℕ → Bool) (p : ℕ) (list : List PortRow) → ((q : ℕ) → wanted q ≡ true → look q ≡ more q) → gather look wanted p list ≡ gather more wanted p list
gather_alike look more wanted p [] h = refl
gather_alike look more wanted p (port ∷ list) h = one (wanted p) (h p) ∙ ap (gather_port (wanted p) p (more p)) (gather_alike look more wanted (suc p) list h)
  where
    one : (w : Bool) → (w ≡ true → look p ≡ more p) → gather_port w p (look p) (gather look wanted (suc p) list) ≡ gather_port w p (more p) (gather look wanted (suc p) list)
    one true e = ap (λ x. gather_one p x (gather look wanted (suc p) list)) (e refl)
    one false e = refl

-- looks that agree on what both steps need give equal steps
module _ (look more : Look) where
  mutual
    guard_alike : (at : ℕ) (g : PlainGuard) → ((q : PortRef) → GuardNames g q → look q ≡ more q) → guard_truth look at g ≡ guard_truth more at g
    guard_alike at Always h = refl
    guard_alike at (Atom p) h = ap truth_of (h p.port refl)
    guard_alike at (Negation g) h = ap not_truth (guard_alike at g h)
    guard_alike at (All gs) h = all_alike at gs h
    guard_alike at (Any gs) h = any_alike at gs h
    guard_alike at (Compared c a b) h = two_alike (compared c) _ _ _ _ (h a.port (inl refl)) (h b.port (inr refl))
    guard_alike at (Within from to) h = refl

    all_alike : (at : ℕ) (gs : PlainGuards) → ((q : PortRef) → AnyNames gs q → look q ≡ more q) → all_truth look at gs ≡ all_truth more at gs
    all_alike at no_guards h = refl
    all_alike at (a_guard g gs) h = two_alike and_truth _ _ _ _ (guard_alike at g (λ q i. h q (inl i))) (all_alike at gs (λ q i. h q (inr i)))

    any_alike : (at : ℕ) (gs : PlainGuards) → ((q : PortRef) → AnyNames gs q → look q ≡ more q) → any_truth look at gs ≡ any_truth more at gs
    any_alike at no_guards h = refl
    any_alike at (a_guard g gs) h = two_alike or_truth _ _ _ _ (guard_alike at g (λ q i. h q (inl i))) (any_alike at gs (λ q i. h q (inr i)))

  taken_alike : (acts : List Acting) → ((a : Acting) (q : PortRef) → In acts a → GuardNames a.assign.guard q → look q ≡ more q) → taken look acts ≡ taken more acts
  taken_alike [] h = refl
  taken_alike (a ∷ rest) h =
      ap (λ g. take_guard g a.assign.source.port (taken look rest)) (guard_alike a.offset a.assign.guard (λ q n. h a q (inl refl) n))
      ∙ ap (take_guard (guard_truth more a.offset a.assign.guard) a.assign.source.port) (taken_alike rest (λ b q i n. h b q (inr i) n))

  sources_alike : (s : PortRef) (ss : List PortRef) → ((q : PortRef) → In (s ∷ ss) q → look q ≡ more q) → all_agreed look s ss ≡ all_agreed more s ss
  sources_alike s [] h = h s (inl refl)
  sources_alike s (t ∷ ts) h = two_alike agreed _ _ _ _ (h s (inl refl)) (sources_alike t ts (λ q i. h q (inr i)))

  settle_alike : (u : Seen) (t : Taken) → ((q : PortRef) → IsTaken t q → look q ≡ more q) → settle u look t ≡ settle u more t
  settle_alike u (Stopped x) h = refl
  settle_alike u (Sources []) h = refl
  settle_alike u (Sources (s ∷ ss)) h = sources_alike s ss h

  target_alike : (u : Seen) (acts : List Acting) → ((q : PortRef) → TargetNeeds look acts q → TargetNeeds more acts q → look q ≡ more q) → target_seen u look acts ≡ target_seen u more acts
  target_alike u acts h =
      let t = taken_alike acts (λ a q i n. h q (inl (a, i, n)) (inl (a, i, n))) in
      settle_alike u (taken look acts) (λ q i. h q (inr i) (inr (subst (λ t. IsTaken t q) t i))) ∙ ap (settle u more) t

  module _ (part : PlainComponent) (act : Active) (s : State) (below beneath : Below) where
    abbrev AgreeOn : (PortRef → Type 0) → (PortRef → Type 0) → Type 0
    AgreeOn N M = (q : PortRef) → N q → M q → look q ≡ more q

    side_alike : (row : Row) (c p : ℕ) (side : Side) → AgreeOn (SideNeeds part act look row c p side) (SideNeeds part act more row c p side) → side_step part act s look below row c p side ≡ side_step part act s more beneath row c p side
    side_alike row c p Enable h = target_alike (bit_of false) (drivers part act (ports.Cell c p)) h
    side_alike row c p Plain h = target_alike Undefined (drivers part act (ports.Cell c p)) h
    side_alike row c p Output h =
        ap (output_seen (λ inputs. row.output (s (c ∷ [])) inputs p))
        (gather_alike (λ q. look (ports.Cell c q)) (λ q. more (ports.Cell c q)) (row.reads p) 0 row.ports (λ q w. h (ports.Cell c q) (q, w, refl) (q, w, refl)))
    side_alike row c p Registered h = refl

    part_alike : (c p : ℕ) (port : PartPort) → ((n : ℕ) → below c n ≡ beneath c n) → AgreeOn (PartNeeds part act look c p port) (PartNeeds part act more c p port) → part_step part act s look below c p port ≡ part_step part act s more beneath c p port
    part_alike c p Go b h = target_alike (bit_of false) (drivers part act (ports.Cell c p)) h
    part_alike c p (AnInput input) b h = target_alike Undefined (drivers part act (ports.Cell c p)) h
    part_alike c p (AnOutput output) b h = b output
    part_alike c p ItsDone b h = refl

    cell_alike : (c p : ℕ) (at : At) → ((n : ℕ) (child : Instance) → at ≡ OfInstance child → below c n ≡ beneath c n) → AgreeOn (CellNeeds part act look c p at) (CellNeeds part act more c p at) → cell_step part act s look below c p at ≡ cell_step part act s more beneath c p at
    cell_alike c p Nothing b h = refl
    cell_alike c p (OfRow row) b h = side_alike row c p (side_of row p) h
    cell_alike c p (OfInstance child) b h = part_alike c p (part_port (part_of child) p) (λ n. b n child refl) h

  pub step_alike : (i : Instance) (held : Held) (act : Active) (s : State) (below beneath : Below) (p : PortRef)
      → ((c port n : ℕ) (child : Instance) → p ≡ ports.Cell c port → cell_at (cells_of i) c ≡ OfInstance child → below c n ≡ beneath c n)
      → ((q : PortRef) → Needs i act look p q → Needs i act more p q → look q ≡ more q)
      → step i held act s look below p ≡ step i held act s more beneath p
  step_alike i held act s below beneath (ports.Cell c p) b h = cell_alike (part_of i) act s below beneath c p (cell_at (cells_of i) c) (λ n child e. b c p n child refl e) h
  step_alike i held act s below beneath (ports.Input n) b h = refl
  step_alike i held act s below beneath (ports.Output n) b h = target_alike Undefined (drivers (part_of i) act (ports.Output n)) h
  step_alike i held act s below beneath (ports.Done g) b h = target_alike (bit_of false) (drivers (part_of i) act (ports.Done g)) h
  step_alike i held act s below beneath (ports.Literal w v) b h = refl

-- a port is seen as one thing
pub one_sight : {i : Instance} {held : Held} {act : Active} {s : State} {p : PortRef} {x y : Seen} → Sees i held act s p x → Sees i held act s p y → x ≡ y
one_sight {i} {held} {act} {s} {p} (by_step look below h b e) (by_step more beneath k d f) =
    sym e
    ∙ step_alike look more i held act s below beneath p (λ c port n child is at. one_sight (b c port n child is at) (d c port n child is at)) (λ q n m. one_sight (h q n) (k q m))
    ∙ f

pub outputs_at : (cells : Cells) (states : ℕ → State) (c n : ℕ) (child : Instance) → cell_at cells c ≡ OfInstance child → outputs_below cells states c n ≡ seen child unheld nothing (states c) (ports.Output n)
outputs_at no_cells states c n child e = absurd (cc)
outputs_at (a_primitive row rest) states zero n child e = absurd (cc)
outputs_at (a_primitive row rest) states (suc c) n child e = outputs_at rest (λ k. states (suc k)) c n child e
outputs_at (an_instance other rest) states zero n child e = ap (λ i. seen i unheld nothing (states 0) (ports.Output n)) (instance_is other child e)
outputs_at (an_instance other rest) states (suc c) n child e = outputs_at rest (λ k. states (suc k)) c n child e
