-- Edges of continuous assignments.
use Rattle.std.proofs.Common.{◌≡◌, ◌≢◌, ℕ, zero, suc, ◌<◌, ◌+◌, List, [], ◌∷◌, ◌++◌, length, map, replicate, slice_set, get_or, take, add-one, ◌⊎◌, inl, inr, ⊎_elim, refl, sym, ap, ◌∙◌, subst, arith}
use Rattle.std.proofs.lemmas.List.{length-map, length-replicate, map-append, map-set}
use Rattle.std.proofs.Math.Seq.{take-suc}
use Rattle.std.specs.declared.vec.Vec.{Vec}
use Rattle.std.specs.Vec.{vec_len}
use Rattle.cx_text.proofs.MemberLaws.{in_either, in_left, in_right}
use Rattle.cx_graphs.specs.Graphs as graphs
use Rattle.cx_graphs.specs.Graphs.{Edges, edges_of, targets_of}
use Rattle.cx_meaning.specs.declared.ports.PortRef.{PortRef}
use Rattle.cx_meaning.specs.declared.ports.PortRef.TheVariants as ports
use Rattle.cx_meaning.specs.Designs.{PlainAssign, PlainComponent}
use Rattle.cx_text.specs.Members.{In}
use Rattle.cx_design.specs.declared.components.Component.{Component}
use Rattle.cx_design.specs.PlainForms.{plain_cell, plain_component}
use Rattle.cx_race.specs.Cells.{cell_in, target_in, named_in}
use Rattle.cx_race.specs.Links.{HasLinks, Within, linked}
use Rattle.cx_race.proofs.ArmLemmas.{as_node, from_node}
use Rattle.cx_text.proofs.NumberLaws.{same_or}
use Rattle.cx_graphs.proofs.Members.{targets_are}

no_targets : (count c : ℕ) → targets_of (replicate count []) c ≡ []
no_targets zero c = refl
no_targets (suc count) zero = refl
no_targets (suc count) (suc c) = no_targets count c

pub no_links : (count : ℕ) → HasLinks [] (replicate count [])
no_links count = record {
  sound = λ c e i. absurd (subst (λ l. In l e) (no_targets count c) i);
  all = λ c e a i t n. absurd i;
}

set_here : (g : Edges) (c : ℕ) (ns : List ℕ) → c < length g → targets_of (slice_set g c ns) c ≡ ns
set_here [] c ns h = absurd (omega (arith, h))
set_here (l ∷ g) zero ns h = refl
set_here (l ∷ g) (suc c) ns h = set_here g c ns (omega (arith, h))

set_there : (g : Edges) (c m : ℕ) (ns : List ℕ) → c ≢ m → targets_of (slice_set g c ns) m ≡ targets_of g m
set_there [] c m ns d = refl
set_there (l ∷ g) zero zero ns d = absurd (d refl)
set_there (l ∷ g) zero (suc m) ns d = refl
set_there (l ∷ g) (suc c) zero ns d = refl
set_there (l ∷ g) (suc c) (suc m) ns d = set_there g c m ns (λ e. d (ap (λ k. suc k) e))

module _ (assigns : List PlainAssign) (a : PlainAssign) (g : Edges) (has : HasLinks assigns g) where
  abbrev more : List PlainAssign
  more = assigns ++ a ∷ []

  either : (b : PlainAssign) → In more b → In assigns b ⊎ (a ≡ b)
  either b i = ⊎_elim (λ l. inl l) (λ r. ⊎_elim (λ e. inr e) (λ j. absurd j) r) (in_either assigns (a ∷ []) b i)

  -- an assignment that drives no cell
  none : ((c : ℕ) → In (target_in a) c → ⊥) → HasLinks more g
  none h = record {
    sound = λ c e i. let b = has.sound c e i in (b.0, in_left assigns (a ∷ []) b.0 b.1, b.2, b.3);
    all = λ c e b i t n. ⊎_elim (λ l. has.all c e b l t n) (λ s. absurd (h c (subst (λ x. In (target_in x) c) (sym s) t))) (either b i);
  }

  -- an assignment that drives one
  one : (d : ℕ) → d < length g → In (target_in a) d → ((c : ℕ) → In (target_in a) c → d ≡ c) → HasLinks more (slice_set g d (targets_of g d ++ named_in a))
  one d within there only = record {
    sound = λ c e i. ⊎_elim
        (λ s. ⊎_elim
        (λ old. let b = has.sound d e (as_node (targets_of g d) e old) in (b.0, in_left assigns (a ∷ []) b.0 b.1, subst (λ x. In (target_in b.0) x) s b.2, b.3))
        (λ new. (a, in_right assigns (a ∷ []) a (inl refl), subst (λ x. In (target_in a) x) s there, new))
        (in_either (targets_of g d) (named_in a) e (from_node (targets_of g d ++ named_in a) e (subst (λ l. In l e) (set_here g d (targets_of g d ++ named_in a) within) (subst (λ x. In (targets_of now x) e) (sym s) i)))))
        (λ n. let b = has.sound c e (subst (λ l. In l e) (set_there g d c (targets_of g d ++ named_in a) n) i) in (b.0, in_left assigns (a ∷ []) b.0 b.1, b.2, b.3))
        (same_or d c);
    all = λ c e b i t n. ⊎_elim
        (λ l. still c e (has.all c e b l t n))
        (λ s. subst (λ x. In (targets_of now x) e) (only c (subst (λ x. In (target_in x) c) (sym s) t))
        (subst (λ l. In l e) (sym (set_here g d (targets_of g d ++ named_in a) within))
        (as_node (targets_of g d ++ named_in a) e (in_right (targets_of g d) (named_in a) e (subst (λ x. In (named_in x) e) (sym s) n)))))
        (either b i);
  }
    where
      now : Edges
      now = slice_set g d (targets_of g d ++ named_in a)

      still : (c e : ℕ) → In (targets_of g c) e → In (targets_of now c) e
      still c e i = ⊎_elim
          (λ s. subst (λ x. In (targets_of now x) e) s
          (subst (λ l. In l e) (sym (set_here g d (targets_of g d ++ named_in a) within))
          (as_node (targets_of g d ++ named_in a) e (in_left (targets_of g d) (named_in a) e (from_node (targets_of g d) e (subst (λ x. In (targets_of g x) e) (sym s) i))))))
          (λ n. subst (λ l. In l e) (sym (set_there g d c (targets_of g d ++ named_in a) n)) i)
          (same_or d c)

  by_port : (port : PortRef) → a.target ≡ port → Within (length g) (cell_in port) → HasLinks more (linked g (cell_in port) (named_in a))
  by_port (ports.Cell d p) e w = one d (w d (inl refl)) (subst (λ q. In (cell_in q) d) (sym e) (inl refl)) (λ c i. only c (subst (λ q. In (cell_in q) c) e i))
    where
      only : (c : ℕ) → In (d ∷ []) c → d ≡ c
      only c i = ⊎_elim (λ s. s) (λ j. absurd j) i
  by_port (ports.Input n) e w = none (λ c i. subst (λ q. In (cell_in q) c) e i)
  by_port (ports.Output n) e w = none (λ c i. subst (λ q. In (cell_in q) c) e i)
  by_port (ports.Done n) e w = none (λ c i. subst (λ q. In (cell_in q) c) e i)
  by_port (ports.Literal w v) e h = none (λ c i. subst (λ q. In (cell_in q) c) e i)

  -- the edges of one more assignment
  pub links_more : Within (length g) (target_in a) → HasLinks more (linked g (target_in a) (named_in a))
  links_more w = by_port a.target refl w

-- the edges of a node are written with more behind them
pub edges_set : {A : Type 0} (lists : List (Vec ℕ A)) (node : ℕ) (old new : Vec ℕ A) (more : List ℕ) → node < length lists → old ≡ get_or lists node old → new.items ≡ old.items ++ more
    → edges_of (slice_set lists node new) ≡ linked (edges_of lists) (node ∷ []) more
edges_set lists node old new more h read e =
    map-set (λ l. l.items) lists node new ∙ ap (λ ns. slice_set (edges_of lists) node ns) (e ∙ ap (λ l. l ++ more) (sym (targets_are lists node old h read)))

pub in_map : {A B : Type 0} (f : A → B) (xs : List A) (k : ℕ) (x : A) → k < length xs → x ≡ get_or xs k x → In (map f xs) (f x)
in_map f [] k x h e = absurd (omega (arith, h))
in_map f (y ∷ xs) zero x h e = inl (ap f (sym e))
in_map f (y ∷ xs) (suc k) x h e = inr (in_map f xs k x (omega (arith, h)) e)

pub map_take_more : {A B : Type 0} (f : A → B) (xs : List A) (k : ℕ) (x : A) → k < length xs → x ≡ get_or xs k x → map f (take (k + 1) xs) ≡ map f (take k xs) ++ f x ∷ []
map_take_more f xs k x h e =
    ap (λ n. map f (take n xs)) (add-one k) ∙ ap (λ l. map f l) (take-suc xs k x h) ∙ map-append f (take k xs) (get_or xs k x ∷ []) ∙ ap (λ y. map f (take k xs) ++ f y ∷ []) (sym e)

-- a graph of the cells of a component
pub size_is : {A : Type 0} (component : Component) (part : PlainComponent) (count : ℕ) (graph : List (Vec ℕ A)) → plain_component component ≡ part → count ≡ vec_len component.cells → edges_of graph ≡ replicate count [] → length part.cells ≡ length graph
size_is component part count graph is counted none =
    let cells : length part.cells ≡ length component.cells.items = ap (λ p. length p.cells) (sym is) ∙ length-map component.cells.items plain_cell in
    let long : length graph ≡ count = sym (length-map graph (λ l. l.items)) ∙ ap length none ∙ length-replicate count [] in
    omega (arith, cells, long, counted, component.cells.ok.0)
