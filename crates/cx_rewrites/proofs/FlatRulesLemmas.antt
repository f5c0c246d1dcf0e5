-- In a design without static components each rule comes to what `FlatRules` says.
use Rattle.std.proofs.Common.{◌≡◌, ℕ, zero, suc, inl, inr, true, false, is_some, List, [], ◌∷◌, length, Some, None, refl, sym, ap, ◌∙◌, subst}
use Rattle.std.specs.Prelude.{slice_get, flat_map}
use Rattle.cx_text.specs.declared.places.Place.{Place}
use Rattle.cx_text.specs.declared.rules.Rule.{Rule}
use Rattle.cx_text.specs.declared.rules.Rule.TheVariants as rules
use Rattle.cx_meaning.specs.declared.ports.PortRef.{PortRef}
use Rattle.cx_meaning.specs.declared.ports.PortRef.TheVariants as ports
use Rattle.cx_meaning.specs.Designs.{PlainAssign, PlainInvoke, PlainCell, PlainKind, OfPrimitive, OfComponent, PlainComponent, PlainDesign, PlainStatement, component_at}
use Rattle.cx_meaning.specs.Instances.{part_of, cells_of, cell_at, add_cell, cells_for, tree_within}
use Rattle.cx_meaning.proofs.DesignsLemmas.{same_part}
use Rattle.cx_rules.specs.Ports.{component_of}
use Rattle.cx_rules.specs.Items.{Visited}
use Rattle.cx_rules.specs.Spots.{Spot, AssignRule, StatementRule, OnBind, OnStatement}
use Rattle.cx_rules.specs.Invokes.{invoke_at}
use Rattle.cx_rules.specs.InvokeShape.{latency_at, is_static_port}
use Rattle.cx_rules.specs.ShapeRules as shapes
use Rattle.cx_rules.specs.RaceRule as race
use Rattle.cx_rules.specs.LimitRule as limit
use Rattle.cx_rules.specs.LimitRule.{Limited, flat_limit, BreaksPart, BreaksTree}
use Rattle.cx_rules.specs.Accepted as whole
use Rattle.cx_rules.specs.Accepted.{stage_of}
use Rattle.cx_rules.specs.Flat.{IsFlat}
use Rattle.cx_rules.proofs.InvokesLemmas.{no_invoke_at, drives_more, drives_all-flat, reads_more, reads_all-flat}
use Rattle.cx_rules.proofs.CountsLemmas.{no_invokes, no_invokes_within, latency_within, lasts_within, counted_cells-flat, counted_groups-flat, counted_weight-flat, counted_instances-flat, counted_depth-flat}
use Rattle.cx_rules.proofs.LimitRuleLemmas.{statement_limit-flat}
use Rattle.cx_rewrites.specs.FlatRules.{BreaksLength, IsShared, BreaksRace, BreaksStatement, Breaks, KeepsStage, IsAccepted}

-- a rule on statements that says the same
on_statement : (one other : StatementRule) (d : PlainDesign) (spot : Spot) (place : Place) (name : List ℕ) → ((v : Visited) → one (component_of d spot.component) v place name → other (component_of d spot.component) v place name)
    → OnStatement one d spot place name → OnStatement other d spot place name
on_statement one other d spot place name h on =
    record { within = on.within; number = on.number; is = on.is; statement = on.statement; stands = on.stands; breaks = h on.statement on.breaks }

-- a count that is the same
on_part : (d : PlainDesign) (limited : Limited) (count other limit : ℕ) (spot : Spot) (place : Place) (name : List ℕ) → count ≡ other → BreaksPart d limited count limit spot place name → BreaksPart d limited other limit spot place name
on_part d limited count other limit spot place name e on = subst (λ n. BreaksPart d limited n limit spot place name) e on

on_tree : (d : PlainDesign) (limited : Limited) (count other limit : ℕ) (spot : Spot) (place : Place) (name : List ℕ) → count ≡ other → BreaksTree d limited count limit spot place name → BreaksTree d limited other limit spot place name
on_tree d limited count other limit spot place name e on = subst (λ n. BreaksTree d limited n limit spot place name) e on

module _ (d : PlainDesign) (flat : IsFlat d) where
  -- NOTHING of static components
  no_bind : {A : Type 0} (rule : AssignRule) (spot : Spot) (place : Place) (name : List ℕ) → OnBind rule d spot place name → A
  no_bind rule spot place name on = nothing (sym (ap (λ vs. slice_get (flat_map (λ (v : PlainInvoke). v.inputs) vs) on.number) (no_invokes d flat spot.component)) ∙ on.stands)
    where
      nothing : {A : Type 0} → (let none : List PlainAssign = [] in slice_get none on.number ≡ Some on.assign) → A
      nothing e = absurd cc

  no_invoke : {A : Type 0} (k n : ℕ) (w : PlainInvoke) → invoke_at (part_of (component_of d k)) n ≡ Some w → A
  no_invoke k n w e = absurd (let none : None ≡ Some w = sym (no_invoke_at (part_of (component_of d k)) (no_invokes_within d flat (length d.components) k) n) ∙ e in cc)

  no_latency : {A : Type 0} (k n : ℕ) → (part_of (component_of d k)).latency ≡ Some n → A
  no_latency k n e = absurd (let none : None ≡ Some n = sym (latency_within d flat (length d.components) k) ∙ e in cc)

  cell_latency : (n : ℕ) (cells : List PlainCell) (c : ℕ) → latency_at (cell_at (cells_for (tree_within d n) cells) c) ≡ None
  cell_latency n [] c = refl
  cell_latency n (x ∷ xs) c = by x.kind c (cell_latency n xs)
    where
      by : (kind : PlainKind) (c : ℕ) → ((e : ℕ) → latency_at (cell_at (cells_for (tree_within d n) xs) e) ≡ None) → latency_at (cell_at (add_cell (tree_within d n) kind (cells_for (tree_within d n) xs)) c) ≡ None
      by (OfPrimitive p) zero h = refl
      by (OfPrimitive p) (suc e) h = h e
      by (OfComponent j) zero h = latency_within d flat n j
      by (OfComponent j) (suc e) h = h e

  pub tree_latency : (n k c : ℕ) → latency_at (cell_at (cells_of (tree_within d n k)) c) ≡ None
  tree_latency zero k c = refl
  tree_latency (suc n) k c = cell_latency n (component_at d k).cells c

  no_static_port : {A : Type 0} (k : ℕ) (p : PortRef) → is_static_port (component_of d k) p ≡ true → A
  no_static_port k (ports.Cell c p) e = absurd (let no : false ≡ true = sym (ap is_some (tree_latency (length d.components) k c)) ∙ e in cc)
  no_static_port k (ports.Input n) e = absurd (let no : false ≡ true = e in cc)
  no_static_port k (ports.Output n) e = absurd (let no : false ≡ true = e in cc)
  no_static_port k (ports.Done g) e = absurd (let no : false ≡ true = e in cc)
  no_static_port k (ports.Literal w v) e = absurd (let no : false ≡ true = e in cc)

  -- LENGTHS
  length_there : (k : ℕ) (v : Visited) (place : Place) (name : List ℕ) → BreaksLength (component_of d k) v place name → shapes.BreaksLength (component_of d k) v place name
  length_there k v place name (static, has, inl (n, written, differs), told) = (static, has, inl (n, written, λ e. differs (e ∙ lasts_within d flat (length d.components) k v.form)), told)
  length_there k v place name (static, has, inr none, told) = (static, has, inr (lasts_within d flat (length d.components) k v.form ∙ none), told)

  length_back : (k : ℕ) (v : Visited) (place : Place) (name : List ℕ) → shapes.BreaksLength (component_of d k) v place name → BreaksLength (component_of d k) v place name
  length_back k v place name (static, has, inl (n, written, differs), told) = (static, has, inl (n, written, λ e. differs (e ∙ sym (lasts_within d flat (length d.components) k v.form))), told)
  length_back k v place name (static, has, inr none, told) = (static, has, inr (sym (lasts_within d flat (length d.components) k v.form) ∙ none), told)

  -- RACES
  shared_there : (k : ℕ) (arms : List PlainStatement) (c : ℕ) → IsShared (part_of (component_of d k)) arms c → race.IsShared (part_of (component_of d k)) arms c
  shared_there k arms c (two, drives, reads) = (two, drives_more (part_of (component_of d k)) two.first c drives, reads_more (part_of (component_of d k)) two.second c reads)

  shared_back : (k : ℕ) (arms : List PlainStatement) (c : ℕ) → race.IsShared (part_of (component_of d k)) arms c → IsShared (part_of (component_of d k)) arms c
  shared_back k arms c (two, drives, reads) =
      let part = part_of (component_of d k) in
      let none = no_invokes_within d flat (length d.components) k in
      (two, sym (drives_all-flat part none two.first c) ∙ drives, reads_all-flat part none two.second c reads)

  race_there : (k : ℕ) (v : Visited) (place : Place) (name : List ℕ) → BreaksRace (component_of d k) v place name → race.BreaksRace (component_of d k) v place name
  race_there k v place name (inl (c, shared, least, told)) = inl (c, shared_there k _ c shared, (λ e l s. least e l (shared_back k _ e s)), told)
  race_there k v place name (inr (none, twice)) = inr ((λ c s. none c (shared_back k _ c s)), twice)

  race_back : (k : ℕ) (v : Visited) (place : Place) (name : List ℕ) → race.BreaksRace (component_of d k) v place name → BreaksRace (component_of d k) v place name
  race_back k v place name (inl (c, shared, least, told)) = inl (c, shared_back k _ c shared, (λ e l s. least e l (shared_there k _ e s)), told)
  race_back k v place name (inr (none, twice)) = inr ((λ c s. none c (shared_there k _ c s)), twice)

  -- LIMITS
  limit-flat : (k : ℕ) (v : Visited) → limit.statement_limit (component_of d k) v ≡ flat_limit (part_of (component_of d k)) v
  limit-flat k v = statement_limit-flat d flat (length d.components) k v ∙ ap (λ part. flat_limit part v) (sym (same_part d (length d.components) k))

  limit_there : (k : ℕ) (v : Visited) (place : Place) (name : List ℕ) → BreaksStatement (component_of d k) v place name → limit.BreaksStatement (component_of d k) v place name
  limit_there k v place name (limited, is, told) = (limited, limit-flat k v ∙ is, told)

  limit_back : (k : ℕ) (v : Visited) (place : Place) (name : List ℕ) → limit.BreaksStatement (component_of d k) v place name → BreaksStatement (component_of d k) v place name
  limit_back k v place name (limited, is, told) = (limited, sym (limit-flat k v) ∙ is, told)

  -- EACH RULE
  pub breaks_whole : (rule : Rule) (spot : Spot) (place : Place) (name : List ℕ) → Breaks d rule spot place name → whole.Breaks d rule spot place name
  breaks_whole rules.Width spot place name b = inl b
  breaks_whole rules.GuardWidth spot place name (inl b) = inl b
  breaks_whole rules.GuardWidth spot place name (inr b) = inr (inl b)
  breaks_whole rules.Literal spot place name (inl b) = inl b
  breaks_whole rules.Literal spot place name (inr b) = inr (inl b)
  breaks_whole rules.NotATarget spot place name b = inl b
  breaks_whole rules.NotASource spot place name (inl b) = inl b
  breaks_whole rules.NotASource spot place name (inr b) = inr (inl b)
  breaks_whole rules.NoDone spot place name b = b
  breaks_whole rules.DoneNotState spot place name b = b
  breaks_whole rules.AlwaysEnable spot place name b = b
  breaks_whole rules.CombEnable spot place name b = b
  breaks_whole rules.StaticGuard spot place name b = b
  breaks_whole rules.StaticShape spot place name (inl b) = inl b
  breaks_whole rules.StaticShape spot place name (inr (inl b)) = inr (inl b)
  breaks_whole rules.StaticShape spot place name (inr (inr (inl b))) = inr (inr (inl (on_statement BreaksLength shapes.BreaksLength d spot place name (λ v h. length_there spot.component v place name h) b)))
  breaks_whole rules.StaticShape spot place name (inr (inr (inr b))) = inr (inr (inr (inl b)))
  breaks_whole rules.CallShape spot place name (inl b) = inl b
  breaks_whole rules.CallShape spot place name (inr b) = inr (inl b)
  breaks_whole rules.OutputNotState spot place name b = inl b
  breaks_whole rules.CombCycle spot place name b = b
  breaks_whole rules.Race spot place name b = on_statement BreaksRace race.BreaksRace d spot place name (λ v h. race_there spot.component v place name h) b
  breaks_whole rules.Limit spot place name (inl b) = inl (on_part d limit.OnCells _ _ _ spot place name (sym (counted_cells-flat d flat (length d.components) spot.component)) b)
  breaks_whole rules.Limit spot place name (inr (inl b)) = inr (inl (on_part d limit.OnGroups _ _ _ spot place name (sym (counted_groups-flat d flat (length d.components) spot.component)) b))
  breaks_whole rules.Limit spot place name (inr (inr (inl b))) = inr (inr (inl (on_statement BreaksStatement limit.BreaksStatement d spot place name (λ v h. limit_there spot.component v place name h) b)))
  breaks_whole rules.Limit spot place name (inr (inr (inr (inl b)))) = inr (inr (inr (inl (on_tree d limit.OnInstances _ _ _ spot place name (sym (counted_instances-flat d flat (length d.components) d.main)) b))))
  breaks_whole rules.Limit spot place name (inr (inr (inr (inr (inl b))))) = inr (inr (inr (inr (inl (on_tree d limit.OnDepth _ _ _ spot place name (sym (counted_depth-flat d flat (length d.components) d.main)) b)))))
  breaks_whole rules.Limit spot place name (inr (inr (inr (inr (inr (inl b)))))) = inr (inr (inr (inr (inr (inl b)))))
  breaks_whole rules.Limit spot place name (inr (inr (inr (inr (inr (inr b)))))) = inr (inr (inr (inr (inr (inr (on_tree d limit.OnWeight _ _ _ spot place name (sym (counted_weight-flat d flat (length d.components) d.main)) b))))))
  breaks_whole rules.BadByte spot place name b = absurd b
  breaks_whole rules.OpenComment spot place name b = absurd b
  breaks_whole rules.OpenString spot place name b = absurd b
  breaks_whole rules.BadLiteral spot place name b = absurd b
  breaks_whole rules.Unexpected spot place name b = absurd b
  breaks_whole rules.TooDeep spot place name b = absurd b
  breaks_whole rules.Duplicate spot place name b = absurd b
  breaks_whole rules.UnknownName spot place name b = absurd b
  breaks_whole rules.UnknownPrimitive spot place name b = absurd b
  breaks_whole rules.BadParameters spot place name b = absurd b
  breaks_whole rules.Recursive spot place name b = absurd b
  breaks_whole rules.NoMain spot place name b = absurd b
  breaks_whole rules.LeftOut spot place name b = absurd b
  breaks_whole rules.TooLarge spot place name b = absurd b

  pub breaks_flat : (rule : Rule) (spot : Spot) (place : Place) (name : List ℕ) → whole.Breaks d rule spot place name → Breaks d rule spot place name
  breaks_flat rules.Width spot place name (inl b) = b
  breaks_flat rules.Width spot place name (inr b) = no_bind _ spot place name b
  breaks_flat rules.GuardWidth spot place name (inl b) = inl b
  breaks_flat rules.GuardWidth spot place name (inr (inl b)) = inr b
  breaks_flat rules.GuardWidth spot place name (inr (inr b)) = no_bind _ spot place name b
  breaks_flat rules.Literal spot place name (inl b) = inl b
  breaks_flat rules.Literal spot place name (inr (inl b)) = inr b
  breaks_flat rules.Literal spot place name (inr (inr b)) = no_bind _ spot place name b
  breaks_flat rules.NotATarget spot place name (inl b) = b
  breaks_flat rules.NotATarget spot place name (inr b) = no_bind _ spot place name b
  breaks_flat rules.NotASource spot place name (inl b) = inl b
  breaks_flat rules.NotASource spot place name (inr (inl b)) = inr b
  breaks_flat rules.NotASource spot place name (inr (inr b)) = no_bind _ spot place name b
  breaks_flat rules.NoDone spot place name b = b
  breaks_flat rules.DoneNotState spot place name b = b
  breaks_flat rules.AlwaysEnable spot place name b = b
  breaks_flat rules.CombEnable spot place name b = b
  breaks_flat rules.StaticGuard spot place name b = b
  breaks_flat rules.StaticShape spot place name (inl b) = inl b
  breaks_flat rules.StaticShape spot place name (inr (inl b)) = inr (inl b)
  breaks_flat rules.StaticShape spot place name (inr (inr (inl b))) = inr (inr (inl (on_statement shapes.BreaksLength BreaksLength d spot place name (λ v h. length_back spot.component v place name h) b)))
  breaks_flat rules.StaticShape spot place name (inr (inr (inr (inl b)))) = inr (inr (inr b))
  breaks_flat rules.StaticShape spot place name (inr (inr (inr (inr (inl b))))) = no_invoke spot.component b.breaks.0 b.breaks.1 b.breaks.3
  breaks_flat rules.StaticShape spot place name (inr (inr (inr (inr (inr b))))) =
      no_latency spot.component b.latency (ap (λ (part : PlainComponent). part.latency) (same_part d (length d.components) spot.component) ∙ b.static)
  breaks_flat rules.CallShape spot place name (inl b) = inl b
  breaks_flat rules.CallShape spot place name (inr (inl b)) = inr b
  breaks_flat rules.CallShape spot place name (inr (inr (inl b))) = no_static_port spot.component b.assign.assign.target b.breaks.0
  breaks_flat rules.CallShape spot place name (inr (inr (inr b))) = no_invoke spot.component b.breaks.0 b.breaks.1 b.breaks.3
  breaks_flat rules.OutputNotState spot place name (inl b) = b
  breaks_flat rules.OutputNotState spot place name (inr b) = no_latency spot.component b.breaks.0 b.breaks.1
  breaks_flat rules.CombCycle spot place name b = b
  breaks_flat rules.Race spot place name b = on_statement race.BreaksRace BreaksRace d spot place name (λ v h. race_back spot.component v place name h) b
  breaks_flat rules.Limit spot place name (inl b) = inl (on_part d limit.OnCells _ _ _ spot place name (counted_cells-flat d flat (length d.components) spot.component) b)
  breaks_flat rules.Limit spot place name (inr (inl b)) = inr (inl (on_part d limit.OnGroups _ _ _ spot place name (counted_groups-flat d flat (length d.components) spot.component) b))
  breaks_flat rules.Limit spot place name (inr (inr (inl b))) = inr (inr (inl (on_statement limit.BreaksStatement BreaksStatement d spot place name (λ v h. limit_back spot.component v place name h) b)))
  breaks_flat rules.Limit spot place name (inr (inr (inr (inl b)))) = inr (inr (inr (inl (on_tree d limit.OnInstances _ _ _ spot place name (counted_instances-flat d flat (length d.components) d.main) b))))
  breaks_flat rules.Limit spot place name (inr (inr (inr (inr (inl b))))) = inr (inr (inr (inr (inl (on_tree d limit.OnDepth _ _ _ spot place name (counted_depth-flat d flat (length d.components) d.main) b)))))
  breaks_flat rules.Limit spot place name (inr (inr (inr (inr (inr (inl b)))))) = inr (inr (inr (inr (inr (inl b)))))
  breaks_flat rules.Limit spot place name (inr (inr (inr (inr (inr (inr b)))))) = inr (inr (inr (inr (inr (inr (on_tree d limit.OnWeight _ _ _ spot place name (counted_weight-flat d flat (length d.components) d.main) b))))))
  breaks_flat rules.BadByte spot place name b = absurd b
  breaks_flat rules.OpenComment spot place name b = absurd b
  breaks_flat rules.OpenString spot place name b = absurd b
  breaks_flat rules.BadLiteral spot place name b = absurd b
  breaks_flat rules.Unexpected spot place name b = absurd b
  breaks_flat rules.TooDeep spot place name b = absurd b
  breaks_flat rules.Duplicate spot place name b = absurd b
  breaks_flat rules.UnknownName spot place name b = absurd b
  breaks_flat rules.UnknownPrimitive spot place name b = absurd b
  breaks_flat rules.BadParameters spot place name b = absurd b
  breaks_flat rules.Recursive spot place name b = absurd b
  breaks_flat rules.NoMain spot place name b = absurd b
  breaks_flat rules.LeftOut spot place name b = absurd b
  breaks_flat rules.TooLarge spot place name b = absurd b

  pub stage_flat : (stage : ℕ) → whole.KeepsStage stage d → KeepsStage stage d
  stage_flat stage keeps rule spot place name at b = keeps rule spot place name at (breaks_whole rule spot place name b)

  pub stage_whole : (stage : ℕ) → KeepsStage stage d → whole.KeepsStage stage d
  stage_whole stage keeps rule spot place name at b = keeps rule spot place name at (breaks_flat rule spot place name b)

  -- ACCEPTED, either way
  pub accepted_flat : whole.IsAccepted d → IsAccepted d
  accepted_flat accepted = record {
    flat = flat;
    accepted = accepted;
    widths = stage_flat 3 accepted.widths;
    shapes = stage_flat 4 accepted.shapes;
    no_cycles = stage_flat 5 accepted.no_cycles;
    no_races = stage_flat 6 accepted.no_races;
    limits = stage_flat 7 accepted.limits;
  }

  pub accepted_whole : KeepsStage 3 d → KeepsStage 4 d → KeepsStage 5 d → KeepsStage 6 d → KeepsStage 7 d → whole.IsAccepted d
  accepted_whole widths shapes no_cycles no_races limits = record {
    widths = stage_whole 3 widths;
    shapes = stage_whole 4 shapes;
    no_cycles = stage_whole 5 no_cycles;
    no_races = stage_whole 6 no_races;
    limits = stage_whole 7 limits;
  }
