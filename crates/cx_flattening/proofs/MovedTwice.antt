-- Assignments that are moved twice are moved by both maps; and by the map that leaves ports as they are nothing is moved.
use Rattle.std.proofs.Common.{◌≡◌, List, [], ◌∷◌, map, refl, ap, ◌∙◌}
use Rattle.cx_meaning.specs.declared.ports.PortRef.{PortRef}
use Rattle.cx_meaning.specs.Designs.{PlainGuard, Always, Atom, Negation, All, Any, Compared, Within, PlainGuards, no_guards, a_guard, PlainAssign}
use Rattle.cx_meaning.specs.Active.{Acting}
use Rattle.cx_rewrites.specs.Moving.{moved_guard, moved_guards, moved_assign, moved_acting}

module _ (f g : PortRef → PortRef) where
  mutual
    guard_twice : (x : PlainGuard) → moved_guard f (moved_guard g x) ≡ moved_guard (λ q. f (g q)) x
    guard_twice Always = refl
    guard_twice (Atom p) = refl
    guard_twice (Negation x) = ap Negation (guard_twice x)
    guard_twice (All xs) = ap All (guards_twice xs)
    guard_twice (Any xs) = ap Any (guards_twice xs)
    guard_twice (Compared c a b) = refl
    guard_twice (Within from to) = refl

    guards_twice : (xs : PlainGuards) → moved_guards f (moved_guards g xs) ≡ moved_guards (λ q. f (g q)) xs
    guards_twice no_guards = refl
    guards_twice (a_guard x xs) = ap (λ y. a_guard y (moved_guards f (moved_guards g xs))) (guard_twice x) ∙ ap (a_guard (moved_guard (λ q. f (g q)) x)) (guards_twice xs)

  pub assign_twice : (a : PlainAssign) → moved_assign f (moved_assign g a) ≡ moved_assign (λ q. f (g q)) a
  assign_twice a =
      ap (λ x. record { target = f (g a.target); guard = x; source = record { port = f (g a.source.port); place = a.source.place }; place = a.place }) (guard_twice a.guard)

  acting_twice : (a : Acting) → moved_acting f (moved_acting g a) ≡ moved_acting (λ q. f (g q)) a
  acting_twice a =
      ap (λ x. record { offset = a.offset; assign = record { target = f (g a.assign.target); guard = x; source = record { port = f (g a.assign.source.port); place = a.assign.source.place }; place = a.assign.place } })
      (guard_twice a.assign.guard)

  pub moved_twice : (list : List Acting) → map (moved_acting f) (map (moved_acting g) list) ≡ map (moved_acting (λ q. f (g q))) list
  moved_twice [] = refl
  moved_twice (a ∷ rest) = ap (λ x. x ∷ map (moved_acting f) (map (moved_acting g) rest)) (acting_twice a) ∙ ap (λ l. moved_acting (λ q. f (g q)) a ∷ l) (moved_twice rest)

mutual
  guard_still : (x : PlainGuard) → moved_guard (λ q. q) x ≡ x
  guard_still Always = refl
  guard_still (Atom p) = refl
  guard_still (Negation x) = ap Negation (guard_still x)
  guard_still (All xs) = ap All (guards_still xs)
  guard_still (Any xs) = ap Any (guards_still xs)
  guard_still (Compared c a b) = refl
  guard_still (Within from to) = refl

  guards_still : (xs : PlainGuards) → moved_guards (λ q. q) xs ≡ xs
  guards_still no_guards = refl
  guards_still (a_guard x xs) = ap (λ y. a_guard y (moved_guards (λ q. q) xs)) (guard_still x) ∙ ap (a_guard x) (guards_still xs)

pub moved_still : (list : List Acting) → map (moved_acting (λ q. q)) list ≡ list
moved_still [] = refl
moved_still (a ∷ rest) =
    ap (λ x. record { offset = a.offset; assign = record { target = a.assign.target; guard = x; source = a.assign.source; place = a.assign.place } } ∷ map (moved_acting (λ q. q)) rest) (guard_still a.assign.guard)
    ∙ ap (λ l. a ∷ l) (moved_still rest)

pub assign_still : (a : PlainAssign) → moved_assign (λ q. q) a ≡ a
assign_still a = ap (λ x. record { target = a.target; guard = x; source = a.source; place = a.place }) (guard_still a.guard)
