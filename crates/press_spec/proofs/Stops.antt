-- A record stops the judging for exactly the first reason that applies to it.
use Rattle.std.proofs.Common.{Err, Ok}
use Prim.Native.Nat.{ℕ}
use mathlib.Core.Path.{◌≡◌, refl, sym, ap, ◌∙◌}
use mathlib.Core.Bool.{Bool, true, false, not, ◌&&◌, ◌||◌, cond, false≢true}
use mathlib.Core.List.{List, map}
use native.Mathlib.Omega.{arith}
use native.Mathlib.Decide.{ℕ_discrete}
use lib.Dec.{eqb, ltb}
use lib.ListN.{length}
use borrow.Author.Tests.{eq-eqb, ne_eqb}
use Rattle.clause.specs.Clauses.{Literals, plus, minus, holds, inside, resolvent}
use Rattle.sheet.specs.declared.Reason.{Reason}
use Rattle.sheet.specs.declared.Reason.TheVariants.{Kind, NotZero, Pivot, NotEarlier, Dropped, PivotMissing, LiteralMissing, LiteralTooMany, Full}
use Rattle.sheet.specs.declared.edition.Edition.{Edition}
use Rattle.sheet.specs.Editions.{variables}
use Rattle.sheet.specs.Reasons.{Verdict, unless, and_then}
use Rattle.sheet.specs.Records.{Node, given, step, node, reads, unread, clause, node_at}
use Rattle.sheet.specs.Fields.{Fields, fields_of, when_zero, read_given, read_step, read_drop, read_fields, reading}
use Rattle.sheet.specs.Checks.{check_earlier, check_result, check_step, check_one_way, check_given}
use Rattle.sheet.specs.Refusals.{Place, Applies, RefusedFor}
use Rattle.sheet.proofs.Refused.{chain, Tells}
use Rattle.sheet.proofs.Applied.{never, given_tests, given-tried, step_tests, step-tried, other-tried}
use Rattle.press_spec.specs.Judge.{check_node, Turn, stops, by_verdict, by_reading, turn}
use Rattle.press_spec.specs.Refused.{place_after}
use Rattle.press_spec.proofs.Accepts.{nodes-alone, record-alone}

verdict-stops : (n : Node) (v : Verdict) (why : Reason) → by_verdict n v ≡ stops why → v ≡ Err why
unfolding by_verdict
verdict-stops n (Ok tt) why q = cc
verdict-stops n (Err r) why q = cc

stops-verdict : (n : Node) (v : Verdict) (why : Reason) → v ≡ Err why → by_verdict n v ≡ stops why
unfolding by_verdict
stops-verdict n v why q = rw q

-- the two looks at earlier nodes are one test; nothing is dropped, and no slot is needed
module _ (a b x y z : Bool) where
  abbrev looks : Verdict
  looks =
      and_then (unless a NotEarlier (Ok tt))
      (and_then (unless b NotEarlier (Ok tt)) (unless x PivotMissing (unless y LiteralMissing (unless z LiteralTooMany (Ok tt)))))

looks-once : (a b x y z : Bool)
    → looks a b x y z ≡ unless (a && b) NotEarlier (unless x PivotMissing (unless y LiteralMissing (unless (not y || z) LiteralTooMany (Ok tt))))
unfolding and_then unless
looks-once true true x true z = refl
looks-once true true x false z = refl
looks-once true false x y z = refl
looks-once false b x y z = refl

module _ (e : Edition) (rules : List ℕ) (s : List Node) (f : Fields) where
  abbrev place : Place
  place = place_after e rules (map node s)

  abbrev stopped : Turn
  stopped = by_reading e rules s (read_fields e false f)

  zero-first : (n : Node) (z : Bool) → by_reading e rules s (when_zero z (reads (node n))) ≡ by_verdict n (unless z NotZero (check_node e rules s n))
  unfolding when_zero by_reading by_verdict unless
  zero-first n true = refl
  zero-first n false = refl

  pivot-next : (n : Node) (z v : Bool) → by_reading e rules s (when_zero z (cond v (reads (node n)) (unread Pivot)))
      ≡ by_verdict n (unless z NotZero (unless v Pivot (check_node e rules s n)))
  unfolding when_zero by_reading by_verdict unless
  pivot-next n true true = refl
  pivot-next n true false = refl
  pivot-next n false v = refl

  abbrev given_here : Node
  given_here = given f.line f.clause

  given-chain : f.kind ≡ 1 → stopped ≡ by_verdict given_here (chain (given_tests place f true))
  unfolding read_fields read_given chain unless check_node check_given check_one_way
  given-chain k = rw (eq-eqb f.kind 1 k) (zero-first given_here _)

  abbrev step_here : Node
  step_here = step f.pivot f.left f.right f.clause

  abbrev left : Literals
  left = clause (node_at s f.left)

  abbrev right : Literals
  right = clause (node_at s f.right)

  abbrev lacks_none : Bool
  lacks_none = inside (resolvent f.pivot left right) f.clause

  step-checks : check_node e rules s step_here
      ≡ unless (ltb f.left (length s) && ltb f.right (length s)) NotEarlier
      (unless (holds (plus f.pivot) left && holds (minus f.pivot) right) PivotMissing
      (unless lacks_none LiteralMissing
      (unless (not lacks_none || inside f.clause (resolvent f.pivot left right)) LiteralTooMany (Ok tt))))
  unfolding check_node check_earlier check_step check_result
  step-checks = looks-once _ _ _ _ _

  step-chain : f.kind ≡ 2 → stopped ≡ by_verdict step_here (chain (step_tests place f true true))
  unfolding read_fields read_step chain unless
  step-chain k =
      rw (ne_eqb f.kind 1 (λ i. omega arith), eq-eqb f.kind 2 k, nodes-alone s)
      (pivot-next step_here (eqb f.line 0) (ltb f.pivot (variables e))
      ∙ ap (λ (v : Verdict). by_verdict step_here (unless (eqb f.line 0) NotZero (unless (ltb f.pivot (variables e)) Pivot v))) step-checks)

  not_three : (t : Bool) → by_reading e rules s (cond (t && false) (read_drop f) (unread Kind)) ≡ stops Kind
  unfolding by_reading
  not_three true = refl
  not_three false = refl

  other-stops : (f.kind ≡ 1 → ⊥) → (f.kind ≡ 2 → ⊥) → stopped ≡ stops Kind
  unfolding read_fields
  other-stops a b = rw (ne_eqb f.kind 1 a, ne_eqb f.kind 2 b) (not_three (eqb f.kind 3))

  undropped : Applies place f Dropped → ⊥
  undropped a = let y = record-alone s a.2 in let z : ◌≡◌ {A = ℕ} 0 1 = cc in omega arith

  unslotted : Tells (Applies place f) true Full
  unslotted = never (Applies place f) Full (λ a. a.1)

  -- ---- by the kind

  abbrev Stops : Reason → Type 0
  Stops why = (stopped ≡ stops why → RefusedFor place f why) × (RefusedFor place f why → stopped ≡ stops why)

  given-stops : (why : Reason) → f.kind ≡ 1 → Stops why
  given-stops why k =
      let y = given-tried place f why k true unslotted in (
        λ q. y.0 (verdict-stops given_here _ why (sym (given-chain k) ∙ q)),
        λ r. given-chain k ∙ stops-verdict given_here _ why (y.1 r),
      )

  step-stops : (why : Reason) → f.kind ≡ 2 → Stops why
  step-stops why k =
      let y = step-tried place f why k true true (never (Applies place f) Dropped undropped) unslotted in (
        λ q. y.0 (verdict-stops step_here _ why (sym (step-chain k) ∙ q)),
        λ r. step-chain k ∙ stops-verdict step_here _ why (y.1 r),
      )

  unknown-stops : (why : Reason) → (f.kind ≡ 1 → ⊥) → (f.kind ≡ 2 → ⊥) → Stops why
  unknown-stops why a b =
      let y = other-tried place f why (a, b, λ d. absurd (false≢true d)) in
      let x = other-stops a b in
      (λ q. y.0 (cc), λ r. x ∙ ap stops (sym (y.1 r)))

  fields-stop : (why : Reason) → Stops why
  fields-stop why = elim (ℕ_discrete f.kind 1) [
    | yes k ↦ given-stops why k
    | no a ↦ elim (ℕ_discrete f.kind 2) [ yes k ↦ step-stops why k | no b ↦ unknown-stops why a b ]
  ]

-- ---- of the bytes of a record

module _ (e : Edition) (rules : List ℕ) (s : List Node) (b : List ℕ) (why : Reason) where
  pub turn-stops : turn e rules b s ≡ stops why → RefusedFor (place_after e rules (map node s)) (fields_of e b) why
  unfolding turn reading
  turn-stops = (fields-stop e rules s (fields_of e b) why).0

  pub stops-turn : RefusedFor (place_after e rules (map node s)) (fields_of e b) why → turn e rules b s ≡ stops why
  unfolding turn reading
  stops-turn = (fields-stop e rules s (fields_of e b) why).1
