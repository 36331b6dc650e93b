-- A record stops the replay for exactly the first reason that applies to it.
use Rattle.std.proofs.Common.{Err, Ok}
use Prim.Native.Nat.{ℕ, zero, suc, ◌<◌}
use mathlib.Core.Path.{◌≡◌, refl, sym, ap, ◌∙◌}
use mathlib.Core.Bool.{Bool, true, false, not, ◌&&◌, ◌||◌, cond, true≢false}
use mathlib.Core.Logic.{◌⊎◌, inl, inr}
use mathlib.Core.List.{List, [], ◌∷◌}
use native.Mathlib.Omega.{arith}
use native.Mathlib.Decide.{ℕ_discrete}
use lib.Dec.{eqb, ltb}
use lib.ListN.{length}
use borrow.Author.Tests.{eq-eqb, ne_eqb, ltb-true, ltb-false, lt-ltb}
use Rattle.clause.specs.Clauses.{Literals, plus, minus, holds, inside, both_ways, alike, resolvent}
use Rattle.sheet.specs.declared.Reason.{Reason}
use Rattle.sheet.specs.declared.Reason.TheVariants.{Kind, NotZero, Pivot, NotEarlier, Dropped, PivotMissing, LiteralMissing, LiteralTooMany, NoLine, LineDiffers, SaysNothing, Full}
use Rattle.sheet.specs.declared.edition.Edition.{Edition}
use Rattle.sheet.specs.Editions.{variables}
use Rattle.sheet.specs.Reasons.{Verdict, unless, and_then}
use Rattle.sheet.specs.Records.{given, step, Record, node, drop, reads, unread}
use Rattle.sheet.specs.Fields.{Fields, fields_of, when_zero, read_given, read_step, read_drop, read_fields, reading, rule_lines, rule_line}
use Rattle.sheet.specs.Checks.{check_earlier, check_result, check_step, check_one_way, check_given}
use Rattle.sheet.specs.Counts.{nodes_of}
use Rattle.sheet.specs.Proper.{record_in, clause_in}
use Rattle.sheet.specs.Refusals.{Place, Names, Applies, RefusedFor}
use Rattle.sheet.proofs.Refused.{chain, Tells, and-false, and-true}
use Rattle.sheet.proofs.Applied.{given_tests, given-tried, step_tests, step-tried, drop_tests, drop-tried, other-tried}
use Rattle.replay_spec.specs.Slots.{held, room}
use Rattle.replay_spec.specs.Step.{State, check_held, check_room, first_of, check_record, after, Turn, stops, by_verdict, by_reading, turn}
use Rattle.replay_spec.specs.Refused.{place_after}
use Rattle.replay_spec.proofs.Slots.{in_use-le}
use Rattle.replay_spec.proofs.Mirrors.{Mirrors, numbered, counts, room-counted}

verdict-stops : (v : Verdict) (s : State) (why : Reason) → by_verdict v s ≡ stops why → v ≡ Err why
unfolding by_verdict
verdict-stops (Ok tt) s why q = cc
verdict-stops (Err r) s why q = cc

stops-verdict : (v : Verdict) (s : State) (why : Reason) → v ≡ Err why → by_verdict v s ≡ stops why
unfolding by_verdict
stops-verdict v s why q = rw q

-- ---- the checks of a record as one chain

given-once : (a b c r : Bool)
    → first_of (unless a NoLine (unless b LineDiffers (unless c SaysNothing (Ok tt))) ∷ unless r Full (Ok tt) ∷ [])
    ≡ unless a NoLine (unless b LineDiffers (unless c SaysNothing (unless r Full (Ok tt))))
unfolding first_of and_then unless
given-once true true true true = refl
given-once true true true false = refl
given-once true true false r = refl
given-once true false c r = refl
given-once false b c r = refl

-- a node counts as kept where it is not earlier: then 9 comes before 10
abbrev kept : Bool → Bool → Bool
kept held earlier = held || not earlier

resolved-once : (x y z r : Bool)
    → and_then (unless x PivotMissing (unless y LiteralMissing (unless z LiteralTooMany (Ok tt)))) (and_then (unless r Full (Ok tt)) (Ok tt))
    ≡ unless x PivotMissing (unless y LiteralMissing (unless (not y || z) LiteralTooMany (unless r Full (Ok tt))))
unfolding and_then unless
resolved-once true true true true = refl
resolved-once true true true false = refl
resolved-once true true false r = refl
resolved-once true false z r = refl
resolved-once false y z r = refl

-- l and r are earlier (a, b), held (c, d); the clauses that are held are the parents'
module _ (r x y z x' y' z' : Bool) where
  step-once : (a b c d : Bool) → (c ≡ true → d ≡ true → (x ≡ x') × (y ≡ y') × (z ≡ z'))
      → first_of
      (unless a NotEarlier (Ok tt)
      ∷ unless b NotEarlier (Ok tt)
      ∷ unless c Dropped (Ok tt)
      ∷ unless d Dropped (Ok tt)
      ∷ unless x PivotMissing (unless y LiteralMissing (unless z LiteralTooMany (Ok tt)))
      ∷ unless r Full (Ok tt)
      ∷ [])
      ≡ unless (a && b) NotEarlier
      (unless (kept c a && kept d b) Dropped (unless x' PivotMissing
      (unless y' LiteralMissing (unless (not y' || z') LiteralTooMany (unless r Full (Ok tt))))))
  unfolding first_of and_then unless
  step-once false b c d f = refl
  step-once true false c d f = refl
  step-once true true false d f = refl
  step-once true true true false f = refl
  step-once true true true true f = let same = f refl refl in rw (same.0, same.1, same.2) (resolved-once x' y' z' r)

drop-once : (a c : Bool) → first_of (unless a NotEarlier (Ok tt) ∷ unless c Dropped (Ok tt) ∷ []) ≡ unless a NotEarlier (unless (kept c a) Dropped (Ok tt))
unfolding first_of and_then unless
drop-once true true = refl
drop-once true false = refl
drop-once false c = refl

-- ---- a node was dropped, or was not

abbrev DroppedIn : List Record → ℕ → Type 0
DroppedIn rs n = (k : ℕ) × (k < length rs) × (record_in rs k ≡ drop n)

dropped-later : (r : Record) (rs : List Record) (n : ℕ) → DroppedIn rs n → DroppedIn (r ∷ rs) n
dropped-later r rs n (k, h, q) = (suc k, omega arith, q)

undropped-later : (r : Record) (rs : List Record) (n : ℕ) → (r ≡ drop n → ⊥) → (DroppedIn rs n → ⊥) → DroppedIn (r ∷ rs) n → ⊥
undropped-later r rs n first rest (zero, h, q) = first q
undropped-later r rs n first rest (suc k, h, q) = rest (k, omega arith, q)

dropped? : (rs : List Record) (n : ℕ) → DroppedIn rs n ⊎ (DroppedIn rs n → ⊥)
dropped? [] n = inr (λ d. omega (arith, d.1))
dropped? (node x ∷ rs) n = elim (dropped? rs n) [
  | inl d ↦ inl (dropped-later (node x) rs n d)
  | inr d ↦ inr (undropped-later (node x) rs n (λ q. let z : ◌≡◌ {A = ℕ} 0 1 = cc in omega arith) d)
]
dropped? (drop m ∷ rs) n = elim (ℕ_discrete m n) [
  | yes q ↦ inl (0, omega arith, ap drop q)
  | no q ↦ elim (dropped? rs n) [
    | inl d ↦ inl (dropped-later (drop m) rs n d)
    | inr d ↦ inr (undropped-later (drop m) rs n (λ z. q (cc)) d)
  ]
]

-- ---- what the slots tell

module _ (e : Edition) (rules : List ℕ) (rs : List Record) (s : State) (m : Mirrors rs s) (f : Fields) where
  abbrev place : Place
  place = place_after e rules (length s.slots) rs

  abbrev A : Reason → Type 0
  A = Applies place f

  abbrev next : ℕ
  next = length (nodes_of rs)

  -- in the slots, or not one of the nodes
  abbrev keeps : ℕ → Bool
  keeps n = kept (held n s.slots) (ltb n next)

  lost-dropped : (n : ℕ) → keeps n ≡ false → DroppedIn rs n
  lost-dropped n = by_tests (held n s.slots) (ltb n next) refl refl
    where
      by_tests : (a b : Bool) → held n s.slots ≡ a → ltb n next ≡ b → kept a b ≡ false → DroppedIn rs n
      by_tests true b p q z = absurd (true≢false z)
      by_tests false false p q z = absurd (true≢false z)
      by_tests false true p q z = elim (dropped? rs n) [
        | inl d ↦ d
        | inr d ↦ absurd (true≢false (sym (m.all n (ltb-true n next q, λ k h i. d (k, h, i))) ∙ p))
      ]

  kept-undropped : (n : ℕ) → keeps n ≡ true → DroppedIn rs n → ⊥
  kept-undropped n z (k, h, i) = by-test (held n s.slots) refl z
    where
      by-test : (a : Bool) → held n s.slots ≡ a → kept a (ltb n next) ≡ true → ⊥
      by-test true p w = (m.only n p).1 k h i
      by-test false p w = let l = m.earlier k h n i in let o = lt-ltb n next l in true≢false (sym w ∙ ap not o)

  applies : (n : ℕ) → Names f n → DroppedIn rs n → A Dropped
  applies n named d = (n, named, d.0, d.1, d.2)

  step_kept : f.kind ≡ 2 → Tells A (keeps f.left && keeps f.right) Dropped
  step_kept k = (
    λ q. elim (and-false (keeps f.left) (keeps f.right) q) [
      | inl x ↦ applies f.left (inl (k, inl refl)) (lost-dropped f.left x)
      | inr x ↦ applies f.right (inl (k, inr refl)) (lost-dropped f.right x)
    ],
    λ q (n, named, at, h, i).
        let d : DroppedIn rs n = (at, h, i) in
        let x = and-true (keeps f.left) (keeps f.right) q in
        elim named [
          | inl y ↦ elim y.1 [ inl z ↦ kept-undropped f.left x.0 (rw z at d) | inr z ↦ kept-undropped f.right x.1 (rw z at d) ]
          | inr y ↦ omega (arith, y.0)
        ],
  )

  drop-kept : f.kind ≡ 3 → Tells A (keeps f.left) Dropped
  drop-kept k = (
    λ q. applies f.left (inr (k, refl)) (lost-dropped f.left q),
    λ q (n, named, at, h, i).
        let d : DroppedIn rs n = (at, h, i) in
        elim named [ inl y ↦ omega (arith, y.0) | inr y ↦ kept-undropped f.left q (rw y.1 at d) ],
  )

  full-tells : (f.kind ≡ 1) ⊎ (f.kind ≡ 2) → Tells A (room s.slots) Full
  full-tells k = (
    λ q. (k, omega (arith, counts m, m.used, in_use-le s.slots, ltb-false s.tally.held (length s.slots) (sym (room-counted rs s m) ∙ q))),
    λ q a. omega (arith, counts m, a.1, ltb-true s.tally.held (length s.slots) (sym (room-counted rs s m) ∙ q)),
  )

  -- ---- the turn is the chain of the tests

  abbrev here : Turn
  here = by_reading e rules s (read_fields e true f)

  zero-first : (r : Record) (z : Bool) → by_reading e rules s (when_zero z (reads r)) ≡ by_verdict (unless z NotZero (check_record e rules s r)) (after s r)
  unfolding when_zero by_reading by_verdict unless
  zero-first r true = refl
  zero-first r false = refl

  pivot-next : (r : Record) (z v : Bool) → by_reading e rules s (when_zero z (cond v (reads r) (unread Pivot)))
      ≡ by_verdict (unless z NotZero (unless v Pivot (check_record e rules s r))) (after s r)
  unfolding when_zero by_reading by_verdict unless
  pivot-next r true true = refl
  pivot-next r true false = refl
  pivot-next r false v = refl

  abbrev given_here : Record
  given_here = node (given f.line f.clause)

  given-chain : f.kind ≡ 1 → here ≡ by_verdict (chain (given_tests place f (room s.slots))) (after s given_here)
  unfolding read_fields read_given chain unless check_record check_given check_one_way check_room
  given-chain k =
      rw (eq-eqb f.kind 1 k)
      (zero-first given_here (eqb f.pivot 0 && eqb f.left 0 && eqb f.right 0)
      ∙ ap (λ (v : Verdict). by_verdict (unless (eqb f.pivot 0 && eqb f.left 0 && eqb f.right 0) NotZero v) (after s given_here))
      (given-once (ltb f.line (rule_lines e rules)) (alike f.clause (rule_line e rules f.line)) (not (both_ways f.clause)) (room s.slots)))

  abbrev step_here : Record
  step_here = node (step f.pivot f.left f.right f.clause)

  abbrev pivoted : Literals → Literals → Bool
  pivoted l r = holds (plus f.pivot) l && holds (minus f.pivot) r

  abbrev lacks_none : Literals → Literals → Bool
  lacks_none l r = inside (resolvent f.pivot l r) f.clause

  abbrev has_no_more : Literals → Literals → Bool
  has_no_more l r = inside f.clause (resolvent f.pivot l r)

  abbrev left : Literals
  left = clause_in rs f.left

  abbrev right : Literals
  right = clause_in rs f.right

  step-checks : check_record e rules s step_here
      ≡ unless (ltb f.left next && ltb f.right next) NotEarlier
      (unless (keeps f.left && keeps f.right) Dropped
      (unless (pivoted left right) PivotMissing
      (unless (lacks_none left right) LiteralMissing
      (unless (not (lacks_none left right) || has_no_more left right) LiteralTooMany (unless (room s.slots) Full (Ok tt))))))
  unfolding check_record check_earlier check_held check_step check_result check_room
  step-checks = rw (numbered m) (step-once (room s.slots) _ _ _ (pivoted left right) (lacks_none left right) (has_no_more left right) (ltb f.left next) (ltb f.right next)
      (held f.left s.slots) (held f.right s.slots)
      (λ p q. let l = m.clauses f.left (m.only f.left p) in let r = m.clauses f.right (m.only f.right q) in
      (rw (l, r), rw (l, r), rw (l, r))))

  step-chain : f.kind ≡ 2
      → here ≡ by_verdict (chain (step_tests place f (keeps f.left && keeps f.right) (room s.slots))) (after s step_here)
  unfolding read_fields read_step chain unless
  step-chain k =
      rw (ne_eqb f.kind 1 (λ i. omega arith), eq-eqb f.kind 2 k)
      (pivot-next step_here (eqb f.line 0) (ltb f.pivot (variables e))
      ∙ ap (λ (v : Verdict). by_verdict (unless (eqb f.line 0) NotZero (unless (ltb f.pivot (variables e)) Pivot v)) (after s step_here)) step-checks)

  abbrev drop_here : Record
  drop_here = drop f.left

  abbrev zeros : Bool
  zeros = eqb f.pivot 0 && eqb f.right 0 && eqb f.line 0 && eqb f.clause.positive 0 && eqb f.clause.negative 0

  drop-checks : check_record e rules s drop_here ≡ unless (ltb f.left next) NotEarlier (unless (keeps f.left) Dropped (Ok tt))
  unfolding check_record check_earlier check_held
  drop-checks = rw (numbered m) (drop-once (ltb f.left next) (held f.left s.slots))

  drop-chain : f.kind ≡ 3 → here ≡ by_verdict (chain (drop_tests place f (keeps f.left))) (after s drop_here)
  unfolding read_fields read_drop chain unless
  drop-chain k =
      rw (ne_eqb f.kind 1 (λ i. omega arith), ne_eqb f.kind 2 (λ i. omega arith), eq-eqb f.kind 3 k)
      (zero-first drop_here zeros ∙ ap (λ (v : Verdict). by_verdict (unless zeros NotZero v) (after s drop_here)) drop-checks)

  other-stops : (f.kind ≡ 1 → ⊥) → (f.kind ≡ 2 → ⊥) → (f.kind ≡ 3 → ⊥) → here ≡ stops Kind
  unfolding read_fields by_reading
  other-stops a b c = rw (ne_eqb f.kind 1 a, ne_eqb f.kind 2 b, ne_eqb f.kind 3 c)

  -- ---- by the kind

  abbrev Stops : Reason → Type 0
  Stops why = (here ≡ stops why → RefusedFor place f why) × (RefusedFor place f why → here ≡ stops why)

  -- a turn that goes by a chain stops as the chain refuses
  by_chain : (why : Reason) (v : Verdict) (t : State) → here ≡ by_verdict v t
      → (v ≡ Err why → RefusedFor place f why) × (RefusedFor place f why → v ≡ Err why) → Stops why
  by_chain why v t is y = (λ q. y.0 (verdict-stops v t why (sym is ∙ q)), λ r. is ∙ stops-verdict v t why (y.1 r))

  given-stops : (why : Reason) → f.kind ≡ 1 → Stops why
  given-stops why k = by_chain why _ _ (given-chain k) (given-tried place f why k (room s.slots) (full-tells (inl k)))

  step-stops : (why : Reason) → f.kind ≡ 2 → Stops why
  step-stops why k =
      by_chain why _ _ (step-chain k) (step-tried place f why k _ (room s.slots) (step_kept k) (full-tells (inr k)))

  drop-stops : (why : Reason) → f.kind ≡ 3 → Stops why
  drop-stops why k = by_chain why _ _ (drop-chain k) (drop-tried place f why k refl (keeps f.left) (drop-kept k))

  unknown-stops : (why : Reason) → (f.kind ≡ 1 → ⊥) → (f.kind ≡ 2 → ⊥) → (f.kind ≡ 3 → ⊥) → Stops why
  unknown-stops why a b c =
      let y = other-tried place f why (a, b, λ d. c) in
      let x = other-stops a b c in
      (λ q. y.0 (cc), λ r. x ∙ ap stops (sym (y.1 r)))

  fields-stop : (why : Reason) → Stops why
  fields-stop why = elim (ℕ_discrete f.kind 1) [
    | yes k ↦ given-stops why k
    | no a ↦ elim (ℕ_discrete f.kind 2) [
      | yes k ↦ step-stops why k
      | no b ↦ elim (ℕ_discrete f.kind 3) [ yes k ↦ drop-stops why k | no c ↦ unknown-stops why a b c ]
    ]
  ]

-- ---- of the bytes of a record

module _ (e : Edition) (rules : List ℕ) (rs : List Record) (s : State) (m : Mirrors rs s) (b : List ℕ) (why : Reason) where
  pub turn-refused : turn e rules b s ≡ stops why → RefusedFor (place_after e rules (length s.slots) rs) (fields_of e b) why
  unfolding turn reading
  turn-refused = (fields-stop e rules rs s m (fields_of e b) why).0

  pub refused-turn : RefusedFor (place_after e rules (length s.slots) rs) (fields_of e b) why → turn e rules b s ≡ stops why
  unfolding turn reading
  refused-turn = (fields-stop e rules rs s m (fields_of e b) why).1
