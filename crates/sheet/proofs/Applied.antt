-- The tests of a record of each kind, in the order in which they are tried: each fails exactly when its reason applies.
use Rattle.std.proofs.Common.{Err}
use Prim.Native.Nat.{ℕ, ◌<◌}
use mathlib.Core.Path.{◌≡◌, refl, sym, ap, ap₂, ◌∙◌}
use mathlib.Core.Bool.{Bool, true, false, not, ◌&&◌, ◌||◌, true≢false}
use mathlib.Core.Logic.{◌⊎◌, inl, inr}
use mathlib.Core.List.{List, [], ◌∷◌}
use native.Mathlib.Omega.{arith}
use lib.Dec.{eqb, ltb}
use lib.ListN.{length}
use borrow.Author.Tests.{eqb-true, eq-eqb, ltb-true, ltb-false, lt-ltb, not-true, not-false}
use Rattle.clause.specs.Clauses.{Literals, literals, plus, minus, holds, Within, inside, both_ways, alike}
use Rattle.clause.proofs.Clauses.{alike_same, alike_self, inside_of, inside-holds, inside-same, both-ways-meets, meets-both-ways}
use Rattle.sheet.specs.declared.Reason.{Reason}
use Rattle.sheet.specs.declared.Reason.TheVariants.{Kind, NotZero, Pivot, NotEarlier, Dropped, PivotMissing, LiteralMissing, LiteralTooMany, NoLine, LineDiffers, SaysNothing, Full}
use Rattle.sheet.specs.Editions.{variables}
use Rattle.sheet.specs.Fields.{Fields, rule_lines, rule_line}
use Rattle.sheet.specs.Counts.{nodes_of}
use Rattle.sheet.specs.Proper.{clause_in}
use Rattle.sheet.specs.Refusals.{Place, Names, result_of, Applies, RefusedFor, OneIsWrong}
use Rattle.sheet.proofs.Refused.{Test, test, chain, Tells, TellAll, refused-first, first-refused, and-false, and-true}

-- ---- a test that is passed exactly when something holds

abbrev Decides : Bool → Type 0 → Type 0
Decides b P = (b ≡ true → P) × (P → b ≡ true)

zero? : (a : ℕ) → Decides (eqb a 0) (a ≡ 0)
zero? a = (eqb-true a 0, eq-eqb a 0)

below? : (a b : ℕ) → Decides (ltb a b) (a < b)
below? a b = (ltb-true a b, lt-ltb a b)

alike? : (a b : Literals) → Decides (alike a b) (a ≡ b)
alike? a b = (alike_same a b, λ q. rw q (alike_self b))

within? : (a b : Literals) → Decides (inside a b) (Within a b)
within? a b = (inside-holds a b, inside_of a b)

itself : (b : Bool) → Decides b (b ≡ true)
itself b = (λ q. q, λ q. q)

both : (a b : Bool) (P Q : Type 0) → Decides a P → Decides b Q → Decides (a && b) (P × Q)
both a b P Q f g = (λ q. let x = and-true a b q in (f.0 x.0, g.0 x.1), λ x. ap₂ ◌&&◌ (f.1 x.0) (g.1 x.1))

module _ (A : Reason → Type 0) where
  tells : (b : Bool) (why : Reason) (P : Type 0) → Decides b P → ((P → ⊥) → A why) → (A why → P → ⊥) → Tells A b why
  tells b why P d f g = (λ q. f (λ x. true≢false (sym (d.1 x) ∙ q)), λ q a. g a (d.0 q))

  -- a reason that never applies needs no test
  pub never : (why : Reason) → (A why → ⊥) → Tells A true why
  never why n = (λ q. absurd (true≢false q), λ q. n)

module _ (p : Place) (f : Fields) where
  abbrev A : Reason → Type 0
  A = Applies p f

  abbrev next : ℕ
  next = length (nodes_of p.before)

  abbrev left : Literals
  left = clause_in p.before f.left

  abbrev right : Literals
  right = clause_in p.before f.right

  abbrev result : Literals
  result = result_of p f

  -- passed, too, by a clause that lacks a literal: that is found before
  abbrev pub none_too_many : Bool
  none_too_many = not (inside result f.clause) || inside f.clause result

  -- a record is refused by such tests for the first reason that applies to it
  abbrev pub Tried : List Test → Reason → Type 0
  Tried ts why = (chain ts ≡ Err why → RefusedFor p f why) × (RefusedFor p f why → chain ts ≡ Err why)

  -- ---- a given record, with a test of the slots

  abbrev pub given_tests : Bool → List Test
  given_tests room =
      test true Kind
      ∷ test (eqb f.pivot 0 && eqb f.left 0 && eqb f.right 0) NotZero
      ∷ test true Pivot
      ∷ test true NotEarlier
      ∷ test true Dropped
      ∷ test true PivotMissing
      ∷ test true LiteralMissing
      ∷ test true LiteralTooMany
      ∷ test (ltb f.line (rule_lines p.edition p.rules)) NoLine
      ∷ test (alike f.clause (rule_line p.edition p.rules f.line)) LineDiffers
      ∷ test (not (both_ways f.clause)) SaysNothing
      ∷ test room Full
      ∷ []

  unnamed : f.kind ≡ 1 → (n : ℕ) → Names f n → ⊥
  unnamed k n (inl x) = omega (arith, x.0)
  unnamed k n (inr x) = omega (arith, x.0)

  given-zeros : f.kind ≡ 1 → Tells A (eqb f.pivot 0 && eqb f.left 0 && eqb f.right 0) NotZero
  given-zeros k =
      tells A _ NotZero _ (both _ _ _ _ (both _ _ _ _ (zero? f.pivot) (zero? f.left)) (zero? f.right))
      (λ n z. let x = z.0 k in n ((x.0, x.1), x.2))
      (λ n x. n (λ i. (x.0.0, x.0.1, x.1), λ i. absurd (omega arith), λ i. absurd (omega arith)))

  given-says-nothing : f.kind ≡ 1 → Tells A (not (both_ways f.clause)) SaysNothing
  given-says-nothing k = (
    λ q. (k, meets-both-ways f.clause (not-false (both_ways f.clause) q)),
    λ q a. true≢false (sym (both-ways-meets f.clause a.1) ∙ not-true (both_ways f.clause) q),
  )

  given-tells : f.kind ≡ 1 → (room : Bool) → Tells A room Full → TellAll A (given_tests room)
  given-tells k room slot = (
    never A Kind (λ a. a.0 k),
    (
      given-zeros k,
      (
        never A Pivot (λ a. omega (arith, a.0)),
        (
          never A NotEarlier (λ a. unnamed k a.0 a.1),
          (
            never A Dropped (λ a. unnamed k a.0 a.1),
            (
              never A PivotMissing (λ a. omega (arith, a.0)),
              (
                never A LiteralMissing (λ a. omega (arith, a.0)),
                (
                  never A LiteralTooMany (λ a. omega (arith, a.0)),
                  (
                    tells A _ NoLine _ (below? f.line _) (λ n. (k, omega arith)) (λ a x. omega (arith, a.1)),
                    (
                      tells A _ LineDiffers _ (alike? f.clause _) (λ n. (k, n)) (λ a x. a.1 x),
                      (given-says-nothing k, (slot, tt)),
                    ),
                  ),
                ),
              ),
            ),
          ),
        ),
      ),
    ),
  )

  pub given-tried : (why : Reason) → f.kind ≡ 1 → (room : Bool) → Tells A room Full → Tried (given_tests room) why
  given-tried why k room slot =
      let all = given-tells k room slot in (refused-first A (given_tests room) why all, first-refused A (given_tests room) why all)

  -- ---- a step, with tests of whether its parents were dropped, and of the slots

  abbrev pub step_tests : Bool → Bool → List Test
  step_tests kept room =
      test true Kind
      ∷ test (eqb f.line 0) NotZero
      ∷ test (ltb f.pivot (variables p.edition)) Pivot
      ∷ test (ltb f.left next && ltb f.right next) NotEarlier
      ∷ test kept Dropped
      ∷ test (holds (plus f.pivot) left && holds (minus f.pivot) right) PivotMissing
      ∷ test (inside result f.clause) LiteralMissing
      ∷ test none_too_many LiteralTooMany
      ∷ test true NoLine
      ∷ test true LineDiffers
      ∷ test true SaysNothing
      ∷ test room Full
      ∷ []

  step-zeros : f.kind ≡ 2 → Tells A (eqb f.line 0) NotZero
  step-zeros k =
      tells A _ NotZero _ (zero? f.line) (λ n z. n (z.1 k)) (λ n x. n (λ i. absurd (omega arith), λ i. x, λ i. absurd (omega arith)))

  step-earlier : f.kind ≡ 2 → Tells A (ltb f.left next && ltb f.right next) NotEarlier
  step-earlier k = (
    λ q. elim (and-false (ltb f.left next) (ltb f.right next) q) [
      | inl x ↦ (f.left, inl (k, inl refl), ltb-false f.left next x)
      | inr x ↦ (f.right, inl (k, inr refl), ltb-false f.right next x)
    ],
    λ q a. let x = and-true (ltb f.left next) (ltb f.right next) q in
        let l = ltb-true f.left next x.0 in
        let r = ltb-true f.right next x.1 in
        elim a.1 [
          | inl y ↦ elim y.1 [ inl z ↦ omega (arith, a.2) | inr z ↦ omega (arith, a.2) ]
          | inr y ↦ omega (arith, y.0)
        ],
  )

  step-too-many : f.kind ≡ 2 → Tells A none_too_many LiteralTooMany
  step-too-many k = by (inside result f.clause) (inside f.clause result) refl refl
    where
      by : (u v : Bool) → inside result f.clause ≡ u → inside f.clause result ≡ v → Tells A (not u || v) LiteralTooMany
      by true true p q = (λ h. absurd (true≢false h), λ h a. a.2 (inside-holds f.clause result q))
      by true false p q = (
        λ h. (k, inside-holds result f.clause p, λ w. true≢false (sym (inside_of f.clause result w) ∙ q)),
        λ h a. true≢false (sym h),
      )
      by false v p q = (λ h. absurd (true≢false h), λ h a. true≢false (sym (inside_of result f.clause a.1) ∙ p))

  step-tells : f.kind ≡ 2 → (kept room : Bool) → Tells A kept Dropped → Tells A room Full → TellAll A (step_tests kept room)
  step-tells k kept room d slot = (
    never A Kind (λ a. a.1 k),
    (
      step-zeros k,
      (
        tells A _ Pivot _ (below? f.pivot _) (λ n. (k, omega arith)) (λ a x. omega (arith, a.1)),
        (
          step-earlier k,
          (
            d,
            (
              tells A _ PivotMissing _ (both _ _ _ _ (itself (holds (plus f.pivot) left)) (itself (holds (minus f.pivot) right)))
                  (λ n. (k, n)) (λ a x. a.1 x),
              (
                tells A _ LiteralMissing _ (within? result f.clause) (λ n. (k, n)) (λ a x. a.1 x),
                (
                  step-too-many k,
                  (
                    never A NoLine (λ a. omega (arith, a.0)),
                    (
                      never A LineDiffers (λ a. omega (arith, a.0)),
                      (never A SaysNothing (λ a. omega (arith, a.0)), (slot, tt)),
                    ),
                  ),
                ),
              ),
            ),
          ),
        ),
      ),
    ),
  )

  pub step-tried : (why : Reason) → f.kind ≡ 2 → (kept room : Bool) → Tells A kept Dropped → Tells A room Full → Tried (step_tests kept room) why
  step-tried why k kept room d slot =
      let all = step-tells k kept room d slot in
      (refused-first A (step_tests kept room) why all, first-refused A (step_tests kept room) why all)

  -- ---- a drop, where drops are a known kind

  abbrev pub drop_tests : Bool → List Test
  drop_tests kept =
      test true Kind
      ∷ test (eqb f.pivot 0 && eqb f.right 0 && eqb f.line 0 && eqb f.clause.positive 0 && eqb f.clause.negative 0) NotZero
      ∷ test true Pivot
      ∷ test (ltb f.left next) NotEarlier
      ∷ test kept Dropped
      ∷ test true PivotMissing
      ∷ test true LiteralMissing
      ∷ test true LiteralTooMany
      ∷ test true NoLine
      ∷ test true LineDiffers
      ∷ test true SaysNothing
      ∷ test true Full
      ∷ []

  drop-zeros : f.kind ≡ 3
      → Tells A (eqb f.pivot 0 && eqb f.right 0 && eqb f.line 0 && eqb f.clause.positive 0 && eqb f.clause.negative 0) NotZero
  drop-zeros k =
      tells A _ NotZero _
      (both _ _ _ _ (both _ _ _ _ (both _ _ _ _ (both _ _ _ _ (zero? f.pivot) (zero? f.right)) (zero? f.line))
      (zero? f.clause.positive)) (zero? f.clause.negative))
      (λ n z.
      let x = z.2 k in
      n ((((x.0, x.1), x.2), ap (λ (c : Literals). c.positive) x.3), ap (λ (c : Literals). c.negative) x.3))
      (λ n x. n (
        λ i. absurd (omega arith),
        λ i. absurd (omega arith),
        λ i. (x.0.0.0.0, x.0.0.0.1, x.0.0.1, ap₂ literals x.0.1 x.1),
      ))

  drop-earlier : f.kind ≡ 3 → Tells A (ltb f.left next) NotEarlier
  drop-earlier k = (
    λ q. (f.left, inr (k, refl), ltb-false f.left next q),
    λ q a. let l = ltb-true f.left next q in elim a.1 [ inl y ↦ omega (arith, y.0) | inr y ↦ omega (arith, a.2, y.1) ],
  )

  drop-tells : f.kind ≡ 3 → p.drops ≡ true → (kept : Bool) → Tells A kept Dropped → TellAll A (drop_tests kept)
  drop-tells k known kept d = (
    never A Kind (λ a. a.2 known k),
    (
      drop-zeros k,
      (
        never A Pivot (λ a. omega (arith, a.0)),
        (
          drop-earlier k,
          (
            d,
            (
              never A PivotMissing (λ a. omega (arith, a.0)),
              (
                never A LiteralMissing (λ a. omega (arith, a.0)),
                (
                  never A LiteralTooMany (λ a. omega (arith, a.0)),
                  (
                    never A NoLine (λ a. omega (arith, a.0)),
                    (
                      never A LineDiffers (λ a. omega (arith, a.0)),
                      (
                        never A SaysNothing (λ a. omega (arith, a.0)),
                        (never A Full (λ a. elim a.0 [ inl x ↦ omega arith | inr x ↦ omega arith ]), tt),
                      ),
                    ),
                  ),
                ),
              ),
            ),
          ),
        ),
      ),
    ),
  )

  pub drop-tried : (why : Reason) → f.kind ≡ 3 → p.drops ≡ true → (kept : Bool) → Tells A kept Dropped → Tried (drop_tests kept) why
  drop-tried why k known kept d =
      let all = drop-tells k known kept d in (refused-first A (drop_tests kept) why all, first-refused A (drop_tests kept) why all)

  -- ---- any other record

  pub other-tried : (why : Reason) → A Kind → (why ≡ Kind → RefusedFor p f why) × (RefusedFor p f why → why ≡ Kind)
  other-tried why a = (λ q. inl (q, a), λ r. elim r [ inl x ↦ x.0 | inr x ↦ absurd (x.0 a) ])

-- ---- what is wrong with a clause

module _ (p : Place) (f : Fields) where
  abbrev Lacks : Type 0
  Lacks = Applies p f LiteralMissing

  abbrev Exceeds : Type 0
  Exceeds = Applies p f LiteralTooMany

  wrong : f.kind ≡ 2 → (f.clause ≡ result p f → ⊥) → (u v : Bool) → inside (result p f) f.clause ≡ u → inside f.clause (result p f) ≡ v
      → (Lacks × (Exceeds → ⊥)) ⊎ ((Lacks → ⊥) × Exceeds)
  wrong k n true true a b = absurd (n (inside-same f.clause (result p f) b a))
  wrong k n true false a b =
      let all = inside-holds (result p f) f.clause a in
      inr (λ x. x.1 all, (k, all, λ w. true≢false (sym (inside_of f.clause (result p f) w) ∙ b)))
  wrong k n false v a b =
      let lacks : Within (result p f) f.clause → ⊥ = λ w. true≢false (sym (inside_of (result p f) f.clause w) ∙ a) in
      inl ((k, lacks), λ x. lacks x.1)

pub one-is-wrong : OneIsWrong
one-is-wrong p f k n = wrong p f k n (inside (result p f) f.clause) (inside f.clause (result p f)) refl refl
