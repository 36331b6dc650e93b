-- A chain of tests refuses for the first of its reasons that applies, and for no other.
use Rattle.std.proofs.Common.{Err, Ok}
use Prim.Native.Nat.{ℕ, ◌/◌, ◌%◌}
use mathlib.Core.Path.{◌≡◌, refl}
use mathlib.Core.Bool.{Bool, true, false, not, ◌&&◌}
use mathlib.Core.Logic.{◌⊎◌, inl, inr}
use mathlib.Core.List.{List, [], ◌∷◌, ◌++◌}
use native.Mathlib.Omega.{arith}
use lib.Dec.{eqb, leb}
use borrow.Author.Tests.{eqb-true, eqb-false, leb-true, leb-false, not-true, not-false}
use Rattle.sheet.specs.declared.Reason.{Reason}
use Rattle.sheet.specs.declared.Reason.TheVariants.{Ragged, Empty, Long, Table, Room}
use Rattle.sheet.specs.declared.edition.Edition.{Edition}
use Rattle.sheet.specs.Editions.{record_bytes, line_bytes, table_lines}
use Rattle.sheet.specs.Reasons.{Verdict, unless, and_then}
use Rattle.sheet.specs.Checks.{check_table, check_lengths}
use Rattle.sheet.specs.Refusals.{FirstOf, NoneOf, Lent, LengthApplies, LentRefusedFor, LentFine}

-- a test that is passed or not, and the reason of the refusal where it is not
pub data Test : Type 0 where
  test : Bool → Reason → Test

unfoldable pub chain : List Test → Verdict
chain [] = (Ok tt)
chain (test b why ∷ ts) = unless b why (chain ts)

abbrev pub reasons : List Test → List Reason
reasons [] = []
reasons (test b why ∷ ts) = why ∷ reasons ts

-- a test fails exactly when its reason applies
abbrev pub Tells : (Reason → Type 0) → Bool → Reason → Type 0
Tells A b why = (b ≡ false → A why) × (b ≡ true → A why → ⊥)

abbrev pub TellAll : (Reason → Type 0) → List Test → Type 0
TellAll A [] = Unit {0}
TellAll A (test b why ∷ ts) = Tells A b why × TellAll A ts

module _ (A : Reason → Type 0) where
  pub refused-first : (ts : List Test) (why : Reason) → TellAll A ts → chain ts ≡ Err why → FirstOf A (reasons ts) why
  unfolding chain unless
  refused-first [] why f q = let z : ◌≡◌ {A = ℕ} 0 1 = cc in absurd (omega arith)
  refused-first (test true r ∷ ts) why f q = inr (f.0.1 refl, refused-first ts why f.1 q)
  refused-first (test false r ∷ ts) why f q = let z : why ≡ r = cc in inl (z, f.0.0 refl)

  pub first-refused : (ts : List Test) (why : Reason) → TellAll A ts → FirstOf A (reasons ts) why → chain ts ≡ Err why
  unfolding chain unless
  first-refused [] why f q = absurd q
  first-refused (test true r ∷ ts) why f (inl (e, a)) = absurd (f.0.1 refl a)
  first-refused (test true r ∷ ts) why f (inr (n, rest)) = first-refused ts why f.1 rest
  first-refused (test false r ∷ ts) why f (inl (e, a)) = rw e
  first-refused (test false r ∷ ts) why f (inr (n, rest)) = absurd (n (f.0.0 refl))

  pub first-applies : (rs : List Reason) (why : Reason) → FirstOf A rs why → A why
  first-applies [] why q = absurd q
  first-applies (r ∷ rs) why (inl (e, a)) = rw e a
  first-applies (r ∷ rs) why (inr (n, rest)) = first-applies rs why rest

  pub fine-none : (ts : List Test) → TellAll A ts → chain ts ≡ Ok tt → NoneOf A (reasons ts)
  unfolding chain unless
  fine-none [] f q = tt
  fine-none (test true r ∷ ts) f q = (f.0.1 refl, fine-none ts f.1 q)
  fine-none (test false r ∷ ts) f q = let z : ◌≡◌ {A = ℕ} 0 1 = cc in absurd (omega arith)

  pub none-fine : (ts : List Test) → TellAll A ts → NoneOf A (reasons ts) → chain ts ≡ Ok tt
  unfolding chain unless
  none-fine [] f q = refl
  none-fine (test true r ∷ ts) f q = none-fine ts f.1 q.1
  none-fine (test false r ∷ ts) f q = absurd (q.0 (f.0.0 refl))

pub chain_more : (ts us : List Test) → and_then (chain ts) (chain us) ≡ chain (ts ++ us)
unfolding chain unless and_then
chain_more [] us = refl
chain_more (test true r ∷ ts) us = chain_more ts us
chain_more (test false r ∷ ts) us = refl

-- one of two tests fails
pub and-false : (a b : Bool) → a && b ≡ false → (a ≡ false) ⊎ (b ≡ false)
and-false true b q = inr q
and-false false b q = inl refl

pub and-true : (a b : Bool) → a && b ≡ true → (a ≡ true) × (b ≡ true)
and-true true b q = (refl, q)
and-true false b q = let z : ◌≡◌ {A = ℕ} 0 1 = cc in absurd (omega arith)

-- ---- the lengths

module _ (z : Lent) where
  abbrev e : Edition
  e = z.edition

  abbrev records : ℕ
  records = z.sheet / record_bytes e

  abbrev lines : ℕ
  lines = z.rules / line_bytes e

  abbrev whole : Bool
  whole = eqb (z.rules % line_bytes e) 0

  abbrev sheet_tests : List Test
  sheet_tests =
      test (eqb (z.sheet % record_bytes e) 0) Ragged
      ∷ test (not (eqb z.sheet 0)) Empty
      ∷ test (leb records z.most) Long
      ∷ test (whole && leb lines (table_lines e)) Table
      ∷ []

  -- with a test of the room
  abbrev length_tests : Bool → List Test
  length_tests roomy = sheet_tests ++ (test roomy Room ∷ [])

  lengths-chain : (roomy : Bool)
      → and_then (check_lengths e z.most z.sheet z.rules) (unless roomy Room (Ok tt)) ≡ chain (length_tests roomy)
  unfolding check_lengths check_table chain
  lengths-chain roomy = chain_more sheet_tests (test roomy Room ∷ [])

  table-tells : Tells (LengthApplies z) (whole && leb lines (table_lines e)) Table
  table-tells = (
    λ q. elim (and-false whole (leb lines (table_lines e)) q) [
      | inl x ↦ inl (eqb-false (z.rules % line_bytes e) 0 x)
      | inr x ↦ inr (leb-false lines (table_lines e) x)
    ],
    λ q a.
        let x = and-true whole (leb lines (table_lines e)) q in
        elim a [
          | inl n ↦ n (eqb-true (z.rules % line_bytes e) 0 x.0)
          | inr n ↦ omega (arith, leb-true lines (table_lines e) x.1)
        ],
  )

  module _ (roomy : Bool) (room : Tells (LengthApplies z) roomy Room) where
    length-tells : TellAll (LengthApplies z) (length_tests roomy)
    length-tells = (
      (eqb-false (z.sheet % record_bytes e) 0, λ q a. a (eqb-true (z.sheet % record_bytes e) 0 q)),
      (
        (λ q. eqb-true z.sheet 0 (not-false (eqb z.sheet 0) q), λ q. eqb-false z.sheet 0 (not-true (eqb z.sheet 0) q)),
        ((leb-false records z.most, λ q a. omega (arith, leb-true records z.most q)), (table-tells, (room, tt))),
      ),
    )

    abbrev checked : Verdict
    checked = and_then (check_lengths e z.most z.sheet z.rules) (unless roomy Room (Ok tt))

    -- what is lent is refused for the first reason that applies to its lengths
    pub lent-refused : (why : Reason) → checked ≡ Err why → LentRefusedFor z why
    lent-refused why q = refused-first (LengthApplies z) (length_tests roomy) why length-tells (rw (lengths-chain roomy) at q)

    pub refused-lent : (why : Reason) → LentRefusedFor z why → checked ≡ Err why
    refused-lent why q = rw (lengths-chain roomy) (first-refused (LengthApplies z) (length_tests roomy) why length-tells q)

    pub lent-fine : checked ≡ Ok tt → LentFine z
    lent-fine q = fine-none (LengthApplies z) (length_tests roomy) length-tells (rw (lengths-chain roomy) at q)

    pub fine-lent : LentFine z → checked ≡ Ok tt
    fine-lent q = rw (lengths-chain roomy) (none-fine (LengthApplies z) (length_tests roomy) length-tells q)
