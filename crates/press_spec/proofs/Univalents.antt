-- The univalents show `Lowers`: when a node is lowered, D is what is owed for the nodes lowered before it.
use Prim.Native.Nat.{ℕ, suc, ◌≤◌, ◌<◌}
use mathlib.Core.Bool.{Bool, true, false, not, ◌&&◌, cond, false≢true, and-eq-true_iff}
use mathlib.Core.Path.{◌≡◌, refl, sym, ap, ◌∙◌}
use mathlib.Core.Logic.{inl, inr}
use mathlib.Core.List.{List}
use native.Mathlib.Omega.{arith}
use native.Mathlib.Decide.{ℕ_discrete, dec_lt}
use lib.ListN.{length, replicate, length-map}
use borrow.Author.Tests.{not-true}
use Rattle.base.proofs.Folds.{rise-by}
use Rattle.clause.specs.Clauses.{Literal, Literals, holds, adding, lacking, inside, Within}
use Rattle.clause.proofs.Clauses.{same-literal-false, holds-lacking, inside-holds}
use Rattle.sheet.specs.declared.edition.Edition.{Edition}
use Rattle.sheet.specs.Records.{Node, node_at}
use Rattle.press_spec.specs.Links.{link, links}
use Rattle.press_spec.specs.Trim.{trim, trimmed, uses_from}
use Rattle.press_spec.specs.Recycle.{Fate}
use Rattle.press_spec.specs.Rebuild.{Built, built, standing, renew, ended}
use Rattle.press_spec.specs.Lower.{opposite, Lowered, staying, lowered, none_lowered, lower, low_at, fates_by}
use Rattle.press_spec.specs.Univalents.{Used, unused, once, often, mixed, used_on, lowerable, weigh, Risen, risen_to, renew_turn, weigh_turn, rise_turn, risen_by, risen}
use Rattle.press_spec.proofs.Literals.{literal-same, adding-keeps, adding-has}
use Rattle.press_spec.proofs.Rebuilt.{Rebuilding, rebuilding, rebuilt, changes-renew, standing-other}
use Rattle.press_spec.proofs.Owed.{opposite-twice, opposite-other, owed_below, owed-holds, owed-staying, owed-lowered, Concludes, marked-node, OnOwn}
use Rattle.press_spec.proofs.Singles.{none-lowered, none-long, never-lowered, lower_long, lower-other, lower-here, lower-cases}
use Rattle.press_spec.proofs.UsedOn.{used-on, least, used-least}
use Rattle.press_spec.proofs.OnTheWay.{owed-alike, OnTheWay, way-start, way_next, risen-rebuilt}
use Rattle.press_spec.proofs.Returned.{Lowers}

-- ---- what the test says

module _ (x : Literal) (c D : Literals) (h : lowerable x c D ≡ true) where
  pub lowerable-parts : (holds x c ≡ true) × (inside (lacking x c) D ≡ true) × (holds x D ≡ false)
  unfolding lowerable
  lowerable-parts =
      let a = (and-eq-true_iff (holds x c && inside (lacking x c) D && not (holds x D)) (not (holds (opposite x) D))).0 h in
      let b = (and-eq-true_iff (holds x c && inside (lacking x c) D) (not (holds x D))).0 a.0 in
      let d = (and-eq-true_iff (holds x c) (inside (lacking x c) D)).0 b.0 in
      (d.0, d.1, not-true (holds x D) b.1)

  rest_owed : Within c (adding x D)
  rest_owed y k = elim (literal-same y x) [
    | inl q ↦ rw q (adding-has x D)
    | inr q ↦ adding-keeps y x D (inside-holds (lacking x c) D lowerable-parts.1 y (rw (holds-lacking y x c, k, same-literal-false y x q)))
  ]

-- ---- the walk up

module _ (e : Edition) (rules : List ℕ) (s : List Node) (from : ℕ) (good : Concludes e rules s from) where
  abbrev marks : List ℕ
  marks = trim (links s) from

  abbrev used : ℕ → Used
  used = used_on (trimmed (links s) marks)

  -- what is known of a node that was lowered with y
  record Known (low : ℕ → Lowered) (b : Built) (n : ℕ) (y : Literal) : Type 0 where
    on : used n ≡ often y
    carries : holds y (standing b n) ≡ true
    rest : Within (standing b n) (adding y (owed_below low n))
    free : holds y (owed_below low n) ≡ false

  -- the nodes below i are decided on
  record Rises (i : ℕ) (x : Risen) : Type 0 where
    long : length x.ones.low ≡ length s
    fresh : (n : ℕ) → i ≤ n → low_at x.ones.low n ≡ staying
    owed : x.ones.owed ≡ owed_below (low_at x.ones.low) i
    known : (n : ℕ) (y : Literal) → low_at x.ones.low n ≡ lowered y → Known (low_at x.ones.low) x.so n y

  -- a lowered node has been decided on
  decided : (i : ℕ) (x : Risen) → Rises i x → (n : ℕ) (y : Literal) → low_at x.ones.low n ≡ lowered y → n < i
  decided i x f n y q = elim (dec_lt n i) [ yes h ↦ h | no h ↦ absurd (never-lowered _ y (f.fresh n (omega arith)) q) ]

  -- ---- rebuilding a node changes nothing of those before it

  renews : (i : ℕ) (x : Risen) → i ≤ length s → OnTheWay marks s i x → Rises i x → Rises i (renew_turn marks s i x)
  unfolding renew_turn
  renews i x inside way f =
      let says : (n : ℕ) → Fate = fates_by marks (low_at x.ones.low) (links s) in
      let walk : Rebuilding s says i x.so = rw way (rebuilding s says good.earlier i inside) in
      let b' : Built = renew i (node_at s i) (says i) x.so in
      record {
        long = f.long;
        fresh = f.fresh;
        owed = f.owed;
        known = λ n y q.
            let k = f.known n y q in
            let same : standing b' n ≡ standing x.so n =
            standing-other i x.so b' (changes-renew i (node_at s i) (says i) x.so) walk.low n (decided i x f n y q) in
            record { on = k.on; carries = rw same k.carries; rest = rw same k.rest; free = k.free };
      }

  -- ---- deciding on a node

  module _ (i : ℕ) (x : Risen) (inside : i < length s) (f : Rises i x) where
    passes : Rises (suc i) x
    passes = record {
      long = f.long;
      fresh = λ n h. f.fresh n (omega arith);
      owed = f.owed ∙ sym (owed-staying (low_at x.ones.low) i (f.fresh i (omega arith)));
      known = f.known;
    }

    module _ (y : Literal) (on : used i ≡ often y) (h : lowerable y (standing x.so i) x.ones.owed ≡ true) where
      abbrev low : ℕ → Lowered
      low = low_at x.ones.low

      abbrev low' : ℕ → Lowered
      low' = low_at (lower i y x.ones).low

      room : i < length x.ones.low
      room = rw f.long inside

      owed-before : (n : ℕ) → n ≤ i → owed_below low n ≡ owed_below low' n
      owed-before n l = owed-alike low low' n (λ k m. sym (lower-other i y x.ones k (omega arith)))

      owed-here : x.ones.owed ≡ owed_below low' i
      owed-here = f.owed ∙ owed-before i (omega arith)

      known-here : Known low' x.so i y
      known-here = record {
        on = on;
        carries = (lowerable-parts y (standing x.so i) x.ones.owed h).0;
        rest = rw (← owed-here) (rest_owed y (standing x.so i) x.ones.owed h);
        free = rw (← owed-here) (lowerable-parts y (standing x.so i) x.ones.owed h).2;
      }

      known-before : (n : ℕ) (z : Literal) → low n ≡ lowered z → Known low' x.so n z
      known-before n z q =
          let k = f.known n z q in
          let l = decided i x f n z q in
          record {
            on = k.on;
            carries = k.carries;
            rest = rw (← (owed-before n (omega arith))) k.rest;
            free = rw (← (owed-before n (omega arith))) k.free;
          }

      lowers : Rises (suc i) (risen_to x.so (lower i y x.ones))
      lowers = record {
        long = lower_long i y x.ones ∙ f.long;
        fresh = λ n l. lower-other i y x.ones n (omega arith) ∙ f.fresh n (omega arith);
        owed = unfold lower in (ap (adding (opposite y)) owed-here ∙ sym (owed-lowered low' i y (lower-here i y x.ones room)));
        known = λ n z q. elim (lower-cases i y x.ones room n z q) [
          | inl d ↦ rw (d.0, d.1) known-here
          | inr d ↦ known-before n z d.1
        ];
      }

    weigh-one : (u : Used) → used i ≡ u → Rises (suc i) (risen_to x.so (weigh i u (standing x.so i) x.ones))
    unfolding weigh
    weigh-one unused q = passes
    weigh-one (once y) q = passes
    weigh-one (often y) q = by (lowerable y (standing x.so i) x.ones.owed) refl
      where
        by : (u : Bool) → lowerable y (standing x.so i) x.ones.owed ≡ u
            → Rises (suc i) (risen_to x.so (cond u (lower i y x.ones) x.ones))
        by false h = passes
        by true h = lowers y q h
    weigh-one mixed q = passes

  rises-start : Rises 0 (risen_to (built s (replicate (length s) 0)) (none_lowered (length s)))
  rises-start = record {
    long = none-long (length s);
    fresh = λ n h. none-lowered (length s) n;
    owed = unfold none_lowered owed_below in refl;
    known = λ n y q. absurd (never-lowered _ y (none-lowered (length s) n) q);
  }

  rises_next : (i : ℕ) (x : Risen) → i < length s → OnTheWay marks s i x → Rises i x → Rises (suc i) (rise_turn marks s used i x)
  unfolding rise_turn weigh_turn
  rises_next i x h way f = weigh-one i (renew_turn marks s i x) h (renews i x (omega arith) way f) (used i) refl

  rises : Rises (length s) (risen (ended s from))
  unfolding risen risen_by
  rises = (rise-by (λ i x. OnTheWay marks s i x × Rises i x) (rise_turn marks s used) (length s) _
      (λ i x h f. (way_next marks s used good.earlier i x f.0, rises_next i x h f.0 f.1))
      (way-start marks s used good.earlier, rises-start)).1

  -- ---- a pass of lowering

  abbrev lows : ℕ → Lowered
  lows = low_at (risen (ended s from)).ones.low

  univalents-own : OnOwn (links s) from lows
  univalents-own n p l r m a x =
      let y = used-on (links s) marks n p l r m a (rw (length-map s link) (marked-node e rules s from good n m)) in
      ((λ q. sym (rw (rises.known l x q).on at y.0)), (λ q. sym (rw (rises.known r x q).on at y.1)))

  -- the earlier one's opposite is in D when the later one is lowered
  later-apart : (m n : ℕ) (x y : Literal) → m < n → lows m ≡ lowered x → lows n ≡ lowered y → y ≡ opposite x → ⊥
  later-apart m n x y h q k o = false≢true (sym (rises.known n y k).free ∙ rw o (owed-holds lows m n x q h))

  univalents-apart : (m n : ℕ) (x y : Literal) → lows m ≡ lowered x → lows n ≡ lowered y → x ≡ opposite y → ⊥
  univalents-apart m n x y q k o = elim (dec_lt m n) [
    | yes h ↦ later-apart m n x y h q k (let v : y ≡ opposite x = cc (opposite-twice y) in v)
    | no h ↦ elim (ℕ_discrete m n) [
      | yes d ↦ let u : lows n ≡ lowered x = ap lows (sym d) ∙ q in opposite-other x (let v : x ≡ opposite x = cc in v)
      | no d ↦ later-apart n m y x (omega arith) k q o
    ]
  ]

  walk : Rebuilding s (fates_by marks lows (links s)) (length s) (risen (ended s from)).so
  unfolding risen
  walk = rw (risen-rebuilt marks s used good.earlier) (rebuilt s (fates_by marks lows (links s)) good.earlier)

  pub univalents-lower : Lowers s from (low_at (risen (ended s from)).ones.low) (risen (ended s from)).so
  univalents-lower = record {
    walk = walk;
    twice = λ n x q. unfold uses_from in omega (arith, used-least (trimmed (links s) marks) n, ap least (rises.known n x q).on);
    own = univalents-own;
    apart = univalents-apart;
    carries = λ n x q. (rises.known n x q).carries;
    rest = λ n x q. (rises.known n x q).rest;
  }
