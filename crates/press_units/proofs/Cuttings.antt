-- The walks over the fates, node by node: at turn i the nodes before i have their fates, and at the cuts the others stand as they did.
use Prim.Native.Nat.{ℕ, ◌+◌, ◌<◌, ◌≤◌}
use mathlib.Core.List.{List}
use mathlib.Core.Path.{◌≡◌, refl, sym, ap, ◌∙◌}
use native.Mathlib.Decide.{ℕ_discrete, dec_lt}
use native.Mathlib.Omega.{arith}
use lib.ListN.{length, get_or, set, get_or-map, get_or-eq_default}
use lib.Seq.{get_or-set_same, get_or-set_other}
use Rattle.std.specs.Prelude.{Option, Bool, true, false, cond, eqb}
use Rattle.std.proofs.Common.{rules}
use Rattle.press_spec.specs.Links.{Link, link_at}
use Rattle.press_spec.specs.Recycle.{uncut, Fate as FateIn, lost, kept}
use Rattle.press_spec.specs.Lower.{Lowered, cut_by, fate_by, fates_by}
use Rattle.press_nodes.specs.declared.fate.Fate.{Fate}
use Rattle.press_nodes.specs.declared.fate.Fate.TheVariants.{Lost, Kept}
use Rattle.press_nodes.specs.declared.fate.Side.{Side}
use Rattle.press_nodes.specs.Fates.{cut_in, fate_in, fates_in}
use Rattle.press_units.specs.Marks.{mark_in, marks_in, fate_marked, fates_marked}

-- ---- fates that a walk lays out

module _ (fate : ℕ → FateIn) where
  -- the nodes before i have their fates
  abbrev pub FatedBelow : ℕ → List Fate → Type 0
  FatedBelow i t = (m : ℕ) → m < i → fates_in t m ≡ fate m

  pub fated-next : (i : ℕ) (t : List Fate) (x : Fate) → i < length t → fate_in x ≡ fate i → FatedBelow i t → FatedBelow (i + 1) (set t i x)
  unfolding fates_in
  fated-next i t x inside e d m h = elim (ℕ_discrete m i) [
    | yes q ↦ rw (q, get_or-set_same t i x Lost inside) e
    | no q ↦ rw (get_or-set_other t i m x Lost q) (d m (omega arith))
  ]

  pub fated-all : (i : ℕ) (t : List Fate) → length t ≡ i → ((m : ℕ) → i ≤ m → fate m ≡ lost) → FatedBelow i t → fates_in t ≡ fate
  unfolding fates_in fate_in
  fated-all i t long past d = λ k m. each m k
    where
      each : (m : ℕ) → fates_in t m ≡ fate m
      each m = elim (dec_lt m i) [
        | yes h ↦ d m h
        | no h ↦ rw (get_or-eq_default t Lost {n = m} (omega arith)) (sym (past m (omega arith)))
      ]

pub marked-done : (marks : List ℕ) (i : ℕ) (t : List Fate) → length t ≡ i → length marks ≡ i → FatedBelow (fates_marked marks) i t → fates_in t ≡ fates_marked marks
unfolding fate_marked fates_marked
marked-done marks i t long marks-long d = fated-all (fates_marked marks) i t long (λ m h. rw (get_or-eq_default marks 0 {n = m} (omega arith)) refl) d

-- ---- the cuts, over the table that says which nodes are kept

mark-at : (t : List Fate) (n : ℕ) → get_or (marks_in t) n 0 ≡ mark_in (get_or t n Lost)
unfolding marks_in mark_in
mark-at t n = get_or-map mark_in t n Lost

module _ (s : List Link) (low : ℕ → Lowered) (t : List Fate) (n : ℕ) where
  pub stays-lost : get_or t n Lost ≡ Lost → fate_in Lost ≡ fates_by (marks_in t) low s n
  unfolding fate_in fates_by fate_by mark_in
  stays-lost e = rw (mark-at t n, e) refl

  pub is-cut : (was cut : Option Side) → get_or t n Lost ≡ Kept was → cut_in cut ≡ cut_by low (link_at s n) → fate_in (Kept cut) ≡ fates_by (marks_in t) low s n
  unfolding fate_in fates_by fate_by mark_in
  is-cut was cut e q = rw (mark-at t n, e) (ap kept q)

module _ (s : List Link) (low : ℕ → Lowered) (first : List Fate) where
  -- the nodes before i have their fates, and the others stand as they did at first
  pub record CutBelow (i : ℕ) (t : List Fate) : Type 0 where
    pub ahead : (m : ℕ) → i ≤ m → get_or t m Lost ≡ get_or first m Lost
    pub done : FatedBelow (fates_by (marks_in first) low s) i t

  -- the fate of node i is that by the table as it was at first
  cut-here : (i : ℕ) (t : List Fate) (x : Fate) → fate_in x ≡ fates_by (marks_in t) low s i → CutBelow i t → fate_in x ≡ fates_by (marks_in first) low s i
  unfolding fates_by fate_by
  cut-here i t x e d =
      let q : get_or (marks_in t) i 0 ≡ get_or (marks_in first) i 0 = rw (mark-at t i, mark-at first i) (ap mark_in (d.ahead i (omega arith))) in
      rw (← q) e

  pub cut-next : (i : ℕ) (t : List Fate) (x : Fate) → i < length t → fate_in x ≡ fates_by (marks_in t) low s i → CutBelow i t → CutBelow (i + 1) (set t i x)
  cut-next i t x inside e d = record {
    ahead = λ m h. get_or-set_other t i m x Lost (omega arith) ∙ d.ahead m (omega arith);
    done = fated-next _ i t x inside (cut-here i t x e d) d.done;
  }

  pub cuts-done : (i : ℕ) (t : List Fate) → length t ≡ i → CutBelow i t → fates_in t ≡ fates_by (marks_in first) low s
  unfolding fates_by fate_by mark_in
  cuts-done i t long d =
      fated-all (fates_by (marks_in first) low s) i t long
      (λ m h. rw (mark-at first m, ← d.ahead m h, get_or-eq_default t Lost {n = m} (omega arith)) refl) d.done

-- ---- a table that says which nodes are marked

same-mark : (x : Fate) (mark : ℕ) → fate_in x ≡ fate_marked mark → eqb (mark_in x) 0 ≡ eqb mark 0
unfolding fate_marked fate_in mark_in
same-mark x mark e = by-test x (eqb mark 0) e
  where
    by-test : (y : Fate) (b : Bool) → fate_in y ≡ cond b lost (kept uncut) → eqb (mark_in y) 0 ≡ b
    by-test Lost true e = refl
    by-test Lost false e = search rules
    by-test (Kept cut) true e = search rules
    by-test (Kept cut) false e = refl

-- the cuts over such a table are those by the marks
pub cuts-marked : (s : List Link) (low : ℕ → Lowered) (marks : List ℕ) (t : List Fate) → fates_in t ≡ fates_marked marks → fates_by (marks_in t) low s ≡ fates_by marks low s
unfolding fates_by fate_by fates_in fates_marked
cuts-marked s low marks t e = λ d m. each m d
  where
    each : (m : ℕ) → fates_by (marks_in t) low s m ≡ fates_by marks low s m
    each m = rw (mark-at t m, same-mark (get_or t m Lost) (get_or marks m 0) (ap (λ (f : ℕ → FateIn). f m) e)) refl
