-- What judging lets through is proper, and what is proper it lets through.
use Rattle.std.proofs.Common.{Err, Ok}
use Prim.Native.Nat.{ℕ, zero, suc, ◌+◌, ◌/◌, ◌<◌}
use mathlib.Core.Bool.{false}
use mathlib.Core.Path.{◌≡◌, refl, sym, ap, ◌∙◌}
use mathlib.Core.List.{List, [], ◌∷◌, ◌++◌}
use native.Mathlib.Omega.{arith}
use native.Mathlib.Decide.{ℕ_discrete}
use lib.ListN.{length, take}
use lib.Seq.{length-take-le, take-suc, take-length, get_or-take}
use Rattle.sheet.specs.declared.Reason.{Reason}
use Rattle.sheet.specs.Reasons.{Verdict}
use Rattle.sheet.specs.declared.edition.Edition.{Edition}
use Rattle.sheet.specs.Editions.{record_bytes}
use Rattle.sheet.specs.Records.{Node, given, step, node, drop, Reading, reads, unread, clause, node_at}
use Rattle.sheet.specs.Fields.{reading, record_at}
use Rattle.press_spec.specs.Judge.{check_node, Turn, goes, stops, by_verdict, by_reading, turn, proper, bad, judge_from, judge}
use Rattle.press_spec.proofs.Proper.{ProperNode, AllProper}
use Rattle.sheet.proofs.Reasons.{and_then-fine, fine-and_then}
use Rattle.sheet.proofs.RecordBytes.{PivotBelow, reads-pivot}
use Rattle.sheet.proofs.Fine.{earlier-fine, fine-earlier, step-fine, fine-step, given-fine, fine-given}
use Rattle.press_spec.proofs.Nodes.{length_more, node_at-before, node_at-end, all-proper-more}

-- ---- the checks of a node

module _ (e : Edition) (rules : List ℕ) (s : List Node) where
  check-fine : (m : Node) → PivotBelow e m → check_node e rules s m ≡ Ok tt → ProperNode e rules s (length s) m
  unfolding check_node
  check-fine (given line c) h q = given-fine e rules line c q
  check-fine (step p l r c) h q =
      let x = and_then-fine _ _ q in
      let y = and_then-fine _ _ x.1 in
      let (held, negated, is) = step-fine p (clause (node_at s l)) (clause (node_at s r)) c y.1 in
      (h, earlier-fine _ l x.0, earlier-fine _ r y.0, held, negated, is)

  fine-check : (m : Node) → ProperNode e rules s (length s) m → check_node e rules s m ≡ Ok tt
  unfolding check_node
  fine-check (given line c) d = fine-given e rules line c d.0 d.1 d.2
  fine-check (step p l r c) d =
      fine-and_then _ _ (fine-earlier _ l d.1) (
      fine-and_then _ _ (fine-earlier _ r d.2) (
      fine-step p (clause (node_at s l)) (clause (node_at s r)) c d.3 d.4 d.5))

-- ---- a turn goes on with a node exactly when its record reads as that node and the node is proper

module _ (e : Edition) (rules : List ℕ) (s : List Node) where
  verdict-goes : (m n : Node) (v : Verdict) → by_verdict m v ≡ goes n → (m ≡ n) × (v ≡ Ok tt)
  unfolding by_verdict
  verdict-goes m n (Ok tt) q = (cc, refl)
  verdict-goes m n (Err why) q = (cc, cc)

  reading-goes : (b : List ℕ) (n : Node) (x : Reading) → reading e false b ≡ x → by_reading e rules s x ≡ goes n
      → (reading e false b ≡ reads (node n)) × ProperNode e rules s (length s) n
  unfolding by_reading
  reading-goes b n (reads (node m)) r q =
      let y = verdict-goes m n (check_node e rules s m) q in
      let r' : reading e false b ≡ reads (node n) = cc in
      (r', check-fine e rules s n (reads-pivot e false b n r') (rw y.0 at y.1))
  reading-goes b n (reads (drop m)) r q = let z : ◌≡◌ {A = ℕ} 0 1 = cc in absurd (omega arith)
  reading-goes b n (unread why) r q = let z : ◌≡◌ {A = ℕ} 0 1 = cc in absurd (omega arith)

  pub turn-goes : (b : List ℕ) (n : Node) → turn e rules b s ≡ goes n
      → (reading e false b ≡ reads (node n)) × ProperNode e rules s (length s) n
  unfolding turn
  turn-goes b n q = reading-goes b n (reading e false b) refl q

  pub goes-turn : (b : List ℕ) (n : Node) → reading e false b ≡ reads (node n) → ProperNode e rules s (length s) n
      → turn e rules b s ≡ goes n
  unfolding turn by_reading by_verdict
  goes-turn b n q d = rw (q, fine-check e rules s n d)

-- ---- all records

-- the records of a sheet read as the nodes s
abbrev pub AllRead : Edition → List ℕ → List Node → Type 0
AllRead e sheet s = (k : ℕ) → k < length s → reading e false (record_at e sheet k) ≡ reads (node (node_at s k))

module _ (e : Edition) (rules sheet : List ℕ) where
  abbrev pub here : List Node → Turn
  here s = turn e rules (record_at e sheet (length s)) s

  pub judge-more : (m : ℕ) (s : List Node) (n : Node) → here s ≡ goes n
      → judge_from e rules sheet (suc m) s ≡ judge_from e rules sheet m (s ++ (n ∷ []))
  unfolding judge_from
  judge-more m s n q = rw (q, judge_from)

  pub judge-stops : (m : ℕ) (s : List Node) (why : Reason) → here s ≡ stops why → judge_from e rules sheet (suc m) s ≡ bad why (length s)
  unfolding judge_from
  judge-stops m s why q = rw (q, judge_from)

  read_more : (s : List Node) (n : Node) → AllRead e sheet s → reading e false (record_at e sheet (length s)) ≡ reads (node n)
      → AllRead e sheet (s ++ (n ∷ []))
  read_more s n f q k h = elim (ℕ_discrete k (length s)) [
    | yes y ↦ rw (y, node_at-end s n) q
    | no y ↦ let i : k < length s = omega (arith, length_more s n) in rw (node_at-before s n k i) (f k i)
  ]

  abbrev pub Sound : ℕ → List Node → Type 0
  Sound m s = AllProper e rules s × (length s ≡ m) × AllRead e sheet s

  pub sound_more : (m : ℕ) (s : List Node) (n : Node) → here s ≡ goes n → Sound m s → Sound (suc m) (s ++ (n ∷ []))
  sound_more m s n q f =
      let y = turn-goes e rules s (record_at e sheet (length s)) n q in
      (all-proper-more e rules s n f.0 y.1, length_more s n ∙ ap suc f.1, read_more s n f.2 y.0)

  judged-from : (m k : ℕ) (s t : List Node) → Sound k s → judge_from e rules sheet m s ≡ proper t → Sound (k + m) t
  unfolding judge_from
  judged-from zero k s t f q = let z : s ≡ t = cc in let y : k + 0 ≡ k = omega arith in rw (y, ← z) f
  judged-from (suc m) k s t f q = go (here s) refl (λ n r.
      let z : k + suc m ≡ suc k + m = omega arith in
      rw z (judged-from m (suc k) (s ++ (n ∷ [])) t (sound_more k s n r f) (sym (judge-more m s n r) ∙ q)))
    where
      go : (x : Turn) → here s ≡ x → ((n : Node) → here s ≡ goes n → Sound (k + suc m) t) → Sound (k + suc m) t
      go (goes n) r f = f n r
      go (stops why) r f = let y = judge-stops m s why r in let z : ◌≡◌ {A = ℕ} 0 1 = cc in absurd (omega arith)

  pub judged-proper : (s : List Node) → judge e rules sheet ≡ proper s
      → AllProper e rules s × (length s ≡ length sheet / record_bytes e) × AllRead e sheet s
  unfolding judge
  judged-proper s q =
      let m = length sheet / record_bytes e in
      let z : 0 + m ≡ m = omega arith in
      rw z at (judged-from m 0 [] s ((λ n h. absurd (omega arith)), refl, (λ k h. absurd (omega arith))) q)

-- ---- and back

proper-take : (e : Edition) (rules : List ℕ) (s : List Node) (n : ℕ) (m : Node) → ProperNode e rules s n m
    → ProperNode e rules (take n s) n m
unfolding node_at
proper-take e rules s n (given line c) d = d
proper-take e rules s n (step p l r c) d = rw (get_or-take n s l _ d.1, get_or-take n s r _ d.2) d

module _ (e : Edition) (rules sheet : List ℕ) (s : List Node) (f : AllProper e rules s) (g : AllRead e sheet s) where
  goes-here : (k : ℕ) → k < length s → here e rules sheet (take k s) ≡ goes (node_at s k)
  goes-here k h =
      let z : length (take k s) ≡ k = length-take-le k s (omega arith) in
      goes-turn e rules (take k s) _ (node_at s k) (rw z (g k h)) (rw z (proper-take e rules s k (node_at s k) (f k h)))

  -- so many of the nodes s are judged already, and m records come after them
  pub judge-on : (j m k : ℕ) → k + j ≡ length s → judge_from e rules sheet (j + m) (take k s) ≡ judge_from e rules sheet m s
  unfolding node_at
  judge-on zero m k q =
      let z : k ≡ length s = omega arith in
      let y : 0 + m ≡ m = omega arith in
      rw y (ap (judge_from e rules sheet m) (rw z (take-length s)))
  judge-on (suc j) m k q =
      let y : suc j + m ≡ suc (j + m) = omega arith in
      rw y (judge-more e rules sheet (j + m) (take k s) (node_at s k) (goes-here k (omega arith))
      ∙ ap (judge_from e rules sheet (j + m)) (sym (take-suc s k _ (omega arith)))
      ∙ judge-on j m (suc k) (omega arith))

  pub judge-of : length sheet / record_bytes e ≡ length s → judge e rules sheet ≡ proper s
  unfolding judge judge_from
  judge-of q = let z : length sheet / record_bytes e ≡ length s + 0 = omega arith in rw z (judge-on (length s) 0 0 (omega arith))
