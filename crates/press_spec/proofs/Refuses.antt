-- The press refuses exactly when what it is lent or one of the records is refused, and answers the first reason that applies.
use Rattle.std.proofs.Common.{Err, Ok}
use Prim.Native.Nat.{ℕ, zero, suc, ◌+◌, ◌-◌, ◌*◌, ◌/◌, ◌<◌}
use mathlib.Core.Path.{◌≡◌, refl, sym, ap, ◌∙◌}
use mathlib.Core.Bool.{Bool, false, ◌&&◌}
use mathlib.Core.Logic.{inl, inr}
use mathlib.Core.List.{List, [], ◌∷◌, ◌++◌, map}
use native.Mathlib.Omega.{arith}
use lib.Dec.{leb}
use lib.ListN.{length, length-map}
use borrow.Author.Tests.{leb-true, leb-false}
use Rattle.sheet.specs.declared.Reason.{Reason}
use Rattle.sheet.specs.declared.Reason.TheVariants.{Room}
use Rattle.sheet.specs.Reasons.{Verdict}
use Rattle.sheet.specs.declared.edition.Edition.{Edition}
use Rattle.press_spec.specs.declared.Plan.{Plan}
use Rattle.sheet.specs.Editions.{record_bytes, line_bytes}
use Rattle.sheet.specs.Records.{Node, Record, node, node_at}
use Rattle.sheet.specs.Fields.{record_at}
use Rattle.sheet.specs.Counts.{nodes_of}
use Rattle.sheet.specs.Refusals.{Lent, LengthApplies, LentRefusedFor, LentFine, Good, LentRefused, RecordRefused}
use Rattle.sheet.proofs.RecordBytes.{reads-pivot, reading-known}
use Rattle.sheet.proofs.Refused.{Tells, and-false, and-true, lent-refused, refused-lent, lent-fine, fine-lent}
use Rattle.press_spec.specs.Judge.{Sizes, check_room, check_press, Turn, goes, stops, Judged, proper, bad, judge_from, judge}
use Rattle.press_spec.specs.Press.{Call, sizes_of, refused, emit, refuse, by_judging, by_lengths, press}
use Rattle.press_spec.specs.Refused.{lent_to, place_after, Refuses, PressRefuses}
use Rattle.press_spec.proofs.Proper.{AllProper}
use Rattle.press_spec.proofs.Judged.{AllRead, here, Sound, sound_more, judge-more, judge-stops, judge-on}
use Rattle.press_spec.proofs.Accepts.{record-alone, all-nodes, after-proper, proper-after}
use Rattle.press_spec.proofs.Stops.{turn-stops, stops-turn}

-- ---- the lengths

module _ (e : Edition) (z : Sizes) where
  abbrev need : ℕ
  need = record_bytes e * (2 * (z.sheet / record_bytes e) - 1)

  abbrev lines : ℕ
  lines = z.rules / line_bytes e

  abbrev roomy : Bool
  roomy = leb need z.out && leb lines z.marks

  room-tells : Tells (LengthApplies (lent_to e z)) roomy Room
  room-tells = (
    λ q. elim (and-false (leb need z.out) (leb lines z.marks) q) [
      | inl x ↦ inl (leb-false need z.out x)
      | inr x ↦ inr (leb-false lines z.marks x)
    ],
    λ q a.
        let x = and-true (leb need z.out) (leb lines z.marks) q in
        elim a [ inl y ↦ omega (arith, leb-true need z.out x.0) | inr y ↦ omega (arith, leb-true lines z.marks x.1) ],
  )

  -- what is lent to a press is refused for the first reason that applies to the lengths
  pub press-refused : (why : Reason) → check_press e z ≡ Err why → LentRefusedFor (lent_to e z) why
  unfolding check_press check_room
  press-refused = lent-refused (lent_to e z) roomy room-tells

  pub refused-press : (why : Reason) → LentRefusedFor (lent_to e z) why → check_press e z ≡ Err why
  unfolding check_press check_room
  refused-press = refused-lent (lent_to e z) roomy room-tells

  pub press-none : check_press e z ≡ Ok tt → LentFine (lent_to e z)
  unfolding check_press check_room
  press-none = lent-fine (lent_to e z) roomy room-tells

  pub none-press : LentFine (lent_to e z) → check_press e z ≡ Ok tt
  unfolding check_press check_room
  none-press = fine-lent (lent_to e z) roomy room-tells

-- ---- the records

module _ (e : Edition) (rules sheet : List ℕ) where
  -- the nodes before the record that is refused for this reason, which is record k of those before n
  abbrev Stopped : Reason → ℕ → ℕ → Type 0
  Stopped why k n = (t : List Node) × AllProper e rules t × AllRead e sheet t × (length t ≡ k) × (k < n) × (here e rules sheet t ≡ stops why)

  bad-from : (m j : ℕ) (s : List Node) (why : Reason) (k : ℕ) → Sound e rules sheet j s → judge_from e rules sheet m s ≡ bad why k
      → Stopped why k (j + m)
  unfolding judge_from
  bad-from zero j s why k f q = let z : ◌≡◌ {A = ℕ} 0 1 = cc in absurd (omega arith)
  bad-from (suc m) j s why k f q = go (here e rules sheet s) refl (λ n r.
      let z : j + suc m ≡ suc j + m = omega arith in
      rw z (bad-from m (suc j) (s ++ (n ∷ [])) why k (sound_more e rules sheet j s n r f) (sym (judge-more e rules sheet m s n r) ∙ q)))
    where
      go : (x : Turn) → here e rules sheet s ≡ x → ((n : Node) → here e rules sheet s ≡ goes n → Stopped why k (j + suc m))
          → Stopped why k (j + suc m)
      go (goes n) r on = on n r
      go (stops y) r on =
          let w = judge-stops e rules sheet m s y r in
          let z : y ≡ why = cc in
          let i : length s ≡ k = cc in
          (s, f.0, f.2, i, omega (arith, f.1), r ∙ ap stops z)

  judged-bad : (why : Reason) (k : ℕ) → judge e rules sheet ≡ bad why k → Stopped why k (length sheet / record_bytes e)
  unfolding judge
  judged-bad why k q =
      let m = length sheet / record_bytes e in
      let z : 0 + m ≡ m = omega arith in
      rw z at (bad-from m 0 [] why k ((λ n h. absurd (omega arith)), refl, (λ k h. absurd (omega arith))) q)

  bad-judged : (why : Reason) (t : List Node) → AllProper e rules t → AllRead e sheet t → length t < length sheet / record_bytes e
      → here e rules sheet t ≡ stops why → judge e rules sheet ≡ bad why (length t)
  unfolding judge
  bad-judged why t f g h q =
      let rest = length sheet / record_bytes e - suc (length t) in
      let z : length sheet / record_bytes e ≡ length t + suc rest = omega arith in
      rw z (judge-on e rules sheet t f g (length t) (suc rest) 0 (omega arith) ∙ judge-stops e rules sheet rest t why q)

  -- ---- nodes as records

  good-nodes : (t : List Node) → AllProper e rules t → AllRead e sheet t → Good e false rules sheet (map node t)
  good-nodes t f g =
      let long = length-map t node in record {
        read = λ k h. rw (record-alone t k) (g k (rw long at h));
        each = λ k h.
            let i : k < length t = rw long at h in
            rw (record-alone t k) (proper-after t k (omega arith) e rules (node_at t k) (f k i));
      }

  good-read : (t : List Node) → Good e false rules sheet (map node t) → AllRead e sheet t
  good-read t g k h = rw (record-alone t k) at (g.read k (rw (length-map t node) h))

  good-proper : (t : List Node) → Good e false rules sheet (map node t) → AllProper e rules t
  good-proper t g k h =
      after-proper t k (omega arith) e rules (node_at t k) (reads-pivot e false (record_at e sheet k) (node_at t k) (good-read t g k h))
      (rw (record-alone t k) at (g.each k (rw (length-map t node) h)))

  good-alone : (rs : List Record) → Good e false rules sheet rs → rs ≡ map node (nodes_of rs)
  good-alone rs g = all-nodes rs (λ k h. reading-known e false (record_at e sheet k) _ (g.read k h))

-- ---- the press

module _ (plan : Plan) (c : Call) (n k : ℕ) where
  abbrev e : Edition
  e = plan.edition

  abbrev checked : Verdict
  checked = check_press e (sizes_of c)

  abbrev lent : Lent
  lent = lent_to e (sizes_of c)

  abbrev judging : Judged
  judging = judge e c.rules c.sheet

  by-judging : checked ≡ Ok tt → (j : Judged) → judging ≡ j → (by_judging plan c j).answer ≡ refused n k → (rs : List Record) × LentFine lent × RecordRefused (place_after e c.rules rs) c.sheet n k
  unfolding by_judging emit refuse
  by-judging f (proper s) q a = let z : ◌≡◌ {A = ℕ} 0 1 = cc in absurd (omega arith)
  by-judging f (bad why i) q a =
      let z : i ≡ k = cc in
      let (t, each, read, long, inside, stop) = judged-bad e c.rules c.sheet why k (q ∙ ap (bad why) z) in (
        map node t,
        press-none e (sizes_of c) f,
        (
          good-nodes e c.rules c.sheet t each read,
          sym long ∙ sym (length-map t node),
          inside,
          why,
          rw long at (turn-stops e c.rules t _ why stop),
          cc,
        ),
      )

  by_lengths_lem : (v : Verdict) → checked ≡ v → (by_lengths plan c v).answer ≡ refused n k → Refuses e c n k
  unfolding by_lengths refuse
  by_lengths_lem (Ok tt) q a = inr (by-judging q judging refl a)
  by_lengths_lem (Err why) q a = inl (why, press-refused e (sizes_of c) why q, cc, cc)

  refuses : (press plan c).answer ≡ refused n k → Refuses e c n k
  unfolding press
  refuses = by_lengths_lem checked refl

  lent-answers : LentRefused lent n k → (press plan c).answer ≡ refused n k
  unfolding press by_lengths refuse
  lent-answers (why, r, i, j) = rw (refused-press e (sizes_of c) why r, i, j)

  record-answers : (rs : List Record) → LentFine lent → RecordRefused (place_after e c.rules rs) c.sheet n k
      → (press plan c).answer ≡ refused n k
  unfolding press by_lengths by_judging refuse
  record-answers rs fine (good, long, inside, why, r, i) =
      let t = nodes_of rs in
      let alone = good-alone e c.rules c.sheet rs good in
      let g = rw alone at good in
      let z : k ≡ length t = long ∙ ap length alone ∙ length-map t node in
      let stop = stops-turn e c.rules t _ why (rw (alone, z) at r) in
      let j = bad-judged e c.rules c.sheet why t (good-proper e c.rules c.sheet t g) (good-read e c.rules c.sheet t g)
      (omega arith) stop in
      rw (none-press e (sizes_of c) fine, j, i, z)

pub press-refuses : PressRefuses
press-refuses plan c n k = (refuses plan c n k, λ x. elim x [ inl a ↦ lent-answers plan c n k a | inr (rs, fine, a) ↦ record-answers plan c n k rs fine a ])
