-- 3 is given exactly beyond the limits on the number of records.
use Rattle.std.proofs.Common.{Err}
use Prim.Native.Nat.{ℕ, ◌*◌, ◌/◌, ◌%◌, ◌<◌, ◌≤◌}
use mathlib.Core.Path.{◌≡◌, refl, sym, ◌∙◌}
use mathlib.Core.Bool.{Bool, true, false, not, ◌&&◌, and-eq-true_iff}
use mathlib.Core.List.{List}
use mathlib.Core.Logic.{inl, inr}
use native.Mathlib.Nat.{mul-div_right, mul-mod_right, mul-pos}
use native.Mathlib.Omega.{arith}
use lib.Dec.{ltb, leb}
use lib.ListN.{length, length-replicate}
use borrow.Author.Tests.{eq-eqb, ne_eqb, lt-leb, ltb-true, leb-true}
use Rattle.sheet.specs.declared.Reason.{Reason}
use Rattle.sheet.specs.declared.Reason.TheVariants.{Long, NotHeld}
use Rattle.sheet.specs.declared.edition.Edition.{Edition}
use Rattle.sheet.specs.declared.edition.Edition.TheVariants.{Narrow, Wide}
use Rattle.sheet.specs.Editions.{record_bytes, press_records, replay_records}
use Rattle.sheet.specs.Reasons.{number_of, unless, and_then}
use Rattle.sheet.specs.Fields.{sheet_bytes}
use Rattle.sheet.specs.Checks.{check_lengths}
use Rattle.sheet.specs.Refusals.{FirstOf, Lent, LengthApplies, lengths_in_order, LentRefused, Place, RecordRefused, Applies, checks_in_order}
use Rattle.sheet.proofs.Reasons.{number_of-injective}
use Rattle.sheet.proofs.Sizes.{record-size}
use Rattle.sheet.proofs.Refused.{first-applies}
use Rattle.replay_spec.specs.Replay as Replay
use Rattle.replay_spec.specs.Refused as ReplayRefused
use Rattle.replay_spec.proofs.Refuses.{replay-refuses}
use Rattle.press_spec.specs.declared.Plan.{Plan}
use Rattle.press_spec.specs.Plans.{plan}
use Rattle.press_spec.specs.Judge.{check_press}
use Rattle.press_spec.specs.Press as Press
use Rattle.press_spec.specs.Refused as PressRefused
use Rattle.press_spec.proofs.Refuses.{press-refuses}
use Rattle.demands.specs.Limits.{copies, PressTakes, PressFills, PressTurnsAway, ReplayTakes, ReplayFills, ReplayTurnsAway, Limits, PressLimit, ReplayLimit, AtTheLimits}
use Rattle.demands.proofs.Copies.{copies-proper, copies-peak, copies-steps, copies-conclude, nodes-are}
use Rattle.demands.proofs.Press.{press-accepts-proper}
use Rattle.demands.proofs.Replay.{replay-accepts-proper}

long-is-3 : number_of Long ≡ 3
unfolding number_of
long-is-3 = refl

not-held-is-not-3 : 3 ≡ number_of NotHeld → ⊥
unfolding number_of
not-held-is-not-3 q = omega arith

-- a list of reasons that refuses with 3 has `Long` apply
applies-3 : (A : Reason → Type 0) (rs : List Reason) (why : Reason) → FirstOf A rs why → 3 ≡ number_of why → A Long
applies-3 A rs why first q =
    let is : why ≡ Long = number_of-injective why Long (sym q ∙ sym long-is-3) in
    let a : A why = first-applies A rs why first in
    rw (sym is) a

record-not-3 : (p : Place) (sheet : List ℕ) (k : ℕ) → RecordRefused p sheet 3 k → ⊥
record-not-3 p sheet k (good, at, in-sheet, why, first, q) = applies-3 (Applies p _) checks_in_order why first q

module _ (e : Edition) (n s : ℕ) (size : s ≡ record_bytes e * n) where
  some_bytes : 0 < record_bytes e
  some_bytes = omega (arith, record-size e)

  count : s / record_bytes e ≡ n
  count = rw size (mul-div_right n some_bytes)

  lengths-not-3 : (z : Lent) (k : ℕ) → z.edition ≡ e → z.sheet ≡ s → n ≤ z.most → LentRefused z 3 k → ⊥
  lengths-not-3 z k is-e is-s few (why, first, q, at) =
      let over : z.most < z.sheet / record_bytes z.edition = applies-3 (LengthApplies z) lengths_in_order why first q in
      let c : z.sheet / record_bytes z.edition ≡ n = rw (is-e, is-s) count in
      omega arith

  too_long : (most rules : ℕ) → most < n → check_lengths e most s rules ≡ Err Long
  unfolding check_lengths unless
  too_long most rules over =
      let filled : 0 < record_bytes e * n = mul-pos some_bytes (omega arith) in
      let whole : s % record_bytes e ≡ 0 = rw size (mul-mod_right (record_bytes e) n) in
      rw (eq-eqb (s % record_bytes e) 0 whole, ne_eqb s 0 (λ z. omega arith), lt-leb (s / record_bytes e) most (omega (arith, count, over)))

press-takes : (by : Plan) (n : ℕ) → n ≤ press_records by.edition → PressTakes by n
press-takes by n few c k size a = by-case ((press-refuses by c 3 k).0 a)
  where
    by-case : PressRefused.Refuses by.edition c 3 k → ⊥
    by-case (inl lent) = lengths-not-3 by.edition n (length c.sheet) size _ k refl refl few lent
    by-case (inr (rs, fine, r)) = record-not-3 _ _ k r

press-turns-away : (by : Plan) (n : ℕ) → press_records by.edition < n → PressTurnsAway by n
unfolding Press.press Press.by_lengths Press.refuse check_press and_then number_of
press-turns-away by n over c size = rw (too_long by.edition n (length c.sheet) size (press_records by.edition) (length c.rules) over)

replay-takes : (e : Edition) (n : ℕ) → n ≤ replay_records e → ReplayTakes e n
replay-takes e n few sheet rules slots k size a = by-case ((replay-refuses e sheet rules slots 3 k).0 a)
  where
    by-case : ReplayRefused.Refuses e sheet rules (length slots) 3 k → ⊥
    by-case (inl lent) = lengths-not-3 e n (length sheet) size _ k refl refl few lent
    by-case (inr (rs, fine, peak, inl r)) = record-not-3 _ _ k r
    by-case (inr (rs, fine, peak, inr (good, at, all, last, q))) = not-held-is-not-3 q

replay-turns-away : (e : Edition) (n : ℕ) → replay_records e < n → ReplayTurnsAway e n
unfolding Replay.replay Replay.by_lengths number_of
replay-turns-away e n over sheet rules slots size = rw (too_long e n (length sheet) size (replay_records e) (length rules) over)

press-fills : (by : Plan) (n : ℕ) → n ≤ press_records by.edition → 0 < n → PressFills by n
press-fills by n few some rules out marks line room each =
    let e = by.edition in
    let long : length (copies e rules n) ≡ n = length-replicate n _ in
    (press-accepts-proper by (Press.call (sheet_bytes e (copies e rules n)) rules out marks)).0 (copies e rules n)
    (copies-proper e rules line n (press_records e) false some few, rw long room, each)

replay-fills : (e : Edition) (n : ℕ) → n ≤ replay_records e → 0 < n → ReplayFills e n
replay-fills e n few some rules slots line enough =
    (replay-accepts-proper e (sheet_bytes e (copies e rules n)) rules slots).0 (copies e rules n)
    (copies-proper e rules line n (replay_records e) true some few) (omega (arith, copies-peak e rules line n some))
    ∙ λ i. Replay.accepted (record {
      conclusion = copies-conclude e rules line n some i;
      nodes = nodes-are e rules line n i;
      steps = copies-steps e rules line n i;
      peak = copies-peak e rules line n some i;
    })

pub limits : Limits
limits by n = (
  (λ h. (press-takes by n (omega (arith, h)), press-fills by n (omega (arith, h)))),
  (λ h. press-turns-away by n (omega (arith, h))),
  (λ h. (replay-takes by.edition n (omega (arith, h)), replay-fills by.edition n (omega (arith, h)))),
  (λ h. replay-turns-away by.edition n (omega (arith, h))),
)

-- the last number that is not over a limit, and the first that is
abbrev beside : ℕ → ℕ → ℕ → Bool
beside most last first = ltb 0 last && leb last most && ltb most first

told : (most last first : ℕ) → beside most last first ≡ true → (0 < last) × (last ≤ most) × (most < first)
told most last first q =
    let (within, over) = (and-eq-true_iff (ltb 0 last && leb last most) (ltb most first)).0 q in
    let (some, few) = (and-eq-true_iff (ltb 0 last) (leb last most)).0 within in
    (ltb-true 0 last some, leb-true last most few, ltb-true most first over)

press-limit : (e : Edition) {last first : ℕ} → beside (press_records e) last first ≡ true → PressLimit e last first
press-limit e {last} {first} q =
    let (some, few, over) = told (press_records e) last first q in
    record {
      takes = λ how low. ((limits (plan e how low) last).0 few).0;
      fills = λ how low. ((limits (plan e how low) last).0 few).1 some;
      turns-away = λ how low. (limits (plan e how low) first).1 over;
    }

replay-limit : (e : Edition) {last first : ℕ} → beside (replay_records e) last first ≡ true → ReplayLimit e last first
replay-limit e {last} {first} q =
    let (some, few, over) = told (replay_records e) last first q in
    record { takes = replay-takes e last few; fills = replay-fills e last few some; turns-away = replay-turns-away e first over }

-- by computing
pub at-the-limits : AtTheLimits
at-the-limits = (press-limit Narrow refl, replay-limit Narrow refl, press-limit Wide refl, replay-limit Wide refl)
