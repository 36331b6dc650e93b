-- The replay refuses exactly when the lengths, one of the records or the end is refused, and answers the first reason that applies.
use Rattle.std.proofs.Common.{Err, Ok}
use Prim.Native.Nat.{ℕ, zero, suc, ◌+◌, ◌-◌, ◌/◌, ◌≤◌, ◌<◌}
use native.Mathlib.Nat.{le_refl}
use native.Mathlib.Decide.{dec_lt}
use native.Mathlib.Omega.{arith}
use mathlib.Core.Path.{◌≡◌, refl, sym, ◌∙◌}
use mathlib.Core.Bool.{true}
use mathlib.Core.Logic.{◌⊎◌, inl, inr}
use mathlib.Core.List.{List, [], ◌∷◌, ◌++◌}
use lib.ListN.{length, length-append}
use lib.Seq.{take-append-le, take-length}
use borrow.Author.Tests.{ltb-true}
use Rattle.sheet.specs.declared.Reason.{Reason}
use Rattle.sheet.specs.declared.Reason.TheVariants.{Room, Full, NotHeld}
use Rattle.sheet.specs.declared.edition.Edition.{Edition}
use Rattle.sheet.specs.Editions.{record_bytes, replay_records}
use Rattle.sheet.specs.Reasons.{Verdict, number_of, unless, and_then}
use Rattle.sheet.specs.Records.{Record, node, drop, reads}
use Rattle.sheet.specs.Fields.{fields_of, reading, record_at}
use Rattle.sheet.specs.Checks.{check_lengths}
use Rattle.sheet.specs.Counts.{nodes_of, held_from, peak_from}
use Rattle.sheet.specs.Proper.{Held, ProperAfter}
use Rattle.sheet.specs.Refusals.{Lent, LengthApplies, lengths_in_order, LentRefusedFor, LentFine, Applies, checks_in_order, Good, LentRefused, RecordRefused}
use Rattle.sheet.proofs.Reasons.{number_of-injective}
use Rattle.sheet.proofs.Fine.{Lengths, lengths-fine}
use Rattle.sheet.proofs.Refused.{Tells, first-applies, lent-refused, refused-lent, lent-fine, fine-lent}
use Rattle.sheet.proofs.Applied.{never}
use Rattle.replay_spec.specs.Slots.{Slot, Place, nowhere, at, look, last_of}
use Rattle.replay_spec.specs.Step.{State, check_record, after, Turn, goes, stops, turn}
use Rattle.replay_spec.specs.Replay.{Result, refused, accepted, by_last, ending, run, start, by_lengths, replay}
use Rattle.replay_spec.specs.Refused.{lent_to, place_after, EndRefused, Refuses, ReplayRefuses, FullOnlyWhenFull}
use Rattle.replay_spec.proofs.Slots.{in_use-le, length-cleared}
use Rattle.replay_spec.proofs.Steps.{turn-went, run-goes, run-stops, after_steps, FirstTaken, replay-ends, replay-stops}
use Rattle.replay_spec.proofs.Runs.{peak_from-append, record-before, record-last}
use Rattle.replay_spec.proofs.Mirrors.{Mirrors, numbered, counts, start-mirrors, Roomy, length-after, room-counted, after-mirrors, fine-proper, so_far}
use Rattle.replay_spec.proofs.Stops.{turn-refused, refused-turn}
use Rattle.replay_spec.proofs.Accepts.{held-ending, mirrored-ending}

-- ---- the lengths

fine-after : (v : Verdict) → and_then v (unless true Room (Ok tt)) ≡ v
unfolding and_then unless
fine-after (Ok tt) = refl
fine-after (Err why) = refl

module _ (e : Edition) (sheet rules : List ℕ) where
  abbrev lent : Lent
  lent = lent_to e sheet rules

  abbrev checked : Verdict
  checked = check_lengths e (replay_records e) (length sheet) (length rules)

  roomy : Tells (LengthApplies lent) true Room
  roomy = never (LengthApplies lent) Room (λ a. a)

  -- what is lent to a replay is refused for the first reason that applies to the lengths
  pub replay-refused : (why : Reason) → checked ≡ Err why → LentRefusedFor lent why
  replay-refused why q = lent-refused lent true roomy why (fine-after checked ∙ q)

  pub refused-replay : (why : Reason) → LentRefusedFor lent why → checked ≡ Err why
  refused-replay why q = sym (fine-after checked) ∙ refused-lent lent true roomy why q

  pub replay-none : checked ≡ Ok tt → LentFine lent
  replay-none q = lent-fine lent true roomy (fine-after checked ∙ q)

  pub none-replay : LentFine lent → checked ≡ Ok tt
  none-replay q = sym (fine-after checked) ∙ fine-lent lent true roomy q

-- ---- the end

ending-either : (k : ℕ) (s : State) → (ending k s ≡ refused (number_of NotHeld) k) ⊎ ((r : Result) × (ending k s ≡ accepted r))
unfolding ending by_last
ending-either k s = by_place (look (last_of s.tally.next) s.slots)
  where
    by_place : (p : Place) → (by_last k s.tally p ≡ refused (number_of NotHeld) k) ⊎ ((r : Result) × (by_last k s.tally p ≡ accepted r))
    by_place nowhere = inl refl
    by_place (at i x) = inr (_, refl)

module _ (k : ℕ) (rs : List Record) (s : State) (m : Mirrors rs s) where
  abbrev last : ℕ
  last = length (nodes_of rs) - 1

  ending-unheld : (Held rs last → ⊥) → ending k s ≡ refused (number_of NotHeld) k
  ending-unheld h = elim (ending-either k s) [
    | inl q ↦ q
    | inr (r, q) ↦ absurd (h (rw (numbered m) at (m.only (s.tally.next - 1) (held-ending k s r q))))
  ]

  unheld-ending : (n i : ℕ) → ending k s ≡ refused n i → (Held rs last → ⊥) × (n ≡ number_of NotHeld) × (i ≡ k)
  unheld-ending n i q = elim (ending-either k s) [
    | inl z ↦ (λ h. let y = mirrored-ending k rs s m h in let z : ◌≡◌ {A = ℕ} 0 1 = cc in omega arith, cc, cc)
    | inr (r, z) ↦ let z : ◌≡◌ {A = ℕ} 0 1 = cc in absurd (omega arith)
  ]

-- ---- the records

module _ (e : Edition) (sheet rules : List ℕ) where
  abbrev count : ℕ
  count = length sheet / record_bytes e

  good_more : (rs : List Record) (r : Record) → Good e true rules sheet rs → reading e true (record_at e sheet (length rs)) ≡ reads r
      → ProperAfter e rules rs r → Good e true rules sheet (rs ++ (r ∷ []))
  good_more rs r g q p =
      let more = length-append rs (r ∷ []) in
      record {
        read = λ k h. elim (dec_lt k (length rs)) [
          | yes l ↦ rw (record-before rs r k l) (g.read k l)
          | no l ↦ let z : k ≡ length rs = omega arith in rw (z, record-last rs r (length rs) refl) q
        ];
        each = λ k h. elim (dec_lt k (length rs)) [
          | yes l ↦ let i : k ≤ length rs = omega arith in rw (take-append-le k rs (r ∷ []) i, record-before rs r k l) (g.each k l)
          | no l ↦
              let z : k ≡ length rs = omega arith in
              rw (z, take-append-le (length rs) rs (r ∷ []) (le_refl (length rs)), take-length rs, record-last rs r (length rs) refl) p
        ];
      }

  module _ (slots : ℕ) where
    -- the state after the first k records, which are good, with so many slots
    record Along (k : ℕ) (rs : List Record) (s : State) : Type 0 where
      good : Good e true rules sheet rs
      long : length rs ≡ k
      fits : peak_from 0 rs ≤ slots
      mirrors : Mirrors rs s
      sized : length s.slots ≡ slots

    fits_more : (k : ℕ) (rs : List Record) (s : State) → Along k rs s → (r : Record) → Roomy r s.slots → peak_from 0 (rs ++ (r ∷ [])) ≤ slots
    unfolding peak_from
    fits_more k rs s y (node x) roomy =
        let fewer = ltb-true s.tally.held (length s.slots) (sym (room-counted rs s y.mirrors) ∙ roomy) in
        omega (arith, y.fits, y.sized, counts y.mirrors, peak_from-append 0 rs (node x ∷ []))
    fits_more k rs s y (drop n) roomy =
        omega (arith, y.fits, y.sized, counts y.mirrors, y.mirrors.used, in_use-le s.slots, peak_from-append 0 rs (drop n ∷ []))

    along-more : (k : ℕ) (rs : List Record) (s : State) → Along k rs s → (r : Record) → reading e true (record_at e sheet k) ≡ reads r
        → check_record e rules s r ≡ Ok tt → Along (suc k) (rs ++ (r ∷ [])) (after s r)
    along-more k rs s y r q fine =
        let (p, roomy) = fine-proper e rules rs s y.mirrors r fine in
        record {
          good = good_more rs r y.good (rw y.long q) p;
          long = length-append rs (r ∷ []) ∙ omega (arith, y.long);
          fits = fits_more k rs s y r roomy;
          mirrors = after-mirrors e rules rs s y.mirrors r p roomy;
          sized = length-after s r ∙ y.sized;
        }

    abbrev Halts : ℕ → ℕ → Type 0
    Halts n i =
        (rs : List Record)
        × (peak_from 0 rs ≤ slots)
        × (RecordRefused (place_after e rules slots rs) sheet n i ⊎ EndRefused e sheet rules rs n i)

    refused-from : (m k : ℕ) (rs : List Record) (s : State) (n i : ℕ) → Along k rs s → k + m ≡ count → run e rules sheet m k s ≡ refused n i → Halts n i
    unfolding run
    refused-from zero k rs s n i y o q =
        let (unheld, is, z) = unheld-ending k rs s y.mirrors n i q in
        (rs, y.fits, inr (y.good, omega (arith, y.long), omega arith, unheld, is))
    refused-from (suc m) k rs s n i y o q = by_turn_lem (turn e rules (record_at e sheet k) s) refl (refused-from m (suc k))
      where
        by_turn_lem : (x : Turn) → turn e rules (record_at e sheet k) s ≡ x
            → ((rs : List Record) (s : State) (n i : ℕ) → Along (suc k) rs s → suc k + m ≡ count → run e rules sheet m (suc k) s ≡ refused n i → Halts n i)
            → Halts n i
        by_turn_lem (goes t) g on =
            let (r, read, fine, is) = turn-went e rules (record_at e sheet k) s t g in
            on (rs ++ (r ∷ [])) (after s r) n i (along-more k rs s y r read fine) (omega arith) (rw is at (sym (run-goes e rules sheet m k s t g) ∙ q))
        by_turn_lem (stops why) g on =
            let w = run-stops e rules sheet m k s why g in
            let z : i ≡ k = cc in
            let stop = rw y.sized at (turn-refused e rules rs s y.mirrors (record_at e sheet k) why g) in
            (rs, y.fits, inl (y.good, omega (arith, y.long), omega arith, why, rw z stop, cc))

-- ---- the replay

module _ (e : Edition) (sheet rules : List ℕ) (slots : List Slot) (n k : ℕ) where
  by_lengths_lem : (v : Verdict) → checked e sheet rules ≡ v → (by_lengths e sheet rules slots v).answer ≡ refused n k → Refuses e sheet rules (length slots) n k
  unfolding by_lengths start nodes_of peak_from
  by_lengths_lem (Ok tt) q a =
      let (rs, fits, why) = refused-from e sheet rules (length slots) (count e sheet rules) 0 [] (start slots) n k
      (record {
        good = record { read = λ j h. absurd (omega arith); each = λ j h. absurd (omega arith) };
        long = refl;
        fits = omega arith;
        mirrors = start-mirrors slots;
        sized = length-cleared slots;
      }) (omega arith) a in
      inr (rs, replay-none e sheet rules q, fits, why)
  by_lengths_lem (Err why) q a = inl (why, replay-refused e sheet rules why q, cc, cc)

  refuses : (replay e sheet rules slots).answer ≡ refused n k → Refuses e sheet rules (length slots) n k
  unfolding replay
  refuses = by_lengths_lem (checked e sheet rules) refl

  lent-answers : LentRefused (lent e sheet rules) n k → (replay e sheet rules slots).answer ≡ refused n k
  unfolding replay by_lengths
  lent-answers (why, r, i, j) = rw (refused-replay e sheet rules why r, i, j)

  abbrev after-all : List Record → State
  after-all rs = after_steps e rules sheet (start slots) (length rs)

  lengths : LentFine (lent e sheet rules) → Lengths e (replay_records e) (length sheet) (length rules) (count e sheet rules)
  lengths fine = lengths-fine e (replay_records e) (length sheet) (length rules) (none-replay e sheet rules fine)

  taken-all : (rs : List Record) → LentFine (lent e sheet rules) → peak_from 0 rs ≤ length slots → Good e true rules sheet rs
      → length rs ≤ count e sheet rules
      → FirstTaken e rules sheet (start slots) (length rs) × Mirrors rs (after-all rs) × (length (after-all rs).slots ≡ length slots)
  taken-all rs fine fits good inside =
      let y = so_far e sheet rules slots rs (count e sheet rules) (lengths fine) inside good.read good.each (length rs) (le_refl (length rs))
      (rw (take-length rs) fits) in
      (y.first, rw (take-length rs) at y.mirrors, y.sized)

  record-answers : (rs : List Record) → LentFine (lent e sheet rules) → peak_from 0 rs ≤ length slots
      → RecordRefused (place_after e rules (length slots) rs) sheet n k → (replay e sheet rules slots).answer ≡ refused n k
  record-answers rs fine fits (good, long, inside, why, r, i) =
      let o : length rs < count e sheet rules = omega arith in
      let (first, m, sized) = taken-all rs fine fits good (omega arith) in
      let stop = refused-turn e rules rs (after-all rs) m (record_at e sheet (length rs)) why (rw sized (rw long at r)) in
      rw (i, long) (replay-stops e sheet rules slots (count e sheet rules) (lengths fine) (length rs) o first why stop)

  end-answers : (rs : List Record) → LentFine (lent e sheet rules) → peak_from 0 rs ≤ length slots → EndRefused e sheet rules rs n k
      → (replay e sheet rules slots).answer ≡ refused n k
  end-answers rs fine fits (good, long, all, unheld, i) =
      let z : count e sheet rules ≡ length rs = omega arith in
      let (first, m, sized) = taken-all rs fine fits good (omega arith) in
      let l = rw z at (lengths fine) in
      rw (i, long) (replay-ends e sheet rules slots (length rs) l first ∙ ending-unheld (length rs) rs (after-all rs) m unheld)

  answers : Refuses e sheet rules (length slots) n k → (replay e sheet rules slots).answer ≡ refused n k
  answers (inl a) = lent-answers a
  answers (inr (rs, fine, fits, inl a)) = record-answers rs fine fits a
  answers (inr (rs, fine, fits, inr a)) = end-answers rs fine fits a

pub replay-refuses : ReplayRefuses
replay-refuses e sheet rules slots n k = (refuses e sheet rules slots n k, answers e sheet rules slots n k)

-- ---- 15

pub full-only-when-full : FullOnlyWhenFull
unfolding number_of
full-only-when-full e sheet rules slots k a = by-refusal ((replay-refuses e sheet rules slots (number_of Full) k).0 a)
  where
    by-refusal : Refuses e sheet rules (length slots) (number_of Full) k
        → (rs : List Record) × Good e true rules sheet rs × (k ≡ length rs) × (held_from 0 rs ≡ length slots)
    by-refusal (inl (why, r, i, j)) =
        absurd (rw (← number_of-injective Full why i) at (first-applies (LengthApplies (lent_to e sheet rules)) lengths_in_order why r))
    by-refusal (inr (rs, fine, fits, inl (good, long, inside, why, r, i))) =
        let applied = first-applies (Applies (place_after e rules (length slots) rs) (fields_of e (record_at e sheet k))) checks_in_order why r in
        let full = rw (← number_of-injective Full why i) at applied in
        (rs, good, long, full.1)
    by-refusal (inr (rs, fine, fits, inr (good, long, all, unheld, i))) = absurd (omega arith)
