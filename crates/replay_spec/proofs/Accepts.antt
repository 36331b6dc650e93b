-- The replay accepts exactly the proper sheets whose peak the slots can hold, and answers their conclusion, nodes, steps and peak; with
-- fewer slots it refuses by 15 the first record that would have more nodes held than there are slots.
use mathlib.Core.Path.{◌≡◌, refl, sym, ap, ◌∙◌}
use mathlib.Core.Bool.{Bool, true, false}
use mathlib.Core.List.{List, [], ◌∷◌, ◌++◌, append-nil}
use Prim.Native.Nat.{ℕ, zero, suc, ◌+◌, ◌-◌, ◌*◌, ◌/◌, ◌≤◌, ◌<◌}
use native.Mathlib.Nat.{le_of_suc-le-suc, le_refl, zero-add}
use native.Mathlib.Numerals.{add-one}
use native.Mathlib.Omega.{arith}
use lib.ListN.{length, take}
use lib.Seq.{take-length, append_snoc, ext_get_or}
use borrow.Author.Tests.{ltb-true, le-ltb}
use Rattle.clause.specs.Clauses.{none}
use Rattle.sheet.specs.declared.Reason.TheVariants.{Full}
use Rattle.sheet.specs.declared.edition.Edition.{Edition}
use Rattle.sheet.specs.Editions.{record_bytes, replay_records}
use Rattle.sheet.specs.Reasons.{number_of}
use Rattle.sheet.specs.Records.{given, Record, node, drop, reads}
use Rattle.sheet.specs.Fields.{reading, record_at}
use Rattle.sheet.specs.Counts.{nodes_of, steps_of, peak_from, first_over}
use Rattle.sheet.specs.Proper.{record_in, Held, ProperAfter, ReadsAs, Proper, conclusion_of}
use Rattle.sheet.proofs.Sizes.{same_count}
use Rattle.sheet.proofs.Fine.{Lengths}
use Rattle.tally.specs.Tally.{counted}
use Rattle.replay_spec.specs.Slots.{Slot, holding, Place, nowhere, at, is_place, slot_in, find, look, last_of, held, clause_held, room}
use Rattle.replay_spec.specs.Step.{State, after, Turn, goes, stops, turn}
use Rattle.replay_spec.specs.Replay.{Result, refused, accepted, by_last, ending, run, start, replay}
use Rattle.replay_spec.proofs.Slots.{in_use-le, length-cleared}
use Rattle.replay_spec.proofs.Steps.{turn-stops, turn-went, run-goes, run-stops, replay-runs, accepted-lengths, after_steps, replay-ends, replay-stops}
use Rattle.replay_spec.proofs.Runs.{first-over, Follows, follows-each}
use Rattle.replay_spec.proofs.Mirrors.{Mirrors, numbered, counts, peaks, stepped, start-mirrors, Roomy, length-after, room-counted, after-mirrors, proper-full, fine-proper, so_far}

-- ---- the end

-- what an accepted replay of these records returns
abbrev pub result_of : List Record → Result
result_of rs = record { conclusion = conclusion_of rs; nodes = length (nodes_of rs); steps = steps_of (nodes_of rs); peak = peak_from 0 rs }

-- the last of n nodes, where it is held
module _ (k n : ℕ) (s : State) (last : s.tally.next ≡ suc n) where
  at_last : ending k s ≡ by_last k s.tally (find (holding n) s.slots)
  unfolding ending last_of look
  at_last = rw last

  ending-held : held n s.slots ≡ true
      → ending k s ≡ accepted (record { conclusion = clause_held n s.slots; nodes = suc n; steps = s.tally.steps; peak = s.tally.peak })
  unfolding held clause_held is_place slot_in by_last
  ending-held h = at_last ∙ by_place (find (holding n) s.slots) h
    where
      by_place : (p : Place) → is_place p ≡ true
          → by_last k s.tally p ≡ accepted (record { conclusion = (slot_in p).clause; nodes = suc n; steps = s.tally.steps; peak = s.tally.peak })
      by_place nowhere q = cc
      by_place (at i x) q = rw last

pub held-ending : (k : ℕ) (s : State) (r : Result) → ending k s ≡ accepted r → held (s.tally.next - 1) s.slots ≡ true
unfolding ending by_last last_of look held is_place
held-ending k s r = by_next s.tally.next
  where
    by_place : (p : Place) → by_last k s.tally p ≡ accepted r → is_place p ≡ true
    by_place nowhere e = cc
    by_place (at i x) e = refl

    by_next : (n : ℕ) → by_last k s.tally (look (last_of n) s.slots) ≡ accepted r → is_place (find (holding (n - 1)) s.slots) ≡ true
    by_next zero e = cc
    by_next (suc n) e = let o : suc n - 1 ≡ n = omega arith in rw o (by_place (find (holding n) s.slots) e)

pub mirrored-ending : (k : ℕ) (rs : List Record) (s : State) → Mirrors rs s → Held rs (length (nodes_of rs) - 1) → ending k s ≡ accepted (result_of rs)
mirrored-ending k rs s m h =
    let last = length (nodes_of rs) - 1 in
    let is : suc last ≡ length (nodes_of rs) = omega (arith, h.0) in
    ending-held k last s (numbered m ∙ sym is) (m.all last h)
    ∙ (λ i. accepted (record { conclusion = m.clauses last h i; nodes = is i; steps = stepped m i; peak = peaks m i }))

-- ---- a proper sheet

module _ (e : Edition) (sheet rules : List ℕ) (slots : List Slot) (rs : List Record) (proper : Proper e (replay_records e) true rules sheet rs) where
  lengths : Lengths e (replay_records e) (length sheet) (length rules) (length rs)
  lengths = (proper.read.size, proper.some, proper.few, proper.lines)

  pub proper-accepted : peak_from 0 rs ≤ length slots
      → (replay e sheet rules slots).answer ≡ accepted (result_of rs)
  proper-accepted peak =
      let y = so_far e sheet rules slots rs (length rs) lengths (le_refl (length rs)) proper.read.each proper.each (length rs) (le_refl (length rs)) (rw (take-length rs) peak) in
      let m = rw (take-length rs) at y.mirrors in
      replay-ends e sheet rules slots (length rs) lengths y.first
      ∙ mirrored-ending (length rs) rs (after_steps e rules sheet (start slots) (length rs)) m proper.ends

  pub proper-refused : length slots < peak_from 0 rs → (replay e sheet rules slots).answer ≡ refused 15 (first_over (length slots) 0 rs)
  unfolding number_of
  proper-refused peak =
      let k = first_over (length slots) 0 rs in
      let s = after_steps e rules sheet (start slots) k in
      let o = first-over (length slots) 0 rs (omega arith) peak in
      let y = so_far e sheet rules slots rs (length rs) lengths (le_refl (length rs)) proper.read.each proper.each k (omega (arith, o.inside)) o.before in
      let m = y.mirrors in
      let (x, is) = o.new in
      let p : ProperAfter e rules (take k rs) (node x) = rw is at (proper.each k o.inside) in
      let full : room s.slots ≡ false =
      room-counted (take k rs) s m ∙ le-ltb s.tally.held (length s.slots) (omega (arith, y.sized, counts m, o.full)) in
      replay-stops e sheet rules slots (length rs) lengths k o.inside y.first Full
      (turn-stops e rules (record_at e sheet k) s (node x) Full (proper.read.each k o.inside ∙ ap reads is) (proper-full e rules (take k rs) s m x p full))

-- ---- what is accepted is proper

module _ (e : Edition) (sheet rules : List ℕ) (res : Result) where
  -- the records from number k on, m of them, that a run from s took after `done`
  record Rest (m k : ℕ) (done : List Record) (s : State) : Type 0 where
    rest : List Record
    size : length rest ≡ m
    read : (j : ℕ) → j < m → reading e true (record_at e sheet (k + j)) ≡ reads (record_in rest j)
    follows : Follows e rules done rest
    fits : peak_from s.tally.held rest ≤ length s.slots
    ends : Held (done ++ rest) (length (nodes_of (done ++ rest)) - 1)

  nothing_left : (k : ℕ) (done : List Record) (s : State) → Mirrors done s → ending k s ≡ accepted res → Rest 0 k done s
  unfolding peak_from
  nothing_left k done s m a =
      let last : Held done (s.tally.next - 1) = m.only (s.tally.next - 1) (held-ending k s res a) in
      record {
        rest = [];
        size = refl;
        read = λ j h. absurd (omega arith);
        follows = tt;
        fits = omega arith;
        ends = rw (append-nil done) (rw (numbered m) at last);
      }

  -- a record more in front
  one-before : (m k : ℕ) (done : List Record) (s : State) (r : Record) → Mirrors done s → reading e true (record_at e sheet k) ≡ reads r
      → ProperAfter e rules done r → Roomy r s.slots → Rest m (suc k) (done ++ (r ∷ [])) (after s r) → Rest (suc m) k done s
  unfolding after counted peak_from
  one-before m k done s r mirrors q p roomy y =
      record {
        rest = r ∷ y.rest;
        size = ap suc y.size;
        read = reads_on;
        follows = (p, y.follows);
        fits = fits_on r roomy (rw (length-after s r) at y.fits);
        ends = rw (append_snoc done r y.rest) at y.ends;
      }
    where
      reads_on : (j : ℕ) → j < suc m → reading e true (record_at e sheet (k + j)) ≡ reads (record_in (r ∷ y.rest) j)
      reads_on zero h = let o : k + 0 ≡ k = omega arith in rw o q
      reads_on (suc j) h = let o : k + suc j ≡ suc k + j = omega arith in rw o (y.read j (le_of_suc-le-suc h))

      fits_on : (x : Record) → Roomy x s.slots → peak_from (counted s.tally x).held y.rest ≤ length s.slots
          → peak_from s.tally.held (x ∷ y.rest) ≤ length s.slots
      fits_on (node n) room-left h =
          let fewer = ltb-true s.tally.held (length s.slots) (sym (room-counted done s mirrors) ∙ room-left) in
          omega (arith, rw (add-one s.tally.held) at h)
      fits_on (drop n) room-left h = omega (arith, mirrors.used, in_use-le s.slots)

  accepted-rest : (m k : ℕ) (done : List Record) (s : State) → Mirrors done s → run e rules sheet m k s ≡ accepted res → Rest m k done s
  unfolding run
  accepted-rest zero k done s mirrors a = nothing_left k done s mirrors a
  accepted-rest (suc m) k done s mirrors a = by_turn_lem (turn e rules (record_at e sheet k) s) refl (accepted-rest m (suc k))
    where
      by_turn_lem : (t : Turn) → turn e rules (record_at e sheet k) s ≡ t
          → ((done' : List Record) (s' : State) → Mirrors done' s' → run e rules sheet m (suc k) s' ≡ accepted res → Rest m (suc k) done' s')
          → Rest (suc m) k done s
      by_turn_lem (goes t) g more =
          let (r, q, fine, is) = turn-went e rules (record_at e sheet k) s t g in
          let (p, roomy) = fine-proper e rules done s mirrors r fine in
          one-before m k done s r mirrors q p roomy
          (more (done ++ (r ∷ [])) (after s r) (after-mirrors e rules done s mirrors r p roomy)
          (rw is at (sym (run-goes e rules sheet m k s t g) ∙ a)))
      by_turn_lem (stops why) g more = let y = run-stops e rules sheet m k s why g in let z : ◌≡◌ {A = ℕ} 0 1 = cc in absurd (omega arith)

  pub accepted-proper : (slots : List Slot) → (replay e sheet rules slots).answer ≡ accepted res
      → (rs : List Record) × Proper e (replay_records e) true rules sheet rs × (peak_from 0 rs ≤ length slots)
  unfolding start
  accepted-proper slots a =
      let n = length sheet / record_bytes e in
      let l = accepted-lengths e sheet rules slots res a in
      let y = accepted-rest n 0 [] (start slots) (start-mirrors slots) (sym (replay-runs e sheet rules slots n l) ∙ a) in
      let rs = y.rest in
      let size = y.size in (
        rs,
        record {
          read = record { size = rw size l.0; each = λ k h. rw (zero-add k) at (y.read k (rw size at h)) };
          some = rw size l.1;
          few = rw size l.2;
          lines = l.3;
          each = follows-each e rules rs [] y.follows;
          ends = y.ends;
        },
        rw (length-cleared slots) at y.fits,
      )

-- ---- both ways

pub replay-accepts : (e : Edition) (sheet rules : List ℕ) (slots : List Slot)
    → ((rs : List Record)
    → Proper e (replay_records e) true rules sheet rs
    → peak_from 0 rs ≤ length slots
    → (replay e sheet rules slots).answer ≡ accepted (result_of rs))
    × ((r : Result)
    → (replay e sheet rules slots).answer ≡ accepted r
    → (rs : List Record) × Proper e (replay_records e) true rules sheet rs × (peak_from 0 rs ≤ length slots))
replay-accepts e sheet rules slots =
    (proper-accepted e sheet rules slots, λ r. accepted-proper e sheet rules r slots)

-- ---- the records that the bytes read as

pub reads-once : (e : Edition) (drops : Bool) (sheet : List ℕ) (rs rs' : List Record) → ReadsAs e drops sheet rs → ReadsAs e drops sheet rs' → rs ≡ rs'
reads-once e drops sheet rs rs' a b =
    let size = same_count e (length rs) (length rs') (sym a.size ∙ b.size) in
    ext_get_or (node (given 0 none)) rs rs' size (λ k h. let p = a.each k h in let q = b.each k (omega arith) in cc)

-- what an accepted replay says of them
pub record Says (e : Edition) (sheet rules : List ℕ) (slots : List Slot) (rs : List Record) (r : Result) : Type 0 where
  pub proper : Proper e (replay_records e) true rules sheet rs
  pub fits : peak_from 0 rs ≤ length slots
  pub result : r ≡ result_of rs

pub accepted-says : (e : Edition) (sheet rules : List ℕ) (slots : List Slot) (rs : List Record) (r : Result)
    → ReadsAs e true sheet rs → (replay e sheet rules slots).answer ≡ accepted r → Says e sheet rules slots rs r
accepted-says e sheet rules slots rs r read a =
    let (rs', proper, fits) = accepted-proper e sheet rules r slots a in
    let same = reads-once e true sheet rs' rs proper.read read in
    let p = rw same at proper in
    let f = rw same at fits in
    let b = proper-accepted e sheet rules slots rs p f in
    record { proper = p; fits = f; result = cc }
