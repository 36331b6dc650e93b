-- The slots and the tally mirror the run of records so far: a node is in the slots exactly when it is held, with its clause, and the
-- tally counts what the definitions count. So the checks pass exactly the records that are proper after the run, with room for a node.
use Rattle.std.proofs.Common.{Err, Ok}
use mathlib.Core.Path.{◌≡◌, refl, sym, ap, ◌∙◌}
use mathlib.Core.Bool.{true, false, true≢false}
use mathlib.Core.Logic.{◌≢◌}
use mathlib.Core.List.{List, [], ◌∷◌, ◌++◌}
use Prim.Native.Nat.{ℕ, zero, suc, ◌≤◌, ◌<◌}
use native.Mathlib.Decide.{ℕ_discrete}
use native.Mathlib.Omega.{arith}
use lib.Dec.{ltb}
use lib.ListN.{length, take}
use lib.Seq.{take-suc}
use borrow.Author.Tests.{lt-ltb}
use Rattle.clause.specs.Clauses.{none}
use Rattle.sheet.specs.declared.Reason.TheVariants.{Dropped, Full}
use Rattle.sheet.specs.declared.edition.Edition.{Edition}
use Rattle.sheet.specs.Editions.{replay_records}
use Rattle.sheet.specs.Reasons.{unless, and_then}
use Rattle.sheet.specs.Records.{Node, given, step, Record, node, drop, clause, reads}
use Rattle.sheet.specs.Fields.{reading, record_at}
use Rattle.sheet.specs.Checks.{check_earlier}
use Rattle.sheet.specs.Counts.{nodes_of, steps_of, held_from, peak_from}
use Rattle.sheet.specs.Proper.{record_in, clause_in, Held, ProperAfter}
use Rattle.sheet.proofs.Reasons.{unless-fine, fine-unless, and_then-fine}
use Rattle.sheet.proofs.Fine.{Lengths, fine-earlier, step-fine, fine-step, given-fine, fine-given}
use Rattle.tally.specs.Tally.{Tally, nothing, counted, tallied}
use Rattle.tally.proofs.Tallied.{Counts, tallied-counts, tallied-more}
use Rattle.replay_spec.specs.Slots.{Slot, held, clause_held, room}
use Rattle.replay_spec.specs.Step.{State, check_held, check_room, first_of, check_record, stored, after}
use Rattle.replay_spec.specs.Replay.{start}
use Rattle.replay_spec.proofs.Slots.{either_way_lem, length-hold, length-release, length-cleared, held-cleared, held-hold, clause-hold, held-hold-other, clause-hold-other, Once, once-cleared, once-hold, held-release, held-release-other, clause-release-other, once-release, in_use, room-when-fewer, in_use-cleared, in_use-hold, in_use-release}
use Rattle.replay_spec.proofs.Steps.{turn-goes, after_steps, FirstTaken, taken_more}
use Rattle.replay_spec.proofs.Runs.{nodes-drop, count-node, peak_from-append, clause-before, clause-new, held-still, held-before, last-dropped, DropsEarlier, drops-more, held_new}

pub record Mirrors (done : List Record) (s : State) : Type 0 where
  pub tallies : s.tally ≡ tallied done nothing
  pub used : in_use s.slots ≡ s.tally.held
  pub once : Once s.slots
  pub earlier : DropsEarlier done
  pub only : (n : ℕ) → held n s.slots ≡ true → Held done n
  pub all : (n : ℕ) → Held done n → held n s.slots ≡ true
  pub clauses : (n : ℕ) → Held done n → clause_held n s.slots ≡ clause_in done n

-- what its tally says
module _ {done : List Record} {s : State} (m : Mirrors done s) where
  says : Counts done nothing s.tally
  says = rw m.tallies (tallied-counts done nothing (omega arith))

  pub numbered : s.tally.next ≡ length (nodes_of done)
  numbered = says.next ∙ omega arith

  pub counts : s.tally.held ≡ held_from 0 done
  counts = says.held

  pub peaks : s.tally.peak ≡ peak_from 0 done
  peaks = says.peak ∙ omega arith

  pub stepped : s.tally.steps ≡ steps_of (nodes_of done)
  stepped = says.steps ∙ omega arith

pub start-mirrors : (slots : List Slot) → Mirrors [] (start slots)
unfolding start nodes_of tallied
start-mirrors slots =
    record {
      tallies = refl;
      used = in_use-cleared slots;
      once = once-cleared slots;
      earlier = λ k h n e. omega arith;
      only = λ n h. absurd (true≢false (sym h ∙ held-cleared n slots));
      all = λ n h. absurd (omega (arith, h.0));
      clauses = λ n h. absurd (omega (arith, h.0));
    }

module _ (done : List Record) (s : State) (m : Mirrors done s) where
  not-shown : (n : ℕ) → (Held done n → ⊥) → held n s.slots ≡ false
  not-shown n h = either_way_lem (held n s.slots) (λ q. absurd (h (m.only n q))) (λ q. q)

  pub room-counted : room s.slots ≡ ltb s.tally.held (length s.slots)
  room-counted = room-when-fewer s.slots ∙ ap (λ (k : ℕ). ltb k (length s.slots)) m.used

  tallied-on : (r : Record) → counted s.tally r ≡ tallied (done ++ (r ∷ [])) nothing
  tallied-on r = ap (λ (t : Tally). counted t r) m.tallies ∙ sym (tallied-more done r nothing)

  -- ---- a node

  module _ (x : Node) where
    -- what is held after it was held before, or is the new node
    held-or-new : (n : ℕ) → Held (done ++ (node x ∷ [])) n → n ≢ s.tally.next → Held done n
    held-or-new n h d = held-before done (node x) n h (omega (arith, h.0, count-node done x, numbered m))

    pub node-mirrors : room s.slots ≡ true → Mirrors (done ++ (node x ∷ [])) (after s (node x))
    unfolding after counted stored
    node-mirrors e =
        let k = s.tally.next in
        let c = clause x in
        let row = s.slots in
        let fresh : held k row ≡ false = not-shown k (λ h. omega (arith, h.0, numbered m)) in
        record {
          tallies = tallied-on (node x);
          used = omega (arith, in_use-hold k c row e, m.used);
          once = once-hold k c row fresh m.once;
          earlier = drops-more done (node x) m.earlier (λ n q. let z : ◌≡◌ {A = ℕ} 0 1 = cc in absurd (omega arith));
          only = λ n h. elim (ℕ_discrete n k) [
            | yes q ↦ rw (q, numbered m) (held_new done x m.earlier)
            | no q ↦ held-still done (node x) n (m.only n (sym (held-hold-other k c n q row) ∙ h)) (λ d. let z : ◌≡◌ {A = ℕ} 0 1 = cc in omega arith)
          ];
          all = λ n h. elim (ℕ_discrete n k) [
            | yes q ↦ rw q (held-hold k c row e)
            | no q ↦ held-hold-other k c n q row ∙ m.all n (held-or-new n h q)
          ];
          clauses = λ n h. elim (ℕ_discrete n k) [
            | yes q ↦ rw q (clause-hold k c row e fresh ∙ rw (numbered m) (sym (clause-new done x)))
            | no q ↦
                let b = held-or-new n h q in
                clause-hold-other k c n q row ∙ m.clauses n b ∙ sym (clause-before done (node x) n b.0)
          ];
        }

  -- ---- a drop

  pub drop-mirrors : (n : ℕ) → Held done n → Mirrors (done ++ (drop n ∷ [])) (after s (drop n))
  unfolding after counted stored
  drop-mirrors n h =
      let row = s.slots in
      let nodes = nodes-drop done n in
      let back : (j : ℕ) → Held (done ++ (drop n ∷ [])) j → Held done j = λ j i. held-before done (drop n) j i (omega (arith, i.0, ap length nodes)) in
      let other : (j : ℕ) → Held (done ++ (drop n ∷ [])) j → j ≢ n = λ j i q. last-dropped done (drop n) j i (ap drop (sym q)) in
      record {
        tallies = tallied-on (drop n);
        used = omega (arith, in_use-release n row (m.all n h), m.used);
        once = once-release n row m.once;
        earlier = drops-more done (drop n) m.earlier (λ j q. let z : n ≡ j = cc in omega (arith, h.0));
        only = λ j i. elim (ℕ_discrete j n) [
          | yes q ↦ absurd (true≢false (sym i ∙ rw q (held-release n row m.once)))
          | no q ↦ held-still done (drop n) j (m.only j (sym (held-release-other n j q row) ∙ i)) (λ d. q (cc))
        ];
        all = λ j i. held-release-other n j (other j i) row ∙ m.all j (back j i);
        clauses = λ j i.
            clause-release-other n j (other j i) row ∙ m.clauses j (back j i) ∙ sym (clause-before done (drop n) j (back j i).0);
      }

-- ---- the checks

-- a node needs room
abbrev pub Roomy : Record → List Slot → Type 0
Roomy (node x) row = room row ≡ true
Roomy (drop n) row = Unit {0}

pub length-after : (s : State) (r : Record) → length (after s r).slots ≡ length s.slots
unfolding after stored
length-after s (node x) = length-hold s.tally.next (clause x) s.slots
length-after s (drop n) = length-release n s.slots

module _ (e : Edition) (rules : List ℕ) (done : List Record) (s : State) (m : Mirrors done s) where
  pub after-mirrors : (r : Record) → ProperAfter e rules done r → Roomy r s.slots → Mirrors (done ++ (r ∷ [])) (after s r)
  after-mirrors (node x) p q = node-mirrors done s m x q
  after-mirrors (drop n) p q = drop-mirrors done s m n p

  -- the checks of a named node
  earlier-fine : (n : ℕ) → Held done n → check_earlier s.tally.next n ≡ Ok tt
  earlier-fine n h = fine-earlier s.tally.next n (omega (arith, h.0, numbered m))

  held-fine : (n : ℕ) → Held done n → check_held s.slots n ≡ Ok tt
  unfolding check_held
  held-fine n h = fine-unless _ Dropped (Ok tt) (m.all n h) refl

  fine-held : (n : ℕ) → check_held s.slots n ≡ Ok tt → Held done n
  unfolding check_held
  fine-held n v = m.only n (unless-fine _ Dropped (Ok tt) v).0

  -- of a proper node only 15 is left to check
  proper-checked : (x : Node) → ProperAfter e rules done (node x) → check_record e rules s (node x) ≡ and_then (check_room s.slots) (Ok tt)
  unfolding check_record first_of and_then
  proper-checked (given line c) p = rw (fine-given e rules line c p.0 p.1 p.2)
  proper-checked (step p l r c) (left, right, plus, minus, result) =
      rw (
        earlier-fine l left,
        earlier-fine r right,
        held-fine l left,
        held-fine r right,
        m.clauses l left,
        m.clauses r right,
        fine-step p (clause_in done l) (clause_in done r) c plus minus result,
      )

  pub proper-fine : (r : Record) → ProperAfter e rules done r → Roomy r s.slots → check_record e rules s r ≡ Ok tt
  unfolding check_room unless check_record first_of and_then
  proper-fine (node x) p q = proper-checked x p ∙ rw q
  proper-fine (drop n) p q = rw (earlier-fine n p, held-fine n p)

  pub proper-full : (x : Node) → ProperAfter e rules done (node x) → room s.slots ≡ false → check_record e rules s (node x) ≡ Err Full
  unfolding check_room unless and_then
  proper-full x p q = proper-checked x p ∙ rw q

  -- what passes is proper, and has room
  pub fine-proper : (r : Record) → check_record e rules s r ≡ Ok tt → ProperAfter e rules done r × Roomy r s.slots
  unfolding check_record first_of check_room
  fine-proper (node (given line c)) v =
      let (line-fine, rest) = and_then-fine _ _ v in
      (given-fine e rules line c line-fine, (unless-fine _ Full (Ok tt) (and_then-fine _ _ rest).0).0)
  fine-proper (node (step p l r c)) v =
      let held_on = (and_then-fine _ _ (and_then-fine _ _ v).1).1 in
      let left = fine-held l (and_then-fine _ _ held_on).0 in
      let after-left = (and_then-fine _ _ held_on).1 in
      let right = fine-held r (and_then-fine _ _ after-left).0 in
      let (resolved, room-left) = and_then-fine _ _ (and_then-fine _ _ after-left).1 in
      let (plus, minus, result) =
      rw (m.clauses l left, m.clauses r right) at (step-fine p (clause_held l s.slots) (clause_held r s.slots) c resolved) in
      ((left, right, plus, minus, result), (unless-fine _ Full (Ok tt) (and_then-fine _ _ room-left).0).0)
  fine-proper (drop n) v = (fine-held n (and_then-fine _ _ (and_then-fine _ _ v).1).0, tt)

-- ---- after k of the records that a sheet of n begins with

module _ (e : Edition) (sheet rules : List ℕ) (slots : List Slot) (rs : List Record)
    (n : ℕ) (l : Lengths e (replay_records e) (length sheet) (length rules) n) (within : length rs ≤ n)
    (read : (k : ℕ) → k < length rs → reading e true (record_at e sheet k) ≡ reads (record_in rs k))
    (each : (k : ℕ) → k < length rs → ProperAfter e rules (take k rs) (record_in rs k)) where
  -- the first k records are taken, and the state then mirrors them
  pub record Sofar (k : ℕ) : Type 0 where
    pub first : FirstTaken e rules sheet (start slots) k
    pub mirrors : Mirrors (take k rs) (after_steps e rules sheet (start slots) k)
    pub sized : length (after_steps e rules sheet (start slots) k).slots ≡ length slots

  roomy : (k : ℕ) (r : Record) → Sofar k → peak_from 0 (take k rs ++ (r ∷ [])) ≤ length slots → Roomy r (after_steps e rules sheet (start slots) k).slots
  unfolding peak_from
  roomy k (node x) y h =
      let s = after_steps e rules sheet (start slots) k in
      let m = y.mirrors in
      room-counted (take k rs) s m
      ∙ lt-ltb s.tally.held (length s.slots) (omega (arith, counts m, y.sized, peak_from-append 0 (take k rs) (node x ∷ [])))
  roomy k (drop n) y h = tt

  one_more : (k : ℕ) → k < length rs → peak_from 0 (take k rs ++ (record_in rs k ∷ [])) ≤ length slots → Sofar k → Sofar (suc k)
  one_more k h peak y =
      let s = after_steps e rules sheet (start slots) k in
      let r = record_in rs k in
      let fits = roomy k r y peak in
      let g = turn-goes e rules (record_at e sheet k) s r (read k h) (proper-fine e rules (take k rs) s y.mirrors r (each k h) fits) in
      let (more, then) = taken_more e sheet rules slots n l k (omega arith) y.first (after s r) g in
      record {
        first = more;
        mirrors = rw (then, take-suc rs k (node (given 0 none)) h) (after-mirrors e rules (take k rs) s y.mirrors r (each k h) fits);
        sized = rw then (length-after s r ∙ y.sized);
      }

  pub so_far : (k : ℕ) → k ≤ length rs → peak_from 0 (take k rs) ≤ length slots → Sofar k
  unfolding after_steps start
  so_far zero h peak = record { first = λ j i. absurd (omega arith); mirrors = start-mirrors slots; sized = length-cleared slots }
  so_far (suc k) h peak =
      let p : peak_from 0 (take k rs ++ (record_in rs k ∷ [])) ≤ length slots = rw (take-suc rs k (node (given 0 none)) h) at peak in
      one_more k h p (so_far k (omega arith) (omega (arith, peak_from-append 0 (take k rs) (record_in rs k ∷ []))))
