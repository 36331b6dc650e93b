-- Room for the records that are still to come, and what the turn at a node, with its drops, makes of it.
use mathlib.Core.Path.{◌≡◌, refl, sym, ap, ◌∙◌}
use mathlib.Core.Bool.{Bool, true, false, not}
use lib.Dec.{eqb}
use borrow.Author.Tests.{eq-eqb, eqb-true}
use mathlib.Core.List.{List, [], ◌∷◌, ◌++◌}
use Prim.Native.Nat.{ℕ, zero, suc, ◌+◌, ◌*◌, ◌<◌, ◌≤◌, min, max}
use native.Mathlib.Omega.{arith}
use native.Mathlib.Decide.{ℕ_discrete}
use lib.ListN.{length, length-append, drop_of_length-le}
use lib.ListN.{drop as after}
use Rattle.base.proofs.Bytes.{length-put}
use Rattle.sheet.specs.Editions.{record_bytes}
use Rattle.sheet.specs.Records.{Node, given, step, Record, node, drop, node_at}
use Rattle.sheet.specs.Fields.{record_bytes_of}
use Rattle.sheet.specs.Counts.{step_of}
use Rattle.sheet.proofs.Sizes.{record-whole}
use Rattle.sheet.proofs.RecordBytes.{length-record_bytes_of}
use Rattle.press_spec.specs.Links.{leaf, link, links, link_at}
use Rattle.press_spec.specs.Drops.{drops_after, with_drops}
use Rattle.press_spec.proofs.Nodes.{nodes-from, link-at}
use Rattle.press_last.specs.LastUses.{drop_by}
use Rattle.press_last.proofs.Joined.{Joined, joined-inside, drops_same, drops-two}
use Rattle.press_emit.specs.Emission.{Emission, emit_record, emit_all, Roomy}
use Rattle.tally.specs.Tally.{counted}
use Rattle.press_drops.specs.Turns.{records_at}
use Rattle.press_emit.proofs.Emits.{emit_all-append}

put-length : (r : Record) (rs : List Record) (e : Emission) → Roomy (r ∷ rs) e → length (emit_record r e).out ≡ length e.out
unfolding emit_record
put-length r rs e h =
    let v = e.edition in
    length-put e.out (record_bytes v * e.records) (record_bytes_of v r)
    (omega (arith, record-whole v e.records (length e.out) (omega (arith, h.room)), length-record_bytes_of v r))

step_of-le : (x : Node) → step_of x ≤ 1
unfolding step_of
step_of-le (given line c) = omega arith
step_of-le (step p l r c) = omega arith

pub roomy-next : (r : Record) (rs : List Record) (e : Emission) → Roomy (r ∷ rs) e → Roomy rs (emit_record r e)
unfolding emit_record counted
roomy-next (node x) rs e h = record {
  few = omega (arith, h.few);
  room = rw (put-length (node x) rs e h) (omega (arith, h.room));
  next = omega (arith, h.next);
  held = omega (arith, h.held);
  steps = omega (arith, h.steps, step_of-le x);
}
roomy-next (drop n) rs e h = record {
  few = omega (arith, h.few);
  room = rw (put-length (drop n) rs e h) (omega (arith, h.room));
  next = omega (arith, h.next);
  held = omega (arith, h.held);
  steps = omega (arith, h.steps);
}

-- room for some records is room for the first of them, and for the others after these
pub roomy-first : (xs ys : List Record) (e : Emission) → Roomy (xs ++ ys) e → Roomy xs e
roomy-first xs ys e h = record {
  few = omega (arith, h.few, length-append xs ys);
  room = omega (arith, h.room, length-append xs ys);
  next = h.next;
  held = h.held;
  steps = h.steps;
}

pub roomy-rest : (xs ys : List Record) (e : Emission) → Roomy (xs ++ ys) e → Roomy ys (emit_all xs e)
unfolding emit_all
roomy-rest [] ys e h = h
roomy-rest (x ∷ xs) ys e h = roomy-rest xs ys (emit_record x e) (roomy-next x (xs ++ ys) e h)

-- ---- two parents, or one that is named twice

pub differ : (l r : ℕ) → true ≡ not (eqb l r) → l ≡ r → ⊥
differ l r e q = let z : true ≡ false = rw (eq-eqb l r q) at e in cc

pub alike : (l r : ℕ) → false ≡ not (eqb l r) → l ≡ r
alike l r e = eqb-true l r (by (eqb l r) e)
  where
    by : (u : Bool) → false ≡ not u → u ≡ true
    by true e = refl
    by false e = e

-- ---- a node and its drops

module _ (s : List Node) (k : ℕ) (e : Emission) where
  pub turn-room : Roomy (records_at s k) e → Roomy (node (node_at s k) ∷ []) e
  unfolding records_at
  turn-room h = roomy-first (node (node_at s k) ∷ []) (drops_after (link (node_at s k)) (after (k + 1) (links s))) e h

  pub turn-leaf : (line : ℕ) → link (node_at s k) ≡ leaf line → emit_record (node (node_at s k)) e ≡ emit_all (records_at s k) e
  unfolding emit_all records_at drops_after
  turn-leaf line q = rw q

-- node k is a step of l and r, there is room for it and its drops, and it is emitted
pub record Stepped (s : List Node) (last : List ℕ) (k : ℕ) (e e₁ : Emission) (l r : ℕ) : Type 0 where
  pub joined : Joined (links s) last k l r
  pub room : Roomy (records_at s k) e
  pub first : e₁ ≡ emit_record (node (node_at s k)) e

module _ {s : List Node} {last : List ℕ} {k : ℕ} {e e₁ : Emission} {l r : ℕ} (d : Stepped s last k e e₁ l r) where
  abbrev drops : List Record
  drops = drops_after (link_at (links s) k) (after (k + 1) (links s))

  drops-room : Roomy drops e₁
  unfolding records_at
  drops-room = rw (d.first, link-at s k) (roomy-next (node (node_at s k)) _ e d.room)

  whole : emit_all drops e₁ ≡ emit_all (records_at s k) e
  unfolding records_at emit_all
  whole = rw (link-at s k, d.first)

  module _ {low : ℕ} (lo : low ≡ min l r) where
    pub low-inside : low < length last
    low-inside = omega (arith, joined-inside d.joined)

    same : l ≡ r → drops ≡ drop_by last k low
    same q = let z : low ≡ l = omega arith in rw z (drops_same d.joined q)

    pub turn-same : l ≡ r → {e₂ : Emission} → e₂ ≡ emit_all (drop_by last k low) e₁ → e₂ ≡ emit_all (records_at s k) e
    turn-same q z = z ∙ rw (← same q) whole

    two : (l ≡ r → ⊥) → drops ≡ drop_by last k low ++ drop_by last k (max l r)
    two q = rw lo (drops-two d.joined q)

    pub low-room : Roomy (drop_by last k low) e₁
    low-room = elim (ℕ_discrete l r) [
      | yes q ↦ rw (same q) at drops-room
      | no q ↦ roomy-first (drop_by last k low) (drop_by last k (max l r)) e₁ (rw (two q) at drops-room)
    ]

    module _ {high : ℕ} (hi : high ≡ max l r) (q : l ≡ r → ⊥) where
      pub high-inside : high < length last
      high-inside = omega (arith, joined-inside d.joined)

      both : drops ≡ drop_by last k low ++ drop_by last k high
      both = rw hi (two q)

      module _ {e₂ : Emission} (second : e₂ ≡ emit_all (drop_by last k low) e₁) where
        pub high-room : Roomy (drop_by last k high) e₂
        high-room = rw second (roomy-rest (drop_by last k low) (drop_by last k high) e₁ (rw both at drops-room))

        pub turn_two : {e₃ : Emission} → e₃ ≡ emit_all (drop_by last k high) e₂ → e₃ ≡ emit_all (records_at s k) e
        turn_two z =
            z
            ∙ ap (emit_all (drop_by last k high)) second
            ∙ sym (emit_all-append (drop_by last k low) (drop_by last k high) e₁)
            ∙ ap (λ (rs : List Record). emit_all rs e₁) (sym both)
            ∙ whole

-- ---- the loop: what is left to emit

links-after : (s : List Node) (k : ℕ) → links (after k s) ≡ after k (links s)
links-after s zero = refl
links-after [] (suc k) = refl
links-after (x ∷ s) (suc k) = links-after s k

module _ (s : List Node) (k : ℕ) where
  drops-on : k < length s → with_drops (after k s) ≡ records_at s k ++ with_drops (after (k + 1) s)
  unfolding with_drops records_at
  drops-on h = ap with_drops (nodes-from s k h) ∙ rw (links-after s (k + 1))

  module _ (h : k < length s) (e : Emission) where
    pub emit-room : Roomy (with_drops (after k s)) e → Roomy (records_at s k) e
    emit-room r = roomy-first (records_at s k) (with_drops (after (k + 1) s)) e (rw (drops-on h) at r)

    pub emit-room-left : Roomy (with_drops (after k s)) e → Roomy (with_drops (after (k + 1) s)) (emit_all (records_at s k) e)
    emit-room-left r = roomy-rest (records_at s k) (with_drops (after (k + 1) s)) e (rw (drops-on h) at r)

    pub emit-on : emit_all (with_drops (after (k + 1) s)) (emit_all (records_at s k) e) ≡ emit_all (with_drops (after k s)) e
    emit-on =
        sym (emit_all-append (records_at s k) (with_drops (after (k + 1) s)) e) ∙ ap (λ (rs : List Record). emit_all rs e) (sym (drops-on h))

  pub emit-done : length s ≤ k → (e : Emission) → emit_all (with_drops (after k s)) e ≡ e
  unfolding with_drops emit_all
  emit-done h e = ap (λ (l : List Node). emit_all (with_drops l) e) (drop_of_length-le s h)
