-- What the functions over the row share: a slot that is all zero, and the row with its first slots freed.
use Rattle.std.proofs.Common.{◌≡◌, ℕ, zero, suc, ◌+◌, ◌<◌, List, [], ◌∷◌, ◌++◌, length, set, drop, replicate, refl, sym, ap, ◌∙◌, add-one}
use mathlib.Core.List.{append-nil}
use native.Mathlib.Nat.{not-suc-le-zero, le_of_suc-le-suc}
use lib.Seq.{drop-length}
use Rattle.replay_spec.specs.Slots.{Slot as RowSlot, empty, cleared}
use Rattle.replay_slots.specs.declared.Slot.{Slot}
use Rattle.replay_slots.specs.Said.{slot_of, row_of}
use Rattle.replay_slots.proofs.Rows.{row-length}

abbrev pub blank : Slot
blank = record { used = 0; node = 0; clause = record { positive = record { low = 0; high = 0 }; negative = record { low = 0; high = 0 } } }

pub blank-is : slot_of blank ≡ empty
blank-is = refl

-- the row with its first i slots freed
abbrev pub swept : ℕ → List RowSlot → List RowSlot
swept i r = replicate i empty ++ drop i r

swept-suc : (i : ℕ) (r : List RowSlot) → i < length r → set (swept i r) i empty ≡ swept (suc i) r
swept-suc i [] h = absurd (not-suc-le-zero h)
swept-suc zero (x ∷ r) h = refl
swept-suc (suc i) (x ∷ r) h = ap (λ (t : List RowSlot). empty ∷ t) (swept-suc i r (le_of_suc-le-suc h))

pub swept-more : (i : ℕ) (ys zs ws : List Slot) → i < length ys → row_of zs ≡ swept i (row_of ys) → row_of ws ≡ set (row_of zs) i empty → row_of ws ≡ swept (i + 1) (row_of ys)
swept-more i ys zs ws h p q =
    let inside : i < length (row_of ys) = rw row-length h in
    rw add-one (q ∙ ap (λ (t : List RowSlot). set t i empty) p ∙ swept-suc i (row_of ys) inside)

pub swept_all : (i : ℕ) (ys zs : List Slot) → i ≡ length ys → row_of zs ≡ swept i (row_of ys) → row_of zs ≡ cleared (row_of ys)
unfolding cleared
swept_all i ys zs e p =
    let all : i ≡ length (row_of ys) = e ∙ sym (row-length ys) in
    p ∙ rw (all, drop-length (row_of ys), append-nil)
