-- Laws of the row that a lent slice of slots is, where a look through it ends, and what it is once a slot is put into it.
use mathlib.Core.Path.{◌≡◌, refl, sym, ap, ap₂, ◌∙◌}
use mathlib.Core.Bool.{true, false}
use mathlib.Core.List.{List}
use Prim.Native.Nat.{ℕ, ◌≤◌, ◌<◌}
use native.Mathlib.Omega.{arith}
use lib.ListN.{length, get_or, set, length-map, get_or-map}
use lib.Seq.{set_out}
use Rattle.base.proofs.Lists.{map-set}
use Rattle.replay_spec.specs.Slots.{Slot, empty, free, holding, Place, nowhere, at, slot_in, put, Sought, nothing, vacancy, holder, look}
use Rattle.replay_spec.proofs.Slots.{find_at, find_none}
use Rattle.replay_slots.specs.declared.Slot.{Slot as CodeSlot}
use Rattle.replay_slots.specs.Looks.{is_sought, passed, index_in}
use Rattle.replay_slots.specs.Said.{slot_of, row_of}

pub row-length : (ys : List CodeSlot) → length (row_of ys) ≡ length ys
unfolding row_of
row-length ys = length-map ys slot_of

pub row-set : (ys : List CodeSlot) (i : ℕ) (s : CodeSlot) → row_of (set ys i s) ≡ set (row_of ys) i (slot_of s)
unfolding row_of
row-set ys i s = map-set slot_of ys i s

-- z is a free slot in the code's own form
pub row_at : (ys : List CodeSlot) (i : ℕ) (z : CodeSlot) → slot_of z ≡ empty → get_or (row_of ys) i empty ≡ slot_of (get_or ys i z)
unfolding row_of
row_at ys i z e = ap (get_or (row_of ys) i) (sym e) ∙ get_or-map slot_of ys i z

-- ---- a look through the row

pub passed-le : (x : Sought) (n : ℕ) → passed x n ≤ n
unfolding passed
passed-le nothing n = omega arith
passed-le vacancy n = omega arith
passed-le (holder m) n = omega arith

module _ (row : List Slot) where
  -- it ends at i
  pub look_at_lem : (x : Sought) (i : ℕ) (s : Slot) → i < length row → get_or row i empty ≡ s → is_sought x s ≡ true
      → ((j : ℕ) → j < i → is_sought x (get_or row j empty) ≡ false) → look x row ≡ at i s
  unfolding is_sought look
  look_at_lem nothing i s h is e before = cc
  look_at_lem vacancy i s h is e before = find_at free row i s h is e before
  look_at_lem (holder n) i s h is e before = find_at (holding n) row i s h is e before

  -- or nowhere
  pub look_none : (x : Sought) (n : ℕ) → n ≡ passed x (length row) → ((j : ℕ) → j < n → is_sought x (get_or row j empty) ≡ false) → look x row ≡ nowhere
  unfolding is_sought look passed
  look_none nothing n q fails = refl
  look_none vacancy n q fails = find_none free row (λ j l. fails j (omega arith))
  look_none (holder m) n q fails = find_none (holding m) row (λ j l. fails j (omega arith))

-- ---- a slot put into it

module _ (ys : List CodeSlot) (i : ℕ) where
  pub put_in : (p : Place) (s : CodeSlot) → i ≡ index_in p (length ys) → i < length ys → slot_of s ≡ slot_in p → row_of (set ys i s) ≡ put p (row_of ys)
  unfolding index_in slot_in put
  put_in nowhere s q h e = absurd (omega arith)
  put_in (at j x) s q h e = row-set ys i s ∙ ap₂ (set (row_of ys)) q e

  pub put-out : (p : Place) → i ≡ index_in p (length ys) → length ys ≤ i → row_of ys ≡ put p (row_of ys)
  unfolding index_in put
  put-out nowhere q h = refl
  put-out (at j x) q h = sym (set_out (row_of ys) j x (omega (arith, row-length ys)))
