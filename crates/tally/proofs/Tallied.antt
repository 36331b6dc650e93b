-- What the tally of a run of records comes to: the nodes, the steps and the peak that the definitions count.
use mathlib.Core.Path.{◌≡◌, refl, ap, ◌∙◌}
use mathlib.Core.List.{List, [], ◌∷◌, ◌++◌}
use Prim.Native.Nat.{ℕ, suc, ◌+◌, ◌≤◌, max}
use native.Mathlib.Numerals.{add-one}
use native.Mathlib.Omega.{arith}
use lib.ListN.{length}
use Rattle.sheet.specs.Records.{Record, node, drop}
use Rattle.sheet.specs.Counts.{nodes_of, steps_of, held_from, peak_from}
use Rattle.tally.specs.Tally.{Tally, counted, tallied}

pub tallied-append : (xs ys : List Record) (t : Tally) → tallied (xs ++ ys) t ≡ tallied ys (tallied xs t)
unfolding tallied
tallied-append [] ys t = refl
tallied-append (x ∷ xs) ys t = tallied-append xs ys (counted t x)

pub tallied-more : (rs : List Record) (r : Record) (t : Tally) → tallied (rs ++ (r ∷ [])) t ≡ counted (tallied rs t) r
unfolding tallied
tallied-more rs r t = tallied-append rs (r ∷ []) t

-- of a tally in which no more are held than its peak
pub record Counts (rs : List Record) (t u : Tally) : Type 0 where
  pub next : u.next ≡ t.next + length (nodes_of rs)
  pub held : u.held ≡ held_from t.held rs
  pub peak : u.peak ≡ max t.peak (peak_from t.held rs)
  pub steps : u.steps ≡ t.steps + steps_of (nodes_of rs)

pub tallied-counts : (rs : List Record) (t : Tally) → t.held ≤ t.peak → Counts rs t (tallied rs t)
unfolding tallied counted nodes_of steps_of peak_from held_from
tallied-counts [] t h = record { next = omega arith; held = refl; peak = omega arith; steps = omega arith }
tallied-counts (node n ∷ rs) t h =
    let s : t.held + 1 ≡ suc t.held = add-one t.held in
    let y = tallied-counts rs (counted t (node n)) (omega arith) in
    record { next = y.next ∙ omega arith; held = y.held ∙ ap (λ (h : ℕ). held_from h rs) s; peak = y.peak ∙ rw s (omega arith); steps = y.steps ∙ omega arith }
tallied-counts (drop n ∷ rs) t h =
    let y = tallied-counts rs (counted t (drop n)) (omega arith) in
    record { next = y.next; held = y.held; peak = y.peak ∙ omega arith; steps = y.steps }
