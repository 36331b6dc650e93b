-- Laws of the row of slots: the first that passes a test, holding, releasing, clearing, and how many slots are in use.
use mathlib.Core.Path.{◌≡◌, refl, sym, ap, ◌∙◌}
use mathlib.Core.Bool.{Bool, true, false, not, ◌&&◌, ◌||◌, cond, or-true, true≢false}
use mathlib.Core.Logic.{◌≢◌}
use mathlib.Core.List.{List, [], ◌∷◌, ◌++◌}
use Prim.Native.Nat.{ℕ, zero, suc, ◌≤◌, ◌<◌, suc-le-suc}
use native.Mathlib.Nat.{not-suc-le-zero, le_of_suc-le-suc, zero-lt-suc}
use native.Mathlib.Omega.{arith}
use lib.Dec.{eqb, ltb, leb-suc-suc}
use lib.ListN.{length, get_or, replicate, length-set, length-append, length-replicate, replicate-append-replicate}
use borrow.Author.Tests.{lt-ltb, eq-eqb, ne_eqb, eqb-true}
use Rattle.base.proofs.Lists.{cond_both}
use Rattle.clause.specs.Clauses.{Literals}
use Rattle.replay_spec.specs.Slots.{Slot, slot, empty, free, holding, Place, nowhere, at, is_place, slot_in, into, put, later, find, held, clause_held, room, hold, release, cleared}

pub either_way_lem : {P : Type 0} (b : Bool) → (b ≡ true → P) → (b ≡ false → P) → P
either_way_lem true yes' no' = yes' refl
either_way_lem false yes' no' = no' refl

-- ---- a look through the row

is_place-later : (p : Place) → is_place (later p) ≡ is_place p
unfolding is_place later
is_place-later nowhere = refl
is_place-later (at i s) = refl

slot_in-later : (p : Place) → slot_in (later p) ≡ slot_in p
unfolding slot_in later
slot_in-later nowhere = refl
slot_in-later (at i s) = refl

put-later : (s x : Slot) (row : List Slot) (p : Place) → put (into s (later p)) (x ∷ row) ≡ x ∷ put (into s p) row
unfolding put into later
put-later s x row nowhere = refl
put-later s x row (at i y) = refl

length-put : (p : Place) (row : List Slot) → length (put p row) ≡ length row
unfolding put
length-put nowhere row = refl
length-put (at i s) row = length-set row i s

module _ (test : Slot → Bool) where
  find-here : (x : Slot) (row : List Slot) → test x ≡ true → find test (x ∷ row) ≡ at 0 x
  unfolding find
  find-here x row e = rw e

  find-later : (x : Slot) (row : List Slot) → test x ≡ false → find test (x ∷ row) ≡ later (find test row)
  unfolding find
  find-later x row e = rw e

  -- where it ends: at i, or nowhere
  pub find_at : (row : List Slot) (i : ℕ) (s : Slot)
      → i < length row → get_or row i empty ≡ s → test s ≡ true → ((j : ℕ) → j < i → test (get_or row j empty) ≡ false) → find test row ≡ at i s
  unfolding later
  find_at [] i s h is e before = absurd (not-suc-le-zero h)
  find_at (x ∷ row) zero s h is e before = find-here x row (rw is e) ∙ ap (at 0) is
  find_at (x ∷ row) (suc i) s h is e before =
      find-later x row (before 0 (zero-lt-suc i))
      ∙ ap later (find_at row i s (le_of_suc-le-suc h) is e (λ j l. before (suc j) (suc-le-suc l)))

  pub find_none : (row : List Slot) → ((j : ℕ) → j < length row → test (get_or row j empty) ≡ false) → find test row ≡ nowhere
  unfolding find later
  find_none [] fails = refl
  find_none (x ∷ row) fails =
      find-later x row (fails 0 (zero-lt-suc (length row))) ∙ ap later (find_none row (λ j l. fails (suc j) (suc-le-suc l)))

  place-cons : (x : Slot) (row : List Slot) → is_place (find test (x ∷ row)) ≡ (test x || is_place (find test row))
  unfolding find is_place
  place-cons x row = go (test x)
    where
      go : (b : Bool) → is_place (cond b (at 0 x) (later (find test row))) ≡ (b || is_place (find test row))
      go true = refl
      go false = is_place-later (find test row)

-- ---- a slot and the row after it

holding-used : (n : ℕ) (x : Slot) → free x ≡ false → holding n x ≡ eqb x.node n
unfolding free holding
holding-used n x e = rw e

holding-free : (n : ℕ) (x : Slot) → free x ≡ true → holding n x ≡ false
unfolding free holding
holding-free n x e = rw e

holding-empty : (n : ℕ) → holding n empty ≡ false
unfolding holding
holding-empty n = refl

holding-node : (n : ℕ) (x : Slot) → holding n x ≡ true → x.node ≡ n
unfolding holding
holding-node n x e = go (eqb x.used 0) e
  where
    go : (b : Bool) → (not b && eqb x.node n) ≡ true → x.node ≡ n
    go true q = absurd (true≢false (sym q))
    go false q = eqb-true x.node n q

held_cons : (n : ℕ) (x : Slot) (row : List Slot) → held n (x ∷ row) ≡ (holding n x || held n row)
unfolding held
held_cons n x row = place-cons (holding n) x row

room_cons : (x : Slot) (row : List Slot) → room (x ∷ row) ≡ (free x || room row)
unfolding room
room_cons x row = place-cons free x row

clause-cons : (n : ℕ) (x : Slot) (row : List Slot) → clause_held n (x ∷ row) ≡ cond (holding n x) x.clause (clause_held n row)
unfolding clause_held find slot_in
clause-cons n x row = go (holding n x)
  where
    go : (b : Bool) → (slot_in (cond b (at 0 x) (later (find (holding n) row)))).clause ≡ cond b x.clause (slot_in (find (holding n) row)).clause
    go true = refl
    go false = ap (λ (s : Slot). s.clause) (slot_in-later (find (holding n) row))

hold-here : (n : ℕ) (c : Literals) (x : Slot) (row : List Slot) → free x ≡ true → hold n c (x ∷ row) ≡ slot 1 n c ∷ row
unfolding hold put into
hold-here n c x row e = rw (find-here free x row e)

hold-later : (n : ℕ) (c : Literals) (x : Slot) (row : List Slot) → free x ≡ false → hold n c (x ∷ row) ≡ x ∷ hold n c row
unfolding hold
hold-later n c x row e = rw (find-later free x row e) (put-later (slot 1 n c) x row (find free row))

release-here : (n : ℕ) (x : Slot) (row : List Slot) → holding n x ≡ true → release n (x ∷ row) ≡ empty ∷ row
unfolding release put into
release-here n x row e = rw (find-here (holding n) x row e)

release-later : (n : ℕ) (x : Slot) (row : List Slot) → holding n x ≡ false → release n (x ∷ row) ≡ x ∷ release n row
unfolding release
release-later n x row e = rw (find-later (holding n) x row e) (put-later empty x row (find (holding n) row))

-- ---- lengths, and a cleared row

pub length-hold : (n : ℕ) (c : Literals) (row : List Slot) → length (hold n c row) ≡ length row
unfolding hold
length-hold n c row = length-put (into (slot 1 n c) (find free row)) row

pub length-release : (n : ℕ) (row : List Slot) → length (release n row) ≡ length row
unfolding release
length-release n row = length-put (into empty (find (holding n) row)) row

pub length-cleared : (row : List Slot) → length (cleared row) ≡ length row
unfolding cleared
length-cleared row = length-replicate (length row) empty

find-cleared : (n : ℕ) (row : List Slot) → find (holding n) (cleared row) ≡ nowhere
unfolding cleared find later
find-cleared n [] = refl
find-cleared n (x ∷ row) = find-later (holding n) empty (cleared row) (holding-empty n) ∙ ap later (find-cleared n row)

pub held-cleared : (n : ℕ) (row : List Slot) → held n (cleared row) ≡ false
unfolding held is_place
held-cleared n row = ap is_place (find-cleared n row)

-- ---- what is held once a node takes the lowest free slot

room-later : (x : Slot) (row : List Slot) → free x ≡ false → room (x ∷ row) ≡ true → room row ≡ true
room-later x row q e = rw (room_cons x row, q) at e

not-here : (n : ℕ) (x : Slot) (row : List Slot) → held n (x ∷ row) ≡ false → (holding n x ≡ false) × (held n row ≡ false)
not-here n x row e = go (holding n x) (sym (held_cons n x row) ∙ e)
  where
    go : (b : Bool) → (b || held n row) ≡ false → (b ≡ false) × (held n row ≡ false)
    go true q = absurd (true≢false q)
    go false q = (refl, q)

holding-new : (n : ℕ) (c : Literals) → holding n (slot 1 n c) ≡ true
unfolding holding
holding-new n c = eq-eqb n n refl

holding-other : (j n : ℕ) (c : Literals) → j ≢ n → holding j (slot 1 n c) ≡ false
unfolding holding
holding-other j n c d = ne_eqb n j (λ e. d (sym e))

module _ (n : ℕ) (c : Literals) where
  pub held-hold : (row : List Slot) → room row ≡ true → held n (hold n c row) ≡ true
  unfolding room find is_place
  held-hold [] e = absurd (true≢false (sym e))
  held-hold (x ∷ row) e =
      either_way_lem (free x)
      (λ q. rw (hold-here n c x row q, held_cons, holding-new))
      (λ q. rw (hold-later n c x row q, held_cons, held-hold row (room-later x row q e)) (or-true (holding n x)))

  pub clause-hold : (row : List Slot) → room row ≡ true → held n row ≡ false → clause_held n (hold n c row) ≡ c
  unfolding room find is_place
  clause-hold [] e h = absurd (true≢false (sym e))
  clause-hold (x ∷ row) e h =
      let (here, later) = not-here n x row h in
      either_way_lem (free x)
      (λ q. rw (hold-here n c x row q, clause-cons, holding-new))
      (λ q. rw (hold-later n c x row q, clause-cons, here) (clause-hold row (room-later x row q e) later))

  module _ (j : ℕ) (other : j ≢ n) where
    pub held-hold-other : (row : List Slot) → held j (hold n c row) ≡ held j row
    unfolding hold find put into
    held-hold-other [] = refl
    held-hold-other (x ∷ row) =
        either_way_lem (free x)
        (λ q. rw (hold-here n c x row q, held_cons j (slot 1 n c) row, holding-other j n c other) (sym (held_cons j x row ∙ rw (holding-free j x q))))
        (λ q. rw (hold-later n c x row q, held_cons j x (hold n c row), held-hold-other row) (sym (held_cons j x row)))

    pub clause-hold-other : (row : List Slot) → clause_held j (hold n c row) ≡ clause_held j row
    unfolding hold find put into
    clause-hold-other [] = refl
    clause-hold-other (x ∷ row) =
        either_way_lem (free x)
        (λ q. rw (hold-here n c x row q, clause-cons j (slot 1 n c) row, holding-other j n c other) (sym (clause-cons j x row ∙ rw (holding-free j x q))))
        (λ q. rw (hold-later n c x row q, clause-cons j x (hold n c row), clause-hold-other row) (sym (clause-cons j x row)))

-- ---- no node stands in two slots

abbrev pub Once : List Slot → Type 0
Once [] = Unit {0}
Once (x ∷ row) = (free x ≡ false → held x.node row ≡ false) × Once row

pub once-cleared : (row : List Slot) → Once (cleared row)
unfolding cleared
once-cleared [] = tt
once-cleared (x ∷ row) = (λ e. held-cleared 0 row, once-cleared row)

pub once-hold : (n : ℕ) (c : Literals) (row : List Slot) → held n row ≡ false → Once row → Once (hold n c row)
unfolding hold find put into
once-hold n c [] h o = tt
once-hold n c (x ∷ row) h o =
    let (here, later) = not-here n x row h in
    either_way_lem (free x)
    (λ q. rw (hold-here n c x row q) ((λ e. later), o.1))
    (λ q.
    let apart : x.node ≢ n = λ e. true≢false (sym (holding-used n x q ∙ eq-eqb x.node n e) ∙ here) in
    rw (hold-later n c x row q) ((λ e. held-hold-other n c x.node apart row ∙ o.0 e), once-hold n c row later o.1))

-- ---- what is held once a drop zeroes its slot

module _ (n : ℕ) where
  module _ (j : ℕ) (other : j ≢ n) where
    passed : (x : Slot) → holding n x ≡ true → holding j x ≡ false
    passed x q = go (holding j x) refl
      where
        go : (b : Bool) → holding j x ≡ b → b ≡ false
        go true e = absurd (other (sym (holding-node j x e) ∙ holding-node n x q))
        go false e = refl

    pub held-release-other : (row : List Slot) → held j (release n row) ≡ held j row
    unfolding release find put into
    held-release-other [] = refl
    held-release-other (x ∷ row) =
        either_way_lem (holding n x)
        (λ q. rw (release-here n x row q, held_cons j empty row, holding-empty j) (sym (held_cons j x row ∙ rw (passed x q))))
        (λ q. rw (release-later n x row q, held_cons j x (release n row), held-release-other row) (sym (held_cons j x row)))

    pub clause-release-other : (row : List Slot) → clause_held j (release n row) ≡ clause_held j row
    unfolding release find put into
    clause-release-other [] = refl
    clause-release-other (x ∷ row) =
        either_way_lem (holding n x)
        (λ q. rw (release-here n x row q, clause-cons j empty row, holding-empty j) (sym (clause-cons j x row ∙ rw (passed x q))))
        (λ q. rw (release-later n x row q, clause-cons j x (release n row), clause-release-other row) (sym (clause-cons j x row)))

  used-here : (x : Slot) → holding n x ≡ true → free x ≡ false
  used-here x q = go (free x) refl
    where
      go : (b : Bool) → free x ≡ b → b ≡ false
      go true e = absurd (true≢false (sym q ∙ holding-free n x e))
      go false e = refl

  pub held-release : (row : List Slot) → Once row → held n (release n row) ≡ false
  unfolding release held find is_place put into
  held-release [] o = refl
  held-release (x ∷ row) o =
      either_way_lem (holding n x)
      (λ q. rw (release-here n x row q, held_cons, holding-empty n) (rw (holding-node n x q) at (o.0 (used-here x q))))
      (λ q. rw (release-later n x row q, held_cons, q) (held-release row o.1))

  pub once-release : (row : List Slot) → Once row → Once (release n row)
  unfolding release free find put into
  once-release [] o = tt
  once-release (x ∷ row) o =
      either_way_lem (holding n x)
      (λ q. rw (release-here n x row q) ((λ e. absurd (true≢false e)), o.1))
      (λ q.
      rw (release-later n x row q) (
        (λ e.
            let apart : x.node ≢ n = λ d. true≢false (sym (holding-used n x e ∙ eq-eqb x.node n d) ∙ q) in
            held-release-other x.node apart row ∙ o.0 e),
        once-release row o.1,
      ))

-- ---- how many slots are in use

unfoldable pub in_use : List Slot → ℕ
in_use [] = 0
in_use (x ∷ row) = cond (free x) (in_use row) (suc (in_use row))

pub in_use-le : (row : List Slot) → in_use row ≤ length row
unfolding in_use
in_use-le [] = omega arith
in_use-le (x ∷ row) = let h = in_use-le row in cond_both (λ (k : ℕ). k ≤ suc (length row)) (free x) (in_use row) (suc (in_use row)) (omega arith) (omega arith)

-- "15 is given only when as many nodes are held as there are slots"
pub room-when-fewer : (row : List Slot) → room row ≡ ltb (in_use row) (length row)
unfolding in_use room find is_place
room-when-fewer [] = refl
room-when-fewer (x ∷ row) = room_cons x row ∙ go (free x) (room-when-fewer row)
  where
    go : (b : Bool) → room row ≡ ltb (in_use row) (length row) → (b || room row) ≡ ltb (cond b (in_use row) (suc (in_use row))) (suc (length row))
    go true e = sym (lt-ltb (in_use row) (suc (length row)) (omega (arith, in_use-le row)))
    go false e = e ∙ sym (leb-suc-suc (suc (in_use row)) (length row))

pub in_use-cleared : (row : List Slot) → in_use (cleared row) ≡ 0
unfolding cleared in_use free
in_use-cleared [] = refl
in_use-cleared (x ∷ row) = in_use-cleared row

pub in_use-hold : (n : ℕ) (c : Literals) (row : List Slot) → room row ≡ true → in_use (hold n c row) ≡ suc (in_use row)
unfolding in_use room find is_place free
in_use-hold n c [] e = absurd (true≢false (sym e))
in_use-hold n c (x ∷ row) e =
    either_way_lem (free x)
    (λ q. rw (hold-here n c x row q, q))
    (λ q. rw (hold-later n c x row q, q) (ap suc (in_use-hold n c row (room-later x row q e))))

pub in_use-release : (n : ℕ) (row : List Slot) → held n row ≡ true → suc (in_use (release n row)) ≡ in_use row
unfolding in_use held find is_place free
in_use-release n [] e = absurd (true≢false (sym e))
in_use-release n (x ∷ row) e =
    either_way_lem (holding n x)
    (λ q. rw (release-here n x row q, used-here n x q))
    (λ q. rw (release-later n x row q) (more (free x) (in_use-release n row (rw (held_cons n x row, q) at e))))
  where
    more : (b : Bool) → suc (in_use (release n row)) ≡ in_use row
        → suc (cond b (in_use (release n row)) (suc (in_use (release n row)))) ≡ cond b (in_use row) (suc (in_use row))
    more true h = h
    more false h = ap suc h

-- ---- a row with others after it

-- what is held in it, where the others are all free
held-nil : (n : ℕ) → held n [] ≡ false
unfolding held find is_place
held-nil n = refl

pub find-more : (n : ℕ) (row others : List Slot) → find (holding n) (row ++ cleared others) ≡ find (holding n) row
unfolding find
find-more n [] others = find-cleared n others
find-more n (x ∷ row) others = ap (λ (p : Place). cond (holding n x) (at 0 x) (later p)) (find-more n row others)

pub held_more : (n : ℕ) (row others : List Slot) → held n (row ++ cleared others) ≡ held n row
unfolding held
held_more n row others = ap is_place (find-more n row others)

pub clause-more : (n : ℕ) (row others : List Slot) → clause_held n (row ++ cleared others) ≡ clause_held n row
unfolding clause_held
clause-more n row others = ap (λ (p : Place). (slot_in p).clause) (find-more n row others)

pub cleared-append : (xs ys : List Slot) → cleared (xs ++ ys) ≡ cleared xs ++ cleared ys
unfolding cleared
cleared-append xs ys = ap (λ (k : ℕ). replicate k empty) (length-append xs ys) ∙ sym (replicate-append-replicate (length xs) (length ys) empty)

-- where it has room, a node takes the same slot; and so has a drop the same, of a node that is held in it
pub room-more : (row others : List Slot) → room row ≡ true → room (row ++ others) ≡ true
unfolding room find is_place
room-more [] others e = absurd (true≢false (sym e))
room-more (x ∷ row) others e =
    either_way_lem (free x)
    (λ q. rw (room_cons x (row ++ others), q))
    (λ q. rw (room_cons x (row ++ others), q) (room-more row others (room-later x row q e)))

pub hold-more : (n : ℕ) (c : Literals) (row others : List Slot) → room row ≡ true → hold n c (row ++ others) ≡ hold n c row ++ others
unfolding room find is_place
hold-more n c [] others e = absurd (true≢false (sym e))
hold-more n c (x ∷ row) others e =
    either_way_lem (free x)
    (λ q. rw (hold-here n c x row q, hold-here n c x (row ++ others) q))
    (λ q. rw (hold-later n c x row q, hold-later n c x (row ++ others) q) (ap (λ (l : List Slot). x ∷ l) (hold-more n c row others (room-later x row q e))))

pub release-more : (n : ℕ) (row others : List Slot) → held n row ≡ true → release n (row ++ others) ≡ release n row ++ others
release-more n [] others e = absurd (true≢false (sym e ∙ held-nil n))
release-more n (x ∷ row) others e =
    either_way_lem (holding n x)
    (λ q. rw (release-here n x row q, release-here n x (row ++ others) q))
    (λ q.
    rw (release-later n x row q, release-later n x (row ++ others) q)
    (ap (λ (l : List Slot). x ∷ l) (release-more n row others (rw (held_cons n x row, q) at e))))
