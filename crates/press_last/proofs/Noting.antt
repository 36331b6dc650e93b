-- The walk that notes last uses, by what the code finds at a node; its start and its end.
use Rattle.std.proofs.Common.{◌≡◌, ℕ, suc, ◌+◌, ◌<◌, Bool, true, false, not, eqb, ltb, List, length, get_or, set, replicate, Option, None, Some, is_some, MatchOption, refl, ap, ◌∙◌}
use Rattle.std.proofs.lemmas.Bool.Decides.{nat_tests}
use native.Mathlib.Numerals.{unary_clauses}
use native.Mathlib.Omega.{arith}
use borrow.Author.Tests.{ne_eqb}
use Rattle.base.specs.Folds.{fall}
use Rattle.press_spec.specs.Links.{Link, leaf, join, link_at}
use Rattle.press_nodes.specs.declared.link.Link.{Link as CodeLink}
use Rattle.sheet.specs.declared.NodeNo.{NodeNo}
use Rattle.press_nodes.specs.Tables.{links_in}
use Rattle.press_nodes.specs.Numbers.{number_in, numbers_in}
use Rattle.press_nodes.proofs.Numbers.{numbers-at, numbers-set, numbers-none}
use Rattle.press_nodes.proofs.Tables.{links-length}
use Rattle.press_last.specs.LastUses.{note_use, note_uses, last_turn, last_uses, used_after}

-- ---- one note

-- an entry that is there is a number above 0
some-number : (x : Option NodeNo) → eqb (number_in x) 0 ≡ not (is_some x)
unfolding number_in
some-number None = refl
some-number (Some n) = ne_eqb (suc n.0) 0 (omega arith)

module _ (last : List (Option NodeNo)) (i n : NodeNo) (at : ℕ) (here : at ≡ n.0) (inside : n.0 < length last) where
  pub note_new : is_some (get_or last at None) ≡ false → numbers_in (set last at (Some i)) ≡ note_use i.0 n.0 (numbers_in last)
  unfolding note_use number_in
  note_new e = rw (← numbers-at last at n.0 None here inside, some-number (get_or last at None), e) (simp unary_clauses (numbers-set last at n.0 (Some i) here))

  pub note_stays : is_some (get_or last at None) ≡ true → numbers_in last ≡ note_use i.0 n.0 (numbers_in last)
  unfolding note_use
  note_stays e = rw (← numbers-at last at n.0 None here inside, some-number (get_or last at None), e) refl

-- the entry of n is a node after k
after-entry : (k : NodeNo) (x : Option NodeNo) (result : Bool) → MatchOption x (result ≡ false) (λ (m : NodeNo). result ≡ ltb k.0 m.0) → result ≡ ltb (k.0 + 1) (number_in x)
unfolding number_in
after-entry k None result e = grind (arith, nat_tests)
after-entry k (Some m) result e = grind (arith, nat_tests)

pub used-by : (last : List (Option NodeNo)) (k n : NodeNo) (at : ℕ) (result : Bool) → at ≡ n.0 → n.0 < length last
    → MatchOption (get_or last at None) (result ≡ false) (λ (m : NodeNo). result ≡ ltb k.0 m.0) → result ≡ used_after (numbers_in last) k.0 n.0
unfolding used_after
used-by last k n at result here inside e = after-entry k (get_or last at None) result e ∙ ap (ltb (k.0 + 1)) (numbers-at last at n.0 None here inside)

-- ---- a node's turn, and the walk

module _ (s : List Link) (i : ℕ) (last : List ℕ) where
  pub turn-leaf : (line : ℕ) → link_at s i ≡ leaf line → last ≡ last_turn s i last
  unfolding last_turn note_uses
  turn-leaf line e = rw e

  pub turn-join : (p l r : ℕ) (one two : List ℕ) → link_at s i ≡ join p l r → one ≡ note_use i l last → two ≡ note_use i r one
      → two ≡ last_turn s i last
  unfolding last_turn note_uses
  turn-join p l r one two e q z = z ∙ ap (note_use i r) q ∙ rw e

-- the walk starts with an empty table, and is done
pub last_begun : (h : List CodeLink) (old cleared : List (Option NodeNo)) → cleared ≡ replicate (length old) None → length old ≡ length h
    → fall (last_turn (links_in h)) (length h) (numbers_in cleared) ≡ last_uses (links_in h)
unfolding last_uses
last_begun h old cleared e long = rw (e, long, numbers-none (length h), links-length h)
