-- Laws of tables that have another node for some nodes: what stands at a place, what a store and an empty table are, as numbers.
use Rattle.std.proofs.Common.{◌≡◌, ℕ, zero, suc, ◌<◌, ◌≤◌, List, [], ◌∷◌, length, get_or, set, replicate, take, Option, None, Some, refl, sym, ap, ◌∙◌, arith}
use Rattle.std.proofs.lemmas.List.{get_or-map}
use lib.ListN.{length-map}
use Rattle.base.proofs.Lists.{map-set, map-take}
use Rattle.sheet.specs.declared.NodeNo.{NodeNo}
use Rattle.press_nodes.specs.Numbers.{number_in, numbers_in}

module _ (t : List (Option NodeNo)) where
  pub numbers-length : length (numbers_in t) ≡ length t
  unfolding numbers_in
  numbers-length = length-map t number_in

  pub numbers-set : (i n : ℕ) (x : Option NodeNo) → i ≡ n → numbers_in (set t i x) ≡ set (numbers_in t) n (number_in x)
  unfolding numbers_in
  numbers-set i n x e = rw (← e) (map-set number_in t i x)

  pub numbers-at : (i n : ℕ) (z : Option NodeNo) → i ≡ n → n < length t → number_in (get_or t i z) ≡ get_or (numbers_in t) n 0
  unfolding numbers_in
  numbers-at i n z e inside = rw e (sym (get_or-map number_in t n z 0 inside))

  pub numbers-take : (n : ℕ) → numbers_in (take n t) ≡ take n (numbers_in t)
  unfolding numbers_in
  numbers-take n = map-take number_in t n

pub numbers-none : (n : ℕ) → numbers_in (replicate n None) ≡ replicate n 0
unfolding numbers_in number_in
numbers-none zero = refl
numbers-none (suc n) = ap (λ (l : List ℕ). 0 ∷ l) (numbers-none n)

-- ---- an entry

pub none-zero : (x : Option NodeNo) → x ≡ None → number_in x ≡ 0
unfolding number_in
none-zero x e = rw e

pub some-suc : (x : Option NodeNo) (n : NodeNo) → x ≡ Some n → number_in x ≡ suc n.0
unfolding number_in
some-suc x n e = rw e
