-- `order_from`: the order from a node.
use Prim.Native.Nat.{ℕ, suc, ◌<◌}
use mathlib.Core.Path.{◌≡◌, refl, ap, ◌∙◌}
use mathlib.Core.List.{List, []}
use native.Mathlib.Omega.{arith}
use lib.ListN.{length, get_or, replicate, length-replicate}
use Rattle.std.proofs.Common.{Option, None}
use Rattle.base.proofs.Lists.{get_d-blank}
use Rattle.sheet.specs.declared.NodeNo.{NodeNo}
use Rattle.press_spec.specs.Links.{Link}
use Rattle.press_nodes.specs.declared.link.Link.{Link as CodeLink}
use Rattle.press_nodes.specs.Tables.{Links}
use Rattle.press_spec.specs.Trim.{uses_from}
use Rattle.press_spec.specs.Order.{placed, order_from}
use Rattle.press_nodes.specs.Numbers.{numbers_in}
use Rattle.press_nodes.proofs.Numbers.{numbers-length, numbers-none}
use Rattle.press_order.specs.Placing.{Stands, Placing}
use Rattle.press_order.proofs.Placing.{Places}

pub none-stand : (numbers cleared : List (Option NodeNo)) → cleared ≡ replicate (length numbers) None → Stands (numbers_in cleared) 0 []
unfolding placed
none-stand numbers cleared e = record {
  numbered = λ n. rw (e, numbers-none (length numbers)) (get_d-blank {A = ℕ} (length numbers) n 0);
  counts = refl;
}

pub starts : {h : List CodeLink} (t : List ℕ) (numbers cleared : List (Option NodeNo)) (from : ℕ) → Links h → from < length h → length t ≡ length h
    → length numbers ≡ length h → cleared ≡ replicate (length numbers) None → Placing h t (numbers_in cleared) from 0
starts t numbers cleared from tables i c l e = record {
  tables = tables;
  inside = i;
  counted = c;
  long = numbers-length cleared ∙ ap length e ∙ length-replicate (length numbers) None ∙ l;
  order = [];
  orderly = tt;
  stands = none-stand numbers cleared e;
}

pub order-found : (s : List Link) (from : ℕ) {counts again cleared numbers : List ℕ} {count : ℕ}
    → ((m : ℕ) → get_or counts m 0 ≡ uses_from s from m) → again ≡ counts → Stands cleared 0 [] → Places s again from cleared 0 numbers count
    → Stands numbers count (order_from s from)
unfolding order_from
order-found s from {again = again} f e none m =
    let same : (λ k. get_or again k 0) ≡ uses_from s from = λ i k. (ap (λ (t : List ℕ). get_or t k 0) e ∙ f k) i in
    rw same at (m [] (suc from) none (omega arith))
