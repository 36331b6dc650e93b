-- What the loop of judging comes to, one law for each way through its code.
use Rattle.std.proofs.Common.{Err, Ok}
use mathlib.Core.Path.{◌≡◌, refl, sym, ap, ◌∙◌}
use mathlib.Core.List.{List, [], ◌∷◌, ◌++◌}
use Prim.Native.Nat.{ℕ, suc, ◌+◌, ◌-◌, ◌*◌, ◌<◌, ◌≤◌}
use native.Mathlib.Omega.{arith}
use native.Mathlib.Numerals.{add-one}
use lib.ListN.{length, take, set}
use lib.Seq.{length-take-le, take_all, take-suc-set}
use Rattle.sheet.specs.declared.Reason.{Reason}
use Rattle.sheet.specs.Reasons.{Verdict}
use Rattle.sheet.specs.declared.edition.Edition.{Edition}
use Rattle.sheet.specs.Editions.{record_bytes}
use Rattle.sheet.specs.Records.{Node}
use Rattle.sheet.specs.Fields.{record_at}
use Rattle.sheet.proofs.Sizes.{record-count}
use Rattle.press_spec.specs.Judge.{Turn, goes, stops, turn, proper, bad, judge_from, judge}
use Rattle.press_record.specs.Turns.{turn_says, turn_stores}
use Rattle.press_record.proofs.Turning.{Turned}
use Rattle.press_spec.proofs.Judged.{judge-more, judge-stops}

said-fine : (t : Turn) → (Ok tt) ≡ turn_says t → (n : Node) × (t ≡ goes n)
unfolding turn_says
said-fine (goes n) e = (n, refl)
said-fine (stops why) e = absurd (let z : ◌≡◌ {A = ℕ} 0 1 = cc in omega arith)

said-refused : (t : Turn) (why : Reason) → Err why ≡ turn_says t → t ≡ stops why
unfolding turn_says
said-refused (goes n) why e = absurd (let z : ◌≡◌ {A = ℕ} 0 1 = cc in omega arith)
said-refused (stops w) why e = cc

-- the loop: what is left to judge, with k nodes in the tables
module _ (edition : Edition) (rules sheet : List ℕ) where
  abbrev pub Left : ℕ → ℕ → List Node → Type 0
  Left n k s = judge_from edition rules sheet (n - k) (take k s) ≡ judge edition rules sheet

  pub judge-begins : (n : ℕ) (s : List Node) → length sheet ≡ record_bytes edition * n → Left n 0 s
  unfolding judge
  judge-begins n s e = ap (λ (m : ℕ). judge_from edition rules sheet m []) (omega (arith, record-count edition (length sheet) n e))

  module _ (n k : ℕ) (h : k < n) (s : List Node) (size : length s ≡ n) (left : Left n k s) (b : List ℕ) (here : b ≡ record_at edition sheet k) where
    more : n - k ≡ suc (n - (k + 1))
    more = omega arith

    whole : length (take k s) ≡ k
    whole = length-take-le k s (omega arith)

    same_turn : turn edition rules (record_at edition sheet (length (take k s))) (take k s) ≡ turn edition rules b (take k s)
    same_turn = ap (λ (l : List ℕ). turn edition rules l (take k s)) (ap (record_at edition sheet) whole ∙ sym here)

    pub judge-goes : (v : Verdict) (after : List Node) → v ≡ Ok tt → Turned edition rules b s k v after → Left n (k + 1) after
    unfolding turn_stores
    judge-goes v after fine t =
        let went = said-fine (turn edition rules b (take k s)) (sym fine ∙ t.0) in
        let stored : after ≡ set s k went.0 = t.1 ∙ ap (λ (u : Turn). turn_stores k u s) went.1 in
        let longer : take (k + 1) after ≡ take k s ++ (went.0 ∷ []) = ap (take (k + 1)) stored ∙ ap (λ (m : ℕ). take m (set s k went.0)) (add-one k) ∙ take-suc-set s k went.0 (omega arith) in
        ap (judge_from edition rules sheet (n - (k + 1))) longer
        ∙ sym (judge-more edition rules sheet (n - (k + 1)) (take k s) went.0 (same_turn ∙ went.1))
        ∙ ap (λ (m : ℕ). judge_from edition rules sheet m (take k s)) (sym more)
        ∙ left

    pub judge-halts : (v : Verdict) (why : Reason) (after : List Node) → v ≡ Err why → Turned edition rules b s k v after → bad why k ≡ judge edition rules sheet
    judge-halts v why after e t =
        ap (bad why) (sym whole)
        ∙ sym (judge-stops edition rules sheet (n - (k + 1)) (take k s) why (same_turn ∙ said-refused (turn edition rules b (take k s)) why (sym e ∙ t.0)))
        ∙ ap (λ (m : ℕ). judge_from edition rules sheet m (take k s)) (sym more)
        ∙ left

  pub judge-ends : (n k : ℕ) (s : List Node) → length s ≡ n → k ≤ n → n ≤ k → Left n k s → proper s ≡ judge edition rules sheet
  unfolding judge_from
  judge-ends n k s size below above left =
      let none : n - k ≡ 0 = omega arith in
      sym (ap proper (take_all k s (omega arith)))
      ∙ sym (ap (λ (m : ℕ). judge_from edition rules sheet m (take k s)) none)
      ∙ left
