-- What a turn of judging comes to, one law for each way through its code.
use Rattle.std.proofs.Common.{Err, Ok}
use mathlib.Core.Path.{◌≡◌, refl, sym, ap, ◌∙◌}
use mathlib.Core.Bool.{false}
use mathlib.Core.List.{List}
use Prim.Native.Nat.{ℕ, ◌≤◌}
use lib.ListN.{length, take, set}
use lib.Seq.{length-take-le}
use Rattle.clause.specs.Clauses.{Literals}
use Rattle.sheet.specs.declared.Reason.{Reason}
use Rattle.sheet.specs.declared.Reason.TheVariants.{Kind}
use Rattle.sheet.specs.declared.edition.Edition.{Edition}
use Rattle.sheet.specs.Reasons.{Verdict, and_then}
use Rattle.sheet.specs.Records.{Node, given, step, node, drop, reads, unread, clause, node_at}
use Rattle.sheet.specs.Fields.{reading}
use Rattle.sheet.specs.Checks.{check_earlier, check_step, check_given}
use Rattle.sheet.proofs.Fine.{earlier-fine}
use Rattle.press_spec.specs.Judge.{check_node, Turn, goes, stops, by_verdict, by_reading, turn}
use Rattle.press_spec.proofs.Nodes.{clause-front}
use Rattle.press_record.specs.Turns.{turn_says, turn_stores}

module _ (edition : Edition) (s : List Node) (next : ℕ) (h : next ≤ length s) where
  module _ (rules : List ℕ) (p l r : ℕ) (c : Literals) where
    pub left-late : (why : Reason) → check_earlier next l ≡ Err why → check_node edition rules (take next s) (step p l r c) ≡ Err why
    unfolding check_node and_then
    left-late why e = rw (length-take-le next s h, e)

    pub right-late : (why : Reason) → check_earlier next l ≡ Ok tt → check_earlier next r ≡ Err why → check_node edition rules (take next s) (step p l r c) ≡ Err why
    unfolding check_node and_then
    right-late why d e = rw (length-take-le next s h, d, e)

    pub both-early : check_earlier next l ≡ Ok tt → check_earlier next r ≡ Ok tt
        → check_node edition rules (take next s) (step p l r c) ≡ check_step p (clause (node_at s l)) (clause (node_at s r)) c
    unfolding check_node and_then
    both-early d e =
        rw (length-take-le next s h, d, e, clause-front s next l (earlier-fine next l d), clause-front s next r (earlier-fine next r e))

pub given-checked : (edition : Edition) (rules : List ℕ) (s : List Node) (line : ℕ) (c : Literals) → check_node edition rules s (given line c) ≡ check_given edition rules line c
unfolding check_node
given-checked edition rules s line c = refl

-- what is said and stored at turn k, by what is read there
module _ (edition : Edition) (rules b : List ℕ) (s : List Node) (k : ℕ) where
  abbrev pub Turned : Verdict → List Node → Type 0
  Turned v after = (v ≡ turn_says (turn edition rules b (take k s))) × (after ≡ turn_stores k (turn edition rules b (take k s)) s)

  stopped : {v : Verdict} (why : Reason) → v ≡ Err why → turn edition rules b (take k s) ≡ stops why → Turned v s
  unfolding turn_says turn_stores
  stopped why p e = (p ∙ sym (ap turn_says e), sym (ap (λ (t : Turn). turn_stores k t s) e))

  pub turn-unread : {v : Verdict} (why : Reason) → v ≡ Err why → reading edition false b ≡ unread why → Turned v s
  unfolding turn by_reading
  turn-unread why p e = stopped why p (rw e)

  pub turn-drop : (n : ℕ) → reading edition false b ≡ reads (drop n) → Turned (Err Kind) s
  unfolding turn by_reading
  turn-drop n e = stopped Kind refl (rw e)

  -- node n is read, and the checks say v of it
  pub record Checked (n : Node) (v : Verdict) : Type 0 where
    pub read : reading edition false b ≡ reads (node n)
    pub says : v ≡ check_node edition rules (take k s) n

module _ {edition : Edition} {rules b : List ℕ} {s : List Node} {k : ℕ} {n : Node} {v : Verdict} (c : Checked edition rules b s k n v) where
  turned : turn edition rules b (take k s) ≡ by_verdict n v
  unfolding turn by_reading
  turned = rw (c.read, c.says)

  pub turn-refused : {why : Reason} → v ≡ Err why → Turned edition rules b s k v s
  unfolding by_verdict
  turn-refused {why} p = stopped edition rules b s k why p (turned ∙ ap (by_verdict n) p)

  pub turn-fine : {after : List Node} → v ≡ Ok tt → after ≡ set s k n → Turned edition rules b s k v after
  unfolding by_verdict turn_says turn_stores
  turn-fine p q =
      let e : turn edition rules b (take k s) ≡ goes n = turned ∙ ap (by_verdict n) p in
      (p ∙ sym (ap turn_says e), q ∙ sym (ap (λ (t : Turn). turn_stores k t s) e))
