-- An accepted replay is sound: what satisfies the rule lines that it used satisfies its conclusion.
use mathlib.Core.Path.{◌≡◌, refl, sym, ap, ◌∙◌}
use mathlib.Core.Bool.{Bool, true, true≢false}
use mathlib.Core.List.{List, [], ◌∷◌, ◌++◌, append-nil}
use Prim.Native.Nat.{ℕ, suc, ◌-◌, ◌<◌, suc-le-suc}
use native.Mathlib.Nat.{zero-lt-suc}
use native.Mathlib.Decide.{dec_lt}
use native.Mathlib.Omega.{arith}
use lib.ListN.{length}
use lib.Seq.{append_snoc}
use Rattle.clause.specs.Clauses.{Literals, none}
use Rattle.clause.specs.Truth.{Setting, Satisfies}
use Rattle.clause.proofs.Clauses.{holds-none}
use Rattle.clause.proofs.Truth.{resolvent-true}
use Rattle.sheet.specs.declared.edition.Edition.{Edition}
use Rattle.sheet.specs.Editions.{replay_records}
use Rattle.sheet.specs.Records.{Node, given, step, Record, node, drop, clause}
use Rattle.sheet.specs.Fields.{rule_line}
use Rattle.sheet.specs.Counts.{nodes_of}
use Rattle.sheet.specs.Proper.{record_in, clause_in, conclusion_of, ProperAfter, ReadsAs, Proper}
use Rattle.replay_spec.specs.Slots.{Slot}
use Rattle.replay_spec.specs.Replay.{Result, accepted, replay}
use Rattle.replay_spec.proofs.Runs.{nodes-drop, count-node, clause-before, clause-new, Follows, each-follows}
use Rattle.replay_spec.proofs.Accepts.{accepted-says}

-- every rule line that a run uses is satisfied, and every clause of a run
module _ (e : Edition) (rules : List ℕ) (m : Setting) where
  abbrev pub LinesTrue : List Record → Type 0
  LinesTrue rs = (k line : ℕ) (d : Literals) → k < length rs → record_in rs k ≡ node (given line d) → Satisfies m (rule_line e rules line)

  abbrev pub NodesTrue : List Record → Type 0
  NodesTrue rs = (n : ℕ) → n < length (nodes_of rs) → Satisfies m (clause_in rs n)

  clause-true : (done : List Record) (x : Node) → NodesTrue done → ProperAfter e rules done (node x)
      → ((line : ℕ) (d : Literals) → x ≡ given line d → Satisfies m (rule_line e rules line)) → Satisfies m (clause x)
  unfolding clause
  clause-true done (given line c) all p used = rw p.1 (used line c refl)
  clause-true done (step p l r c) all (left, right, plus, minus, result) used =
      rw result (resolvent-true m p (clause_in done l) (clause_in done r) (all l left.0) (all r right.0))

  record-true : (done : List Record) (r : Record) → NodesTrue done → ProperAfter e rules done r
      → ((line : ℕ) (d : Literals) → r ≡ node (given line d) → Satisfies m (rule_line e rules line)) → NodesTrue (done ++ (r ∷ []))
  record-true done (node x) all p used n h = elim (dec_lt n (length (nodes_of done))) [
    | yes l ↦ rw (clause-before done (node x) n l) (all n l)
    | no l ↦
        let q : n ≡ length (nodes_of done) = omega (arith, count-node done x) in
        rw (q, clause-new done x) (clause-true done x all p (λ line d is. used line d (ap node is)))
  ]
  record-true done (drop i) all p used n h =
      let l : n < length (nodes_of done) = omega (arith, ap length (nodes-drop done i)) in
      rw (clause-before done (drop i) n l) (all n l)

  run-true : (rest done : List Record) → NodesTrue done → Follows e rules done rest → LinesTrue rest → NodesTrue (done ++ rest)
  run-true [] done all f used = rw (append-nil done) all
  run-true (r ∷ rest) done all f used =
      rw (append_snoc done r rest) at
      (run-true rest (done ++ (r ∷ []))
      (record-true done r all f.0 (λ line d. used 0 line d (zero-lt-suc (length rest)))) f.1
      (λ k line d h. used (suc k) line d (suc-le-suc h)))

  -- every clause of a run whose records are proper one after another, and so the conclusion of a proper sheet
  pub follows-true : (rs : List Record) → Follows e rules [] rs → LinesTrue rs → NodesTrue rs
  unfolding nodes_of
  follows-true rs f used = run-true rs [] (λ n h. absurd (omega arith)) f used

  pub proper-true : (most : ℕ) (drops : Bool) (sheet : List ℕ) (rs : List Record) → Proper e most drops rules sheet rs → LinesTrue rs
      → Satisfies m (conclusion_of rs)
  proper-true most drops sheet rs proper used =
      follows-true rs (each-follows e rules rs [] proper.each) used (length (nodes_of rs) - 1) proper.ends.0

module _ (e : Edition) (sheet rules : List ℕ) (slots : List Slot) (rs : List Record) (r : Result)
    (read : ReadsAs e true sheet rs) (a : (replay e sheet rules slots).answer ≡ accepted r) (m : Setting) where
  pub replay-sound : LinesTrue e rules m rs → Satisfies m r.conclusion
  replay-sound used =
      let y = accepted-says e sheet rules slots rs r read a in
      rw (ap (λ (x : Result). x.conclusion) y.result) (proper-true e rules m (replay_records e) true sheet rs y.proper used)

  -- an empty conclusion means that the lines used cannot all hold
  pub replay-empty : r.conclusion ≡ none → LinesTrue e rules m rs → ⊥
  replay-empty q used = let (x, holds, true-in) = (rw q at (replay-sound used)) in true≢false (sym holds ∙ holds-none x)
