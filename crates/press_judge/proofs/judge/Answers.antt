use Rattle.std.proofs.Common.{◌≡◌, ℕ, ◌+◌, ◌-◌, ◌*◌, ◌<◌, List, length, take, drop, refl, ap, ◌∙◌, arith}
use Rattle.sheet.specs.declared.edition.Edition.{Edition}
use Rattle.sheet.specs.Editions.{record_bytes}
use Rattle.sheet.specs.Fields.{record_at}
use Rattle.sheet.proofs.RecordBytes.{lent_is}
use Rattle.press_spec.specs.Judge.{bad}
use Rattle.press_nodes.specs.Tables.{nodes_in}
use Rattle.press_judge.specs.Turns.{judged_in}
use Rattle.press_nodes.proofs.Tables.{nodes-length}
use Rattle.press_judge.proofs.Judging.{judge-begins, judge-goes, judge-halts, judge-ends}
use Rattle.press_judge.proofs.judge.Goals as goal

-- the bytes that are lent are the record's
lent-here : (e : Edition) (sheet : List ℕ) (k : ℕ) {at size here : ℕ} → at ≡ record_bytes e * here → here ≡ k → size ≡ record_bytes e → take (at + size - at) (drop at sheet) ≡ record_at e sheet k
lent-here e sheet k {at} {size} p h q =
    let r : at ≡ record_bytes e * k = p ∙ ap (λ (m : ℕ). record_bytes e * m) h in
    (λ i. take (r i + q i - r i) (drop (r i) sheet)) ∙ lent_is e sheet k

pub loop-judged-init : goal.loop-judged-init
loop-judged-init c =
    (refl, c.requires.clauses_len.0, judge-begins _ _ _ (length c.args.links.now) (nodes_in c.args.links.now c.args.clauses.now) c.requires.sheet_len)

pub returns-in-Err : goal.returns-in-Err
unfolding judged_in
returns-in-Err c = let l = c.loop-judged in
    let a = c.args in
    ap (bad c.in-Err.why) c.record_of-here.ensures
    ∙ judge-halts a.edition a.rules.now a.sheet.now (length a.links.now) l.judged c.loop-judged-test.true (nodes_in l.links l.clauses)
    (nodes-length l.links l.clauses ∙ l.invariant.0) l.invariant.2 _ (lent-here a.edition a.sheet.now l.judged c.start-at.ensures c.record_of-here.ensures c.record_bytes.ensures)
    _ c.in-Err.why _ c.in-Err.is c.judge_turn-verdict.ensures

pub loop-judged-preserved : goal.loop-judged-preserved
loop-judged-preserved c = let turn = c.judge_turn-verdict in
    let l = c.loop-judged in
    let a = c.args in
    let inv = l.invariant in (
      turn.auto.links ∙ inv.0,
      turn.auto.clauses ∙ inv.1,
      judge-goes a.edition a.rules.now a.sheet.now (length a.links.now) l.judged c.loop-judged-test.true (nodes_in l.links l.clauses)
          (nodes-length l.links l.clauses ∙ inv.0) inv.2 _ (lent-here a.edition a.sheet.now l.judged c.start-at.ensures c.record_of-here.ensures c.record_bytes.ensures)
          _ _ c.in_default.is turn.ensures,
    )

pub returns : goal.returns
unfolding judged_in
returns c = let l = c.loop-judged in
    let a = c.args in
    let inv = l.invariant in
    judge-ends a.edition a.rules.now a.sheet.now (length a.links.now) l.judged (nodes_in l.links l.clauses)
    (nodes-length l.links l.clauses ∙ inv.0) (omega arith) (omega arith) inv.2
