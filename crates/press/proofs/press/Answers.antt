use Rattle.std.proofs.Common.{Ok, Err}
use mathlib.Core.Path.{◌≡◌, refl, sym, ◌∙◌}
use mathlib.Core.List.{List}
use native.Mathlib.Omega.{arith}
use Rattle.std.proofs.lemmas.Grind.{common_steps}
use Rattle.std.proofs.lemmas.Result.{err_from_is_err_and}
use Prim.Native.Nat.{ℕ, ◌/◌, ◌≤◌}
use lib.ListN.{length}
use Rattle.sheet.specs.Editions.{record_bytes, most_nodes}
use Rattle.sheet.specs.Reasons.{Verdict}
use Rattle.press_spec.specs.declared.Plan.{Plan}
use Rattle.press_spec.specs.Judge.{check_press}
use Rattle.press_spec.specs.Press.{call, sizes_of, outcome, press}
use Rattle.press_nodes.proofs.Lent.{lent-long}
use Rattle.press.specs.Said.{said}
use Rattle.press.proofs.Ready.{few-records, press-refused}
use Rattle.press.proofs.press.Goals as goal

-- where the lengths are fine there are no more nodes than the tables have room for
few : (sheet rules out marks : List ℕ) (p : Plan) (v : Verdict) (n : ℕ) → v ≡ check_press p.edition (sizes_of (call sheet rules out marks)) → v ≡ Ok tt
    → n ≡ length sheet / record_bytes p.edition → n ≤ most_nodes
few sheet rules out marks p v n e q is = omega (arith, is, few-records p (call sheet rules out marks) (sym e ∙ q))

pub returns-in_err-map_err : goal.returns-in_err-map_err
returns-in_err-map_err c =
    let p = err_from_is_err_and c.from_residual.result c.from_residual.ensures.1 in
    rw (p.1, p.2) (by c.judge_lengths.result refl)
  where
    by : (v : Verdict) → c.judge_lengths.result ≡ v
        → outcome (said (Err c.in_err-map_err.field-0.0)) c.args.out.now c.args.marks.now ≡ press c.args.plan (call c.args.sheet.now c.args.rules.now c.args.out.now c.args.marks.now)
    by (Ok tt) q = absurd (grind (arith, common_steps))
    by (Err why) q =
        let e : c.in_err-map_err.field-0.0 ≡ record { why = why; at = record { 0 = 0 } } = grind (arith, common_steps) in
        rw e (press-refused _ _ _ why c.judge_lengths.ensures q)

pub slice_bounds-links-end : goal.slice_bounds-links-end
slice_bounds-links-end c =
    let ok : c.judge_lengths.result ≡ Ok tt = grind (arith, common_steps) in
    few _ _ _ _ c.args.plan _ _ c.judge_lengths.ensures ok c.records_in-n.ensures

pub slice_bounds-links-end-2 : goal.slice_bounds-links-end-2
slice_bounds-links-end-2 c =
    let ok : c.judge_lengths.result ≡ Ok tt = grind (arith, common_steps) in
    sym (lent-long _ most_nodes _ (few _ _ _ _ c.args.plan _ _ c.judge_lengths.ensures ok c.records_in-n.ensures))

pub slice_bounds-clauses-end : goal.slice_bounds-clauses-end
slice_bounds-clauses-end c =
    let ok : c.judge_lengths.result ≡ Ok tt = grind (arith, common_steps) in
    few _ _ _ _ c.args.plan _ _ c.judge_lengths.ensures ok c.records_in-n.ensures

pub slice_bounds-clauses-end-2 : goal.slice_bounds-clauses-end-2
slice_bounds-clauses-end-2 c =
    let ok : c.judge_lengths.result ≡ Ok tt = grind (arith, common_steps) in
    sym (lent-long _ most_nodes _ (few _ _ _ _ c.args.plan _ _ c.judge_lengths.ensures ok c.records_in-n.ensures))

pub press_records-requires-clause-clauses_len : goal.press_records-requires-clause-clauses_len
press_records-requires-clause-clauses_len c =
    let ok : c.judge_lengths.result ≡ Ok tt = grind (arith, common_steps) in
    let least = few _ _ _ _ c.args.plan _ _ c.judge_lengths.ensures ok c.records_in-n.ensures in
    let long = lent-long _ most_nodes c.records_in-n.result least in
    (lent-long _ most_nodes c.records_in-n.result least ∙ sym long, long ∙ c.records_in-n.ensures)
