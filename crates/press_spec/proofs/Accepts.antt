-- The press accepts exactly the proper sheets without drops, with room and marks enough; and what it then says.
use Rattle.std.proofs.Common.{Err, Ok}
use Prim.Native.Nat.{ℕ, zero, suc, ◌-◌, ◌*◌, ◌/◌, ◌≤◌, ◌<◌}
use mathlib.Core.Bool.{false, true≢false, ◌&&◌, and-eq-true_iff}
use mathlib.Core.Path.{◌≡◌, refl, sym, ap, ap₂, ◌∙◌}
use mathlib.Core.List.{List, [], ◌∷◌, map}
use native.Mathlib.Omega.{arith}
use lib.Dec.{leb}
use lib.ListN.{length, get_or, take, replicate, length-map, get_or-map}
use lib.Seq.{length-take-le, take-length, get_or-take}
use borrow.Author.Tests.{leb-true, le-leb}
use Rattle.base.specs.Bytes.{put}
use Rattle.sheet.specs.declared.Reason.TheVariants.{Room}
use Rattle.sheet.specs.Reasons.{Verdict}
use Rattle.sheet.specs.declared.edition.Edition.{Edition}
use Rattle.press_spec.specs.declared.Plan.{Plan}
use Rattle.sheet.specs.Editions.{record_bytes, line_bytes, press_records}
use Rattle.sheet.specs.Records.{Node, given, step, Record, node, drop, clause, node_at}
use Rattle.sheet.specs.Fields.{record_at, sheet_bytes, rule_lines}
use Rattle.sheet.specs.Fitting.{Known}
use Rattle.sheet.specs.Counts.{nodes_of, steps_of, peak_from}
use Rattle.sheet.specs.Proper.{record_in, clause_in, Held, ProperAfter, ReadsAs, Proper}
use Rattle.sheet.proofs.Sizes.{record-count}
use Rattle.sheet.proofs.Reasons.{unless-fine, fine-unless, and_then-fine, fine-and_then}
use Rattle.sheet.proofs.RecordBytes.{PivotBelow, reads-pivot, reading-known}
use Rattle.sheet.proofs.Fine.{Lengths, lengths-fine, fine-lengths}
use Rattle.press_spec.specs.Judge.{Sizes, check_room, check_press, Judged, proper, bad, judge}
use Rattle.press_spec.specs.Links.{links}
use Rattle.press_spec.specs.Drops.{with_drops, mark_lines, total}
use Rattle.press_spec.specs.Press.{pressed, pressed_order, Call, sizes_of, Report, Outcome, accepted, conclusion, core, report, emit, refuse, by_judging, by_lengths, press}
use Rattle.press_spec.proofs.Proper.{ProperNode, AllProper, Kept}
use Rattle.press_spec.proofs.Judged.{AllRead, judged-proper, judge-of}
use Rattle.press_spec.proofs.Kept.{pressed-kept}
use Rattle.press_spec.proofs.Marks.{LineOf, line-put, put-line}

-- ---- records that are all nodes

pub nodes-alone : (s : List Node) → nodes_of (map node s) ≡ s
unfolding nodes_of
nodes-alone [] = refl
nodes-alone (x ∷ s) = ap (λ (t : List Node). x ∷ t) (nodes-alone s)

pub record-alone : (s : List Node) (k : ℕ) → record_in (map node s) k ≡ node (node_at s k)
unfolding node_at
record-alone s k = get_or-map node s k _

take-alone : (k : ℕ) (s : List Node) → take k (map node s) ≡ map node (take k s)
take-alone zero s = refl
take-alone (suc k) [] = refl
take-alone (suc k) (x ∷ s) = ap (λ (t : List Record). node x ∷ t) (take-alone k s)

pub all-nodes : (rs : List Record) → ((k : ℕ) → k < length rs → Known false (record_in rs k)) → rs ≡ map node (nodes_of rs)
unfolding nodes_of
all-nodes [] f = refl
all-nodes (node x ∷ rs) f = ap (λ (t : List Record). node x ∷ t) (all-nodes rs (λ k h. f (suc k) (omega arith)))
all-nodes (drop n ∷ rs) f = absurd (true≢false (sym (f 0 (omega arith))))

-- without drops every sheet reads as nodes alone
pub reads-nodes : (e : Edition) (sheet : List ℕ) (rs : List Record) → ReadsAs e false sheet rs → rs ≡ map node (nodes_of rs)
reads-nodes e sheet rs r = all-nodes rs (λ k h. reading-known e false (record_at e sheet k) (record_in rs k) (r.each k h))

-- ---- proper after the first k of the nodes s

module _ (s : List Node) (k : ℕ) (inside : k ≤ length s) where
  abbrev first : List Record
  first = take k (map node s)

  count-first : length (nodes_of first) ≡ k
  count-first = rw (take-alone k s, nodes-alone (take k s)) (length-take-le k s inside)

  clause-first : (n : ℕ) → n < k → clause_in first n ≡ clause (node_at s n)
  unfolding node_at
  clause-first n h = rw (take-alone k s, nodes-alone (take k s)) (ap clause (get_or-take k s n _ h))

  held_first : (n : ℕ) → n < k → Held first n
  held_first n h = (rw count-first h, rw (take-alone k s) (λ j i q. let y = record-alone (take k s) j in let z : ◌≡◌ {A = ℕ} 0 1 = cc in omega arith))

  module _ (e : Edition) (rules : List ℕ) where
    pub after-proper : (x : Node) → PivotBelow e x → ProperAfter e rules first (node x) → ProperNode e rules s k x
    after-proper (given line c) b p = p
    after-proper (step v l r c) b (left, right, plus, minus, result) =
        let i : l < k = omega (arith, count-first, left.0) in
        let j : r < k = omega (arith, count-first, right.0) in
        rw (← clause-first l i, ← clause-first r j) (b, i, j, plus, minus, result)

    pub proper-after : (x : Node) → ProperNode e rules s k x → ProperAfter e rules first (node x)
    proper-after (given line c) p = p
    proper-after (step v l r c) (b, i, j, plus, minus, result) =
        rw (clause-first l i, clause-first r j) (held_first l i, held_first r j, plus, minus, result)

last-held : (s : List Node) → 1 ≤ length s → Held (map node s) (length (nodes_of (map node s)) - 1)
last-held s some =
    let whole : take (length s) (map node s) ≡ map node s = rw (← length-map s node) (take-length (map node s)) in
    rw whole at (held_first s (length s) (omega arith) (length (nodes_of (map node s)) - 1) (omega (arith, ap length (nodes-alone s))))

-- ---- a proper sheet without drops

module _ (e : Edition) (rules sheet : List ℕ) (s : List Node) (p : Proper e (press_records e) false rules sheet (map node s)) where
  all_read : AllRead e sheet s
  all_read k h = rw (record-alone s k) at (p.read.each k (rw (length-map s node) h))

  all-proper : AllProper e rules s
  all-proper n h =
      after-proper s n (omega arith) e rules (node_at s n) (reads-pivot e false (record_at e sheet n) (node_at s n) (all_read n h))
      (rw (record-alone s n) at (p.each n (rw (length-map s node) h)))

-- its nodes are proper, and there are some
pub proper-nodes : (e : Edition) (rules sheet : List ℕ) (rs : List Record) → Proper e (press_records e) false rules sheet rs
    → AllProper e rules (nodes_of rs) × (1 ≤ length (nodes_of rs))
proper-nodes e rules sheet rs p =
    let same = reads-nodes e sheet rs p.read in (
      all-proper e rules sheet (nodes_of rs) (rw same at p),
      omega (arith, p.some, ap length same, length-map (nodes_of rs) node),
    )

-- ---- checks 1 to 5

-- room for the output of n records, and a mark for each rule line
abbrev pub Roomy : Edition → ℕ → Sizes → Type 0
Roomy e n z = (record_bytes e * (2 * n - 1) ≤ z.out) × (z.rules / line_bytes e ≤ z.marks)

-- what has these lengths can be pressed, if its n records are proper
abbrev pub Enough : Edition → Sizes → ℕ → Type 0
Enough e z n = Lengths e (press_records e) z.sheet z.rules n × Roomy e n z

pub press-fine : (e : Edition) (z : Sizes) → check_press e z ≡ Ok tt → Enough e z (z.sheet / record_bytes e)
unfolding check_press check_room
press-fine e z q =
    let n = z.sheet / record_bytes e in
    let y = and_then-fine _ _ q in
    let w = (and-eq-true_iff (leb (record_bytes e * (2 * n - 1)) z.out) (leb (z.rules / line_bytes e) z.marks)).0 (unless-fine _ Room (Ok tt) y.1).0 in
    (lengths-fine e (press_records e) z.sheet z.rules y.0, (leb-true _ z.out w.0, leb-true _ z.marks w.1))

fine-press : (e : Edition) (z : Sizes) (n : ℕ) → Enough e z n → check_press e z ≡ Ok tt
unfolding check_press check_room
fine-press e z n (l, (r, m)) =
    fine-and_then _ _ (fine-lengths e (press_records e) z.sheet z.rules n l)
    (rw (record-count e z.sheet n l.0) (fine-unless _ Room (Ok tt) (ap₂ ◌&&◌ (le-leb _ z.out r) (le-leb _ z.marks m)) refl))

-- ---- the press

module _ (plan : Plan) (c : Call) where
  abbrev e : Edition
  e = plan.edition

  abbrev sheet : List ℕ
  sheet = c.sheet

  abbrev rules : List ℕ
  rules = c.rules

  abbrev checked : Verdict
  checked = check_press e (sizes_of c)

  -- what is marked is the line of a given node of t, and every such line is
  abbrev pub MarksLines : List Node → Type 0
  MarksLines t =
      (line : ℕ)
      → line < rule_lines e rules
      → (LineOf (links t) line → get_or (press plan c).marks line 0 ≡ 1) × ((get_or (press plan c).marks line 0 ≡ 0 → ⊥) → LineOf (links t) line)

  -- ---- a sheet that passes 1 to 5 and is judged proper

  module _ (s : List Node) (fine : checked ≡ Ok tt) (j : judge e rules sheet ≡ proper s) where
    does : press plan c ≡ by_judging plan c (proper s)
    unfolding press by_lengths
    does = rw (fine, j)

    answers : (press plan c).answer ≡ accepted (report (rule_lines e rules) (pressed_order plan s) (pressed plan s))
    unfolding by_judging emit
    answers = ap (λ (o : Outcome). o.answer) does

    writes : (press plan c).out ≡ put c.out 0 (sheet_bytes e (with_drops (pressed plan s)))
    unfolding by_judging emit
    writes = ap (λ (o : Outcome). o.out) does

    -- "The marked lines are exactly the lines of the emitted given records, no more and no fewer."
    marks-lines : MarksLines (pressed plan s)
    unfolding by_judging emit core
    marks-lines line h = rw does ((λ l. line-put _ _ c.marks line h l), (λ f. put-line _ _ c.marks line h f))

    marks-core : (press plan c).marks ≡ put c.marks 0 (core (rule_lines e rules) (pressed plan s))
    unfolding by_judging emit
    marks-core = ap (λ (o : Outcome). o.marks) does

  -- every answer but a refusal comes from a sheet that passes 1 to 5 and is judged proper
  judged-accepted : (r : Report) → (press plan c).answer ≡ accepted r → (checked ≡ Ok tt) × (s : List Node) × (judge e rules sheet ≡ proper s)
  unfolding press by_lengths by_judging refuse
  judged-accepted r = by_lengths_lem checked refl
    where
      by-judging : (j : Judged) → judge e rules sheet ≡ j → (by_judging plan c j).answer ≡ accepted r
          → (s : List Node) × (judge e rules sheet ≡ proper s)
      by-judging (proper s) q a = (s, q)
      by-judging (bad why k) q a = let z : ◌≡◌ {A = ℕ} 0 1 = cc in absurd (omega arith)

      by_lengths_lem : (v : Verdict) → checked ≡ v → (by_lengths plan c v).answer ≡ accepted r
          → (checked ≡ Ok tt) × (s : List Node) × (judge e rules sheet ≡ proper s)
      by_lengths_lem (Ok tt) q a = let (s, j) = by-judging (judge e rules sheet) refl a in (q, s, j)
      by_lengths_lem (Err why) q a = let z : ◌≡◌ {A = ℕ} 0 1 = cc in absurd (omega arith)

  -- what an accepted press has read, done and reported
  pub record Says (r : Report) : Type 0 where
    pub input : List Node
    pub enough : Enough e (sizes_of c) (length input)
    pub read : ReadsAs e false sheet (map node input)
    pub each : AllProper e rules input
    pub kept : Kept e rules input (pressed plan input)
    pub writes : (press plan c).out ≡ put c.out 0 (sheet_bytes e (with_drops (pressed plan input)))
    pub marks-lines : MarksLines (pressed plan input)
    pub marks-core : (press plan c).marks ≡ put c.marks 0 (core (rule_lines e rules) (pressed plan input))
    pub concludes : r.conclusion ≡ conclusion (pressed plan input)
    pub recorded : r.records ≡ length (with_drops (pressed plan input))
    pub counts : r.nodes ≡ length (pressed plan input)
    pub takes : r.steps ≡ steps_of (pressed plan input)
    pub peaks : r.peak ≡ peak_from 0 (with_drops (pressed plan input))
    pub totals : r.marked ≡ total (mark_lines (links (pressed plan input)) (replicate (rule_lines e rules) 0))
    pub orders : r.order ≡ pressed_order plan input

  pub accepted-says : (r : Report) → (press plan c).answer ≡ accepted r → Says r
  unfolding report core
  accepted-says r a =
      let (fine, s, j) = judged-accepted r a in
      let (each, long, read) = judged-proper e rules sheet s j in
      let enough = rw (← long) at (press-fine e (sizes_of c) fine) in
      let said = sym (answers s fine j) ∙ a in
      let same : r ≡ report (rule_lines e rules) (pressed_order plan s) (pressed plan s) = cc in
      record {
        input = s;
        enough = enough;
        read = record {
          size = rw (length-map s node) enough.0.0;
          each = λ k h. rw (record-alone s k) (read k (rw (length-map s node) at h));
        };
        each = each;
        kept = pressed-kept plan rules s each enough.0.1;
        writes = writes s fine j;
        marks-lines = marks-lines s fine j;
        marks-core = marks-core s fine j;
        concludes = ap (λ (x : Report). x.conclusion) same;
        recorded = ap (λ (x : Report). x.records) same;
        counts = ap (λ (x : Report). x.nodes) same;
        takes = ap (λ (x : Report). x.steps) same;
        peaks = ap (λ (x : Report). x.peak) same;
        totals = ap (λ (x : Report). x.marked) same;
        orders = ap (λ (x : Report). x.order) same;
      }

  -- ---- a proper sheet

  judge-proper : (s : List Node) → Proper e (press_records e) false rules sheet (map node s) → judge e rules sheet ≡ proper s
  judge-proper s p =
      judge-of e rules sheet s (all-proper e rules sheet s p) (all_read e rules sheet s p)
      (record-count e (length sheet) (length s) (rw (length-map s node) at p.read.size))

  pub proper-accepted : (rs : List Record) → Proper e (press_records e) false rules sheet rs → Roomy e (length rs) (sizes_of c)
      → (r : Report) × ((press plan c).answer ≡ accepted r)
  proper-accepted rs p roomy =
      let same = reads-nodes e sheet rs p.read in (
        _,
        answers (nodes_of rs) (fine-press e (sizes_of c) (length rs) ((p.read.size, p.some, p.few, p.lines), roomy))
            (judge-proper (nodes_of rs) (rw same at p)),
      )

  -- ---- what is accepted is proper

  pub accepted-proper : (r : Report) → (press plan c).answer ≡ accepted r
      → (rs : List Record) × Proper e (press_records e) false rules sheet rs × Roomy e (length rs) (sizes_of c)
  accepted-proper r a =
      let y = accepted-says r a in
      let s = y.input in
      let long = length-map s node in (
        map node s,
        record {
          read = y.read;
          some = rw long y.enough.0.1;
          few = rw long y.enough.0.2;
          lines = y.enough.0.3;
          each = λ k h.
              let i : k < length s = rw long at h in
              rw (record-alone s k) (proper-after s k (omega arith) e rules (node_at s k) (y.each k i));
          ends = last-held s y.enough.0.1;
        },
        rw long y.enough.1,
      )
