use Rattle.std.proofs.Common.{◌≡◌, ℕ, ◌<◌, ◌≤◌, List, false, length, take, get_or, sym, ap, ◌∙◌, below_more, arith, length-take}
use Rattle.std.proofs.lemmas.List.{get_or-take}
use Rattle.replay_spec.specs.Slots.{empty}
use Rattle.replay_slots.specs.declared.Slot.{Slot}
use Rattle.replay_slots.specs.Looks.{is_sought, passed}
use Rattle.replay_slots.specs.Said.{slot_of, row_of, sought_of}
use Rattle.replay_slots.proofs.Rows.{row-length, row_at, passed-le, look_at_lem, look_none}
use Rattle.replay_row.proofs.Cells.{blank, blank-is}
use Rattle.replay_row.proofs.find.Goals as goal

-- slot i of the first n is slot i of the row
slot-is : (ys : List Slot) (n i : ℕ) → i < length (take n ys) → get_or (row_of ys) i empty ≡ slot_of (get_or (take n ys) i blank)
slot-is ys n i h = row_at ys i blank blank-is ∙ ap slot_of (sym (get_or-take n ys i blank (omega (arith, length-take n ys, h))))

pub slice_bounds-slot-items-end : goal.slice_bounds-slot-items-end
slice_bounds-slot-items-end c =
    let within = passed-le (sought_of c.args.sought) (length c.args.slots.now) in
    omega (arith, length-take c.passed-n.result c.args.slots.now, c.passed-n.ensures, within)

pub loop-i-preserved : goal.loop-i-preserved
loop-i-preserved c =
    below_more
    _
    _
    c.loop-i.invariant
    (ap (is_sought (sought_of c.args.sought)) (slot-is c.args.slots.now c.passed-n.result c.loop-i.i c.loop-i-test.true) ∙ sym c.is_sought.ensures ∙ c.if-is_sought.false)

pub returns-then-is_sought : goal.returns-then-is_sought
returns-then-is_sought c =
    let inside : c.loop-i.i < length (row_of c.args.slots.now) = rw row-length (omega (arith, length-take c.passed-n.result c.args.slots.now, c.loop-i-test.true)) in
    sym
    (look_at_lem
    (row_of c.args.slots.now)
    (sought_of c.args.sought)
    c.loop-i.i
    (slot_of (get_or (take c.passed-n.result c.args.slots.now) c.loop-i.i blank))
    inside
    (slot-is c.args.slots.now c.passed-n.result c.loop-i.i c.loop-i-test.true)
    (sym c.is_sought.ensures ∙ c.if-is_sought.true)
    c.loop-i.invariant)

pub returns : goal.returns
returns c =
    let within = passed-le (sought_of c.args.sought) (length c.args.slots.now) in
    let all : c.loop-i.i ≡ c.passed-n.result = omega (arith, length-take c.passed-n.result c.args.slots.now, c.passed-n.ensures, within) in
    sym
    (look_none
    (row_of c.args.slots.now)
    (sought_of c.args.sought)
    c.loop-i.i
    (all ∙ c.passed-n.ensures ∙ ap (passed (sought_of c.args.sought)) (sym (row-length c.args.slots.now)))
    c.loop-i.invariant)
