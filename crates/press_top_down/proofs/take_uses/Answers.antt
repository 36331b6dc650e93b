use native.Mathlib.Omega.{arith}
use Rattle.press_top_down.proofs.Taking.{left-some, right-some, both-taken}
use Rattle.press_top_down.proofs.take_uses.Goals as goal

pub overflow_sub-ahead : goal.overflow_sub-ahead
overflow_sub-ahead c = let s = c in
    let i = c.index-i in
    let j = c.index-j in
    left-some s.args.ahead.now i.result j.result _ _ i.ensures j.ensures (omega arith) (omega arith) s.requires.by_index

pub overflow_sub-ahead-2 : goal.overflow_sub-ahead-2
overflow_sub-ahead-2 c = let s = c in
    let i = c.index-i in
    let j = c.index-j in
    right-some s.args.ahead.now i.result j.result _ _ i.ensures j.ensures (omega arith) (omega arith) s.requires.by_index

pub returns : goal.returns
returns c = let s = c in
    let i = c.index-i in
    let j = c.index-j in
    both-taken s.args.ahead.now i.result j.result _ _ i.ensures j.ensures (omega arith) (omega arith) s.requires.by_index
