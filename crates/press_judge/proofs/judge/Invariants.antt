use Rattle.std.proofs.Common.{◌≡◌, length}
use Rattle.press_nodes.specs.Tables.{nodes_in}
use Rattle.press_judge.proofs.Judging.{Left}
use Rattle.press_judge.proofs.judge.Given as goal

abbrev pub invariant-loop-judged : goal.invariant-loop-judged
invariant-loop-judged l = (length l.links ≡ length l.initial.links)
    × (length l.clauses ≡ length l.initial.links)
    × Left l.edition l.rules l.sheet l.judged-end l.judged (nodes_in l.links l.clauses)
