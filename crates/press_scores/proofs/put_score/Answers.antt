use Rattle.press_scores.proofs.Rows.{score-put}
use Rattle.press_scores.proofs.put_score.Goals as goal

pub returns : goal.returns
returns c = let three = c.put_bit-3 in
    let two = c.put_bit-2 in
    let one = c.put_bit in
    let s = c in
    score-put s.args.n.0 s.args.score s.args.rows.now _ _ _ s.requires.0 s.requires.1 s.requires.2 one.ensures two.ensures three.ensures
