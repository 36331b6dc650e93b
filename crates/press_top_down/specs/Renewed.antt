-- A table of scores beside the tables that they come from: which scores are right, and which a node that is taken can change.
use Rattle.std.specs.Prelude.{ℕ, suc, ◌≤◌, ◌≡◌, ◌⊎◌, List, length, get_or, Option}
use Rattle.sheet.specs.declared.NodeNo.{NodeNo}
use Rattle.press_spec.specs.Links.{Link, link_at}
use Rattle.press_spec.specs.Trim.{uses_in}
use Rattle.press_nodes.specs.Tables.{links_in, Links}
use Rattle.press_nodes.specs.Numbers.{numbers_in}
use Rattle.press_nodes.specs.declared.link.Link.{Link as CodeLink}
use Rattle.press_nodes.specs.declared.fate.Side.TheVariants.{Left, Right}
use Rattle.press_users.specs.Chains.{parent_on, Chain}
use Rattle.press_scores.specs.Rows.{score_words, scores_in}
use Rattle.press_top_down.specs.declared.score.State.{State}
use Rattle.press_top_down.specs.declared.renew.Chains.{Chains}
use Rattle.press_top_down.specs.declared.renew.Sides.{Sides}
use Rattle.press_top_down.specs.Scores.{score_in}

-- the tables of a turn: an entry for each node, and the scores
pub record Tables (links : List CodeLink) (left ahead : List ℕ) (numbers : List (Option NodeNo)) (rows : List ℕ) : Type 0 where
  pub linked : Links links
  pub lefts : length left ≡ length links
  pub aheads : length ahead ≡ length links
  pub numbered : length numbers ≡ length links
  pub scored : length rows ≡ score_words

abbrev pub Standing : State → List ℕ → Type 0
Standing t rows = Tables t.links.now t.left.now t.ahead.now t.numbers.now rows

abbrev pub score_of : State → ℕ → ℕ
score_of t = score_in (links_in t.links.now) t.left.now t.ahead.now (numbers_in t.numbers.now)

-- the users of each node on a side, in chains
pub record ChainsOf (links : List CodeLink) (t : Chains) : Type 0 where
  pub chained : Chain t.side (links_in links) (length links) (numbers_in t.heads.now) (numbers_in t.nexts.now)
  pub headed : length t.heads.now ≡ length links
  pub followed : length t.nexts.now ≡ length links

-- and by both of its parents
pub record Users (links : List CodeLink) (users : Sides) : Type 0 where
  pub on-left : ChainsOf links users.left
  pub on-right : ChainsOf links users.right
  pub is-left : users.left.side ≡ Left
  pub is-right : users.right.side ≡ Right

-- the table has the score of m
abbrev pub Scored : (ℕ → ℕ) → List ℕ → ℕ → Type 0
Scored f rows m = scores_in rows m ≡ f m

-- the scores of a kind are worked out anew; none that was right is spoilt
pub record Renewed (f : ℕ → ℕ) (Q : ℕ → Type 0) (rows next : List ℕ) : Type 0 where
  pub now-right : (m : ℕ) → Q m → Scored f next m
  pub still-right : (m : ℕ) → Scored f rows m → Scored f next m

-- m is a step that has q for a parent
abbrev pub Names : List Link → ℕ → ℕ → Type 0
Names s q m = (parent_on Left (link_at s m) ≡ suc q) ⊎ (parent_on Right (link_at s m) ≡ suc q)

-- The scores that taking n can change. A gain looks whether a parent is named in 1 or 2 places; where 3 or more are left after n, there were no 1 or 2 before.
pub data Touched (s : List Link) (ahead : List ℕ) (n m : ℕ) : Type 0 where
  itself : m ≡ n → Touched s ahead n m
  user : Names s n m → Touched s ahead n m
  sharer : (q : ℕ) → 1 ≤ uses_in q (link_at s n) → get_or ahead q 0 ≤ 2 → Names s q m → Touched s ahead n m
