-- Nodes by score, in three rows of bits: a node that scores g, 1 to 3, is in row g. Node n is bit n % word of word n / word of a row.
use Rattle.std.specs.Prelude.{ℕ, ◌+◌, ◌-◌, ◌*◌, ◌/◌, ◌%◌, ◌<◌, ◌≡◌, Bool, true, false, ◌&&◌, cond, List, ltb, get_or, set}
use Rattle.clause.specs.Sets.{has, with, without}
use Rattle.clause.specs.Denote.{word}
use Rattle.sheet.specs.Editions.{capacity}

-- the words of a row, which has a bit for each node that a table has room for; and of the three
abbrev pub row_words : ℕ
row_words = capacity / word

abbrev pub score_words : ℕ
score_words = 3 * row_words

-- the word of row g that has the bit of node n
abbrev pub word_of : ℕ → ℕ → ℕ
word_of g n = (g - 1) * row_words + n / word

-- a node past the capacity is in no row
unfoldable pub in_row : List ℕ → ℕ → ℕ → Bool
in_row rows g n = ltb n capacity && has (n % word) (get_or rows (word_of g n) 0)

-- the highest row that a node is in, or 0
unfoldable pub scores_in : List ℕ → ℕ → ℕ
scores_in rows n = cond (in_row rows 3 n) 3 (cond (in_row rows 2 n) 2 (cond (in_row rows 1 n) 1 0))

-- the bit of n in row g is set or cleared
unfoldable pub bit_put : List ℕ → ℕ → ℕ → Bool → List ℕ
bit_put rows g n on =
    let here = get_or rows (word_of g n) 0 in
    set rows (word_of g n) (cond on (with (n % word) here) (without (n % word) here))

-- v is the lowest of the k digits of s that is 1
pub record Lowest (k s v : ℕ) : Type 0 where
  pub low : v < k
  pub here : has v s ≡ true
  pub none : (u : ℕ) → u < v → has u s ≡ false

-- n is the first node of row g; past the capacity: the row has none
pub record FirstIn (rows : List ℕ) (g n : ℕ) : Type 0 where
  pub none : (m : ℕ) → m < n → in_row rows g m ≡ false
  pub here : n < capacity → in_row rows g n ≡ true
