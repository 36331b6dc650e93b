-- What the numbers of every edition have in common: records and lines one after another, and counts that a word has room for.
use mathlib.Core.Path.{◌≡◌, refl}
use Prim.Native.Nat.{ℕ, ◌+◌, ◌*◌, ◌/◌, ◌^◌, ◌≤◌, ◌<◌}
use native.Mathlib.Omega.{arith}
use Rattle.clause.specs.Denote.{width}
use Rattle.sheet.specs.declared.edition.Edition.{Edition}
use Rattle.sheet.specs.declared.edition.Edition.TheVariants.{Narrow, Wide}
use Rattle.sheet.specs.Editions.{variables, set_bytes, record_bytes, line_bytes, press_records, pressed_records, replay_records, most_nodes, most_records}

pub record-some : (e : Edition) → 0 < record_bytes e
record-some Narrow = omega arith
record-some Wide = omega arith

pub line-some : (e : Edition) → 0 < line_bytes e
line-some Narrow = omega arith
line-some Wide = omega arith

pub bytes_fit : (e : Edition) (k : ℕ) → k ≤ most_records → record_bytes e * k < 2 ^ 64
bytes_fit Narrow k h = omega arith
bytes_fit Wide k h = omega arith

-- a record is its numbers and two sets, a line is two sets
pub line-size : (e : Edition) → line_bytes e ≡ set_bytes e + set_bytes e
line-size Narrow = refl
line-size Wide = refl

pub record-size : (e : Edition) → record_bytes e ≡ 8 + (set_bytes e + set_bytes e)
record-size Narrow = refl
record-size Wide = refl

-- line k of a table
pub line-inside : (e : Edition) (k n : ℕ) → k < n / line_bytes e → line_bytes e * k + line_bytes e ≤ n
line-inside Narrow k n h = omega arith
line-inside Wide k n h = omega arith

-- record k of n, and the count of whole records
pub record-inside : (e : Edition) (k n : ℕ) → k < n → record_bytes e * k + record_bytes e ≤ record_bytes e * n
record-inside Narrow k n h = omega arith
record-inside Wide k n h = omega arith

pub record-whole : (e : Edition) (k n : ℕ) → k < n / record_bytes e → record_bytes e * k + record_bytes e ≤ n
record-whole Narrow k n h = omega arith
record-whole Wide k n h = omega arith

pub record-count : (e : Edition) (sheet n : ℕ) → sheet ≡ record_bytes e * n → sheet / record_bytes e ≡ n
record-count Narrow sheet n q = omega arith
record-count Wide sheet n q = omega arith

-- where a length fits a word, so does the count of its records
pub count-few : (e : Edition) (n : ℕ) → n / record_bytes e ≤ n
count-few Narrow n = omega arith
count-few Wide n = omega arith

pub same_count : (e : Edition) (i j : ℕ) → record_bytes e * i ≡ record_bytes e * j → i ≡ j
same_count Narrow i j q = omega arith
same_count Wide i j q = omega arith

-- more records take more bytes
pub bytes-grow : (e : Edition) (j k : ℕ) → j ≤ k → record_bytes e * j ≤ record_bytes e * k
bytes-grow Narrow j k h = omega arith
bytes-grow Wide j k h = omega arith

-- so many bytes are room for so many records
pub records-fit : (e : Edition) (k n : ℕ) → record_bytes e * k ≤ n → k ≤ n / record_bytes e
records-fit Narrow k n h = omega arith
records-fit Wide k n h = omega arith

-- ---- no edition goes beyond what all have room for

pub press-few : (e : Edition) → press_records e ≤ most_nodes
press-few Narrow = omega arith
press-few Wide = omega arith

pub pressed-few : (e : Edition) → pressed_records e ≤ most_records
pressed-few Narrow = omega arith
pressed-few Wide = omega arith

pub replay-few : (e : Edition) → replay_records e ≤ most_records
replay-few Narrow = omega arith
replay-few Wide = omega arith

pub variables-few : (e : Edition) → variables e ≤ width
variables-few Narrow = omega arith
variables-few Wide = omega arith
