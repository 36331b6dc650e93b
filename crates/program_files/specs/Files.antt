-- What a read brings: at most as many bytes as it has room for. What a file that is read to its end leaves in the start.
use Rattle.std.specs.Prelude.{ℕ, ◌+◌, ◌≤◌, ◌≡◌, List, ◌++◌, length, take, IfSome, IfOk}
use Rattle.std.specs.declared.option.Option.{Option}
use Rattle.std.specs.declared.result.Result.{Result}
use Rattle.std.specs.Io.KnownBytes.{Consumes, IsAtEnd}

abbrev pub Brings : {E : Type 0} → ℕ → Result ℕ E → Type 0
Brings most got = IfOk got (λ n. n ≤ most)

-- the reader, whose bytes may be known, gave n bytes, and none only at its end
abbrev pub Gives : Option (List ℕ) → Option (List ℕ) → List ℕ → ℕ → Type 0
Gives old new bytes n = (length bytes ≡ n) × Consumes old new bytes × (n ≡ 0 → IsAtEnd new)

abbrev pub GivesSome : {E : Type 0} → Option (List ℕ) → Option (List ℕ) → Result ℕ E → Type 0
GivesSome old new got = IfOk got (λ n. (bytes : List ℕ) × Gives old new bytes n)

-- a read gave n bytes, and those that fit stand in the start after the `at` bytes that it held
abbrev pub AddsBytes : Option (List ℕ) → Option (List ℕ) → ℕ → List ℕ → List ℕ → ℕ → Type 0
AddsBytes old new at before after n = (bytes : List ℕ) × Gives old new bytes n × (at + n ≤ length after → take (at + n) after ≡ take at before ++ bytes)

abbrev pub Adds : {E : Type 0} → Option (List ℕ) → Option (List ℕ) → ℕ → List ℕ → List ℕ → Result ℕ E → Type 0
Adds old new at before after got = IfOk got (AddsBytes old new at before after)

-- a file that was read whole has all the bytes that its reader had, and if they fit the start they stand at its front
abbrev pub IsRead : {E : Type 0} → Option (List ℕ) → List ℕ → Result ℕ E → Type 0
IsRead known start got = IfOk got (λ n. IfSome known (λ file. (length file ≡ n) × (n ≤ length start → file ≡ take n start)))
