-- What reads into a start, one after the other, leave in it.
use Rattle.std.proofs.Common.{◌≡◌, ℕ, ◌+◌, ◌<◌, ◌≤◌, List, ◌++◌, length, take, Ok, Err, sym, ap, ◌∙◌, arith}
use Rattle.std.specs.declared.option.Option.{Option}
use Rattle.std.specs.declared.result.Result.{Result}
use Rattle.std.specs.Io.{ReadsAtMost}
use Rattle.std.specs.Io.KnownBytes.{Consumes, ReadConsumes}
use Rattle.std.proofs.KnownBytes.{Consumes-trans}
use Rattle.std.proofs.lemmas.List.{take-append-le, length-append, length-take}
use Rattle.std.proofs.Math.Seq.{take-append-add}
use borrow.Rule.Slice.PartMut.{put_mid, post_of}
use Rattle.program_files.specs.Files.{Adds, AddsBytes}

-- what came before and n bytes of a part that begins there
part-front : (a k n : ℕ) (xs ys : List ℕ) → a ≤ length xs → n ≤ length ys → take (a + n) (put_mid a k xs ys) ≡ take a xs ++ take n ys
part-front a k n xs ys fits within =
    let long : length (take a xs) ≡ a = omega (arith, length-take a xs) in
    ap (λ m. take (m + n) (put_mid a k xs ys)) (sym long) ∙ take-append-add (take a xs) (ys ++ post_of a k xs) n ∙ ap (λ l. take a xs ++ l) (take-append-le n ys (post_of a k xs) within)

-- a read into the part of a start from a on
pub adds-part : {E : Type 0} (got : Result ℕ E) (old new : Option (List ℕ)) (a k : ℕ) (start buffer : List ℕ)
    → a ≤ length start → 0 < length buffer → ReadsAtMost got buffer → ReadConsumes old new got buffer → Adds old new a start (put_mid a k start buffer) got
adds-part (Ok n) old new a k start buffer fits room bound consumed =
    let long : length (take n buffer) ≡ n = omega (arith, length-take n buffer, bound.0) in
    (take n buffer, (long, consumed.0, λ z. consumed.1 z room), λ w. part-front a k n start buffer fits bound.0)
adds-part (Err e) old new a k start buffer fits room bound consumed = tt

-- k bytes were read since the reader was at a, and those that fit stand at the front of the start
abbrev pub Front : Option (List ℕ) → Option (List ℕ) → ℕ → List ℕ → Type 0
Front a b k start = (bytes : List ℕ) × (length bytes ≡ k) × Consumes a b bytes × (k ≤ length start → take k start ≡ bytes)

pub front-more : (a b c : Option (List ℕ)) (k n : ℕ) (before after : List ℕ) → length after ≡ length before → Front a b k before → AddsBytes b c k before after n → Front a c (k + n) after
front-more a b c k n before after same front more =
    let xs = front.0 in
    let ys = more.0 in
    (xs ++ ys, omega (arith, length-append xs ys, front.1, more.1.0), Consumes-trans a b c xs ys front.2 more.1.1, λ fits. more.2 fits ∙ ap (λ l. l ++ ys) (front.3 (omega arith)))
