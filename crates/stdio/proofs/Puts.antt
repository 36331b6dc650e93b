-- A writer that puts piece after piece: where none was left out at the end, none was on the way, and the known bytes grew by all of them.
use Rattle.std.proofs.Common.{◌≡◌, ℕ, List, [], ◌∷◌, Option, IsNone, refl, subst, ◌∙◌}
use Rattle.std.specs.Io.KnownBytes.{Appends}
use Rattle.std.specs.Fmt.{WritesInCalls}
use Rattle.std.specs.List.{FoldsTo, concat}
use Rattle.std.proofs.KnownBytes.{Appends-nil, Appends-trans}

module _ {W N E : Type 0} (name : W → N) (error : W → Option E) (contents : W → Option (List ℕ)) where
  abbrev Puts : W → List ℕ → W → Type 0
  Puts w bs v = (name v ≡ name w) × (IsNone (error v) → IsNone (error w) × Appends (contents w) (contents v) bs)

  puts_pieces : (w : W) (pieces : List (List ℕ)) (v : W) → FoldsTo Puts w pieces v → Puts w (concat pieces) v
  puts_pieces w [] v p = subst (Puts w []) p (refl, λ none. (none, Appends-nil (contents w)))
  puts_pieces w (x ∷ xs) v p =
      let rest = puts_pieces p.0 xs v p.2 in
      (rest.0 ∙ p.1.0, λ none. let after = rest.1 none in let first = p.1.1 after.0 in (first.0, Appends-trans _ _ _ x (concat xs) first.1 after.1))

  pub puts-all : (w : W) (bs : List ℕ) (v : W) → WritesInCalls (λ s xs t. (name t ≡ name s) × (IsNone (error t) → IsNone (error s) × Appends (contents s) (contents t) xs)) w bs v → Puts w bs v
  puts-all w bs v p = subst (λ l. Puts w l v) p.whole (puts_pieces w p.parts v p.calls)
