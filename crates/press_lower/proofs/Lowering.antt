-- The parts of the pass together.
use Prim.Native.Nat.{ℕ, suc, ◌≤◌, ◌<◌}
use mathlib.Core.List.{List}
use mathlib.Core.Path.{◌≡◌, refl, ◌∙◌}
use native.Mathlib.Omega.{arith}
use lib.ListN.{length, get_or}
use Rattle.base.specs.Folds.{fall}
use Rattle.clause.specs.Clauses.{Literal}
use Rattle.clause.specs.declared.Clause.{Clause}
use Rattle.press_nodes.specs.declared.link.Link.{Link}
use Rattle.press_used.specs.declared.table.Used.{Used}
use Rattle.clause.specs.Denote.{width}
use Rattle.sheet.specs.Records.{Node}
use Rattle.press_spec.specs.Links.{links}
use Rattle.press_spec.specs.Trim.{trim, trimmed, uses_from}
use Rattle.press_spec.specs.Rebuild.{Built, stand_in, rebuild, ended}
use Rattle.press_spec.specs.Lower.{Lowered, lowered, low_at, none_lowered, fates_by}
use Rattle.press_spec.specs.Units.{collect_turn, collected, units_built}
use Rattle.press_spec.specs.Univalents.{used_on, risen_by, risen}
use Rattle.press_spec.specs.Lowerings.{lows_of, built_of, lower_of}
use Rattle.press_spec.specs.Recycle.{Fate}
use Rattle.press_spec.specs.declared.Lowerable.{Lowerable}
use Rattle.press_spec.specs.declared.Lowerable.TheVariants.{Units, Univalents}
use Rattle.press_spec.proofs.Rebuilt.{rebuilt}
use Rattle.press_spec.proofs.OnTheWay.{risen-rebuilt}
use Rattle.press_nodes.specs.Tables.{links_in, nodes_in}
use Rattle.press_nodes.proofs.Tables.{links-nodes, nodes-length}
use Rattle.press_rebuild.proofs.Sounds.{SoundNodes, sound-earlier, rebuilt-sound}
use Rattle.press_reach.specs.Literals.{Narrow}
use Rattle.press_used.specs.Table.{use_at}
use Rattle.press_lower.proofs.Narrowed.{collected-narrow, risen-narrow}
use Rattle.press_lower.proofs.Sounder.{return-sound}

-- the units of tables of links and clauses
pub units_in : (v w : ℕ) (h : List Link) (c : List Clause) (uses : List ℕ) (from : ℕ) (low : List Lowered) → w ≡ v → length h ≡ length uses
    → ((m : ℕ) → get_or uses m 0 ≡ uses_from (links_in h) from m)
    → ((links : List Link) (count : ℕ → ℕ) → length links ≡ length uses → ((m : ℕ) → get_or uses m 0 ≡ count m)
    → low ≡ (fall (collect_turn w (nodes_in links c) count) (suc from) (none_lowered (length links))).low)
    → low ≡ (collected v (ended (nodes_in h c) from)).low
unfolding collected
units_in v w h c uses from low same size f told = rw (links-nodes h c, nodes-length h c, ← same) (told h (uses_from (links_in h) from) size f)

pub units-built : (v : ℕ) (h : List Link) (c : List Clause) (from : ℕ) (low : List Lowered) (b : Built) → low ≡ (collected v (ended (nodes_in h c) from)).low
    → b ≡ rebuild (nodes_in h c) (fates_by (trim (links_in h) from) (low_at low) (links_in h)) → b ≡ units_built v (ended (nodes_in h c) from)
unfolding units_built
units-built v h c from low b units made = made ∙ rw (links-nodes h c, units)

-- and its univalents
pub risen-in : (h : List Link) (c : List Clause) (marks : List ℕ) (used : List Used) (from : ℕ) → marks ≡ trim (links_in h) from → ((m : ℕ) → use_at used m ≡ used_on (trimmed (links_in h) marks) m)
    → risen_by marks (use_at used) (nodes_in h c) ≡ risen (ended (nodes_in h c) from)
unfolding risen
risen-in h c marks used from e f =
    let same : use_at used ≡ used_on (trimmed (links_in h) marks) = λ d m. f m d in
    rw (same, links-nodes h c, e)

-- each pass leaves what is rebuilt with all its cuts, and what it lowers has room in a set
module _ (v : ℕ) (s : List Node) (from : ℕ) (sound : SoundNodes s) where
  abbrev says : Lowerable → ℕ → Fate
  says which = fates_by (trim (links s) from) (low_at (lows_of which v (ended s from))) (links s)

  made : (which : Lowerable) → built_of which v (ended s from) ≡ rebuild s (says which)
  unfolding built_of lows_of units_built risen
  made Units = refl
  made Univalents = risen-rebuilt (trim (links s) from) s (used_on (trimmed (links s) (trim (links s) from))) (sound-earlier s sound)

  narrow : (which : Lowerable) → v ≤ width → from < length s → (n : ℕ) (x : Literal) → low_at (lows_of which v (ended s from)) n ≡ lowered x → Narrow x
  unfolding lows_of
  narrow Units fits inside = collected-narrow v (ended s from) fits inside
  narrow Univalents fits inside = risen-narrow s from sound

  pub stand-ins-down : (which : Lowerable) (n : ℕ) → stand_in (built_of which v (ended s from)) n ≤ n
  stand-ins-down which n = rw (made which) ((rebuilt s (says which) (sound-earlier s sound)).low n)

  pub lowering-sound : (which : Lowerable) → v ≤ width → from < length s → SoundNodes (lower_of which v (ended s from)).nodes
  unfolding lower_of
  lowering-sound which fits inside =
      return-sound (low_at (lows_of which v (ended s from))) (built_of which v (ended s from)) from (narrow which fits inside) (stand-ins-down which)
      (rw (made which) (omega (arith, (rebuilt s (says which) (sound-earlier s sound)).nodes-long)))
      (rw (made which) (rebuilt-sound s (says which) sound))
