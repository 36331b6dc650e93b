-- What the conversions from numbers say, in the words of the plan that is named.
use Rattle.std.proofs.Common.{◌≡◌, ℕ, Result, Ok, Err, None, Some, Bool, true, false, arith}
use Rattle.std.proofs.lemmas.Grind.{common_steps}
use Rattle.sheet.specs.declared.edition.Edition.{Edition}
use Rattle.sheet.specs.declared.edition.NoEdition.{NoEdition}
use Rattle.sheet.specs.Editions.{edition_named}
use Rattle.press_spec.specs.declared.Recycling.{Recycling}
use Rattle.press_spec.specs.declared.NoRecycling.{NoRecycling}
use Rattle.press_spec.specs.declared.Lowerable.{Lowerable}
use Rattle.press_spec.specs.declared.NoLowerable.{NoLowerable}
use Rattle.press_spec.specs.Plans.{Lowering, recycling_named, lowerable_named}
use Rattle.c_report.specs.Named.{names, names_lowering, edition_of, recycling_of, lowering_of, lowering_named}

pub no-edition : (n : ℕ) (x : NoEdition) → edition_named n ≡ Err x → names n ≡ false
unfolding edition_named names
no-edition n x e = grind (arith, common_steps)

pub an-edition : (n : ℕ) (x : Edition) → edition_named n ≡ Ok x → (names n ≡ true) × (x ≡ edition_of n)
unfolding edition_named names edition_of
an-edition n x e = grind (arith, common_steps)

pub no-recycling : (n : ℕ) (x : NoRecycling) → recycling_named n ≡ Err x → names n ≡ false
unfolding recycling_named names
no-recycling n x e = grind (arith, common_steps)

pub a-recycling : (n : ℕ) (x : Recycling) → recycling_named n ≡ Ok x → (names n ≡ true) × (x ≡ recycling_of n)
unfolding recycling_named names recycling_of
a-recycling n x e = grind (arith, common_steps)

pub nothing-lowered : (n : ℕ) → n ≡ 0 → Ok None ≡ lowering_named n
unfolding lowering_named names_lowering lowering_of
nothing-lowered n e = grind (arith, common_steps)

pub no-lowerable : (n : ℕ) (x : NoLowerable) → (n ≡ 0 → ⊥) → lowerable_named n ≡ Err x → Err x ≡ lowering_named n
unfolding lowerable_named lowering_named names_lowering
no-lowerable n x z e = grind (arith, common_steps)

pub a-lowerable : (n : ℕ) (x : Lowerable) → (n ≡ 0 → ⊥) → lowerable_named n ≡ Ok x → Ok (Some x) ≡ lowering_named n
unfolding lowerable_named lowering_named names_lowering lowering_of
a-lowerable n x z e = grind (arith, common_steps)

pub no-lowering : (n : ℕ) (x : NoLowerable) → lowering_named n ≡ Err x → names_lowering n ≡ false
unfolding lowering_named
no-lowering n x e = grind (arith, common_steps)

pub a-lowering : (n : ℕ) (x : Lowering) → lowering_named n ≡ Ok x → (names_lowering n ≡ true) × (x ≡ lowering_of n)
unfolding lowering_named
a-lowering n x e = grind (arith, common_steps)
