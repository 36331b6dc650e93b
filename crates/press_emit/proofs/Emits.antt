-- Records that are emitted one after another, from nothing: what is written, and what is counted.
use mathlib.Core.Path.{◌≡◌, refl, sym, ap, ap₂, ◌∙◌}
use mathlib.Core.List.{List, [], ◌∷◌, ◌++◌, append_assoc, append-nil}
use Prim.Native.Nat.{ℕ, ◌+◌, ◌*◌, ◌/◌, ◌≤◌}
use native.Mathlib.Omega.{arith}
use lib.ListN.{length, length-append}
use Rattle.base.specs.Bytes.{put, flat}
use Rattle.base.proofs.Bytes.{put-none, put-put}
use Rattle.base.proofs.Flat.{flat_append}
use Rattle.sheet.specs.declared.edition.Edition.{Edition}
use Rattle.sheet.specs.Editions.{record_bytes}
use Rattle.sheet.specs.Records.{Record}
use Rattle.sheet.specs.Fields.{record_bytes_of, sheet_bytes}
use Rattle.tally.specs.Tally.{tallied}
use Rattle.sheet.proofs.Sizes.{record-whole}
use Rattle.sheet.proofs.RecordBytes.{length-sheet_bytes}
use Rattle.press_emit.specs.Emission.{Emission, unwritten, emit_record, emit_all}

pub emit_all-append : (xs ys : List Record) (e : Emission) → emit_all (xs ++ ys) e ≡ emit_all ys (emit_all xs e)
unfolding emit_all
emit_all-append [] ys e = refl
emit_all-append (x ∷ xs) ys e = emit_all-append xs ys (emit_record x e)

pub records-grow : (rs : List Record) (e : Emission) → (emit_all rs e).records ≡ e.records + length rs
unfolding emit_all emit_record
records-grow [] e = omega arith
records-grow (r ∷ rs) e = records-grow rs (emit_record r e) ∙ omega arith

pub tally-grows : (rs : List Record) (e : Emission) → (emit_all rs e).tally ≡ tallied rs e.tally
unfolding emit_all emit_record tallied
tally-grows [] e = refl
tally-grows (r ∷ rs) e = tally-grows rs (emit_record r e)

-- one more record after those that stand there
put-more : (d : Edition) (out : List ℕ) (done : List Record) (r : Record) → length done + 1 ≤ length out / record_bytes d
    → put (put out 0 (sheet_bytes d done)) (record_bytes d * length done) (record_bytes_of d r) ≡ put out 0 (sheet_bytes d (done ++ (r ∷ [])))
unfolding sheet_bytes flat
put-more d out done r h =
    put-put out 0 (sheet_bytes d done) (record_bytes_of d r) (record_bytes d * length done) (omega (arith, length-sheet_bytes d done)) (omega (arith, record-whole d (length done) (length out) (omega arith)))
    ∙ ap (put out 0) (sym (flat_append (record_bytes_of d) done (r ∷ []) ∙ ap (λ (l : List ℕ). sheet_bytes d done ++ l) (append-nil (record_bytes_of d r))))

pub out-grows : (d : Edition) (rs : List Record) (out : List ℕ) (done : List Record) (e : Emission) → e.edition ≡ d → e.out ≡ put out 0 (sheet_bytes d done) → e.records ≡ length done
    → length done + length rs ≤ length out / record_bytes d → (emit_all rs e).out ≡ put out 0 (sheet_bytes d (done ++ rs))
unfolding emit_all emit_record
out-grows d [] out done e k p q h = p ∙ ap (λ (l : List Record). put out 0 (sheet_bytes d l)) (sym (append-nil done))
out-grows d (r ∷ rs) out done e k p q h =
    out-grows d rs out (done ++ (r ∷ [])) (emit_record r e) k
    (ap (λ (f : Edition). put e.out (record_bytes f * e.records) (record_bytes_of f r)) k
    ∙ ap₂ (λ (l : List ℕ) (n : ℕ). put l (record_bytes d * n) (record_bytes_of d r)) p q
    ∙ put-more d out done r (omega arith))
    (rw length-append (omega arith)) (rw length-append (omega arith))
    ∙ ap (λ (l : List Record). put out 0 (sheet_bytes d l)) (append_assoc done (r ∷ []) rs)

-- all of it, from nothing
pub emits : (d : Edition) (rs : List Record) (out : List ℕ) → length rs ≤ length out / record_bytes d
    → (emit_all rs (unwritten d out)).out ≡ put out 0 (sheet_bytes d rs)
unfolding sheet_bytes flat
emits d rs out h = out-grows d rs out [] (unwritten d out) refl (sym (put-none out 0)) refl (omega arith)
