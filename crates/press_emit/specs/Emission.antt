-- Records written one after another, and the tally of them.
use Rattle.std.specs.Prelude.{ℕ, ◌+◌, ◌*◌, ◌/◌, ◌≤◌, List, [], ◌∷◌, length}
use Rattle.base.specs.Bytes.{put}
use Rattle.sheet.specs.declared.edition.Edition.{Edition}
use Rattle.sheet.specs.Editions.{record_bytes, most_records}
use Rattle.sheet.specs.Records.{Record}
use Rattle.sheet.specs.Fields.{record_bytes_of}
use Rattle.tally.specs.Tally.{Tally, nothing, counted}
use Rattle.tally.specs.Said.{tally_of}
use Rattle.press_emit.specs.declared.Emitted.{Emitted}
use Rattle.press_emit.specs.declared.Emitter.{Emitter}

pub record Emission : Type 0 where
  pub edition : Edition
  pub out : List ℕ
  pub records : ℕ
  pub tally : Tally

abbrev pub emission : Edition → List ℕ → ℕ → Tally → Emission
emission edition out records tally = record { edition = edition; out = out; records = records; tally = tally }

abbrev pub emission_of : List ℕ → Emitted → Emission
emission_of out e = emission e.edition out e.records (tally_of e.tally)

abbrev pub emitted_by : Emitter → Emission
emitted_by e = emission_of e.out.now e.emitted

-- before the first record
abbrev pub unwritten : Edition → List ℕ → Emission
unwritten edition out = emission edition out 0 nothing

unfoldable pub emit_record : Record → Emission → Emission
emit_record r e =
    emission e.edition (put e.out (record_bytes e.edition * e.records) (record_bytes_of e.edition r)) (e.records + 1) (counted e.tally r)

unfoldable pub emit_all : List Record → Emission → Emission
emit_all [] e = e
emit_all (r ∷ rs) e = emit_all rs (emit_record r e)

-- room for some records more, and counts that cannot run over
pub record Roomy (rs : List Record) (e : Emission) : Type 0 where
  pub few : e.records + length rs ≤ most_records
  pub room : e.records + length rs ≤ length e.out / record_bytes e.edition
  pub next : e.tally.next ≤ e.records
  pub held : e.tally.held ≤ e.tally.next
  pub steps : e.tally.steps ≤ e.tally.next
