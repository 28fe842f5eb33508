-- What a look at the events of a record, one after the other, knows of a sector.
use Rattle.std.proofs.Common.{◌≡◌, ◌≢◌, ⊎_elim, ℕ, ◌+◌, ◌<◌, Bool, List, [], ◌∷◌, ◌++◌, length, take, get_or, sym, ◌∙◌, ap, subst, arith, if◌then◌else◌, eq-eqb, length-append}
use Rattle.std.proofs.lemmas.Bool.{cases_eq}
use Rattle.std.proofs.Math.Seq.{get_or-append_seam}
use Rattle.std.proofs.lemmas.List.{take_more, get_or_append_left}
use Rattle.disk_model.specs.Disk.{Content, last_candidate}
use Rattle.disk_model.proofs.DiskLemmas.{last_candidate-push}
use Rattle.sector_disk.specs.declared.record.Event.{Event}
use Rattle.sector_disk.specs.declared.record.Event.TheVariants.{Write}
use Rattle.sector_disk.specs.Record.{after_event, content_after, IsNoted}
use Rattle.sector_disk.proofs.RecordLemmas.{content_after-push}

-- ---- a look at the events, one after the other

-- What the next event leaves.
pub content_after-next : (c : Content) (es : List Event) (k : ℕ) (d : Event) → k < length es → content_after c (take (k + 1) es) ≡ after_event (get_or es k d) (content_after c (take k es))
content_after-next c es k d within = ap (content_after c) (take_more es k d within) ∙ content_after-push c (take k es) (get_or es k d)

-- A write of the sector is taken note of.
pub noted_write : (c : Content) (at p index : ℕ) (last bytes : List ℕ) (count : ℕ) (out new : List ℕ) → IsNoted c at index last count out → p ≡ at → (count ≡ index → new ≡ bytes) → (count ≢ index → new ≡ out)
    → IsNoted (after_event (Write p bytes) c) at index bytes (count + 1) new
noted_write c at p index last bytes count out new noted same there other =
    let now : after_event (Write p bytes) c at ≡ c at ++ bytes ∷ [] = ap (λ (b : Bool). if b then c at ++ bytes ∷ [] else c at) (eq-eqb at p (sym same)) in
    record {
      last_is = sym (ap last_candidate now ∙ last_candidate-push (c at) bytes);
      count_is = ap (λ (n : ℕ). n + 1) noted.count_is ∙ sym (ap length now ∙ length-append (c at) (bytes ∷ []));
      chosen = λ below. ⊎_elim
          (λ e. there e ∙ sym (ap (λ (xs : List (List ℕ)). get_or xs index []) now ∙ ap (λ (k : ℕ). get_or (c at ++ bytes ∷ []) k []) (sym e ∙ noted.count_is) ∙ get_or-append_seam (c at) bytes [] []))
          (λ ne. other ne ∙ noted.chosen (omega (arith, below, ne)) ∙ sym (ap (λ (xs : List (List ℕ)). get_or xs index []) now ∙ get_or_append_left (c at) (bytes ∷ []) [] index (omega (arith, below, ne, noted.count_is))))
          (cases_eq count index);
    }

pub noted_next : (c : Content) (es : List Event) (k : ℕ) → k < length es → (d : Event) (at index : ℕ) (last : List ℕ) (count : ℕ) (out : List ℕ)
    → IsNoted (after_event (get_or es k d) (content_after c (take k es))) at index last count out → IsNoted (content_after c (take (k + 1) es)) at index last count out
noted_next c es k within d at index last count out noted = subst (λ (x : Content). IsNoted x at index last count out) (sym (content_after-next c es k d within)) noted
