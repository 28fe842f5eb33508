-- Which events change what awaits, and which blocks are to be recalculated then.
use Rattle.std.proofs.Common.{◌≡◌, inl, inr, ℕ, zero, suc, ◌+◌, Bool, true, false, if◌then◌else◌, refl, sym, ◌∙◌, ap, Option, Some, None, option_map, ◌&&◌, nat_lt}
use Rattle.std.proofs.lemmas.Bool.{cases_eq, true≢false}
use Rattle.image_model.specs.Geometry.{region_of, regions}
use Rattle.device_model.specs.Journal.{JournalCounts}
use Rattle.device_model.specs.Mode.{Mode, Journal, Bitmap, Direct, Recovery, DeviceFormat, is_bitmap}
use Rattle.device_model.specs.Progress.{Answer, Broken, Clean, Close, Closed, Commit, Condition, DeviceState, Event, EventResult, FailedClose, FailedServe, FailedStep, Place, Progress, Recalc, Serve, Settle, Step, Submit, Take, Working, form_refusal, in_modes, is_flushed_by, journal_with, regions_with, result_in, serve_with, slots_refusal, step_journal, step_regions, submit_by, take_asked, take_by, take_reply, with_dropped, with_finished}
use Rattle.device_model.specs.Regions.{RegionCounts, least_region, with_region, written_region}
use Rattle.device_model.specs.Request.{Asked, Dropped, Finished, Flush, Read, Request, RequestState, Taken, Unfinished, Write, asked_of}
use Rattle.device_model.specs.Submission.{Submission}
use Rattle.device_model.proofs.SubmissionLemmas.{result-working}
use Rattle.std.specs.Option.{option_or}
use Rattle.image_model.proofs.Regions.{region_of-lt}
use Rattle.bitmap_laws.proofs.LeastLemmas.{least_law}
use Rattle.bitmap_model.proofs.BitLemmas.{with_region-here, with_region-other}
use Rattle.recalculate_laws.specs.Awaits.{AwaitingSameLaw, AwaitingServedLaw, AwaitingStaysLaw, MovedSameLaw, ReadsNone, TakesNone, WorkLessLaw, WorkStaysLaw}
use Rattle.recalculate_laws.specs.Position.{position_at, region_end}
use Rattle.recalculate_laws.proofs.DeviceLemmas.{serve_is}

-- ---- events

abbrev Same : Progress → EventResult → Type 0
Same p result = result.progress.regions.awaiting ≡ p.regions.awaiting

submit-same : (f : DeviceFormat) (p : Progress) (submission : Submission) (refusal : Option Answer) → Same p (submit_by f p submission refusal)
submit-same f p submission None = refl
submit-same f p submission (Some answer) = refl

take_by-same : (p : Progress) (k : ℕ) (a : Asked) (state : RequestState) → Same p (take_by p k a state)
take_by-same p k a Unfinished = refl
take_by-same p k a Finished = refl
take_by-same p k a Taken = refl
take_by-same p k a Dropped = refl

take_asked-same : (p : Progress) (k : ℕ) (o : Option Asked) → Same p (take_asked p k o)
take_asked-same p k None = refl
take_asked-same p k (Some a) = take_by-same p k a a.state

take-same : (p : Progress) (ticket : ℕ) → Same p (take_reply p ticket)
take-same p zero = refl
take-same p (suc k) = take_asked-same p k (asked_of p.requests (suc k))

journal-same : (p : Progress) (o : Option JournalCounts) → Same p (step_journal p o)
journal-same p None = refl
journal-same p (Some j) = refl

clean-same : (p : Progress) (o : Option ℕ) (t : Bool)
    → Same p (step_regions p (in_modes t (option_map (λ (r : ℕ). let c : RegionCounts = record p.regions { set_bits = with_region r false p.regions.set_bits } in c) o)))
clean-same p None true = refl
clean-same p None false = refl
clean-same p (Some r) true = refl
clean-same p (Some r) false = refl

finished-same : (mode : Mode) (p : Progress) → (with_finished mode p).regions.awaiting ≡ p.regions.awaiting
finished-same Journal p = refl
finished-same Bitmap p = refl
finished-same Direct p = refl
finished-same Recovery p = refl

in_condition : (f : DeviceFormat) (s : DeviceState) (c : Condition) (event : Event) → TakesNone event → Same s.progress (result_in f s c event)
in_condition f s Working (Submit submission) quiet = submit-same f s.progress submission (option_or (form_refusal f submission) (slots_refusal f s.progress.requests))
in_condition f s Working (Serve ticket) quiet = absurd quiet
in_condition f s Working (Step Commit) quiet = journal-same s.progress _
in_condition f s Working (Step Place) quiet = journal-same s.progress _
in_condition f s Working (Step Settle) quiet = journal-same s.progress _
in_condition f s Working (Step Clean) quiet = clean-same s.progress (least_region f.regions _) (is_bitmap f.mode)
in_condition f s Working (Step Recalc) quiet = absurd quiet
in_condition f s Working (Take ticket) quiet = take-same s.progress ticket
in_condition f s Working Close quiet = finished-same f.mode (with_dropped s.progress)
in_condition f s Working (FailedServe ticket) quiet = refl
in_condition f s Working (FailedStep actor) quiet = refl
in_condition f s Working FailedClose quiet = refl
in_condition f s Broken (Submit submission) quiet = refl
in_condition f s Broken (Serve ticket) quiet = absurd quiet
in_condition f s Broken (Step actor) quiet = refl
in_condition f s Broken (Take ticket) quiet = take-same s.progress ticket
in_condition f s Broken Close quiet = refl
in_condition f s Broken (FailedServe ticket) quiet = refl
in_condition f s Broken (FailedStep actor) quiet = refl
in_condition f s Broken FailedClose quiet = refl
in_condition f s Closed event quiet = refl

pub awaiting_stays_law : AwaitingStaysLaw
awaiting_stays_law f s event quiet = in_condition f s s.condition event quiet

if-same : (t : Bool) (one other : RegionCounts) (awaiting : ℕ → Bool) → one.awaiting ≡ awaiting → other.awaiting ≡ awaiting → (if t then one else other).awaiting ≡ awaiting
if-same true one other awaiting first second = first
if-same false one other awaiting first second = second

-- What a request that is no read makes of the regions.
served-same : (f : DeviceFormat) (s : DeviceState) (k : ℕ) (a : Asked) (request : Request) → a.request ≡ request → ReadsNone request → (o : Option JournalCounts) → Same s.progress (serve_with f s k a o)
served-same f s k a request e none None = refl
served-same f s k a (Read first count) e none (Some j) = absurd none
served-same f s k a (Write first blocks fua) e none (Some j) =
    ap (λ (x : Request). (regions_with f s.progress a x).awaiting) e
    ∙ if-same (is_flushed_by a blocks fua) _ _ s.progress.regions.awaiting
    (if-same (is_bitmap f.mode) (written_region (f.region_of (first + a.served)) s.progress.regions) s.progress.regions s.progress.regions.awaiting refl refl)
    (if-same (is_bitmap f.mode) (written_region (f.region_of (first + a.served)) s.progress.regions) s.progress.regions s.progress.regions.awaiting refl refl)
served-same f s k a Flush e none (Some j) = ap (λ (x : Request). (regions_with f s.progress a x).awaiting) e

pub awaiting_served_law : AwaitingServedLaw
awaiting_served_law f s k a asked none =
    ap (λ (x : EventResult). x.progress.regions.awaiting) (result-working f s (Serve (suc k)) asked.works ∙ serve_is f s k a a.request asked refl)
    ∙ served-same f s k a a.request refl none (journal_with f s.progress.journal a a.request)

-- ---- blocks

pub work_less_law : WorkLessLaw
work_less_law opened now g awaiting region work b low waits = elim (cases_eq region (region_of g b)) [
  | inl own ↦ absurd (true≢false (sym waits ∙ with_region-here region (region_of g b) false awaiting own))
  | inr differs ↦ work b low (sym (with_region-other region (region_of g b) false awaiting differs) ∙ waits)
]

pub work_stays_law : WorkStaysLaw
work_stays_law opened now fields g sectors awaiting work moves b low waits = moves.passes b low waits ∙ work b low waits

-- ---- sets

pub moved_same_law : MovedSameLaw
moved_same_law s g one other same =
    ap (position_at s g) (least_law (regions g) (λ region. one region && nat_lt s.recalc_sector (region_end g region)) (λ region. other region && nat_lt s.recalc_sector (region_end g region))
    (λ region inside. ap (λ (t : Bool). t && nat_lt s.recalc_sector (region_end g region)) (same region inside)))

pub awaiting_same_law : AwaitingSameLaw
awaiting_same_law d one other tags a same keeps c told =
    let kept = keeps c told in
    record { keeps = kept.keeps; made = λ b low waits rested. kept.made b low waits (same (region_of d.geometry b) (region_of-lt d.geometry b low) ∙ rested) }
