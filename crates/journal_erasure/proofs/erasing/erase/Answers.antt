use Rattle.std.proofs.Common.{ℕ, List, arith, subst}
use Rattle.std.proofs.lemmas.Result.{on_ok_weaker}
use Rattle.disk_model.specs.Disk.{IsOfRun}
use Rattle.disk_model.specs.Moments.{content_now}
use Rattle.disk_model.proofs.MomentsLemmas.{adds_then, adds_wider, EachMoment-then}
use Rattle.image_model.specs.Geometry.{section_at}
use Rattle.journal_erasure.specs.declared.part.Part.TheVariants.{Newest, Others}
use Rattle.image_model.specs.EmptySections.{AreEmptySections}
use Rattle.journal_erasure.specs.Erasing.{IsOfPart}
use Rattle.journal_erasure.proofs.ErasedLemmas.{cuts_first, cuts_last, erased_now}
use Rattle.journal_erasure.proofs.StepsLemmas.{IsErasing-same, all_written, first_now, order_then, IsOfPart-run}
use Rattle.journal_erasure.proofs.erasing.erase.Goals as goal

pub erase_others-requires : goal.erase_others-requires
erase_others-requires g c = record {
  erasing = record { bound = c.requires.bound; geometry = c.requires.geometry; fits = c.requires.erasure; size = c.clear_sections.ensures.size };
}

pub erase_newest-requires : goal.erase_newest-requires
erase_newest-requires g c = record {
  erasing =
      IsErasing-same c.args.geometry.now c.args.erasure.now c.clear_sections.new.bytes c.erase_others.ensures.identity
      (record { bound = c.requires.bound; geometry = c.requires.geometry; fits = c.requires.erasure; size = c.clear_sections.ensures.size });
}

pub returns-in_err-erase_others-clause-cuts : goal.returns-in_err-erase_others-clause-cuts
returns-in_err-erase_others-clause-cuts g c d of now =
    let bytes : List ℕ = c.clear_sections.new.bytes in
    let are = subst (λ (n : ℕ). AreEmptySections c.args.geometry.now n bytes) c.later.ensures c.clear_sections.ensures in
    cuts_first c.args.geometry.now c.args.erasure.now bytes d of are now c.erase_others.ensures.moments

pub returns-in_err-erase_others-clause-moments : goal.returns-in_err-erase_others-clause-moments
returns-in_err-erase_others-clause-moments g c =
    let geometry = c.args.geometry.now in
    let erasure = c.args.erasure.now in
    let bytes : List ℕ = c.clear_sections.new.bytes in
    adds_wider (IsOfPart geometry erasure Others 0 geometry.sections bytes) (IsOfRun (section_at geometry 0) bytes)
    (IsOfPart-run geometry erasure bytes Others 0 geometry.sections (omega arith) c.clear_sections.ensures.size) c.erase_others.ensures.moments

pub returns-clause-written : goal.returns-clause-written
returns-clause-written g c = on_ok_weaker c.erase_newest.result (λ written.
    all_written c.args.geometry.now c.args.erasure.now c.clear_sections.new.bytes (content_now (g.D.Disk.moments c.args.disk.now)) (content_now (g.D.Disk.moments c.erase_others.new.disk))
    (content_now (g.D.Disk.moments c.erase_newest.new.disk)) c.clear_sections.ensures.size c.in_ok-erase_others.ensures.written written) c.erase_newest.ensures.written

pub returns-clause-erased : goal.returns-clause-erased
returns-clause-erased g c = on_ok_weaker c.erase_newest.result (λ written d of now.
    let bytes : List ℕ = c.clear_sections.new.bytes in
    let are = subst (λ (n : ℕ). AreEmptySections c.args.geometry.now n bytes) c.later.ensures c.clear_sections.ensures in
    erased_now (g.D.Disk.moments c.args.disk.now) (g.D.Disk.moments c.erase_newest.new.disk) c.args.geometry.now c.args.erasure.now bytes d of are now (g.met.D.Disk.reads_an_image c.args.disk.now)
    (all_written c.args.geometry.now c.args.erasure.now bytes (content_now (g.D.Disk.moments c.args.disk.now)) (content_now (g.D.Disk.moments c.erase_others.new.disk))
    (content_now (g.D.Disk.moments c.erase_newest.new.disk)) c.clear_sections.ensures.size c.in_ok-erase_others.ensures.written written)) c.erase_newest.ensures.written

pub returns-clause-cuts : goal.returns-clause-cuts
returns-clause-cuts g c d of now =
    let bytes : List ℕ = c.clear_sections.new.bytes in
    let are = subst (λ (n : ℕ). AreEmptySections c.args.geometry.now n bytes) c.later.ensures c.clear_sections.ensures in
    EachMoment-then (cuts_first c.args.geometry.now c.args.erasure.now bytes d of are now c.erase_others.ensures.moments)
    (cuts_last (g.D.Disk.moments c.args.disk.now) (g.D.Disk.moments c.erase_others.new.disk) c.args.geometry.now c.args.erasure.now bytes d of are now (g.met.D.Disk.reads_an_image c.args.disk.now)
    c.in_ok-erase_others.ensures.written c.erase_newest.ensures.moments)

pub returns-clause-order : goal.returns-clause-order
returns-clause-order g c =
    let geometry = c.args.geometry.now in
    let erasure = c.args.erasure.now in
    let bytes : List ℕ = c.clear_sections.new.bytes in
    order_then geometry erasure bytes c.erase_others.ensures.order
    (first_now geometry erasure bytes 0 geometry.sections (content_now (g.D.Disk.moments c.args.disk.now)) (content_now (g.D.Disk.moments c.erase_others.new.disk))
    (omega arith) (omega (arith, c.requires.erasure.first)) c.in_ok-erase_others.ensures.written)
    (adds_wider (IsOfPart geometry erasure Newest 0 geometry.sections bytes) (IsOfRun (section_at geometry 0) bytes)
    (IsOfPart-run geometry erasure bytes Newest 0 geometry.sections (omega arith) c.clear_sections.ensures.size) c.erase_newest.ensures.moments)

pub returns-clause-moments : goal.returns-clause-moments
returns-clause-moments g c =
    let geometry = c.args.geometry.now in
    let erasure = c.args.erasure.now in
    let bytes : List ℕ = c.clear_sections.new.bytes in
    let W = IsOfRun (section_at geometry 0) bytes in
    adds_then W
    (adds_wider (IsOfPart geometry erasure Others 0 geometry.sections bytes) W
    (IsOfPart-run geometry erasure bytes Others 0 geometry.sections (omega arith) c.clear_sections.ensures.size) c.erase_others.ensures.moments)
    (adds_wider (IsOfPart geometry erasure Newest 0 geometry.sections bytes) W
    (IsOfPart-run geometry erasure bytes Newest 0 geometry.sections (omega arith) c.clear_sections.ensures.size) c.erase_newest.ensures.moments)
