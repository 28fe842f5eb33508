-- The making of a new image: what it prints, and what it leaves.
use Rattle.std.proofs.Common.{◌≡◌, ◌≢◌, ◌↔◌, ◌∙◌, inr, ℕ, false, List, [], ◌∷◌, ◌++◌, codes, refl, sym, ap, subst, Option, Some, Result, Ok, Err}
use Rattle.std.specs.Fmt.{decimal}
use Rattle.std.specs.Option.{IsSomeAnd, option_map}
use Rattle.disk_model.specs.Disk.{Content, OnlyAdds}
use Rattle.disk_model.specs.Moments.{content_now, EachMoment, FromStart}
use Rattle.disk_model.proofs.MomentsLemmas.{EachMoment-kept, EachMoment-weaker, content_at_end}
use Rattle.device_model.specs.Refusals.{ByGeometry}
use Rattle.run_model.specs.Ending.{Complete, Refused, Failed, NoMemory, ByImage}
use Rattle.stream_io.specs.Stream.{with_bytes, AddsPrefix}
use Rattle.image_model.specs.Geometry.{Geometry}
use Rattle.image_model.specs.declared.geom_fault.GeomFault.{GeomFault}
use Rattle.image_refusal.specs.declared.call_fault.CallFault.{CallFault}
use Rattle.image_refusal.specs.declared.call_fault.CallFault.TheVariants as CallFaults
use Rattle.formatting_model.specs.declared.new_image.NewImage.{NewImage}
use Rattle.formatting_model.specs.Formatted.{HasMade, IsLeftByFormat}
use Rattle.formatting_model.specs.NewImage.{provided_of}
use Rattle.formatting_model.specs.Written.{IsOfNewImage}
use Rattle.formatting_model.proofs.WholeLemmas.{left_in_order}
use Rattle.device_opening.proofs.MomentsLemmas.{EachMoment-both}
use Rattle.command_ending.specs.Ended.{ending_of}
use Rattle.run_model.specs.CommandRun.{Outset, Makes, only_prints}
use Rattle.command_task.specs.Making.{ended_by_format}
use Rattle.command_model.specs.Making.{IsLeftByMaking, IsMadeInOrder, format_outset, formatted_text, making_of, outset_by_format}
use Rattle.command_task.specs.Opening.{HasRunOn}
use Rattle.command_model.specs.Opening.{IsMomentOf}
use Rattle.command_task.proofs.RunningLemmas.{told_nothing}
use Rattle.command_task.proofs.OutsetLemmas.{fine_format, left_at_start, made_prints}
use Rattle.command_task.proofs.UnbegunLemmas.{before_kept, nothing_run, refused_run, untouched_kept}
use Rattle.command_task.proofs.TextsLemmas.{none_short}
use Rattle.command_image.proofs.PrintingLemmas.{one_cut, one_printed}
use Rattle.run_model.specs.declared.outer.Outer.TheVariants as outers

-- A formatting leaves what it may, and writes what it may.
pub left_since : (key : Option (List ℕ)) (sectors : ℕ) (new : NewImage) (start : Content) {a b : List Content} → content_now a ≡ Some start
    → IsMadeInOrder key sectors new a b → EachMoment a b (IsLeftByMaking key sectors new start)
left_since key sectors new start {a} {b} told made =
    EachMoment-weaker
    (λ c both. record {
      images = by (IsLeftByFormat key sectors new) c both.0;
      writes = by (λ s. OnlyAdds (IsOfNewImage sectors new s) s) c both.1;
    })
    (EachMoment-both (left_in_order key sectors new made.order) made.writes)
  where
    by : (P : Content → Content → Type 0) (c : Content) → FromStart a P c → P start c
    by P c from = subst (λ (o : Option Content). IsSomeAnd o (λ s. P s c)) told from

makes : (key : Option (List ℕ)) (sectors : ℕ) (new : NewImage) (provided : ℕ) → provided_of new sectors ≡ Ok provided
    → format_outset key sectors new ≡ Makes (making_of key sectors new provided)
makes key sectors new provided is = ap (outset_by_format key sectors new) is

-- The line of a new image, by its pieces.
pub formatted_line : (d : List ℕ) (provided : ℕ) → d ≡ decimal provided
    → codes "formatted provided " ++ (d ++ (codes "\n" ++ [])) ≡ formatted_text provided
formatted_line d provided is = ap (λ (x : List ℕ). codes "formatted provided " ++ (x ++ codes "\n")) is

module _ (key : Option (List ℕ)) (sectors : ℕ) (new : NewImage) (start : Content) (script : List ℕ) {a b : List Content} (told : content_now a ≡ Some start) where
  -- It is made, and its line is printed,
  pub made : (provided : ℕ) (held_before held : Option (List ℕ)) → HasMade key sectors new provided a b
      → held ≡ option_map (with_bytes (formatted_text provided)) held_before
      → HasRunOn (format_outset key sectors new) start script (Complete false) b held_before held
  made provided held_before held all put =
      subst (λ (o : Outset). HasRunOn o start script (Complete false) b held_before held) (sym (makes key sectors new provided all.is_provided))
      (one_printed (Makes (making_of key sectors new provided)) (formatted_text provided) start script b held_before held (λ s. refl) put
      (all.is_written start told))

  -- or the sink failed at that.
  pub made_untold : (provided : ℕ) (held_before held : Option (List ℕ)) → HasMade key sectors new provided a b
      → AddsPrefix (formatted_text provided) held_before held
      → HasRunOn (format_outset key sectors new) start script (Failed outers.Sink) b held_before held
  made_untold provided held_before held all put =
      subst (λ (o : Outset). HasRunOn o start script (Failed outers.Sink) b held_before held) (sym (makes key sectors new provided all.is_provided))
      (one_cut (Makes (making_of key sectors new provided)) (formatted_text provided) start script b held_before held (λ s. refl) put
      (all.is_written start told))

  module _ (g : Geometry) (order : IsMadeInOrder key sectors new a b) where
    amid : (provided : ℕ) → provided_of new sectors ≡ Ok provided → EachMoment a b (IsMomentOf (format_outset key sectors new) g start script)
    amid provided is =
        subst (λ (o : Outset). EachMoment a b (IsMomentOf o g start script)) (sym (makes key sectors new provided is))
        (EachMoment-weaker (λ c left. record {
          left = record { run = only_prints (formatted_text provided ∷ []) false; is_run = refl; made = 0; left = left };
          only = record { run = only_prints (formatted_text provided ∷ []) false; is_run = refl; only = left };
        }) (left_since key sectors new start told order))

    pub made_through : (provided : ℕ) → HasMade key sectors new provided a b → EachMoment a b (IsMomentOf (format_outset key sectors new) g start script)
    made_through provided all = amid provided all.is_provided

    -- The disk failed, and what it may leave is left.
    cut : (held : Option (List ℕ)) (provided : ℕ) → provided_of new sectors ≡ Ok provided
        → HasRunOn (format_outset key sectors new) start script (Failed outers.Disk) b held held
    cut held provided is =
        subst (λ (o : Outset). HasRunOn o start script (Failed outers.Disk) b held held) (sym (makes key sectors new provided is)) (record {
          run = only_prints (formatted_text provided ∷ []) false;
          is_run = refl;
          text = [];
          changes = [];
          ended = inr (none_short (formatted_text provided ∷ []) false (Failed outers.Disk) (made_prints provided) tt);
          told = told_nothing held;
          left = content_at_end (left_since key sectors new start told order)
              (λ c here. subst (λ (o : Option Content). IsSomeAnd o (λ s. IsLeftByMaking key sectors new start s)) (sym told ∙ here)
              (left_at_start key sectors new start));
        })

    -- Why it was not made.
    pub not_made : (fault : CallFault GeomFault) (held : Option (List ℕ))
        → ((f : GeomFault) → (fault ≡ CallFaults.Refused f) ↔ (provided_of new sectors ≡ Err f)) → (fault ≢ CallFaults.Disk → b ≡ a)
        → HasRunOn (format_outset key sectors new) start script (ending_of (ended_by_format fault)) b held held
        × EachMoment a b (IsMomentOf (format_outset key sectors new) g start script)
    not_made (CallFaults.Refused f) held geom untouched =
        let same : b ≡ a = untouched (λ is. absurd (cc)) in (
          refused_run (format_outset key sectors new) start script (Refused (ByImage (ByGeometry f)))
              (ap (outset_by_format key sectors new) ((geom f).0 refl)) b (untouched_kept start told same) held held refl,
          EachMoment-kept (IsMomentOf (format_outset key sectors new) g start script) same,
        )
    not_made CallFaults.Memory held geom untouched =
        let same : b ≡ a = untouched (λ is. absurd (cc)) in (
          nothing_run (format_outset key sectors new) (fine_format key sectors new) start script NoMemory tt b
              (before_kept (format_outset key sectors new) start told same) held held refl,
          EachMoment-kept (IsMomentOf (format_outset key sectors new) g start script) same,
        )
    not_made CallFaults.Disk held geom untouched = by (provided_of new sectors) refl
      where
        by : (answer : Result ℕ GeomFault) → provided_of new sectors ≡ answer
            → HasRunOn (format_outset key sectors new) start script (Failed outers.Disk) b held held
            × EachMoment a b (IsMomentOf (format_outset key sectors new) g start script)
        by (Ok provided) is = (cut held provided is, amid provided is)
        by (Err f) is = absurd (no_geom ((geom f).1 is))
          where
            no_geom : CallFaults.Disk ≡ CallFaults.Refused f → ⊥
            no_geom same = cc
