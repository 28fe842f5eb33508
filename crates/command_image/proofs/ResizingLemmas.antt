-- The resize of an image: what it prints, and what it leaves.
use Rattle.std.proofs.Common.{◌≡◌, ◌≢◌, ◌∙◌, inl, inr, ℕ, false, List, [], ◌∷◌, refl, sym, ap, subst, Option, Some, None, Result, Ok, Err}
use Rattle.std.specs.Option.{IsSomeAnd, option_map}
use Rattle.disk_model.specs.Disk.{Content, last_image}
use Rattle.disk_model.specs.Moments.{content_now, EachMoment, HasNow}
use Rattle.disk_model.proofs.MomentsLemmas.{EachMoment-weaker, content_at_end}
use Rattle.device_model.specs.Refusals.{ImageFault}
use Rattle.run_model.specs.Ending.{Ending, Complete, Refused, Failed, NoMemory, ByImage}
use Rattle.run_model.specs.ScriptRun.{only_ends}
use Rattle.device_opening.proofs.MomentsLemmas.{EachMoment-both}
use Rattle.stream_io.specs.Stream.{with_bytes, AddsPrefix}
use Rattle.image_model.specs.Geometry.{Geometry}
use Rattle.place_model.specs.Format.{DiskFormat, format_on}
use Rattle.image_refusal.specs.declared.call_fault.CallFault.{CallFault}
use Rattle.image_refusal.specs.declared.call_fault.CallFault.TheVariants as CallFaults
use Rattle.image_refusal.specs.declared.open_fault.HeadFault.TheVariants as HeadFaults
use Rattle.image_refusal.specs.declared.resize_fault.ResizeFault.{ResizeFault}
use Rattle.image_refusal.specs.declared.resize_fault.ResizeFault.TheVariants as ResizeFaults
use Rattle.image_resizing.specs.Call.{MovesInOrder, TellsRefusal, WritesInOrder}
use Rattle.image_resizing.specs.Faults.{fault_in, fault_told}
use Rattle.resize_model.specs.Left.{IsInResizeOrder, IsLeftByResize, IsResizedTo, IsSyncedAtMost, KeepsRefused}
use Rattle.resize_model.specs.Refusals.{CanResize, resize_fault_of}
use Rattle.resize_model.specs.Resized.{resized_provided, resized_text}
use Rattle.command_task.specs.Resizing.{ended_by_resize}
use Rattle.command_model.specs.Resizing.{outset_by_resize, resizing_of, Recovers, resizing_outset}
use Rattle.resize_model.proofs.LeftLemmas.{each_law, in_order_law}
use Rattle.resize_model.proofs.RefusalLemmas.{resizes_law}
use Rattle.command_ending.specs.Ended.{ending_of}
use Rattle.run_model.specs.CommandRun.{Outset, Changes, only_prints}
use Rattle.command_task.specs.Opening.{HasRunOn}
use Rattle.command_model.specs.Opening.{IsMomentOf}
use Rattle.command_task.proofs.RunningLemmas.{told_nothing}
use Rattle.command_task.proofs.OutsetLemmas.{fine_resize, resized_prints}
use Rattle.command_task.proofs.UnbegunLemmas.{before_kept, nothing_run, refused_run, untouched_kept, untouched_now, untouched_through}
use Rattle.command_task.proofs.TextsLemmas.{none_short}
use Rattle.command_image.proofs.PrintingLemmas.{one_cut, one_printed}
use Rattle.run_model.specs.declared.outer.Outer.TheVariants as outers

-- What a call does, whatever it answers.
pub record IsResizing (key : Option (List ℕ)) (sectors : ℕ) (before after : List Content) : Type 0 where
  pub kept : KeepsRefused key sectors before after
  pub order : MovesInOrder key sectors before after
  pub written : WritesInOrder key sectors before after

module _ (key : Option (List ℕ)) (sectors : ℕ) (start : Content) (script : List ℕ) {a b : List Content} (told : content_now a ≡ Some start)
    (all : IsResizing key sectors a b) where
  abbrev d : DiskFormat
  d = format_on key sectors (last_image start)

  abbrev outset : Outset
  outset = resizing_outset key sectors (last_image start)

  abbrev changed : Outset
  changed = Changes (resizing_of (Recovers key sectors (last_image start)) key sectors (last_image start))

  abbrev line : List ℕ
  line = resized_text d.superblock.provided (resized_provided d.superblock sectors)

  -- ---- the moments

  pub in_order : IsInResizeOrder key sectors a b
  in_order = in_order_law key sectors a b all.kept all.order

  fine : resize_fault_of key sectors (last_image start) ≡ None → outset ≡ changed
  fine none = ap (outset_by_resize (Recovers key sectors (last_image start)) key sectors (last_image start)) none

  can : resize_fault_of key sectors (last_image start) ≡ None → CanResize key sectors (last_image start)
  can none = (resizes_law key sectors (last_image start)).0 none

  left_each : resize_fault_of key sectors (last_image start) ≡ None → EachMoment a b (IsLeftByResize key sectors start)
  left_each none = EachMoment-weaker
      (λ c from. subst (λ (o : Option Content). IsSomeAnd o (λ s. IsLeftByResize key sectors s c)) told from)
      (each_law key sectors a b (all.order start told (can none)))

  synced : (fault : ImageFault) → resize_fault_of key sectors (last_image start) ≡ Some fault → IsSyncedAtMost a b
  synced fault is = all.kept start told fault is

  module _ (g : Geometry) where
    moments_by : (refusal : Option ImageFault) → resize_fault_of key sectors (last_image start) ≡ refusal
        → EachMoment a b (IsMomentOf outset g start script)
    moments_by None none =
        subst (λ (o : Outset). EachMoment a b (IsMomentOf o g start script)) (sym (fine none))
        (EachMoment-weaker (λ c both. record {
          left = record { run = only_prints (line ∷ []) false; is_run = refl; made = 0; left = both.0 };
          only = record { run = only_prints (line ∷ []) false; is_run = refl; only = both.1 };
        }) (EachMoment-both (left_each none) (all.written start told (can none))))
    moments_by (Some fault) is =
        subst (λ (o : Outset). EachMoment a b (IsMomentOf o g start script))
        (sym (ap (outset_by_resize (Recovers key sectors (last_image start)) key sectors (last_image start)) is))
        (EachMoment-weaker (λ c left. record {
          left = record { run = only_ends (Refused (ByImage fault)); is_run = refl; made = 0; left = left };
          only = record { run = only_ends (Refused (ByImage fault)); is_run = refl; only = left };
        }) (untouched_through start told (synced fault is)))

    pub moments : EachMoment a b (IsMomentOf outset g start script)
    moments = moments_by (resize_fault_of key sectors (last_image start)) refl

  -- ---- the answer

  module _ {T : Type 0} (result : Result T (CallFault ResizeFault))
      (refused : TellsRefusal key sectors a result) where
    -- An image is resized that is not refused,
    pub unrefused : (answer : T) → result ≡ Ok answer → resize_fault_of key sectors (last_image start) ≡ None
    unrefused answer is =
        sym (refused (λ other. absurd (cc (is, other))) (λ other. absurd (cc (is, other))) start told)
        ∙ ap (λ (r : Result T (CallFault ResizeFault)). fault_in r) is

    -- and one that is refused is so by what is told.
    pub refused_as : (fault : CallFault ResizeFault) → result ≡ Err fault → fault ≢ CallFaults.Memory → fault ≢ CallFaults.Disk
        → fault_told fault ≡ resize_fault_of key sectors (last_image start)
    refused_as fault is not_memory not_disk =
        sym (ap (λ (r : Result T (CallFault ResizeFault)). fault_in r) is)
        ∙ refused (λ other. not_memory (cc (is, other))) (λ other. not_disk (cc (is, other))) start told

  -- ---- the end

  module _ (provided resized : ℕ) (none : resize_fault_of key sectors (last_image start) ≡ None)
      (told_old : provided ≡ d.superblock.provided) (told_new : resized ≡ resized_provided d.superblock sectors)
      (held_before held : Option (List ℕ)) where
    same_line : resized_text provided resized ≡ line
    same_line = ap (λ (n : ℕ). resized_text n resized) told_old ∙ ap (λ (n : ℕ). resized_text d.superblock.provided n) told_new

    -- It is resized, and its line is printed,
    pub told_resized : HasNow (IsResizedTo key sectors start) b → held ≡ option_map (with_bytes (resized_text provided resized)) held_before
        → HasRunOn outset start script (Complete false) b held_before held
    told_resized is put =
        subst (λ (o : Outset). HasRunOn o start script (Complete false) b held_before held) (sym (fine none))
        (one_printed changed line start script b held_before held (λ s. refl)
        (put ∙ ap (λ (text : List ℕ). option_map (with_bytes text) held_before) same_line) is)

    -- or the sink failed at that.
    pub untold_resized : HasNow (IsResizedTo key sectors start) b → AddsPrefix (resized_text provided resized) held_before held
        → HasRunOn outset start script (Failed outers.Sink) b held_before held
    untold_resized is put =
        subst (λ (o : Outset). HasRunOn o start script (Failed outers.Sink) b held_before held) (sym (fine none))
        (one_cut changed line start script b held_before held (λ s. refl)
        (subst (λ (text : List ℕ). AddsPrefix text held_before held) same_line put) is)

  module _ (held : Option (List ℕ)) where
    -- The disk failed, and what it may leave is left.
    cut_by : (refusal : Option ImageFault) → resize_fault_of key sectors (last_image start) ≡ refusal
        → HasRunOn outset start script (Failed outers.Disk) b held held
    cut_by None none =
        subst (λ (o : Outset). HasRunOn o start script (Failed outers.Disk) b held held) (sym (fine none)) (record {
          run = only_prints (line ∷ []) false;
          is_run = refl;
          text = [];
          changes = [];
          ended = inr (none_short (line ∷ []) false (Failed outers.Disk) (resized_prints _ _) tt);
          told = told_nothing held;
          left = content_at_end (left_each none)
              (λ c here. subst (λ (o : Option Content). IsSomeAnd o (λ s. IsLeftByResize key sectors start s)) (sym told ∙ here) (inl refl));
        })
    cut_by (Some fault) is =
        let refused = ap (outset_by_resize (Recovers key sectors (last_image start)) key sectors (last_image start)) is in
        subst (λ (o : Outset). HasRunOn o start script (Failed outers.Disk) b held held) (sym refused)
        (nothing_run _ (λ found ends. absurd (cc)) start script (Failed outers.Disk) tt b (untouched_now start told (synced fault is)) held held refl)

    refused_by : (ending : Ending) (fault : ImageFault) → ending ≡ Refused (ByImage fault) → resize_fault_of key sectors (last_image start) ≡ Some fault
        → b ≡ a → HasRunOn outset start script ending b held held
    refused_by ending fault ends is same =
        subst (λ (e : Ending). HasRunOn outset start script e b held held) (sym ends)
        (refused_run outset start script (Refused (ByImage fault))
        (ap (outset_by_resize (Recovers key sectors (last_image start)) key sectors (last_image start)) is) b
        (untouched_kept start told same) held held refl)

    -- Why it was not resized.
    pub not_resized : (fault : CallFault ResizeFault)
        → (fault ≢ CallFaults.Memory → fault ≢ CallFaults.Disk → fault_told fault ≡ resize_fault_of key sectors (last_image start))
        → (fault ≢ CallFaults.Disk → b ≡ a)
        → HasRunOn outset start script (ending_of (ended_by_resize fault)) b held held
    not_resized CallFaults.Memory refused untouched =
        nothing_run outset (fine_resize key sectors (last_image start)) start script NoMemory tt b
        (before_kept outset start told (untouched (λ is. absurd (cc)))) held held refl
    not_resized CallFaults.Disk refused untouched = cut_by (resize_fault_of key sectors (last_image start)) refl
    not_resized (CallFaults.Refused (ResizeFaults.Head (HeadFaults.Super fault))) refused untouched =
        refused_by _ _ refl (sym (refused (λ is. absurd (cc)) (λ is. absurd (cc)))) (untouched (λ is. absurd (cc)))
    not_resized (CallFaults.Refused (ResizeFaults.Head (HeadFaults.Geom fault))) refused untouched =
        refused_by _ _ refl (sym (refused (λ is. absurd (cc)) (λ is. absurd (cc)))) (untouched (λ is. absurd (cc)))
    not_resized (CallFaults.Refused (ResizeFaults.Growth fault)) refused untouched =
        refused_by _ _ refl (sym (refused (λ is. absurd (cc)) (λ is. absurd (cc)))) (untouched (λ is. absurd (cc)))
    not_resized (CallFaults.Refused (ResizeFaults.Journal fault)) refused untouched =
        refused_by _ _ refl (sym (refused (λ is. absurd (cc)) (λ is. absurd (cc)))) (untouched (λ is. absurd (cc)))
