-- A device as a leg: what it stands for behind a request that is run whole, and what is left meanwhile.
use Rattle.std.proofs.Common.{◌≡◌, ℕ, suc, Bool, List, Option, take, sym, ◌∙◌, ap, subst, length}
use Rattle.disk_model.specs.Disk.{Content, Image}
use Rattle.disk_model.specs.Moments.{EachMoment}
use Rattle.disk_model.proofs.MomentsLemmas.{EachMoment-weaker}
use Rattle.device_model.specs.History.{Change, History, Tagger, with_changes}
use Rattle.device_model.specs.Mode as Modes
use Rattle.device_model.specs.Device as Kinds
use Rattle.device_model.specs.Request.{Request}
use Rattle.device_model.specs.Submission.{Submission}
use Rattle.device_model.specs.Transcript.{BlockFormat}
use Rattle.place_model.specs.Format.{format_on, tagger_of}
use Rattle.place_model.specs.Kind.{MayBeLeftIn}
use Rattle.place_model.specs.Opened.{blocks_of}
use Rattle.mirror_model.specs.Mirror.{request_changes}
use Rattle.request_slots.specs.declared.reply.Reply.{Reply}
use Rattle.device_parts.specs.Device.{Standing}
use Rattle.device.specs.declared.mode.DeviceParts.{DeviceParts}
use Rattle.device.specs.Device.{kind_by, kind_of}
use Rattle.device.specs.Run.{standing_behind}
use Rattle.mirror_calls.specs.Leg.{IsLeftWithin, LegOn, write_of}
use Rattle.mirror_core.specs.Since.{IsSince}
use Rattle.mirror_core.specs.Stands.{MayBeLeftOf, StandsFor}
use Rattle.mirror_core.specs.Untold.{AreLike}
use Rattle.mirror_core.specs.Whole.{HasRunWhole, LeavesWhole, changes_on, request_on, whole_of}
use Rattle.mirror_core.proofs.SinceLemmas.{IsSince-left, IsSince-more}
use Rattle.mirror_core.proofs.StandsLemmas.{entry_blocks, flight}
use Rattle.mirror_core.proofs.UntoldLemmas.{AreLike-take, request_changes-like}

-- What may be left by its history may be left by what the mirror was told.
left_told : (entry_format : BlockFormat) (on : LegOn) (h told : History) (image : Image)
    → entry_format ≡ blocks_of (format_on on.key on.sectors on.entry) → IsSince entry_format.tag h told
    → MayBeLeftOf on h image → MayBeLeftOf on told image
left_told entry_format on h told image blocks since may =
    let d = format_on on.key on.sectors image in
    let tag : entry_format.tag ≡ tagger_of d = ap (λ (b : BlockFormat). b.tag) (blocks ∙ sym may.blocks) in
    record {
      blocks = may.blocks;
      left_is = record {
        opens = may.left_is.opens;
        left = IsSince-left (tagger_of d) h told (subst (λ (t : Tagger). IsSince t h told) tag since) d.geometry.blocks _ may.left_is.left;
      };
    }

-- Behind alike changes, on the image of the leg.
module _ (parts : DeviceParts) (a : List Content) (on : LegOn) (told : History) (stands : StandsFor parts a on told) where
  own_blocks : stands.w.format.blocks ≡ blocks_of (format_on on.key on.sectors on.entry)
  own_blocks =
      let w = stands.w in
      entry_blocks w parts a stands.rests
      ∙ ap (λ (key : Option (List ℕ)). blocks_of (format_on key w.on.sectors w.entry)) (sym stands.key)
      ∙ ap (λ (sectors : ℕ). blocks_of (format_on on.key sectors w.entry)) (sym stands.sectors)
      ∙ ap (λ (entry : Image). blocks_of (format_on on.key on.sectors entry)) (sym stands.entry)

  -- The blocks of a leg are those of the image that it was opened on.
  pub leg_blocks : on.format ≡ blocks_of (format_on on.key on.sectors on.entry)
  leg_blocks = stands.format ∙ own_blocks

  pub left_behind : (ours theirs : List Change) (image : Image) → AreLike ours theirs
      → (kind_of stands.w).MayBeLeft stands.w.entry (with_changes ours stands.w.state.history) image → MayBeLeftOf on (with_changes theirs told) image
  left_behind ours theirs image like may =
      let w = stands.w in
      let h = with_changes ours w.state.history in
      let named = subst (λ (m : Modes.Mode). (kind_by m w.on.key w.on.sectors).MayBeLeft w.entry h image) stands.rests.mode may in
      left_told w.format.blocks on h (with_changes theirs told) image own_blocks
      (IsSince-more w.format.blocks.tag w.state.history told stands.since ours theirs like)
      (subst (λ (entry : Image). MayBeLeftIn Modes.Journal on.key on.sectors entry h image) (sym stands.entry)
      (subst (λ (sectors : ℕ). MayBeLeftIn Modes.Journal on.key sectors w.entry h image) (sym stands.sectors)
      (subst (λ (key : Option (List ℕ)). MayBeLeftIn Modes.Journal key w.on.sectors w.entry h image) (sym stands.key) named)))

module _ (parts : DeviceParts) (a : List Content) (on : LegOn) (told : History) (stands : StandsFor parts a on told) (sub : Submission) (n : ℕ) where
  abbrev w : Standing
  w = stands.w

  abbrev pub request : Request
  request = request_on sub w

  like : AreLike (changes_on sub w) (request_changes n request)
  like = request_changes-like (suc (length w.state.progress.requests)) n request

  -- Behind a request it stands for what the mirror is told of it.
  pub stands_more : (reply : Reply) (new : DeviceParts) (b : List Content) → HasRunWhole w sub reply new b
      → StandsFor new b on (with_changes (request_changes n request) told)
  stands_more reply new b run =
      let later = standing_behind w (whole_of sub w) in
      let now = flight later new b run.rests in
      record {
        w = later;
        rests = run.rests;
        format = stands.format;
        key = stands.key;
        sectors = stands.sectors;
        entry = stands.entry;
        since = subst (λ (h : History). IsSince w.format.blocks.tag h (with_changes (request_changes n request) told)) (sym run.history)
            (IsSince-more w.format.blocks.tag w.state.history told stands.since (changes_on sub w) (request_changes n request) like);
        blocks = ap (λ (b : BlockFormat). b.blocks) stands.format ∙ sym now.blocks;
        size = ap (λ (b : BlockFormat). b.block_size) stands.format ∙ sym now.block_size;
      }

  -- At each moment of it some of its first changes are made.
  pub stands_leaves : (b : List Content) → LeavesWhole w sub a b
      → EachMoment a b (IsLeftWithin (MayBeLeftOf on) told (request_changes n request))
  stands_leaves b leaves =
      EachMoment-weaker (λ (c : Content) (is : Kinds.IsLeftWithin (kind_of w) w.entry w.state.history (changes_on sub w) c). record {
        made = is.made;
        left = λ image of.
            left_behind parts a on told stands (take is.made (changes_on sub w)) (take is.made (request_changes n request)) image
            (AreLike-take is.made (changes_on sub w) (request_changes n request) like) (is.left image of);
      }) leaves

-- A write, with blocks as long as those of the leg.
module _ (parts : DeviceParts) (a : List Content) (on : LegOn) (told : History) (stands : StandsFor parts a on told) (n first count : ℕ) (bytes : List ℕ) (fua : Bool) where
  abbrev sub : Submission
  sub = Submission.Write first count bytes fua

  abbrev its_size : ℕ
  its_size = parts.common.slots.block_size

  size_is : stands.w.format.blocks.block_size ≡ its_size
  size_is = ap (λ (b : BlockFormat). b.block_size) (sym stands.format) ∙ stands.size

  pub write_more : (reply : Reply) (new : DeviceParts) (b : List Content) → HasRunWhole stands.w sub reply new b
      → StandsFor new b on (with_changes (request_changes n (write_of its_size first count bytes fua)) told)
  write_more reply new b run =
      subst (λ (size : ℕ). StandsFor new b on (with_changes (request_changes n (write_of size first count bytes fua)) told)) size_is
      (stands_more parts a on told stands sub n reply new b run)

  pub write_leaves : (b : List Content) → LeavesWhole stands.w sub a b
      → EachMoment a b (IsLeftWithin (MayBeLeftOf on) told (request_changes n (write_of its_size first count bytes fua)))
  write_leaves b leaves =
      subst (λ (size : ℕ). EachMoment a b (IsLeftWithin (MayBeLeftOf on) told (request_changes n (write_of size first count bytes fua)))) size_is
      (stands_leaves parts a on told stands sub n b leaves)
